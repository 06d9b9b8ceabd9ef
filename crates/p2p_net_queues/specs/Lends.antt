-- What a table ends as, where it lends a value.
use Rattle.std.specs.Prelude.{◌≡◌, ℕ, List, Option, OnSome}
use Rattle.std.specs.Borrow.{LendsSo, Fml, RattleType, MutBor}
use Rattle.std.specs.Map.{set_value}
use Rattle.std.specs.BTreeMap.{is_at}
use Rattle.std.specs.Ordering.{nat_cmp}
use Rattle.p2p_net_queues.specs.contracts.table.Table as table

-- once the borrow ends, the key has the value that was left behind it, and without one nothing has changed
abbrev pub lends_at : (V : RattleType) → MutBor (List (ℕ × V.Denot)) → ℕ → Option (MutBor V.Denot) → Fml
lends_at V m key r = LendsSo (table.the_row V) V m r (λ n w. OnSome r (n ≡ set_value (is_at (nat_cmp key)) m.now w)) (λ n. n ≡ m.now)

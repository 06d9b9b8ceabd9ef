-- A tracker that keeps exactly the connections that its calls keep.
use Rattle.std.specs.Prelude.{◌≡◌, ℕ, true, false, List}
use Rattle.std.specs.Map.{lookup}
use Rattle.std.specs.BTreeMap.{is_at}
use Rattle.std.specs.declared.cmp.Ordering.{Ordering}
use Rattle.p2p_tracker_calls.specs.declared.call.Call.{Call}
use Rattle.p2p_tracker_calls.specs.Grants.{is_held}
use Rattle.p2p_tracker_calls.specs.Blocks.{is_local}
use Rattle.p2p_tracker_calls.specs.Keeping.{kept_of, is_kept}
use Rattle.p2p_tracker_directory.specs.Stands.{Kept, StandsFor}

-- the directory stands for the calls, the connections that are kept are those that the calls keep, and each of their keys is held and
-- another's
pub record Follows {P : Type 0} (cmp : P → P → Ordering) (kept : Kept P) (controls : List (P × ℕ)) (calls : List (Call P)) : Type 0 where
  pub stands : StandsFor cmp kept calls
  pub exactly : (q : P) → lookup (is_at (cmp q)) controls ≡ kept_of cmp kept.rules calls q
  pub held : (q : P) → is_kept cmp kept.rules calls q ≡ true → is_held cmp calls q ≡ true
  pub others : (q : P) → is_kept cmp kept.rules calls q ≡ true → is_local cmp kept.rules q ≡ false

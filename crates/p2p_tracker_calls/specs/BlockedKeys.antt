-- The keys that are blocked, and those whose block is due.
use Rattle.std.specs.Prelude.{ℕ, List}
use Rattle.std.specs.declared.cmp.Ordering.{Ordering}
use Rattle.p2p_tracker_calls.specs.declared.call.Call.{Call}
use Rattle.p2p_tracker_calls.specs.Rules.{Rules}
use Rattle.p2p_tracker_calls.specs.Blocks.{is_over, block_of, is_blocked}
use Rattle.p2p_tracker_calls.specs.Named.{keys_where}

module _ {P : Type 0} (cmp : P → P → Ordering) (rules : Rules P) where
  -- the keys that are blocked at a moment, in their order, whether or not they are in a set
  abbrev pub blocked_keys : List (Call P) → ℕ → List P
  blocked_keys calls t = keys_where cmp (λ q. is_blocked cmp rules calls q t) calls

  -- the keys whose block has ended at a moment and wasn't taken away yet, in their order
  abbrev pub due_keys : List (Call P) → ℕ → List P
  due_keys calls t = keys_where cmp (λ q. is_over (block_of cmp rules calls q) t) calls

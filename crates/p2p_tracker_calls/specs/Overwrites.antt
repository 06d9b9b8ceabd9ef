-- What one overwrite does: a call for each key, in their order.
use Rattle.std.specs.Prelude.{cond, List, [], ◌∷◌}
use Rattle.std.specs.declared.cmp.Ordering.{Ordering}
use Rattle.p2p_address.specs.declared.peer.Address.{Address}
use Rattle.p2p_tracker_calls.specs.declared.call.Call.{Call}
use Rattle.p2p_tracker_calls.specs.declared.call.Call.TheVariants as call
use Rattle.p2p_tracker_calls.specs.Rules.{Rules}
use Rattle.p2p_tracker_calls.specs.Lives.{is_overwritten}

-- the calls once each key got its address
unfoldable pub overwritten : {P : Type 0} → List (P × Address) → List (Call P) → List (Call P)
overwritten [] calls = calls
overwritten (e ∷ es) calls = overwritten es (call.Overwrite e.0 e.1 ∷ calls)

module _ {P : Type 0} (cmp : P → P → Ordering) (rules : Rules P) where
  -- the keys whose address that changes; each is judged by the calls before its own
  abbrev pub overwritten_keys : List (P × Address) → List (Call P) → List P
  overwritten_keys [] calls = []
  overwritten_keys (e ∷ es) calls = cond (is_overwritten cmp rules calls e.0 e.1) (e.0 ∷ overwritten_keys es (call.Overwrite e.0 e.1 ∷ calls)) (overwritten_keys es (call.Overwrite e.0 e.1 ∷ calls))

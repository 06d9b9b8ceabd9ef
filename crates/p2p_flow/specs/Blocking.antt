-- What those who ask which keys are blocked see, and what their calls answer and leave.
use Rattle.std.specs.Prelude.{ℕ, Bool, List, [], ◌∷◌, ◌++◌, Option, None, slice_index_or, slice_set, Result}
use Rattle.p2p_flow.specs.Subscribed.{next_item}
use Rattle.p2p_flow.specs.declared.ended.Ended.{Ended}
use Rattle.p2p_flow.specs.declared.plain.Polled.{Polled}

-- whether the tracker has ended; and for each subscription, at its number, the newest set of blocked keys, if it wasn't taken
pub record Blocking (P : Type 0) : Type 0 where
  pub has_ended : Bool
  pub sets : List (Option (List P))

module _ {P : Type 0} where
  -- the set that waits for the subscription of a number
  abbrev pub blocked_at : Blocking P → ℕ → Option (List P)
  blocked_at b n = slice_index_or b.sets n None

  -- after one more subscription
  abbrev pub with_subscriber : Blocking P → Blocking P
  with_subscriber b = record b { sets = b.sets ++ None ∷ [] }

  -- what asking a subscription for its set gives
  abbrev pub set_at : Blocking P → ℕ → Result (Polled (List P)) Ended
  set_at b n = next_item b.has_ended (blocked_at b n)

  -- after that
  abbrev pub without_set : Blocking P → ℕ → Blocking P
  without_set b n = record b { sets = slice_set b.sets n None }

-- What asking a subscription for its next item gives.
use Rattle.std.specs.Prelude.{Bool, true, false, Option, Some, None, Result, Ok, Err}
use Rattle.p2p_flow.specs.declared.ended.Ended.{Ended}
use Rattle.p2p_flow.specs.declared.plain.Polled.{Polled}
use Rattle.p2p_flow.specs.declared.plain.Polled.TheVariants as polled

module _ {T : Type 0} where
  -- the item that waits; where none waits, that none is there yet, or that the subscription has ended
  abbrev pub next_item : Bool → Option T → Result (Polled T) Ended
  next_item has_ended (Some item) = Ok (polled.Ready item)
  next_item true None = Err (record {})
  next_item false None = Ok polled.Pending

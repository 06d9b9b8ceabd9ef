-- What a receiver of a channel gives.
use Rattle.std.specs.Prelude.{ℕ, Bool, true, false, List, Option, Some, None, Result, Ok, Err}
use Rattle.p2p_flow.specs.declared.plain.Polled.{Polled}
use Rattle.p2p_flow.specs.declared.plain.Polled.TheVariants as polled
use Rattle.p2p_flow_connection.specs.Arriving.{Arrived, arrival_waiting}
use Rattle.p2p_flow_senders.specs.declared.channels.error.Error.{Error}
use Rattle.p2p_flow_senders.specs.declared.channels.error.Error.TheVariants as error

-- a receiver: its channel, and how many messages wait there at most
pub record Reader : Type 0 where
  pub channel : ℕ
  pub capacity : ℕ

module _ {P : Type 0} where
  -- the message that waits; where none waits, that the node ended, or that none is there yet
  abbrev pub received_of : Bool → Option (P × List ℕ) → Result (Polled (P × List ℕ)) Error
  received_of has_ended (Some message) = Ok (polled.Ready message)
  received_of true None = Err error.NetworkClosed
  received_of false None = Ok polled.Pending

  abbrev pub received_by : ℕ → Arrived P → Result (Polled (P × List ℕ)) Error
  received_by channel a = received_of a.ended (arrival_waiting a channel)

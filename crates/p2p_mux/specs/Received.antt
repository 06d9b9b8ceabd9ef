-- What the receivers of subchannels and of the backup give.
use Rattle.std.specs.Prelude.{ℕ, Bool, true, false, not, List, Option, Some, None, Result, Ok, Err}
use Rattle.p2p_base.specs.Queue.{Queue, oldest, without_oldest}
use Rattle.p2p_flow.specs.declared.plain.Polled.{Polled}
use Rattle.p2p_flow.specs.declared.plain.Polled.TheVariants as polled
use Rattle.p2p_mux.specs.Muxed.{Muxed, has_route, waiting_on}
use Rattle.p2p_mux.specs.declared.error.Error.{Error}
use Rattle.p2p_mux.specs.declared.error.Error.TheVariants as error

-- a receiver's name: its subchannel, and how many messages wait there at most
pub record Reader : Type 0 where
  pub subchannel : ℕ
  pub capacity : ℕ

-- the item that waits; where none waits, that more may come, or the error
abbrev pub next_or : {X : Type 0} → Bool → Error → Option X → Result (Polled X) Error
next_or may_come e (Some x) = Ok (polled.Ready x)
next_or true e None = Ok polled.Pending
next_or false e None = Err e

module _ {P : Type 0} where
  -- what a subchannel's receiver gives: `RecvFailed` where no route stands and nothing waits
  abbrev pub received_on : ℕ → Muxed P → Result (Polled (P × List ℕ)) Error
  received_on s q = next_or (has_route q s) error.RecvFailed (waiting_on q s)

  abbrev pub oldest_in : Option (Queue (ℕ × (P × List ℕ))) → Option (ℕ × (P × List ℕ))
  oldest_in None = None
  oldest_in (Some b) = oldest b

  abbrev pub without_oldest_in : Option (Queue (ℕ × (P × List ℕ))) → Option (Queue (ℕ × (P × List ℕ)))
  without_oldest_in None = None
  without_oldest_in (Some b) = Some (without_oldest b)

  -- what the backup's receiver gives: `Closed` where the muxer has ended and nothing waits
  abbrev pub backed_up : Muxed P → Result (Polled (ℕ × (P × List ℕ))) Error
  backed_up q = next_or (not q.ended) error.Closed (oldest_in q.backup)

  -- after the oldest message of the backup was taken
  abbrev pub without_backed_up : Muxed P → Muxed P
  without_backed_up q = record {
    control = q.control;
    requests = q.requests;
    routes = q.routes;
    backup = without_oldest_in q.backup;
    ended = q.ended;
  }

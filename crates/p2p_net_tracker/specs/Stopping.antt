-- What is left of a tracker among the items of its node while that stops.
use Rattle.std.specs.Prelude.{◌≡◌, ℕ, true, List, map, filter}
use Rattle.p2p_log.specs.declared.item.Envelope.{Envelope}
use Rattle.p2p_log.specs.declared.queue.Queue.{Queue}
use Rattle.p2p_log.specs.declared.queue.Queue.TheVariants as queue
use Rattle.p2p_log.specs.Lines.{name_of, stands_in}
use Rattle.p2p_net_queues.specs.Board.{held}
use Rattle.p2p_net_tracker.specs.Stands.{is_told}
use Rattle.p2p_net_tracker.specs.declared.tracker.Tracker.{Tracker}

-- the messages of the tracker and what it told are what stands there
pub record TrackerLeft (n : ℕ) (t : Tracker) (items : List Envelope) : Type 0 where
  pub names : t.names ≡ map name_of (filter (stands_in (queue.Tracker n)) items)
  pub told : (q : Queue) → is_told n q ≡ true → held t.told q ≡ filter (stands_in q) items

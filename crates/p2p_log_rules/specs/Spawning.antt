-- The connections that a node's spawner made, by the log, and the row of its step.
use Rattle.std.specs.Prelude.{ℕ, cond, List, ◌∷◌, Option, Some, None}
use Rattle.p2p_log.specs.declared.queue.Queue.TheVariants as queue
use Rattle.p2p_log.specs.declared.item.Item.{Item}
use Rattle.p2p_log.specs.declared.item.Item.TheVariants as item
use Rattle.p2p_log.specs.declared.entry.Entry.{Entry}
use Rattle.p2p_log.specs.declared.entry.Reply.TheVariants as reply
use Rattle.p2p_log.specs.Lines.{line}
use Rattle.p2p_log_rules.specs.declared.row.Row.{Row}
use Rattle.p2p_log_rules.specs.Facts.{is_up}
pub use Rattle.p2p_log_rules.specs.Halves.{Spawned}
use Rattle.p2p_log_rules.specs.Halves.{connection_in}
use Rattle.p2p_log_rules.specs.Told.{told}
use Rattle.p2p_log_rules.specs.Rows.{only, takes_oldest}

-- the connection that is made once these were taken
abbrev pub spawned_of : List Item → Option Spawned
spawned_of (item.Spawn key link ∷ items) = Some (record { key = key; link = link })
spawned_of _ = None

-- the connections that a node's spawner made, by the events that made them, those that have ended too
unfoldable pub connections_of : List Entry → ℕ → ℕ → Option Spawned
connections_of log n k = connection_in (told log) n k

-- the spawner's step: the oldest message of its mailbox makes a connection of this event's name
abbrev pub spawner_row : List Entry → ℕ → Row
spawner_row log n = cond (is_up log n) (takes_oldest (line log (queue.Spawner n))) (only reply.Gone)

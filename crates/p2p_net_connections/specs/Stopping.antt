-- What is left of the connections of a node and of its spawner's mailbox while the node stops, as values and by what stands in queues.
use Rattle.std.specs.Prelude.{◌≡◌, ℕ, List, map, filter, Option, Some, None}
use Rattle.p2p_base.specs.declared.key.Key.{Key}
use Rattle.p2p_tracker_directory.specs.declared.metadata.Metadata.{Metadata}
use Rattle.p2p_tracker_directory.specs.declared.metadata.Metadata.TheVariants as metadata
use Rattle.p2p_lookup.specs.declared.spawner.message.Message.{Message}
use Rattle.p2p_lookup.specs.declared.spawner.message.Message.TheVariants as asked
use Rattle.p2p_log.specs.declared.queue.Queue.TheVariants as queue
use Rattle.p2p_log.specs.declared.queue.Side.{Side}
use Rattle.p2p_log.specs.declared.queue.Side.TheVariants as side
use Rattle.p2p_log.specs.declared.item.Envelope.{Envelope}
use Rattle.p2p_log.specs.declared.entry.Entry.{Entry}
use Rattle.p2p_log.specs.Lines.{name_of, stands_in}
use Rattle.p2p_log_rules.specs.Dropping.{LinkEnd}
use Rattle.p2p_net_queues.specs.Matching.{Match}
use Rattle.p2p_net_queues.specs.Tables.{waiting}
use Rattle.p2p_net_connections.specs.SpawnerStands.{IsSpawn}
use Rattle.p2p_net_connections.specs.declared.connections.Connections.{Connections}
use Rattle.p2p_net_connections.specs.declared.spawner.Spawning.{Spawning}
use Rattle.p2p_net_connections.specs.declared.spawner.Taken.{Taken}

-- the name of a message that was taken, and its link
abbrev pub message_by : Option Taken → Option ((ℕ × ℕ) × ℕ)
message_by None = None
message_by (Some t) = Some (t.name, t.link)

-- the answers and what waits for the quotas of the node's connections are those of these that stand in their queues
pub record ConnectionsLeft (n : ℕ) (cs : Connections) (items : List Envelope) : Type 0 where
  pub answers : (conn : ℕ) → waiting cs.answers conn ≡ filter (stands_in (queue.RouterAnswer n conn)) items
  pub held : (conn : ℕ) → waiting cs.held conn ≡ filter (stands_in (queue.Held n conn)) items

-- the messages of the spawner have the names of those of these that stand in its queue
pub record SpawnerLeft (n : ℕ) (s : Spawning) (items : List Envelope) : Type 0 where
  pub names : s.names ≡ map name_of (filter (stands_in (queue.Spawner n)) items)

-- the spawner has just the messages of these, in order
pub record SpawnsLeft (log : List Entry) (n : ℕ) (xs : List Envelope) (s : Spawning) : Type 0 where
  pub names : s.names ≡ map name_of xs
  pub messages : Match (λ x m. IsSpawn log n x.item m) xs s.mailbox.items

-- the side of a link of which a reservation is
abbrev pub reserved_side : Metadata Key → Side
reserved_side (metadata.Dialer key) = side.Out
reserved_side (metadata.Listener key) = side.In

-- the end of the link of the connection that a message asks for
abbrev pub asked_end : Message Key → LinkEnd
asked_end (asked.Spawn peer link reserved) = (link, reserved_side reserved)

-- When the spawner's mailbox of a node stands for a log.
use Rattle.std.specs.Prelude.{◌≡◌, ℕ, false, map, List}
use Rattle.p2p_base.specs.declared.key.Key.{Key}
use Rattle.p2p_tracker_directory.specs.Reserved.{peer_of}
use Rattle.p2p_tracker_directory.specs.declared.metadata.Metadata.{Metadata}
use Rattle.p2p_lookup.specs.Spawning.{spawn_of}
use Rattle.p2p_lookup.specs.declared.spawner.message.Message.{Message}
use Rattle.p2p_log.specs.declared.config.Config.{Config}
use Rattle.p2p_log.specs.declared.queue.Queue.TheVariants as queue
use Rattle.p2p_log.specs.declared.item.Item.{Item}
use Rattle.p2p_log.specs.declared.item.Item.TheVariants as item
use Rattle.p2p_log.specs.declared.entry.Entry.{Entry}
use Rattle.p2p_log.specs.Lines.{name_of, line}
use Rattle.p2p_log_rules.specs.Rows.{mailbox_size_at}
use Rattle.p2p_net_queues.specs.Matching.{Match}
use Rattle.p2p_net_connections.specs.Dialing.{IsReservedOver}
use Rattle.p2p_net_connections.specs.declared.spawner.Spawning.{Spawning}

-- the item asks for the connection of a node that the message asks for, by a reservation of its side
abbrev pub IsSpawn : List Entry → ℕ → Item → Message Key → Type 0
IsSpawn log n (item.Spawn key link) m = (reserved : Metadata Key) × (peer_of reserved ≡ key) × (m ≡ spawn_of link reserved) × IsReservedOver log n link reserved
IsSpawn log n _ m = ⊥

pub record SpawnerStands (configs : List Config) (log : List Entry) (n : ℕ) (s : Spawning) : Type 0 where
  pub names : s.names ≡ map name_of (line log (queue.Spawner n))
  pub messages : Match (λ x m. IsSpawn log n x.item m) (line log (queue.Spawner n)) s.mailbox.items
  pub is_open : s.mailbox.closed ≡ false
  pub size : s.mailbox.capacity ≡ mailbox_size_at configs n

-- The spawner's mailbox of a node as values: what it is at first, and what asking for a connection comes to.
use Rattle.std.specs.Prelude.{ℕ, Bool, true, false, not, ◌||◌, [], ◌∷◌, ◌++◌, drop, Option, Some, None}
use Rattle.p2p_base.specs.Queue.{empty_queue, has_room, with_items, without_oldest}
use Rattle.p2p_base.specs.declared.key.Key.{Key}
use Rattle.p2p_tracker_directory.specs.Reserved.{peer_of}
use Rattle.p2p_tracker_directory.specs.declared.metadata.Metadata.{Metadata}
use Rattle.p2p_tracker_mailbox.specs.Mailboxes.{with_message_in}
use Rattle.p2p_tracker_mailbox.specs.declared.mailbox.Mailbox.{Mailbox}
use Rattle.p2p_tracker_mailbox.specs.declared.message.Message.TheVariants as message
use Rattle.p2p_lookup.specs.Spawning.{spawn_of}
use Rattle.p2p_log.specs.declared.queue.Queue.TheVariants as queue
use Rattle.p2p_log.specs.declared.item.Item.TheVariants as item
use Rattle.p2p_log_rules.specs.declared.row.Row.{Row}
use Rattle.p2p_lookup.specs.declared.spawner.message.Message.{Message}
use Rattle.p2p_lookup.specs.declared.spawner.message.Message.TheVariants as asked
use Rattle.p2p_net_connections.specs.declared.spawner.Spawning.{Spawning}
use Rattle.p2p_net_connections.specs.declared.spawner.Taken.{Taken}

abbrev pub no_spawning : ℕ → Spawning
no_spawning size = record { mailbox = empty_queue size; names = [] }

-- whether no more may wait
abbrev pub refuses : Spawning → Bool
refuses s = s.mailbox.closed || not (has_room s.mailbox)

-- ---- what comes of asking for a connection, by whether it is refused

-- the row, in which the spawner of this node is told
abbrev pub told_row : Bool → ℕ → ℕ → Metadata Key → Row → Row
told_row true n link m r = r
told_row false n link m r = record r { puts = r.puts ++ (queue.Spawner n, item.Spawn (peer_of m) link) ∷ [] }

-- the mailbox, in which the message has the name of the first put of the entry k
abbrev pub spawned : Bool → ℕ → ℕ → Metadata Key → Spawning → Spawning
spawned true k link m s = s
spawned false k link m s = record {
  mailbox = with_items s.mailbox (s.mailbox.items ++ spawn_of link m ∷ []);
  names = s.names ++ (k, 0) ∷ [];
}

-- the tracker's mailbox: a refused reservation is given back there
abbrev pub given_back : Bool → Metadata Key → Mailbox Key → Mailbox Key
given_back true m way = with_message_in way (message.Release m)
given_back false m way = way

-- whose reservation was given back
abbrev pub released : Bool → Metadata Key → Option Key
released true m = Some (peer_of m)
released false m = None

-- ---- what is taken

-- the message of this name
abbrev pub taken_by : Option (ℕ × ℕ) → Option (Message Key) → Option Taken
taken_by (Some name) (Some (asked.Spawn peer link m)) = Some (record { name = name; link = link; reservation = m })
taken_by _ _ = None

abbrev pub without_first : Spawning → Spawning
without_first s = record { mailbox = without_oldest s.mailbox; names = drop 1 s.names }

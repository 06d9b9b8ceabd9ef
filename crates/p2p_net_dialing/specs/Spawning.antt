-- What becomes of a reservation by which a connection is to be made.
use Rattle.std.specs.Prelude.{◌≡◌, ℕ, ◌++◌, Option, Some, None}
use Rattle.p2p_base.specs.declared.key.Key.{Key}
use Rattle.p2p_log.specs.declared.item.Item.{Item}
use Rattle.p2p_log.specs.declared.item.Item.TheVariants as item
use Rattle.p2p_log_rules.specs.declared.row.Row.{Row}
use Rattle.p2p_tracker_directory.specs.declared.metadata.Metadata.{Metadata}
use Rattle.p2p_net_tracker.specs.Dialed.{asked_puts, names_asked}
use Rattle.p2p_net_connections.specs.Spawner.{refuses, told_row, spawned, given_back, released}
use Rattle.p2p_net_node.specs.declared.node.Node.{Node}

-- what gives the reservation of a key back
abbrev pub release_item : Option Key → Option Item
release_item None = None
release_item (Some key) = Some (item.Release key)

-- the entry k asks the spawner of the node n for a connection over this link, or gives the reservation back to its tracker
pub record Spawns (k n link : ℕ) (m : Metadata Key) (old new : Node) (row after : Row) : Type 0 where
  pub row_is : after ≡ record (told_row (refuses old.spawning) n link m row) {
    puts = (told_row (refuses old.spawning) n link m row).puts ++ asked_puts n (release_item (released (refuses old.spawning) m));
  }
  pub spawner : new.spawning ≡ spawned (refuses old.spawning) k link m old.spawning
  pub mailbox : new.tracker.mailbox ≡ given_back (refuses old.spawning) m old.tracker.mailbox
  pub tracker : new.tracker ≡ record old.tracker {
    mailbox = new.tracker.mailbox;
    names = old.tracker.names ++ names_asked k (release_item (released (refuses old.spawning) m));
  }
  pub rest : new ≡ record old { tracker = new.tracker; spawning = new.spawning }

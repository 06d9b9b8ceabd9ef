-- What a tracker is told of a connection of its node that ends, and what goes with it, as values.
use Rattle.std.specs.Prelude.{ℕ, List, [], ◌∷◌, ◌++◌}
use Rattle.std.specs.BTreeMap.{insert_entry}
use Rattle.std.specs.Ordering.{nat_cmp}
use Rattle.p2p_base.specs.declared.key.Key.{Key}
use Rattle.p2p_tracker_directory.specs.declared.metadata.Metadata.{Metadata}
use Rattle.p2p_tracker_mailbox.specs.Mailboxes.{with_message_in}
use Rattle.p2p_tracker_mailbox.specs.declared.message.Message.TheVariants as message
use Rattle.p2p_log.specs.declared.end.Cause.TheVariants as cause
use Rattle.p2p_log.specs.declared.item.Envelope.{Envelope}
use Rattle.p2p_log.specs.declared.item.Item.TheVariants as item
use Rattle.p2p_log.specs.declared.queue.Queue.TheVariants as queue
use Rattle.p2p_log.specs.Drained.{all_end}
use Rattle.p2p_log_rules.specs.declared.row.Row.{Row}
use Rattle.p2p_net_tracker.specs.declared.tracker.Tracker.{Tracker}

-- a row in which these end with their connection
abbrev pub dropped_row : List Envelope → Row → Row
dropped_row xs r = record r { ends = r.ends ++ all_end cause.ConnectionEnded xs }

-- what is kept of the connections that have ended, with one more
abbrev pub noted_with : ℕ → List (ℕ × Unit {0}) → List (ℕ × Unit {0})
noted_with conn ended = insert_entry nat_cmp ended conn tt

-- once the entry k gave its reservation back, at this place of its row
abbrev pub released_by : ℕ → ℕ → ℕ → Metadata Key → Tracker → Tracker
released_by k place conn reserved t = record t {
  mailbox = with_message_in t.mailbox (message.Release reserved);
  names = t.names ++ (k, place) ∷ [];
  ended = noted_with conn t.ended;
}

-- a row that gives back that of a peer
abbrev pub releasing_row : ℕ → Key → Row → Row
releasing_row n peer r = record r { puts = r.puts ++ (queue.Tracker n, item.Release peer) ∷ [] }

-- and as what waits in the mailbox, where the entry k put it at this place
abbrev pub told_release : ℕ → Key → ℕ → ℕ → Envelope
told_release n peer k place = record { entry = k; place = place; queue = queue.Tracker n; item = item.Release peer }

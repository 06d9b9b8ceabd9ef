-- What the tracker's mailbox and a row are once it was told that a connection has begun.
use Rattle.std.specs.Prelude.{ℕ, [], ◌∷◌, ◌++◌}
use Rattle.p2p_base.specs.declared.key.Key.{Key}
use Rattle.p2p_log.specs.declared.queue.Queue.TheVariants as queue
use Rattle.p2p_log.specs.declared.item.Item.TheVariants as item
use Rattle.p2p_log_rules.specs.declared.row.Row.{Row}
use Rattle.p2p_tracker_mailbox.specs.Desk.{with_message}
use Rattle.p2p_tracker_mailbox.specs.Mailboxes.{with_desk}
use Rattle.p2p_tracker_mailbox.specs.declared.message.Message.TheVariants as message
use Rattle.p2p_net_tracker.specs.declared.tracker.Tracker.{Tracker}

-- the entry k told of it
abbrev pub connected_by : ℕ → ℕ → Key → Tracker → Tracker
connected_by k conn peer t = record t { mailbox = with_desk t.mailbox (with_message t.mailbox.desk (message.Connect peer conn)); names = t.names ++ (k, 0) ∷ [] }

abbrev pub connecting_row : ℕ → ℕ → Key → Row → Row
connecting_row n conn peer r = record r { puts = r.puts ++ (queue.Tracker n, item.Connect conn peer) ∷ [] }

-- What a tracker is once it was asked, as values.
use Rattle.std.specs.Prelude.{ℕ, cond, nat_lt, List, [], ◌∷◌, ◌++◌, length}
use Rattle.std.specs.Map.{keys_of}
use Rattle.std.specs.BTreeMap.{insert_entry}
use Rattle.std.specs.Ordering.{nat_cmp}
use Rattle.p2p_base.specs.declared.key.Key.{Key}
use Rattle.p2p_base.specs.declared.outcome.Feedback.{Feedback}
use Rattle.p2p_base.specs.declared.outcome.Feedback.TheVariants as feedback
use Rattle.p2p_flow.specs.SetSize.{set_size}
use Rattle.p2p_flow.specs.declared.addressable.AddressableTrackedPeers.{AddressableTrackedPeers}
use Rattle.p2p_tracker_mailbox.specs.Desk.{Desk, told_of, with_message, asked, subscribed, blocked_subscribed}
use Rattle.p2p_tracker_mailbox.specs.Mailboxes.{with_desk}
use Rattle.p2p_tracker_mailbox.specs.declared.message.Message.{Message}
use Rattle.p2p_tracker_mailbox.specs.declared.message.Message.TheVariants as message
use Rattle.p2p_log.specs.declared.asked.Asked.{Asked}
use Rattle.p2p_log.specs.declared.asked.Asked.TheVariants as ask
use Rattle.p2p_log.specs.declared.queue.Queue.TheVariants as queue
use Rattle.p2p_log.specs.declared.item.Item.TheVariants as item
use Rattle.p2p_log.specs.declared.entry.Reply.TheVariants as reply
use Rattle.p2p_log_rules.specs.declared.row.Row.{Row}
use Rattle.p2p_log_rules.specs.Rows.{only}
use Rattle.p2p_log_rules.specs.Tracking.{key_cmp}
use Rattle.p2p_net_tracker.specs.declared.question.Question.TheVariants as question
use Rattle.p2p_net_tracker.specs.declared.tracker.Tracker.{Tracker}

-- the message of what is asked, with this ticket where it has one
abbrev pub message_of : Asked → ℕ → Message Key
message_of (ask.Track index peers) ticket = message.Register index peers
message_of (ask.Overwrite peers) ticket = message.Overwrite peers
message_of (ask.Block key) ticket = message.Block key
message_of (ask.PeerSet index) ticket = message.PeerSet index ticket
message_of ask.Subscribe ticket = message.Subscribe ticket
message_of ask.Blocked ticket = message.SubscribeBlocked ticket

-- the row of a question of the entry k at the node n, of which its mailbox tells this: one that has closed takes none
abbrev pub asking_row : Feedback → ℕ → ℕ → Row
asking_row feedback.Closed n k = only (reply.Feedback feedback.Closed)
asking_row told n k = record { reply = reply.Feedback told; takes = []; puts = (queue.Tracker n, item.Call k) ∷ []; ends = [] }

-- the name of its message, where it was taken
abbrev pub names_told : Feedback → ℕ → List (ℕ × ℕ)
names_told feedback.Closed k = []
names_told told k = (k, 0) ∷ []

-- a tracker that was asked by the entry k, and has this desk then
abbrev pub asks_for : Tracker → ℕ → Desk Key → Tracker
asks_for t k desk = record t { mailbox = with_desk t.mailbox desk; names = t.names ++ names_told (told_of t.mailbox.desk) k }

-- the next ticket of its kind is that of the entry k, under this number
abbrev pub with_question : Tracker → ℕ → ℕ → Tracker
with_question t k number =
    record t { tickets = record t.tickets { questions = t.tickets.questions ++ k ∷ [] }; questions = insert_entry nat_cmp t.questions k (record { question = question.PeerSet; number = number }) }

abbrev pub with_updates : Tracker → ℕ → ℕ → Tracker
with_updates t k number =
    record t { tickets = record t.tickets { updates = t.tickets.updates ++ k ∷ [] }; questions = insert_entry nat_cmp t.questions k (record { question = question.Updates; number = number }) }

abbrev pub with_blocked : Tracker → ℕ → ℕ → Tracker
with_blocked t k number =
    record t { tickets = record t.tickets { blocked = t.tickets.blocked ++ k ∷ [] }; questions = insert_entry nat_cmp t.questions k (record { question = question.Blocked; number = number }) }

abbrev pub size_by : Tracker → AddressableTrackedPeers Key → ℕ
size_by t peers = set_size key_cmp t.oracle.local (keys_of peers.primary) (keys_of peers.secondary)

-- a set that is not too large is asked for
abbrev pub track_answer : Tracker → ℕ → ℕ → AddressableTrackedPeers Key → Row
track_answer t n k peers =
    cond (nat_lt t.oracle.max_peers_per_set (size_by t peers)) (only (reply.PeerSetTooLarge (size_by t peers) t.oracle.max_peers_per_set)) (asking_row (told_of t.mailbox.desk) n k)

abbrev pub tracked_by : Tracker → ℕ → ℕ → AddressableTrackedPeers Key → Tracker
tracked_by t k index peers =
    cond (nat_lt t.oracle.max_peers_per_set (size_by t peers)) t (asks_for t k (with_message t.mailbox.desk (message.Register index peers)))

-- the row of what is asked by the entry k at the node n
abbrev pub ask_answer : Tracker → ℕ → ℕ → Asked → Row
ask_answer t n k (ask.Track index peers) = track_answer t n k peers
ask_answer t n k _ = asking_row (told_of t.mailbox.desk) n k

-- and the tracker then
abbrev pub after_asking : Tracker → ℕ → Asked → Tracker
after_asking t k (ask.Track index peers) = tracked_by t k index peers
after_asking t k (ask.PeerSet index) = with_question (asks_for t k (asked t.mailbox.desk index)) k (length t.mailbox.desk.questions)
after_asking t k ask.Subscribe = with_updates (asks_for t k (subscribed t.mailbox.desk)) k (length t.mailbox.desk.updates)
after_asking t k ask.Blocked = with_blocked (asks_for t k (blocked_subscribed t.mailbox.desk)) k (length t.mailbox.desk.sets)
after_asking t k what = asks_for t k (with_message t.mailbox.desk (message_of what 0))

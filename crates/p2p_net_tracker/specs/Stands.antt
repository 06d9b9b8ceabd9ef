-- When a node's tracker stands for a log.
use Rattle.std.specs.Prelude.{◌≡◌, ℕ, ◌≤◌, Bool, true, false, ◌==◌, cond, is_some, Option, None, List, [], ◌∷◌, ◌++◌, map, flat_map, length, Some, slice_get}
use Rattle.std.specs.List.{IsDistinct}
use Rattle.std.specs.Map.{keys_of}
use Rattle.std.specs.Ordering.{nat_cmp, eq_by_cmp}
use Rattle.p2p_base.specs.declared.key.Key.{Key}
use Rattle.p2p_address.specs.declared.ip.IpAddr.{IpAddr}
use Rattle.p2p_tracker_calls.specs.Blocks.{is_local}
use Rattle.p2p_tracker_calls.specs.Grants.{is_held}
use Rattle.p2p_tracker_calls.specs.Lives.{is_connected}
use Rattle.p2p_tracker_directory.specs.Reserved.{peer_of}
use Rattle.p2p_tracker_directory.specs.declared.metadata.Metadata.{Metadata}
use Rattle.p2p_tracker_mailbox.specs.declared.answer.DialerAnswer.{DialerAnswer}
use Rattle.p2p_tracker_mailbox.specs.declared.answer.DialerAnswer.TheVariants as answer
use Rattle.p2p_tracker_mailbox.specs.declared.answer.HandshakeItem.{HandshakeItem}
use Rattle.p2p_tracker_mailbox.specs.declared.answer.HandshakeItem.TheVariants as shake
use Rattle.p2p_tracker_mailbox.specs.Lines.{Lines, line_of}
use Rattle.p2p_tracker_mailbox.specs.declared.message.Message.{Message}
use Rattle.p2p_tracker_mailbox.specs.declared.message.Message.TheVariants as message
use Rattle.p2p_tracker.specs.Following.{Follows}
use Rattle.p2p_log.specs.declared.config.Config.{Config}
use Rattle.p2p_log.specs.declared.queue.Queue.{Queue}
use Rattle.p2p_log.specs.declared.queue.Queue.TheVariants as queue
use Rattle.p2p_log.specs.declared.item.Item.{Item}
use Rattle.p2p_log.specs.declared.item.Item.TheVariants as item
use Rattle.p2p_log.specs.declared.item.Envelope.{Envelope}
use Rattle.p2p_log.specs.declared.entry.Entry.{Entry}
use Rattle.p2p_log.specs.declared.asked.Asked.{Asked}
use Rattle.p2p_log.specs.declared.asked.Asked.TheVariants as ask
use Rattle.p2p_log.specs.declared.event.Act.{Act}
use Rattle.p2p_log.specs.declared.event.Act.TheVariants as act
use Rattle.p2p_log.specs.Lines.{name_of, line}
use Rattle.p2p_log_rules.specs.Connections.{is_ended}
use Rattle.p2p_log_rules.specs.Facts.{key_at, is_stopped}
use Rattle.p2p_log_rules.specs.Handshakes.{is_handshaking, source_at}
use Rattle.p2p_log_rules.specs.Rows.{mailbox_size_at}
use Rattle.p2p_log_rules.specs.Tracking.{key_cmp, rules_at, asked_by, calls_of, update_subscriptions, blocked_subscriptions}
use Rattle.p2p_log_rules.specs.TrackerRows.{most_peers_at, was_answered}
use Rattle.p2p_net_queues.specs.Matching.{Match}
use Rattle.p2p_net_queues.specs.Board.{held}
use Rattle.p2p_net_queues.specs.Tables as table
use Rattle.p2p_net_tracker.specs.Asking.{message_of}
pub use Rattle.p2p_net_tracker.specs.AtDesk.{IsTicket, tickets_of}
use Rattle.p2p_net_tracker.specs.AtDesk.{asked_for, TicketsStand, DeskStands, Rises, blocked_asked}
use Rattle.p2p_net_tracker.specs.GivenBack.{IsGivenBack}
use Rattle.p2p_net_tracker.specs.Heeding.{is_noted}
use Rattle.p2p_net_tracker.specs.Naming.{dialed_grant, listened_grant}
use Rattle.p2p_net_tracker.specs.declared.question.Question.{Question}
use Rattle.p2p_net_tracker.specs.declared.question.Question.TheVariants as question
use Rattle.p2p_net_tracker.specs.declared.naming.Tickets.{Tickets}
use Rattle.p2p_net_tracker.specs.declared.tracker.Tracker.{Tracker}

-- whether a queue is one in which the tracker of the node tells something
abbrev pub is_told : ℕ → Queue → Bool
is_told n (queue.Addresses m) = m == n
is_told n (queue.Dialer m) = m == n
is_told n (queue.Control m e) = m == n
is_told n (queue.PeerSet m e) = m == n
is_told n (queue.PeerSetUpdates m e) = m == n
is_told n (queue.Blocked m e) = m == n
is_told n (queue.Handshake m e) = m == n
is_told n _ = false

-- what is answered later, of what is asked
abbrev pub kind_of : Asked → Option Question
kind_of (ask.PeerSet index) = Some question.PeerSet
kind_of ask.Subscribe = Some question.Updates
kind_of ask.Blocked = Some question.Blocked
kind_of _ = None

-- the ticket is that of the event, where what it asks is answered later
abbrev pub HasTicket : Tickets → Option Question → ℕ → ℕ → Type 0
HasTicket t None ticket e = Unit {0}
HasTicket t (Some k) ticket e = IsTicket (tickets_of t k) ticket e

-- the message is that of what the act of the event e asks
abbrev pub Says : Tickets → ℕ → Act → Message Key → Type 0
Says t e (act.Ask what n) m = (ticket : ℕ) × (m ≡ message_of what ticket) × HasTicket t (kind_of what) ticket e
Says t e _ m = ⊥

-- the item names the event that the message is of, or is what a dialer, a listener or a handshake asks, or says that a connection has begun, or
-- gives a reservation of its key back, of which side is told by the entry that put it
abbrev pub IsMessage : Tickets → List Entry → Item → Message Key → Type 0
IsMessage t log (item.Call e) m = (a : Act) × (asked_by log e ≡ Some a) × Says t e a m
IsMessage t log (item.Connect conn key) m = m ≡ message.Connect key conn
IsMessage t log item.AskDialable m = m ≡ message.Dialable
IsMessage t log (item.AskDial key) m = m ≡ message.Dial key
IsMessage t log (item.AskAcceptable name key) m = (source : IpAddr) × (source_at log name ≡ Some source) × (m ≡ message.Acceptable key source name)
IsMessage t log (item.AskListen name key) m = (source : IpAddr) × (source_at log name ≡ Some source) × (m ≡ message.Listen key source name)
IsMessage t log (item.Release key) m = (reserved : Metadata Key) × (peer_of reserved ≡ key) × (m ≡ message.Release reserved)
IsMessage t log _ m = ⊥

-- the item is what the dialer is answered: of a grant, the dialer's reservation
abbrev pub IsAnswer : Item → DialerAnswer Key → Type 0
IsAnswer (item.Dialable next peers) a = a ≡ answer.Dialable (record { peers = peers; next_query_at = next })
IsAnswer (item.Dial grant) a = a ≡ answer.Dial (dialed_grant grant)
IsAnswer _ a = ⊥

-- the addresses that the listener was told and did not take are all that its line holds
abbrev pub HeardStands : Option (List IpAddr) → List Envelope → Type 0
HeardStands None xs = xs ≡ []
HeardStands (Some ips) xs = (x : Envelope) × (xs ≡ x ∷ []) × (x.item ≡ item.Addresses ips)

-- the item is what a handshake is told: of a grant, the listener's reservation
abbrev pub IsToldHandshake : Item → HandshakeItem Key → Type 0
IsToldHandshake (item.Acceptable b) i = i ≡ shake.Acceptable b
IsToldHandshake (item.Finished b) i = i ≡ shake.Finished b
IsToldHandshake (item.Listen grant) i = i ≡ shake.Listen (listened_grant grant)
IsToldHandshake _ i = ⊥

-- what waits for a handshake is its line, and it waits for one that runs
abbrev pub HandshakeStands : Option (List (HandshakeItem Key)) → Bool → List Envelope → Type 0
HandshakeStands None b xs = (b ≡ false) × (xs ≡ [])
HandshakeStands (Some items) b xs = (b ≡ true) × Match (λ x i. IsToldHandshake x.item i) xs items

-- each handshake for which something may wait stands once, so that nothing is left of one that is taken out
abbrev pub AreDistinct : Lines (HandshakeItem Key) → Type 0
AreDistinct lines = IsDistinct (eq_by_cmp nat_cmp) (keys_of lines)

-- by the calls so far the key is held, and it is another's
abbrev pub IsHeldByPeer : List Config → List Entry → ℕ → Key → Type 0
IsHeldByPeer configs log n key = (is_held key_cmp (calls_of configs log n) key ≡ true) × (is_local key_cmp (rules_at configs n) key ≡ false)

-- a release that is the oldest of what waits is of a key that is held
abbrev pub ReleasesHeld : List Config → List Entry → ℕ → Type 0
ReleasesHeld configs log n = (key : Key) (x : Envelope) (rest : List Envelope) → line log (queue.Tracker n) ≡ x ∷ rest → x.item ≡ item.Release key → IsHeldByPeer configs log n key

-- by the calls so far the key is held, and no connection of it was accepted since it was granted
abbrev pub IsReservedByCalls : List Config → List Entry → ℕ → Key → Type 0
IsReservedByCalls configs log n key = (is_held key_cmp (calls_of configs log n) key ≡ true) × (is_connected key_cmp (rules_at configs n) (calls_of configs log n) key ≡ false)

-- a connection that begins, where that is the oldest of what waits, is of a key that is reserved
abbrev pub ConnectsReserved : List Config → List Entry → ℕ → Type 0
ConnectsReserved configs log n =
    (conn : ℕ) (key : Key) (x : Envelope) (rest : List Envelope) → line log (queue.Tracker n) ≡ x ∷ rest → x.item ≡ item.Connect conn key → IsReservedByCalls configs log n key

-- a handshake that asks for its peer runs while that is the oldest of what waits
abbrev pub AsksRun : List Entry → ℕ → Type 0
AsksRun log n = (name : ℕ) (key : Key) (x : Envelope) (rest : List Envelope) → line log (queue.Tracker n) ≡ x ∷ rest → x.item ≡ item.AskListen name key → is_handshaking log n name ≡ true

-- what an act asks of the tracker of a node that may be answered
abbrev pub asks_of : ℕ → Act → Option Question
asks_of n (act.Ask what m) = cond (m == n) (kind_of what) None
asks_of n _ = None

-- what the event of this number asked of it
abbrev pub asks_at : List Entry → ℕ → ℕ → Option Question
asks_at log n d = elim (slice_get log d) [ None ↦ None | Some e ↦ asks_of n e.event.act ]

-- no question of a later event was answered
abbrev pub AreFresh : List Entry → List (ℕ × Bool) → Type 0
AreFresh log answered = (d : ℕ) → length log ≤ d → (table.at answered d ≡ None) × (was_answered log d ≡ false)

pub record TrackerStands (configs : List Config) (log : List Entry) (n : ℕ) (t : Tracker) : Type 0 where
  -- the directory stands for the calls, and the connections that are kept are those that the calls keep
  pub follows : Follows key_cmp t.actor.directory t.actor.controls (calls_of configs log n)
  pub rules : t.actor.directory.rules ≡ rules_at configs n
  pub cooldown : t.actor.cooldown ≡ (rules_at configs n).cooldown
  pub works : t.actor.has_failed ≡ false
  pub local : t.oracle.local ≡ key_at configs n
  pub most : t.oracle.max_peers_per_set ≡ most_peers_at configs n
  -- the mailbox is the line, and it has closed where the node has stopped
  pub closed : t.mailbox.desk.messages.closed ≡ is_stopped log n
  pub size : t.mailbox.desk.messages.capacity ≡ mailbox_size_at configs n
  pub names : t.names ≡ map name_of (line log (queue.Tracker n))
  pub messages : Match (λ x m. IsMessage t.tickets log x.item m) (line log (queue.Tracker n)) t.mailbox.desk.messages.items
  pub given_back : Match (λ x m. IsGivenBack log x.entry m) (line log (queue.Tracker n)) t.mailbox.desk.messages.items
  -- the next ticket is the next place
  pub questions : length t.mailbox.desk.questions ≡ length t.tickets.questions
  pub updates : length t.mailbox.desk.updates ≡ length t.tickets.updates
  pub sets : length t.mailbox.desk.sets ≡ length t.tickets.blocked
  pub subscribed : Match (IsTicket t.tickets.updates) t.actor.updates (update_subscriptions log n)
  pub subscribed_blocked : Match (IsTicket t.tickets.blocked) t.actor.sets (blocked_subscriptions log n)
  -- each subscription to the blocked keys is asked for once
  pub rises : Rises 0 (length t.mailbox.desk.sets) (t.actor.sets ++ flat_map blocked_asked t.mailbox.desk.messages.items)
  -- who may be answered, and who was
  pub tickets : TicketsStand t.tickets t.questions
  pub asked : (d : ℕ) → asked_for (table.at t.questions d) ≡ asks_at log n d
  pub answered : (d : ℕ) → asks_at log n d ≡ Some question.PeerSet → is_some (table.at t.answered d) ≡ was_answered log d
  pub fresh : AreFresh log t.answered
  -- which connections of the node have ended
  pub ended : (conn : ℕ) → is_noted t.ended conn ≡ is_ended log n conn
  -- what the dialer is answered is its line
  pub dialer : Match (λ x a. IsAnswer x.item a) (line log (queue.Dialer n)) t.mailbox.dialer
  -- what the listener is told is its line, and so it is for each handshake
  pub heard : HeardStands t.mailbox.heard (line log (queue.Addresses n))
  pub handshakes : (k : ℕ) → HandshakeStands (line_of t.mailbox.handshakes k) (is_handshaking log n k) (line log (queue.Handshake n k))
  pub distinct : AreDistinct t.mailbox.handshakes
  -- what waits at the desk for those who asked by the oracle is what the names stand for
  pub polled : DeskStands n t.tickets t.answered (held t.told) t.mailbox.desk
  -- what waits for those who asked is their line
  pub told : (q : Queue) → is_told n q ≡ true → held t.told q ≡ line log q

-- Which queues an act reaches: from which it takes, and which it changes.
use Rattle.p2p_log.specs.declared.config.Config.{Config}
use Rattle.std.proofs.Common.{◌≡◌, ℕ, Bool, true, false, List, Option, Some, None, refl, ap, sym, ◌∙◌}
use Rattle.std.specs.Prelude.{◌==◌, ◌&&◌, ◌||◌}
use Rattle.std.proofs.lemmas.Bool.{false≢true}
use Rattle.p2p_log.specs.declared.queue.Queue.{Queue}
use Rattle.p2p_log.specs.declared.queue.Queue.TheVariants as queue
use Rattle.p2p_log.specs.declared.queue.Side.TheVariants as side
use Rattle.p2p_log.specs.declared.entry.Entry.{Entry}
use Rattle.p2p_log.specs.declared.asked.Asked.TheVariants as ask
use Rattle.p2p_log.specs.declared.event.Act.{Act}
use Rattle.p2p_log.specs.declared.event.Act.TheVariants as act
use Rattle.p2p_log.specs.declared.event.Recipients.{Recipients}
use Rattle.p2p_log.specs.declared.event.Recipients.TheVariants as recipients
use Rattle.p2p_log.specs.QueueCode.{same_queue}
use Rattle.p2p_log_rules.specs.declared.row.Half.{Half}
use Rattle.p2p_log_rules.specs.declared.row.Opening.{Opening}
use Rattle.p2p_log_rules.specs.Checking.{Check, check_of}
use Rattle.p2p_log_rules.specs.Connections.{half_at}
use Rattle.p2p_log_rules.specs.Links.{openings_of}
use Rattle.p2p_log_rules.specs.Reading.{reading_of}
use Rattle.p2p_log_rules.specs.Tracking.{asked_by}
use Rattle.p2p_log.proofs.QueueNames.{queue_from_same}

-- what a router has: its mailbox, and the queues to which it writes
abbrev pub in_router : ℕ → Queue → Bool
in_router n (queue.Router m) = m == n
in_router n (queue.Peers m c) = m == n
in_router n (queue.RouterAnswer m e) = m == n
in_router n (queue.High m e) = m == n
in_router n (queue.Low m e) = m == n
in_router n _ = false

-- the link of a half of a connection, where there is one
abbrev pub in_link : Option Half → Queue → Bool
in_link o (queue.Link e s) = elim o [ None ↦ false | Some half ↦ e == half.link ]
in_link o _ = false

-- what waits for the quotas of a connection
abbrev pub in_held : ℕ → ℕ → Queue → Bool
in_held n conn (queue.Held m e) = (m == n) && (e == conn)
in_held n conn _ = false

-- what a half of a connection has: what it is to write, its router's answer, and its link
abbrev pub in_half : Option Half → ℕ → ℕ → Queue → Bool
in_half o n conn (queue.RouterAnswer m e) = (m == n) && (e == conn)
in_half o n conn (queue.High m e) = (m == n) && (e == conn)
in_half o n conn (queue.Low m e) = (m == n) && (e == conn)
in_half o n conn q = in_link o q

-- the mailboxes in which a connection tells that it begins: those of its node's tracker and router
abbrev pub in_mailboxes : ℕ → Queue → Bool
in_mailboxes n (queue.Tracker m) = m == n
in_mailboxes n (queue.Router m) = m == n
in_mailboxes n _ = false

abbrev pub in_channels : ℕ → Queue → Bool
in_channels n (queue.Channel m c) = m == n
in_channels n _ = false

-- what a tracker has: its mailbox, and the queues to which it writes
abbrev pub in_tracker : ℕ → Queue → Bool
in_tracker n (queue.Tracker m) = m == n
in_tracker n (queue.Addresses m) = m == n
in_tracker n (queue.Dialer m) = m == n
in_tracker n (queue.Control m e) = m == n
in_tracker n (queue.PeerSet m e) = m == n
in_tracker n (queue.PeerSetUpdates m e) = m == n
in_tracker n (queue.Blocked m e) = m == n
in_tracker n (queue.Handshake m e) = m == n
in_tracker n _ = false

abbrev pub in_handshakes : ℕ → Queue → Bool
in_handshakes n (queue.Handshake m e) = m == n
in_handshakes n _ = false

-- what both ends of a link are told
abbrev pub in_ends : Option Opening → Queue → Bool
in_ends None q = false
in_ends (Some o) q = same_queue (queue.Attempt o.node o.attempt) q || in_handshakes o.to q

-- whether what is told for what the event e asked stands in the queue
abbrev pub is_told_to : Option Act → ℕ → Queue → Bool
is_told_to (Some (act.Ask (ask.PeerSet index) n)) e q = same_queue (queue.PeerSet n e) q
is_told_to (Some (act.Ask ask.Subscribe n)) e q = same_queue (queue.PeerSetUpdates n e) q
is_told_to (Some (act.Ask ask.Blocked n)) e q = same_queue (queue.Blocked n e) q
is_told_to _ e q = false

-- the list of peers that waits for a channel, for what asks its quota for all
abbrev pub are_all : Recipients → Bool
are_all recipients.All = true
are_all _ = false

abbrev pub in_lists : Recipients → ℕ → ℕ → Queue → Bool
in_lists to n c (queue.Peers m d) = are_all to && ((m == n) && (d == c))
in_lists to n c _ = false

-- the mailbox of the router to which a message goes by a check
abbrev pub in_mailbox_of : Option Check → Queue → Bool
in_mailbox_of o (queue.Router n) = elim o [ None ↦ false | Some c ↦ same_queue (queue.Router c.node) (queue.Router n) ]
in_mailbox_of o _ = false

-- the queues from which an act takes, after these entries
abbrev pub reads : List Config → List Entry → Act → Queue → Bool
reads configs log (act.Send bytes c n priority to) q = in_lists to n c q
reads configs log (act.Check c n to) q = in_lists to n c q
reads configs log (act.Router n) q = same_queue (queue.Router n) q
reads configs log (act.SendStep conn n) q = in_half (half_at log n conn) n conn q
reads configs log (act.RecvStep conn n) q = in_held n conn q || in_link (half_at log n conn) q
reads configs log (act.Answer e) q = is_told_to (asked_by log e) e q
reads configs log (act.Next e) q = is_told_to (asked_by log e) e q
reads configs log (act.Tracker n) q = same_queue (queue.Tracker n) q
reads configs log (act.Dialer n) q = same_queue (queue.Dialer n) q
reads configs log (act.Listener n) q = same_queue (queue.Addresses n) q || same_queue (queue.Arrivals n) q
reads configs log (act.Handshake e n) q = same_queue (queue.Handshake n e) q
reads configs log (act.Spawner n) q = same_queue (queue.Spawner n) q
reads configs log (act.Attempt e n) q = same_queue (queue.Attempt n e) q
reads configs log a q = elim (reading_of configs log a) [ None ↦ false | Some p ↦ same_queue p q ]

-- the others in which it puts or ends something
abbrev pub writes : List Config → List Entry → Act → Queue → Bool
writes configs log (act.Start n) q = same_queue (queue.Router n) q
writes configs log (act.Send bytes c n priority to) q = same_queue (queue.Router n) q
writes configs log (act.SendChecked bytes check priority) q = in_mailbox_of (check_of log check) q
writes configs log (act.Router n) q = in_router n q
writes configs log (act.SendStep conn n) q = in_mailboxes n q || in_half (half_at log n conn) n conn q
writes configs log (act.RecvStep conn n) q = in_held n conn q || in_channels n q
writes configs log (act.Close c n) q = same_queue (queue.Channel n c) q
writes configs log (act.Ask what n) q = same_queue (queue.Tracker n) q
writes configs log (act.Tracker n) q = in_tracker n q
writes configs log (act.Dialer n) q = same_queue (queue.Tracker n) q
writes configs log (act.Listener n) q = same_queue (queue.Tracker n) q
writes configs log (act.Handshake e n) q = same_queue (queue.Tracker n) q || (same_queue (queue.Spawner n) q || same_queue (queue.Handshake n e) q)
writes configs log (act.Attempt e n) q = same_queue (queue.Tracker n) q || (same_queue (queue.Spawner n) q || same_queue (queue.Attempt n e) q)
writes configs log (act.Resolve addresses e n) q = same_queue (queue.Attempt n e) q
writes configs log (act.Connect e from n to) q = same_queue (queue.Attempt n e) q || same_queue (queue.Arrivals to) q
writes configs log (act.Refuse e n) q = same_queue (queue.Attempt n e) q
writes configs log (act.Finish link ok) q = in_ends (openings_of log link) q
writes configs log (act.Cut link) q = same_queue (queue.Link link side.Out) q || same_queue (queue.Link link side.In) q
writes configs log _ q = false

-- of two queues one passes a test and the other does not, so they are two
pub away : (p : Queue → Bool) (q x : Queue) → p q ≡ false → p x ≡ true → same_queue q x ≡ false
away p q x none some = go (same_queue q x) refl
  where
    go : (b : Bool) → same_queue q x ≡ b → b ≡ false
    go true e = absurd (false≢true (sym none ∙ (ap p (sym (queue_from_same q x e)) ∙ some)))
    go false e = refl

-- The rows of a node's tracker: what it is asked, its step, and what those who asked take.
use Rattle.std.specs.Prelude.{ℕ, Bool, false, ◌==◌, cond, nat_lt, List, [], ◌∷◌, flat_map, filter, length, Option, Some, None, slice_get}
use Rattle.std.specs.List.{list_any}
use Rattle.std.specs.Map.{keys_of}
use Rattle.p2p_base.specs.declared.key.Key.{Key}
use Rattle.p2p_base.specs.declared.outcome.Feedback.{Feedback}
use Rattle.p2p_base.specs.declared.outcome.Feedback.TheVariants as feedback
use Rattle.p2p_flow.specs.SetSize.{set_size}
use Rattle.p2p_flow.specs.declared.addressable.AddressableTrackedPeers.{AddressableTrackedPeers}
use Rattle.p2p_tracker_calls.specs.declared.call.Call.TheVariants as call
use Rattle.p2p_tracker_calls.specs.BlockedKeys.{due_keys}
use Rattle.p2p_log.specs.declared.config.Config.{Config}
use Rattle.p2p_log.specs.declared.queue.Queue.{Queue}
use Rattle.p2p_log.specs.declared.queue.Queue.TheVariants as queue
use Rattle.p2p_log.specs.declared.item.Item.{Item}
use Rattle.p2p_log.specs.declared.item.Item.TheVariants as item
use Rattle.p2p_log.specs.declared.item.Envelope.{Envelope}
use Rattle.p2p_log.specs.declared.entry.Entry.{Entry}
use Rattle.p2p_log.specs.declared.entry.Reply.{Reply}
use Rattle.p2p_log.specs.declared.entry.Reply.TheVariants as reply
use Rattle.p2p_log.specs.declared.asked.Asked.{Asked}
use Rattle.p2p_log.specs.declared.asked.Asked.TheVariants as ask
use Rattle.p2p_log.specs.declared.event.Act.{Act}
use Rattle.p2p_log.specs.declared.event.Act.TheVariants as act
use Rattle.p2p_log_rules.specs.declared.row.Row.{Row}
use Rattle.p2p_log.specs.Lines.{name_of, stays, live, line}
use Rattle.p2p_log_rules.specs.Connections.{is_ended}
use Rattle.p2p_log_rules.specs.Facts.{is_up, is_stopped, key_at}
use Rattle.p2p_log_rules.specs.Full.{is_full}
use Rattle.p2p_log_rules.specs.Rows.{only, ring_ends}
use Rattle.p2p_log_rules.specs.Tellings.{Telling}
use Rattle.p2p_log_rules.specs.Tellings as telling
use Rattle.p2p_log_rules.specs.Told.{told}
use Rattle.p2p_log_rules.specs.Tracking.{key_cmp, rules_at, asked_by, calls_of, update_subscriptions, blocked_subscriptions}
use Rattle.p2p_log_rules.specs.TrackerPuts.{Put, is_some_of, unblocked_puts, item_puts, heeded}

-- ---- what it is asked

-- what a mailbox tells of one message more, by whether it is full: it keeps it also then
abbrev pub feedback_by : Bool → Feedback
feedback_by full = cond full feedback.Backoff feedback.Ok

-- a question, which waits in the tracker's mailbox under the number of its event: that is closed at a node that has stopped
abbrev pub asked_row : List Config → List Entry → ℕ → Row
asked_row configs log n =
    cond (is_stopped log n) (only (reply.Feedback feedback.Closed))
    (record {
      reply = reply.Feedback (feedback_by (is_full configs log (queue.Tracker n)));
      takes = [];
      puts = (queue.Tracker n, item.Call (length log)) ∷ [];
      ends = [];
    })

abbrev pub most_peers_at : List Config → ℕ → ℕ
most_peers_at configs n = elim (slice_get configs n) [ None ↦ 0 | Some c ↦ c.max_peers_per_set ]

-- how many keys a set has at a node, its own counted
abbrev pub size_at : List Config → ℕ → AddressableTrackedPeers Key → ℕ
size_at configs n peers = set_size key_cmp (key_at configs n) (keys_of peers.primary) (keys_of peers.secondary)

-- a set that is not too large is asked for
abbrev pub track_row : List Config → List Entry → ℕ → AddressableTrackedPeers Key → Row
track_row configs log n peers =
    cond (nat_lt (most_peers_at configs n) (size_at configs n peers))
    (only (reply.PeerSetTooLarge (size_at configs n peers) (most_peers_at configs n)))
    (asked_row configs log n)

-- what is asked
abbrev pub ask_row : List Config → List Entry → ℕ → Asked → Row
ask_row configs log n (ask.Track index peers) = track_row configs log n peers
ask_row configs log n _ = asked_row configs log n

-- ---- its step

-- the queue, where it holds one item: the next one overwrites it
abbrev pub ring_of : Queue → List Queue
ring_of (queue.Addresses n) = queue.Addresses n ∷ []
ring_of (queue.Blocked n e) = queue.Blocked n e ∷ []
ring_of _ = []

-- the rings into which these items go, in order
abbrev pub rings_of : List Put → List Queue
rings_of puts = flat_map (λ x. ring_of x.0) puts

-- what it puts once it took the items of these names, and what that overwrites
abbrev pub tracker_told_row : List Entry → List (ℕ × ℕ) → List Put → Row
tracker_told_row log takes puts = record { reply = reply.Ok; takes = takes; puts = puts; ends = ring_ends (filter (stays takes) (live log)) (rings_of puts) }

-- the oldest message
abbrev pub served_row : List Config → List Entry → ℕ → ℕ → List Envelope → Row
served_row configs log n at [] = only reply.Idle
served_row configs log n at (x ∷ _) =
    tracker_told_row log (name_of x ∷ [])
    (heeded (is_ended log n)
    (item_puts (rules_at configs n) n at (update_subscriptions log n) (blocked_subscriptions log n) (calls_of configs log n) log x.item))

-- blocks that have ended come before the mailbox
abbrev pub tracker_step : List Config → List Entry → ℕ → ℕ → Row
tracker_step configs log n at =
    cond (is_some_of (due_keys key_cmp (rules_at configs n) (calls_of configs log n) at))
    (tracker_told_row log []
    (unblocked_puts (rules_at configs n) n at (update_subscriptions log n) (blocked_subscriptions log n) (calls_of configs log n) (call.UnblockExpired at)))
    (served_row configs log n at (line log (queue.Tracker n)))

abbrev pub tracker_row : List Config → List Entry → ℕ → ℕ → Row
tracker_row configs log n at = cond (is_up log n) (tracker_step configs log n at) (only reply.Gone)

-- ---- what those who asked take

-- that the answer to a question was given
abbrev pub gives_answer : ℕ → Telling → Bool
gives_answer e (telling.question_answered d) = d == e
gives_answer e _ = false

-- whether it was
unfoldable pub was_answered : List Entry → ℕ → Bool
was_answered log e = list_any (gives_answer e) (told log)

abbrev pub taken_with : Reply → Envelope → Row
taken_with r x = record { reply = r; takes = name_of x ∷ []; puts = []; ends = [] }

-- what a reader is told of an item
abbrev pub told_of : Item → Reply
told_of (item.PeerSet peers) = reply.PeerSet peers
told_of (item.PeerSetUpdate update) = reply.Update update
told_of (item.Blocked keys) = reply.Blocked keys
told_of _ = reply.Pending

-- the oldest item of a queue, or this reply
abbrev pub oldest_row : Reply → List Envelope → Row
oldest_row empty [] = only empty
oldest_row empty (x ∷ _) = taken_with (told_of x.item) x

-- the answer was taken, or is there, or is awaited: from a node that has stopped there is none to come
abbrev pub answer_at : List Entry → ℕ → ℕ → Row
answer_at log n e =
    cond (was_answered log e) (only reply.Gone) (oldest_row (cond (is_stopped log n) (reply.PeerSet None) reply.Pending) (line log (queue.PeerSet n e)))

-- by what the event of the question asked
abbrev pub answer_by : List Entry → ℕ → Option Act → Row
answer_by log e (Some (act.Ask (ask.PeerSet index) n)) = answer_at log n e
answer_by log e _ = only reply.Gone

abbrev pub answer_row : List Entry → ℕ → Row
answer_row log e = answer_by log e (asked_by log e)

-- where nothing waits for a subscription, something may come, or not any more
abbrev pub none_next : List Entry → ℕ → Reply
none_next log n = cond (is_stopped log n) reply.StreamEnded reply.Pending

abbrev pub next_by : List Entry → ℕ → Option Act → Row
next_by log e (Some (act.Ask ask.Subscribe n)) = oldest_row (none_next log n) (line log (queue.PeerSetUpdates n e))
next_by log e (Some (act.Ask ask.Blocked n)) = oldest_row (none_next log n) (line log (queue.Blocked n e))
next_by log e _ = only reply.Gone

abbrev pub next_row : List Entry → ℕ → Row
next_row log e = next_by log e (asked_by log e)

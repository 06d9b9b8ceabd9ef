-- What each actor's step makes of its first input, with the end of a link of which it lets go then.
use Rattle.std.specs.Prelude.{ℕ, ◌-◌, Bool, true, false, nat_lt, List, [], ◌∷◌, filter, length, Option, Some, None}
use Rattle.p2p_tracker_calls.specs.declared.call.Call.TheVariants as call
use Rattle.p2p_log.specs.declared.config.Config.{Config}
use Rattle.p2p_log.specs.declared.queue.Queue.TheVariants as queue
use Rattle.p2p_log.specs.declared.end.Cause.TheVariants as cause
use Rattle.p2p_log.specs.declared.entry.Ended.TheVariants as ended
use Rattle.p2p_log.specs.declared.entry.Entry.{Entry}
use Rattle.p2p_log.specs.declared.entry.Reply.TheVariants as reply
use Rattle.p2p_log.specs.Lines.{name_of, line, live, stays}
use Rattle.p2p_log_rules.specs.declared.row.Half.{Half}
use Rattle.p2p_log_rules.specs.declared.row.Row.{Row}
use Rattle.p2p_log_rules.specs.Attempting.{Attempt, dial_rules_at, attempts_of, given_up_row, attempt_took_row}
use Rattle.p2p_log_rules.specs.Connections.{live_half, is_ended}
use Rattle.p2p_log_rules.specs.Cutting.{is_broken}
use Rattle.p2p_log_rules.specs.Dialing.{Dials, dials_of, due_row, answer_taken_row}
use Rattle.p2p_log_rules.specs.Dropping.{other_side, attempt_drops, handshake_drops, listener_drops}
use Rattle.p2p_log_rules.specs.Effect.{route_row, batch_size_at, batch, written_row, begin_row, frame_row, retry_row}
use Rattle.p2p_log_rules.specs.Effect as effect
use Rattle.p2p_log_rules.specs.Ending.{end_row}
use Rattle.p2p_log_rules.specs.First.{Actor, tracker, router, spawner, dialer, listener, attempt, handshake, sender, receiver, Input, takes, begins, step_row}
use Rattle.p2p_log_rules.specs.Handshakes.{Handshake, handshake_at, came_over}
use Rattle.p2p_log_rules.specs.Handshaking.{ended_row}
use Rattle.p2p_log_rules.specs.Handshaking as handshaking
use Rattle.p2p_log_rules.specs.Listening.{gate_rules_at, known_of, has_place, arrived_row}
use Rattle.p2p_log_rules.specs.Rows.{only, taken_row, is_spawner_full}
use Rattle.p2p_log_rules.specs.TrackerPuts.{unblocked_puts, item_puts, heeded}
use Rattle.p2p_log_rules.specs.TrackerRows.{tracker_told_row}
use Rattle.p2p_log_rules.specs.Tracking.{rules_at, calls_of, update_subscriptions, blocked_subscriptions}

-- ---- each actor: what it makes of each of its inputs

-- a tracker: its mailbox; else blocks have ended
abbrev pub tracker_serves : List Config → List Entry → ℕ → ℕ → Input → Row
tracker_serves configs log n at (takes q x rest) =
    tracker_told_row log (name_of x ∷ [])
    (heeded (is_ended log n)
    (item_puts (rules_at configs n) n at (update_subscriptions log n) (blocked_subscriptions log n) (calls_of configs log n) log x.item))
tracker_serves configs log n at _ =
    tracker_told_row log []
    (unblocked_puts (rules_at configs n) n at (update_subscriptions log n) (blocked_subscriptions log n) (calls_of configs log n) (call.UnblockExpired at))

abbrev pub router_serves : List Config → List Entry → ℕ → Input → Row
router_serves configs log n (takes q x rest) = route_row configs log n (name_of x) x.item (filter (stays (name_of x ∷ [])) (live log))
router_serves configs log n _ = only reply.Idle

abbrev pub spawner_serves : Input → Row
spawner_serves (takes q x rest) = taken_row (name_of x)
spawner_serves _ = only reply.Idle

-- a dialer: an answer; else its deadline has come
abbrev pub dialer_serves : ℕ → ℕ → Dials → Input → Row
dialer_serves n seed d (takes q x rest) = answer_taken_row n seed d (name_of x) x.item
dialer_serves n seed d _ = due_row n d.peers

-- a listener: an update, or an arrival
abbrev pub listener_serves : List Config → List Entry → ℕ → ℕ → Input → Row
listener_serves configs log n at (takes (queue.Addresses m) x rest) = taken_row (name_of x)
listener_serves configs log n at (takes q x rest) =
    arrived_row (gate_rules_at configs n) (known_of configs log n) (has_place configs log n) n (length log) at (name_of x) x.item
listener_serves configs log n at _ = only reply.Idle

-- an attempt: what it takes; else its deadline has come
abbrev pub attempt_serves : ℕ → Bool → Bool → ℕ → Option Attempt → Input → Row
attempt_serves n full private seed (Some a) (takes q x rest) = attempt_took_row n full private seed a (name_of x) x.item rest
attempt_serves n full private seed (Some a) _ = given_up_row n a.key [] []
attempt_serves n full private seed None i = only reply.Gone

-- and so a handshake
abbrev pub handshake_serves : ℕ → Bool → ℕ → Option Handshake → Input → Row
handshake_serves n full name (Some h) (takes q x rest) = handshaking.handshake_took_row n full name h (name_of x) x.item rest
handshake_serves n full name (Some h) _ = ended_row [] []
handshake_serves n full name None i = only reply.Gone

-- a sending half: it begins; it takes its router's answer, that it ends, or a batch; else a ping is due
abbrev pub sender_serves : List Config → List Entry → ℕ → ℕ → Option Half → Input → Row
sender_serves configs log n conn None i = only reply.Gone
sender_serves configs log n conn (Some half) begins = begin_row n conn half.peer
sender_serves configs log n conn (Some half) (takes (queue.RouterAnswer m e) x rest) = taken_row (name_of x)
sender_serves configs log n conn (Some half) (takes (queue.Control m e) x rest) = end_row log n conn half ended.Killed cause.ConnectionEnded (x ∷ [])
sender_serves configs log n conn (Some half) (takes q x rest) =
    written_row log n conn half (is_broken log half.link (other_side half.writes)) false (batch log n conn (batch_size_at configs n))
sender_serves configs log n conn (Some half) _ =
    let most = batch_size_at configs n - 1 in
    effect.told_to_end_row log n conn half (line log (queue.Control n conn)) (nat_lt 0 most)
    (written_row log n conn half (is_broken log half.link (other_side half.writes)) true (batch log n conn most))

-- a receiving half: what is held, or a frame; else none will come
abbrev pub receiver_serves : List Config → List Entry → ℕ → ℕ → ℕ → Option Half → Input → Row
receiver_serves configs log n conn at None i = only reply.Gone
receiver_serves configs log n conn at (Some half) (takes (queue.Held m e) x rest) = retry_row configs log n conn at half (name_of x) x.item
receiver_serves configs log n conn at (Some half) (takes q x rest) = frame_row configs log n conn at half x x.item
receiver_serves configs log n conn at (Some half) _ = end_row log n conn half ended.ReceiveFailed cause.ConnectionEnded []

-- ---- all of them

-- what an actor makes of an input, at a moment and with a seed
abbrev pub serves : List Config → List Entry → ℕ → ℕ → Actor → Input → Row
serves configs log at seed (tracker n) = tracker_serves configs log n at
serves configs log at seed (router n) = router_serves configs log n
serves configs log at seed (spawner n) = spawner_serves
serves configs log at seed (dialer n) = dialer_serves n seed (dials_of configs log n)
serves configs log at seed (listener n) = λ i. listener_drops log n (listener_serves configs log n at i)
serves configs log at seed (attempt n k) =
    λ i. attempt_drops log k n (attempt_serves n (is_spawner_full configs log n) (dial_rules_at configs n).private seed (attempts_of configs log n k) i)
serves configs log at seed (handshake n h) =
    λ i. handshake_drops log (came_over log h) (line log (queue.Handshake n h)) (handshake_serves n (is_spawner_full configs log n) h (handshake_at log h) i)
serves configs log at seed (sender n conn) = sender_serves configs log n conn (live_half log n conn)
serves configs log at seed (receiver n conn) = receiver_serves configs log n conn at (live_half log n conn)

-- the step of an actor: gone, idle, or what it makes of its first input
abbrev pub actor_row : List Config → List Entry → ℕ → ℕ → Actor → Row
actor_row configs log at seed a = step_row configs log at a (serves configs log at seed a)

-- What an entry tells, and what a log does: the one place that says what an act tells.
use Rattle.std.specs.Prelude.{ℕ, Bool, false, ◌==◌, ◌&&◌, not, cond, List, [], ◌∷◌, ◌++◌, filter, flat_map, length, Option, Some, None}
use Rattle.std.specs.Option.{option_map}
use Rattle.std.specs.List.{list_any}
use Rattle.p2p_base.specs.declared.key.Key.{Key}
use Rattle.p2p_address.specs.declared.ip.IpAddr.{IpAddr}
use Rattle.p2p_address.specs.declared.peer.Ingress.{Ingress}
use Rattle.p2p_tracker_calls.specs.declared.gates.Reply.TheVariants as gates
use Rattle.p2p_log.specs.declared.queue.Queue.{Queue}
use Rattle.p2p_log.specs.declared.queue.Queue.TheVariants as queue
use Rattle.p2p_log.specs.declared.queue.Side.TheVariants as side
use Rattle.p2p_log.specs.declared.item.Item.{Item}
use Rattle.p2p_log.specs.declared.item.Item.TheVariants as item
use Rattle.p2p_log.specs.declared.item.Envelope.{Envelope}
use Rattle.p2p_log.specs.declared.entry.Entry.{Entry}
use Rattle.p2p_log.specs.declared.entry.Reply.{Reply}
use Rattle.p2p_log.specs.declared.entry.Reply.TheVariants as reply
use Rattle.p2p_log.specs.declared.event.Act.{Act}
use Rattle.p2p_log.specs.declared.event.Act.TheVariants as act
use Rattle.p2p_log.specs.declared.event.Recipients.{Recipients}
use Rattle.p2p_log.specs.Copies.{keys_of_recipients}
use Rattle.p2p_log.specs.Lines.{line}
use Rattle.p2p_log_rules.specs.declared.row.Half.{Half}
use Rattle.p2p_log_rules.specs.HalfSteps.{is_done, is_end, puts_ping, holds}
use Rattle.p2p_log_rules.specs.Halves.{half_in, half_by}
use Rattle.p2p_log_rules.specs.HandshakeSteps.{ends_handshake}
use Rattle.p2p_log_rules.specs.Puts.{gave_up, ends_attempt, broke_off, is_answer, turns_away, is_peer_set, arrival_link}
use Rattle.p2p_log_rules.specs.Quotas.{rate_in, rates_in, keys_by, moments_in}
use Rattle.p2p_log_rules.specs.Standing.{standing}
use Rattle.p2p_log_rules.specs.Taking.{taken, state_from}
use Rattle.p2p_log_rules.specs.Routed.{router_tells, peers_in}
use Rattle.p2p_log_rules.specs.Tellings.{Telling, Last, last_told, last_or, first_or}
use Rattle.p2p_log_rules.specs.Tellings as telling
use Rattle.p2p_log_rules.specs.Tracked.{tracker_tells}

-- ---- what is asked of what was told before

-- the moment at which a dialer asked last whom to dial, or began
abbrev pub asks_list : ℕ → Telling → Option ℕ
asks_list n (telling.node_started m at) = cond (m == n) (Some at) None
asks_list n (telling.list_asked m at) = cond (m == n) (Some at) None
asks_list n _ = None

-- what begins an attempt, of this node and name
pub record Begun : Type 0 where
  pub key : Key
  pub ingress : Ingress
  pub at : ℕ

abbrev pub begun_as : ℕ → ℕ → Telling → Option Begun
begun_as n k (telling.attempt_begun m j key ingress at) = cond ((m == n) && (k == j)) (Some (record { key = key; ingress = ingress; at = at })) None
begun_as n k _ = None

abbrev pub ends : ℕ → ℕ → Telling → Bool
ends n k (telling.attempt_ended m j) = (m == n) && (k == j)
ends n k _ = false

-- the link of which it has the dialing end
abbrev pub opens : ℕ → ℕ → Telling → Option (Option ℕ)
opens n k (telling.link_opened m j link to) = cond ((m == n) && (k == j)) (Some (Some link)) None
opens n k _ = None

abbrev pub opened_since : ℕ → ℕ → Option (Last Begun) → Option ℕ
opened_since n k None = None
opened_since n k (Some l) = cond (list_any (ends n k) l.since) None (last_or None (opens n k) l.since)

-- that of an attempt that has not ended
abbrev pub link_in : List Telling → ℕ → ℕ → Option ℕ
link_in ts n k = opened_since n k (last_told (begun_as n k) ts)

-- what begins a handshake: the address from which its peer came, its key, the link over which it came, and the moment
pub record Handshake : Type 0 where
  pub source : IpAddr
  pub key : Key
  pub link : ℕ
  pub at : ℕ

-- the one of this name
abbrev pub handshake_begun_as : ℕ → Telling → Option Handshake
handshake_begun_as h (telling.handshake_begun n k from key link at) = cond (h == k) (Some (record { source = from; key = key; link = link; at = at })) None
handshake_begun_as h _ = None

abbrev pub handshake_in : List Telling → ℕ → Option Handshake
handshake_in ts h = first_or None (handshake_begun_as h) ts

-- the link over which its peer came
abbrev pub link_over : Option Handshake → Option ℕ
link_over o = option_map (λ (s : Handshake). s.link) o

abbrev pub is_link : ℕ → Option ℕ → Bool
is_link link None = false
is_link link (Some l) = link == l

-- ---- what an entry tells

-- this, where it is so
abbrev pub when : Bool → List Telling → List Telling
when b ts = cond b ts []

-- this, where something was done
abbrev pub done_tells : Reply → List Telling → List Telling
done_tells r ts = when (is_done r) ts

-- the end of a link, where there is one
abbrev pub dialing_dropped : Option ℕ → List Telling
dialing_dropped None = []
dialing_dropped (Some link) = telling.end_dropped link side.Out ∷ []

abbrev pub listening_dropped : Option ℕ → List Telling
listening_dropped None = []
listening_dropped (Some link) = telling.end_dropped link side.In ∷ []

abbrev pub half_dropped : Option Half → List Telling
half_dropped None = []
half_dropped (Some half) = telling.end_dropped half.link half.writes ∷ []

-- that a half ended its connection, and dropped the end to which it writes
abbrev pub over_tells : ℕ → ℕ → Reply → Option Half → List Telling
over_tells n conn r half = when (is_end r) (telling.connection_ended n conn ∷ half_dropped half)

-- an answer that a dialer took at a moment in an entry of this name and seed, which had asked at that moment whom to dial
abbrev pub answer_tells : ℕ → ℕ → ℕ → ℕ → ℕ → List Item → List Telling
answer_tells n asked name at seed (item.Dialable next peers ∷ items) = telling.list_taken n asked seed next peers ∷ telling.answer_taken n ∷ []
answer_tells n asked name at seed (item.Dial (Some grant) ∷ items) = telling.attempt_begun n name grant.0 grant.1 at ∷ telling.answer_taken n ∷ []
answer_tells n asked name at seed (i ∷ items) = telling.answer_taken n ∷ []
answer_tells n asked name at seed [] = []

-- that it came to its deadline, where it took nothing
abbrev pub due_tells : ℕ → ℕ → List Item → List Telling
due_tells n at [] = telling.dial_due n at ∷ []
due_tells n at (i ∷ items) = []

-- what it asked
abbrev pub ask_tells : ℕ → ℕ → List Item → List (Queue × Item) → List Telling
ask_tells n at items ((q, item.AskDial k) ∷ puts) = due_tells n at items ++ telling.dial_asked n ∷ []
ask_tells n at items ((q, item.AskDialable) ∷ puts) = telling.list_asked n at ∷ []
ask_tells n at items _ = []

-- what an attempt took
abbrev pub took_tells : ℕ → ℕ → ℕ → ℕ → List Item → List Telling
took_tells n k at seed (item.Resolved addresses ∷ items) = telling.addresses_taken n k seed addresses ∷ []
took_tells n k at seed (item.Linked ∷ items) = telling.link_taken n k at ∷ []
took_tells n k at seed _ = []

-- that its reservation left it, and where that was given back, that the end of its link was dropped
abbrev pub left_tells : ℕ → ℕ → Option ℕ → List (Queue × Item) → List Telling
left_tells n k link puts = when (ends_attempt puts) (telling.attempt_ended n k ∷ when (gave_up puts) (dialing_dropped link))

-- the link that an answer to a dial made, of this name and to that node, where there was an arrival
abbrev pub link_tells : ℕ → ℕ → ℕ → ℕ → List (Queue × Item) → List Telling
link_tells n k name to (told ∷ arrival ∷ puts) = telling.link_opened n k name to ∷ []
link_tells n k name to _ = []

-- that a listener dropped the end of an arrival, where it turned it away
abbrev pub gates_tell : Reply → List Item → List Telling
gates_tell r items = when (turns_away r) (listening_dropped (arrival_link items))

-- the handshake that begins in an entry of this name, where that admitted an arrival
abbrev pub admitted_as : ℕ → Reply → Option ℕ
admitted_as name (reply.Gates gates.Admitted) = Some name
admitted_as name _ = None

-- which begins with the arrival that was taken, at a moment
abbrev pub begun_tells : ℕ → ℕ → Option ℕ → List Item → List Telling
begun_tells n at (Some h) (item.Arrival from key link ∷ items) = telling.handshake_begun n h from.ip key link at ∷ []
begun_tells n at _ _ = []

-- the arrival that a listener took
abbrev pub arrival_tells : ℕ → Option ℕ → List Item → List Telling
arrival_tells n handshake (item.Arrival from key link ∷ items) = telling.arrival_taken n link handshake ∷ []
arrival_tells n handshake _ = []

-- what a handshake took whose peer came over this link, and whether it ended
abbrev pub handshake_tells : ℕ → ℕ → Option ℕ → Bool → List Item → List Telling
handshake_tells n h link over items = telling.handshake_took n h items ∷ when over (telling.handshake_ended n h link ∷ [])

-- the connection that a spawner made of what it took, in an entry of this name
abbrev pub spawn_tells : ℕ → ℕ → List Item → List Telling
spawn_tells n name (item.Spawn key link ∷ items) = telling.connection_made n name key link ∷ []
spawn_tells n name _ = []

-- that a sending half did a step at a moment, and in it took its router's answer, and put a ping
abbrev pub sender_tells : ℕ → ℕ → ℕ → List Item → List (Queue × Item) → List Telling
sender_tells n conn at items puts =
    telling.half_stepped n conn ∷ (when (list_any is_answer items) (telling.connection_ran n conn at ∷ []) ++ when (puts_ping items puts) (telling.ping_put n conn at ∷ []))

-- what a receiving half took and did not hold
abbrev pub received_tells : ℕ → ℕ → ℕ → List Item → List (Queue × Item) → List Telling
received_tells n conn at [] puts = []
received_tells n conn at (i ∷ items) puts = when (not (holds puts)) (telling.item_admitted n conn at i ∷ [])

-- unless it ended its connection
abbrev pub admitted_tells : ℕ → ℕ → ℕ → Reply → List Item → List (Queue × Item) → List Telling
admitted_tells n conn at r items puts = when (not (is_end r)) (received_tells n conn at items puts)

-- what a check with this reply admitted, on its channel
abbrev pub check_tells : ℕ → ℕ → ℕ → Reply → List Telling
check_tells n name c (reply.Checked keys) = telling.check_made n name c keys ∷ []
check_tells n name c r = []

-- what an arrival was told that a listener took
abbrev pub judged_tells : ℕ → ℕ → IpAddr → Reply → List Telling
judged_tells n at from (reply.Gates g) = telling.arrival_judged n at from g ∷ []
judged_tells n at from r = []

-- what a listener took, and what it was told
abbrev pub heard_tells : ℕ → ℕ → Reply → List Item → List Telling
heard_tells n at r (item.Addresses addresses ∷ items) = telling.update_taken n addresses ∷ []
heard_tells n at r (item.Arrival from key link ∷ items) = judged_tells n at from.ip r
heard_tells n at r _ = []

-- the keys that the quota of a channel admits at a moment, of those for whom it is asked
abbrev pub admitted_in : List Telling → ℕ → ℕ → ℕ → Recipients → List Key
admitted_in ts n c at to = keys_by (rate_in (rates_in ts n) c) at (keys_of_recipients (peers_in ts n c) to) (moments_in ts n c)

-- ---- whether a node has stopped, after which it does this no more

abbrev pub stops_node : ℕ → Telling → Bool
stops_node n (telling.node_stopped m) = m == n
stops_node n _ = false

abbrev pub told_unless_stopped : List Telling → ℕ → List Telling → List Telling
told_unless_stopped ts n us = when (not (list_any (stops_node n) ts)) us

-- ---- what a stop tells: what ends with its node, and that each end of a link that was had there is dropped

-- the half that is to be made of a message to a spawner
abbrev pub half_to_be : List Telling → ℕ → Item → Option Half
half_to_be ts n (item.Spawn key link) = half_by ts n (Some (record { key = key; link = link }))
half_to_be ts n _ = None

-- the ends of the messages to its spawner, and of the arrivals
abbrev pub messages_stop : List Telling → ℕ → List Envelope → List Telling
messages_stop ts n xs = flat_map (λ x. half_dropped (half_to_be ts n x.item)) xs

abbrev pub arrivals_stop : List Envelope → List Telling
arrivals_stop xs = flat_map (λ x. listening_dropped (arrival_link (x.item ∷ []))) xs

-- the attempts that have not ended, by the events that began them
abbrev pub begins_attempt : ℕ → Telling → Option ℕ
begins_attempt n (telling.attempt_begun m k key ingress at) = cond (m == n) (Some k) None
begins_attempt n _ = None

abbrev pub attempts_in : List Telling → ℕ → List ℕ
attempts_in ts n = standing (begins_attempt n) (ends n) ts

abbrev pub attempt_stops : List Telling → ℕ → ℕ → List Telling
attempt_stops ts n k = telling.attempt_ended n k ∷ dialing_dropped (link_in ts n k)

-- the handshakes that have not ended
abbrev pub begins_handshake : ℕ → Telling → Option ℕ
begins_handshake n (telling.handshake_begun m h from key link at) = cond (m == n) (Some h) None
begins_handshake n _ = None

abbrev pub ends_named : ℕ → ℕ → Telling → Bool
ends_named n name (telling.handshake_ended m h link) = (m == n) && (name == h)
ends_named n name _ = false

abbrev pub handshakes_in : List Telling → ℕ → List ℕ
handshakes_in ts n = standing (begins_handshake n) (ends_named n) ts

abbrev pub handshake_stops : List Telling → ℕ → ℕ → List Telling
handshake_stops ts n h = telling.handshake_ended n h (link_over (handshake_in ts h)) ∷ listening_dropped (link_over (handshake_in ts h))

-- the connections that were made and have not ended
abbrev pub made_in : ℕ → Telling → List ℕ
made_in n (telling.connection_made m conn key link) = cond (m == n) (conn ∷ []) []
made_in n _ = []

abbrev pub is_over : ℕ → ℕ → Telling → Bool
is_over n conn (telling.connection_ended m c) = (m == n) && (c == conn)
is_over n conn _ = false

abbrev pub connections_in : List Telling → ℕ → List ℕ
connections_in ts n = filter (λ conn. not (list_any (is_over n conn) ts)) (flat_map (made_in n) ts)

abbrev pub connection_stops : List Telling → ℕ → ℕ → List Telling
connection_stops ts n conn = telling.connection_ended n conn ∷ half_dropped (half_in ts n conn)

abbrev pub stop_tells : List Telling → List Entry → ℕ → List Telling
stop_tells ts before n =
    telling.node_stopped n
    ∷ (messages_stop ts n (line before (queue.Spawner n))
    ++ (arrivals_stop (line before (queue.Arrivals n))
    ++ (flat_map (attempt_stops ts n) (attempts_in ts n)
    ++ (flat_map (handshake_stops ts n) (handshakes_in ts n)
    ++ flat_map (connection_stops ts n) (connections_in ts n)))))

-- after these tellings and entries, with this name, at a moment and with a seed; of this reply, which took and put these
module _ (ts : List Telling) (before : List Entry) (name at seed : ℕ) (r : Reply) (items : List Item) (puts : List (Queue × Item)) where
  abbrev pub act_tells : Act → List Telling
  act_tells (act.Register c n rate) = told_unless_stopped ts n (telling.channel_registered n c rate ∷ [])
  act_tells (act.Start n) = told_unless_stopped ts n (telling.node_started n at ∷ [])
  act_tells (act.Stop by_start n) = told_unless_stopped ts n (stop_tells ts before n)
  act_tells (act.Send bytes c n priority to) = telling.sends_admitted n c at (admitted_in ts n c at to) ∷ []
  act_tells (act.Check c n to) = telling.sends_admitted n c at (admitted_in ts n c at to) ∷ check_tells n name c r
  act_tells (act.SendChecked bytes check priority) = telling.check_spent check ∷ []
  act_tells (act.Router n) = router_tells n items puts
  act_tells (act.SendStep conn n) = over_tells n conn r (half_in ts n conn) ++ done_tells r (sender_tells n conn at items puts)
  act_tells (act.RecvStep conn n) = over_tells n conn r (half_in ts n conn) ++ admitted_tells n conn at r items puts
  act_tells (act.Recv c n) = []
  act_tells (act.Close c n) = done_tells r (telling.reader_dropped n c ∷ [])
  act_tells (act.Ask what n) = []
  act_tells (act.Answer question) = when (is_peer_set r) (telling.question_answered question ∷ [])
  act_tells (act.Next question) = []
  act_tells (act.Tracker n) = tracker_tells before n at seed r items puts
  act_tells (act.Dialer n) = answer_tells n (last_or 0 (asks_list n) ts) name at seed items ++ ask_tells n at items puts
  act_tells (act.Listener n) = (arrival_tells n (admitted_as name r) items ++ (begun_tells n at (admitted_as name r) items ++ gates_tell r items)) ++ heard_tells n at r items
  act_tells (act.Handshake h n) =
      handshake_tells n h (link_over (handshake_in ts h)) (ends_handshake r items) items ++ when (broke_off r items puts) (listening_dropped (link_over (handshake_in ts h)))
  act_tells (act.Spawner n) = spawn_tells n name items
  act_tells (act.Attempt k n) = took_tells n k at seed items ++ left_tells n k (link_in ts n k) puts
  act_tells (act.Resolve addresses k n) = done_tells r (telling.addresses_told n k ∷ [])
  act_tells (act.Connect k from n to) = done_tells r (telling.dial_answered n k name ∷ link_tells n k name to puts)
  act_tells (act.Refuse k n) = done_tells r (telling.dial_answered n k name ∷ [])
  act_tells (act.Finish link ok) = done_tells r (telling.exchange_ended link ∷ [])
  act_tells (act.Cut link) = done_tells r (telling.link_cut link ∷ [])

-- what an entry tells, given what was told and the entries before it
unfoldable pub tells : List Telling → List Entry → Entry → List Telling
tells ts before e = act_tells ts before (length before) e.event.at e.event.seed e.reply (taken before e) e.puts e.event.act

-- ---- what a log tells, in order

abbrev pub told_by : List Entry → Entry → List Telling → List Telling
told_by before e ts = ts ++ tells ts before e

unfoldable pub told : List Entry → List Telling
told log = state_from told_by [] log []

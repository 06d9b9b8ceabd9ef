-- What an act may tell: where a test holds of none of that, it holds of nothing that the act tells. The one proof that looks at acts.
use Rattle.std.proofs.Common.{◌≡◌, ℕ, Bool, true, false, List, [], ◌∷◌, ◌++◌, refl, ap, ◌∙◌, Option, Some, None}
use Rattle.std.specs.Prelude.{◌&&◌, ◌||◌, not, flat_map}
use Rattle.std.specs.List.{list_any}
use Rattle.p2p_base.specs.declared.key.Key.{Key}
use Rattle.p2p_address.specs.declared.ip.IpAddr.{IpAddr}
use Rattle.p2p_address.specs.declared.ip.SocketAddr.{SocketAddr}
use Rattle.p2p_address.specs.declared.peer.Ingress.{Ingress}
use Rattle.p2p_tracker_calls.specs.declared.gates.Reply.TheVariants as gates
use Rattle.p2p_tracker_calls.specs.declared.gates.Reply.{Reply as Gates}
use Rattle.p2p_log.specs.declared.queue.Queue.{Queue}
use Rattle.p2p_log.specs.declared.queue.Queue.TheVariants as queue
use Rattle.p2p_log.specs.declared.queue.Side.{Side}
use Rattle.p2p_log.specs.declared.queue.Side.TheVariants as side
use Rattle.p2p_log.specs.declared.item.Item.{Item}
use Rattle.p2p_log.specs.declared.item.Item.TheVariants as item
use Rattle.p2p_log.specs.declared.item.Envelope.{Envelope}
use Rattle.p2p_log.specs.declared.entry.Entry.{Entry}
use Rattle.p2p_log.specs.declared.entry.Reply.{Reply}
use Rattle.p2p_log.specs.declared.entry.Reply.TheVariants as reply
use Rattle.p2p_log.specs.declared.event.Act.{Act}
use Rattle.p2p_log.specs.declared.event.Act.TheVariants as act
use Rattle.p2p_log.specs.Lines.{line}
use Rattle.p2p_log_rules.specs.declared.row.Half.{Half}
use Rattle.p2p_log_rules.specs.HalfSteps.{is_end, puts_ping, holds}
use Rattle.p2p_log_rules.specs.Halves.{half_in}
use Rattle.p2p_log_rules.specs.HandshakeSteps.{ends_handshake}
use Rattle.p2p_log_rules.specs.Puts.{gave_up, ends_attempt, broke_off, is_answer, turns_away, is_peer_set, arrival_link}
use Rattle.p2p_log_rules.specs.Tellings.{Telling, last_or}
use Rattle.p2p_log_rules.specs.Tellings as telling
use Rattle.p2p_log_rules.specs.Told.{stops_node, half_to_be, messages_stop, arrivals_stop, attempts_in, attempt_stops, handshakes_in, handshake_stops, connections_in, connection_stops, stop_tells, listening_dropped, received_tells, admitted_tells, check_tells, judged_tells, heard_tells, admitted_in, spawn_tells, admitted_as, begun_tells, arrival_tells, handshake_tells, sender_tells, over_tells, when, done_tells, asks_list, link_in, handshake_in, link_over, dialing_dropped, half_dropped, gates_tell, answer_tells, ask_tells, took_tells, left_tells, link_tells, act_tells}
use Rattle.p2p_log_rules.proofs.Routed.{NoneRouted, router_quiet}
use Rattle.std.proofs.lemmas.List.Folds.{list_any-append}
use Rattle.p2p_log_rules.proofs.Bools.{and_false, or_false}
use Rattle.p2p_log_rules.proofs.Tellings.{append_quiet, when_quiet, done_quiet}
use Rattle.p2p_log_rules.proofs.Tracked.{NoneTracked, tracker_quiet}

-- a test holds of nothing that a step of a node's dialer may tell
pub record NoneDialed (test : Telling → Bool) (m name at : ℕ) : Type 0 where
  pub list : (asked seed : ℕ) (next : Option ℕ) (peers : List Key) → test (telling.list_taken m asked seed next peers) ≡ false
  pub answer : test (telling.answer_taken m) ≡ false
  pub begun : (key : Key) (ingress : Ingress) → test (telling.attempt_begun m name key ingress at) ≡ false
  pub due : test (telling.dial_due m at) ≡ false
  pub dials : test (telling.dial_asked m) ≡ false
  pub asks : test (telling.list_asked m at) ≡ false

-- nor a step of an attempt
pub record NoneTried (test : Telling → Bool) (m e at : ℕ) : Type 0 where
  pub addresses : (seed : ℕ) (addresses : List SocketAddr) → test (telling.addresses_taken m e seed addresses) ≡ false
  pub link : test (telling.link_taken m e at) ≡ false
  pub ended : test (telling.attempt_ended m e) ≡ false
  pub drops : (link : ℕ) → test (telling.end_dropped link side.Out) ≡ false

-- nor a step of the receiving half of a connection
pub record NoneReceived (test : Telling → Bool) (m conn : ℕ) : Type 0 where
  pub over : test (telling.connection_ended m conn) ≡ false
  pub drops : (link : ℕ) (s : Side) → test (telling.end_dropped link s) ≡ false

-- nor one of its sending half
pub record NoneSent (test : Telling → Bool) (m conn at : ℕ) : Type 0 where
  pub step : test (telling.half_stepped m conn) ≡ false
  pub runs : test (telling.connection_ran m conn at) ≡ false
  pub pings : test (telling.ping_put m conn at) ≡ false

-- nor a step of a node's listener
pub record NoneListened (test : Telling → Bool) (m name at : ℕ) : Type 0 where
  pub took : (link : ℕ) (handshake : Option ℕ) → test (telling.arrival_taken m link handshake) ≡ false
  pub begun : (from : IpAddr) (key : Key) (link : ℕ) → test (telling.handshake_begun m name from key link at) ≡ false
  pub drops : (link : ℕ) → test (telling.end_dropped link side.In) ≡ false

-- nor a step of a handshake
pub record NoneShaken (test : Telling → Bool) (m h : ℕ) : Type 0 where
  pub took : (items : List Item) → test (telling.handshake_took m h items) ≡ false
  pub over : (link : Option ℕ) → test (telling.handshake_ended m h link) ≡ false
  pub drops : (link : ℕ) → test (telling.end_dropped link side.In) ≡ false

-- nor a step of a listener of what it took
pub record NoneHeard (test : Telling → Bool) (m at : ℕ) : Type 0 where
  pub update : (addresses : List IpAddr) → test (telling.update_taken m addresses) ≡ false
  pub arrival : (from : IpAddr) (g : Gates) → test (telling.arrival_judged m at from g) ≡ false

-- nor a stop of a node
pub record NoneStopped (test : Telling → Bool) (m : ℕ) : Type 0 where
  pub stops : test (telling.node_stopped m) ≡ false
  pub attempt : (k : ℕ) → test (telling.attempt_ended m k) ≡ false
  pub handshake : (h : ℕ) (link : Option ℕ) → test (telling.handshake_ended m h link) ≡ false
  pub connection : (conn : ℕ) → test (telling.connection_ended m conn) ≡ false
  pub drops : (link : ℕ) (s : Side) → test (telling.end_dropped link s) ≡ false

module _ (test : Telling → Bool) (name at : ℕ) where
  abbrev pub NoneTold : Act → Type 0
  NoneTold (act.Register c m rate) = test (telling.channel_registered m c rate) ≡ false
  NoneTold (act.Start m) = test (telling.node_started m at) ≡ false
  NoneTold (act.Stop by_start m) = NoneStopped test m
  NoneTold (act.Router m) = NoneRouted test m
  NoneTold (act.Tracker m) = NoneTracked test m at
  NoneTold (act.Send bytes c m priority to) = (keys : List Key) → test (telling.sends_admitted m c at keys) ≡ false
  NoneTold (act.Check c m to) = ((keys : List Key) → test (telling.sends_admitted m c at keys) ≡ false) × ((keys : List Key) → test (telling.check_made m name c keys) ≡ false)
  NoneTold (act.SendChecked bytes check priority) = test (telling.check_spent check) ≡ false
  NoneTold (act.SendStep conn m) = NoneReceived test m conn × NoneSent test m conn at
  NoneTold (act.RecvStep conn m) = NoneReceived test m conn × ((i : Item) → test (telling.item_admitted m conn at i) ≡ false)
  NoneTold (act.Close c m) = test (telling.reader_dropped m c) ≡ false
  NoneTold (act.Dialer m) = NoneDialed test m name at
  NoneTold (act.Listener m) = NoneListened test m name at × NoneHeard test m at
  NoneTold (act.Handshake h m) = NoneShaken test m h
  NoneTold (act.Spawner m) = (key : Key) (link : ℕ) → test (telling.connection_made m name key link) ≡ false
  NoneTold (act.Attempt e m) = NoneTried test m e at
  NoneTold (act.Resolve addresses e m) = test (telling.addresses_told m e) ≡ false
  NoneTold (act.Connect e from m to) = (test (telling.dial_answered m e name) ≡ false) × (test (telling.link_opened m e name to) ≡ false)
  NoneTold (act.Refuse e m) = test (telling.dial_answered m e name) ≡ false
  NoneTold (act.Finish link ok) = test (telling.exchange_ended link) ≡ false
  NoneTold (act.Cut link) = test (telling.link_cut link) ≡ false
  NoneTold (act.Answer question) = test (telling.question_answered question) ≡ false
  NoneTold _ = Unit {0}

  pub one : (t : Telling) → test t ≡ false → list_any test (t ∷ []) ≡ false
  one t h = ap (λ b. b || false) h

  more : (t : Telling) (ts : List Telling) → test t ≡ false → list_any test ts ≡ false → list_any test (t ∷ ts) ≡ false
  more t ts h k = ap (λ b. b || list_any test ts) h ∙ k

  half_quiet : (o : Option Half) → ((link : ℕ) (s : Side) → test (telling.end_dropped link s) ≡ false) → list_any test (half_dropped o) ≡ false
  half_quiet None h = refl
  half_quiet (Some half) h = one (telling.end_dropped half.link half.writes) (h half.link half.writes)

  pub turned_quiet : (o : Option ℕ) → ((link : ℕ) → test (telling.end_dropped link side.In) ≡ false) → list_any test (listening_dropped o) ≡ false
  turned_quiet None h = refl
  turned_quiet (Some link) h = one (telling.end_dropped link side.In) (h link)

  pub gates_quiet : (r : Reply) (items : List Item) → ((link : ℕ) → test (telling.end_dropped link side.In) ≡ false) → list_any test (gates_tell r items) ≡ false
  gates_quiet r items h = when_quiet test (turns_away r) (listening_dropped (arrival_link items)) (turned_quiet (arrival_link items) h)

  pub begun_quiet : (m : ℕ) (r : Reply) (items : List Item) → ((from : IpAddr) (key : Key) (link : ℕ) → test (telling.handshake_begun m name from key link at) ≡ false)
      → list_any test (begun_tells m at (admitted_as name r) items) ≡ false
  begun_quiet m (reply.Gates gates.Admitted) (item.Arrival from key link ∷ items) h = one (telling.handshake_begun m name from.ip key link at) (h from.ip key link)
  begun_quiet m (reply.Gates gates.Admitted) _ h = refl
  begun_quiet m (reply.Gates _) items h = refl
  begun_quiet m _ items h = refl

  pub arrival_quiet : (m : ℕ) (handshake : Option ℕ) (items : List Item) → ((link : ℕ) (o : Option ℕ) → test (telling.arrival_taken m link o) ≡ false) → list_any test (arrival_tells m handshake items) ≡ false
  arrival_quiet m handshake (item.Arrival from key link ∷ items) h = one (telling.arrival_taken m link handshake) (h link handshake)
  arrival_quiet m handshake _ h = refl

  pub listener_quiet : (m : ℕ) (r : Reply) (items : List Item) → NoneListened test m name at
      → list_any test (arrival_tells m (admitted_as name r) items ++ (begun_tells m at (admitted_as name r) items ++ gates_tell r items)) ≡ false
  listener_quiet m r items h =
      append_quiet test (arrival_tells m (admitted_as name r) items) (begun_tells m at (admitted_as name r) items ++ gates_tell r items) (arrival_quiet m (admitted_as name r) items h.took)
      (append_quiet test (begun_tells m at (admitted_as name r) items) (gates_tell r items) (begun_quiet m r items h.begun) (gates_quiet r items h.drops))

  shaken_quiet : (m h : ℕ) (link : Option ℕ) (over broke : Bool) (items : List Item) → NoneShaken test m h
      → list_any test (handshake_tells m h link over items ++ when broke (listening_dropped link)) ≡ false
  shaken_quiet m h link over broke items none =
      more (telling.handshake_took m h items) (when over (telling.handshake_ended m h link ∷ []) ++ when broke (listening_dropped link)) (none.took items)
      (append_quiet test (when over (telling.handshake_ended m h link ∷ [])) (when broke (listening_dropped link))
      (when_quiet test over (telling.handshake_ended m h link ∷ []) (one (telling.handshake_ended m h link) (none.over link)))
      (when_quiet test broke (listening_dropped link) (turned_quiet link none.drops)))

  -- what a half tells of its end is that its connection ended, or nothing of such things
  pub over_told : (m conn : ℕ) (r : Reply) (half : Option Half) → ((link : ℕ) (s : Side) → test (telling.end_dropped link s) ≡ false)
      → list_any test (over_tells m conn r half) ≡ (is_end r && test (telling.connection_ended m conn))
  over_told m conn r half drops = by (is_end r)
    where
      by : (b : Bool) → list_any test (when b (telling.connection_ended m conn ∷ half_dropped half)) ≡ (b && test (telling.connection_ended m conn))
      by true = ap (λ c. test (telling.connection_ended m conn) || c) (half_quiet half drops) ∙ or_false (test (telling.connection_ended m conn))
      by false = refl

  pub over_quiet : (m conn : ℕ) (r : Reply) (half : Option Half) → NoneReceived test m conn → list_any test (over_tells m conn r half) ≡ false
  over_quiet m conn r half h = over_told m conn r half h.drops ∙ (ap (λ b. is_end r && b) h.over ∙ and_false (is_end r))

  -- and what else it tells
  pub half_told : (m conn : ℕ) (r : Reply) (half : Option Half) (ts : List Telling) → ((link : ℕ) (s : Side) → test (telling.end_dropped link s) ≡ false)
      → list_any test (over_tells m conn r half ++ ts) ≡ ((is_end r && test (telling.connection_ended m conn)) || list_any test ts)
  half_told m conn r half ts drops = list_any-append test (over_tells m conn r half) ts ∙ ap (λ b. b || list_any test ts) (over_told m conn r half drops)

  pub sender_quiet : (m conn : ℕ) (r : Reply) (items : List Item) (puts : List (Queue × Item)) → NoneSent test m conn at → list_any test (done_tells r (sender_tells m conn at items puts)) ≡ false
  sender_quiet m conn r items puts h =
      done_quiet test r (sender_tells m conn at items puts)
      (more (telling.half_stepped m conn) (when (list_any is_answer items) (telling.connection_ran m conn at ∷ []) ++ when (puts_ping items puts) (telling.ping_put m conn at ∷ [])) h.step
      (append_quiet test (when (list_any is_answer items) (telling.connection_ran m conn at ∷ [])) (when (puts_ping items puts) (telling.ping_put m conn at ∷ []))
      (when_quiet test (list_any is_answer items) (telling.connection_ran m conn at ∷ []) (one (telling.connection_ran m conn at) h.runs))
      (when_quiet test (puts_ping items puts) (telling.ping_put m conn at ∷ []) (one (telling.ping_put m conn at) h.pings))))

  pub admitted_quiet : (m conn : ℕ) (r : Reply) (items : List Item) (puts : List (Queue × Item)) → ((i : Item) → test (telling.item_admitted m conn at i) ≡ false) → list_any test (admitted_tells m conn at r items puts) ≡ false
  admitted_quiet m conn r items puts h = when_quiet test (not (is_end r)) (received_tells m conn at items puts) (by items)
    where
      by : (items : List Item) → list_any test (received_tells m conn at items puts) ≡ false
      by [] = refl
      by (i ∷ items) = when_quiet test (not (holds puts)) (telling.item_admitted m conn at i ∷ []) (one (telling.item_admitted m conn at i) (h i))

  check_quiet : (m c : ℕ) (r : Reply) → ((keys : List Key) → test (telling.check_made m name c keys) ≡ false) → list_any test (check_tells m name c r) ≡ false
  check_quiet m c (reply.Checked keys) h = one (telling.check_made m name c keys) (h keys)
  check_quiet m c _ h = refl

  judged_quiet : (m : ℕ) (from : IpAddr) (r : Reply) → NoneHeard test m at → list_any test (judged_tells m at from r) ≡ false
  judged_quiet m from (reply.Gates g) h = one (telling.arrival_judged m at from g) (h.arrival from g)
  judged_quiet m from _ h = refl

  pub heard_quiet : (m : ℕ) (r : Reply) (items : List Item) → NoneHeard test m at → list_any test (heard_tells m at r items) ≡ false
  heard_quiet m r (item.Addresses addresses ∷ items) h = one (telling.update_taken m addresses) (h.update addresses)
  heard_quiet m r (item.Arrival from key link ∷ items) h = judged_quiet m from.ip r h
  heard_quiet m r _ h = refl

  answer_quiet : (m asked seed : ℕ) (items : List Item) → NoneDialed test m name at → list_any test (answer_tells m asked name at seed items) ≡ false
  answer_quiet m asked seed (item.Dialable next peers ∷ items) h = more (telling.list_taken m asked seed next peers) (telling.answer_taken m ∷ []) (h.list asked seed next peers) (one (telling.answer_taken m) h.answer)
  answer_quiet m asked seed (item.Dial (Some grant) ∷ items) h = more (telling.attempt_begun m name grant.0 grant.1 at) (telling.answer_taken m ∷ []) (h.begun grant.0 grant.1) (one (telling.answer_taken m) h.answer)
  answer_quiet m asked seed [] h = refl
  answer_quiet m asked seed _ h = one (telling.answer_taken m) h.answer

  pub ask_quiet : (m : ℕ) (items : List Item) (puts : List (Queue × Item)) → test (telling.dial_due m at) ≡ false → test (telling.dial_asked m) ≡ false → test (telling.list_asked m at) ≡ false
      → list_any test (ask_tells m at items puts) ≡ false
  ask_quiet m [] ((q, item.AskDial key) ∷ puts) due dials asks = more (telling.dial_due m at) (telling.dial_asked m ∷ []) due (one (telling.dial_asked m) dials)
  ask_quiet m (i ∷ items) ((q, item.AskDial key) ∷ puts) due dials asks = one (telling.dial_asked m) dials
  ask_quiet m items ((q, item.AskDialable) ∷ puts) due dials asks = one (telling.list_asked m at) asks
  ask_quiet m items _ due dials asks = refl

  took_quiet : (m e seed : ℕ) (items : List Item) → NoneTried test m e at → list_any test (took_tells m e at seed items) ≡ false
  took_quiet m e seed (item.Resolved addresses ∷ items) h = one (telling.addresses_taken m e seed addresses) (h.addresses seed addresses)
  took_quiet m e seed (item.Linked ∷ items) h = one (telling.link_taken m e at) h.link
  took_quiet m e seed _ h = refl

  pub cut_quiet : (o : Option ℕ) → ((link : ℕ) → test (telling.end_dropped link side.Out) ≡ false) → list_any test (dialing_dropped o) ≡ false
  cut_quiet None h = refl
  cut_quiet (Some link) h = one (telling.end_dropped link side.Out) (h link)

  spawn_quiet : (m : ℕ) (items : List Item) → ((key : Key) (link : ℕ) → test (telling.connection_made m name key link) ≡ false) → list_any test (spawn_tells m name items) ≡ false
  spawn_quiet m (item.Spawn key link ∷ items) h = one (telling.connection_made m name key link) (h key link)
  spawn_quiet m _ h = refl

  left_quiet : (m e : ℕ) (link : Option ℕ) (puts : List (Queue × Item)) → NoneTried test m e at → list_any test (left_tells m e link puts) ≡ false
  left_quiet m e link puts h =
      when_quiet test (ends_attempt puts) (telling.attempt_ended m e ∷ when (gave_up puts) (dialing_dropped link))
      (more (telling.attempt_ended m e) (when (gave_up puts) (dialing_dropped link)) h.ended (when_quiet test (gave_up puts) (dialing_dropped link) (cut_quiet link h.drops)))

  pub link_quiet : (m e to : ℕ) (puts : List (Queue × Item)) → test (telling.link_opened m e name to) ≡ false → list_any test (link_tells m e name to puts) ≡ false
  link_quiet m e to (told ∷ arrival ∷ puts) h = one (telling.link_opened m e name to) h
  link_quiet m e to _ h = refl

  pub step_quiet : (m e seed : ℕ) (items : List Item) (link : Option ℕ) (puts : List (Queue × Item)) → NoneTried test m e at → list_any test (took_tells m e at seed items ++ left_tells m e link puts) ≡ false
  step_quiet m e seed items link puts h = append_quiet test (took_tells m e at seed items) (left_tells m e link puts) (took_quiet m e seed items h) (left_quiet m e link puts h)

  pub connect_quiet : (m e to : ℕ) (r : Reply) (puts : List (Queue × Item)) → test (telling.dial_answered m e name) ≡ false → test (telling.link_opened m e name to) ≡ false
      → list_any test (done_tells r (telling.dial_answered m e name ∷ link_tells m e name to puts)) ≡ false
  connect_quiet m e to r puts h k =
      done_quiet test r (telling.dial_answered m e name ∷ link_tells m e name to puts) (more (telling.dial_answered m e name) (link_tells m e name to puts) h (link_quiet m e to puts k))

  -- of what each tells of the things that end with a node
  each_quiet : {X : Type 0} (f : X → List Telling) (xs : List X) → ((x : X) → list_any test (f x) ≡ false) → list_any test (flat_map f xs) ≡ false
  each_quiet f [] h = refl
  each_quiet f (x ∷ xs) h = append_quiet test (f x) (flat_map f xs) (h x) (each_quiet f xs h)

  pub stop_quiet : (ts : List Telling) (before : List Entry) (m : ℕ) → NoneStopped test m → list_any test (stop_tells ts before m) ≡ false
  stop_quiet ts before m h =
      more (telling.node_stopped m)
      (messages_stop ts m messages ++ (arrivals_stop arrivals ++ (flat_map (attempt_stops ts m) (attempts_in ts m) ++ (flat_map (handshake_stops ts m) (handshakes_in ts m) ++ flat_map (connection_stops ts m) (connections_in ts m)))))
      h.stops
      (append_quiet test (messages_stop ts m messages)
      (arrivals_stop arrivals ++ (flat_map (attempt_stops ts m) (attempts_in ts m) ++ (flat_map (handshake_stops ts m) (handshakes_in ts m) ++ flat_map (connection_stops ts m) (connections_in ts m))))
      (each_quiet (λ (x : Envelope). half_dropped (half_to_be ts m x.item)) messages (λ x. half_quiet (half_to_be ts m x.item) h.drops))
      (append_quiet test (arrivals_stop arrivals)
      (flat_map (attempt_stops ts m) (attempts_in ts m) ++ (flat_map (handshake_stops ts m) (handshakes_in ts m) ++ flat_map (connection_stops ts m) (connections_in ts m)))
      (each_quiet (λ (x : Envelope). listening_dropped (arrival_link (x.item ∷ []))) arrivals (λ x. turned_quiet (arrival_link (x.item ∷ [])) (λ link. h.drops link side.In)))
      (append_quiet test (flat_map (attempt_stops ts m) (attempts_in ts m))
      (flat_map (handshake_stops ts m) (handshakes_in ts m) ++ flat_map (connection_stops ts m) (connections_in ts m))
      (each_quiet (attempt_stops ts m) (attempts_in ts m) (λ k. more (telling.attempt_ended m k) (dialing_dropped (link_in ts m k)) (h.attempt k) (cut_quiet (link_in ts m k) (λ link. h.drops link side.Out))))
      (append_quiet test (flat_map (handshake_stops ts m) (handshakes_in ts m)) (flat_map (connection_stops ts m) (connections_in ts m))
      (each_quiet (handshake_stops ts m) (handshakes_in ts m)
      (λ k. more (telling.handshake_ended m k (link_over (handshake_in ts k))) (listening_dropped (link_over (handshake_in ts k))) (h.handshake k (link_over (handshake_in ts k)))
      (turned_quiet (link_over (handshake_in ts k)) (λ link. h.drops link side.In))))
      (each_quiet (connection_stops ts m) (connections_in ts m)
      (λ conn. more (telling.connection_ended m conn) (half_dropped (half_in ts m conn)) (h.connection conn) (half_quiet (half_in ts m conn) h.drops)))))))
    where
      messages : List Envelope
      messages = line before (queue.Spawner m)

      arrivals : List Envelope
      arrivals = line before (queue.Arrivals m)

  pub quiet_act : (ts : List Telling) (before : List Entry) (seed : ℕ) (r : Reply) (items : List Item) (puts : List (Queue × Item)) (a : Act) → NoneTold a
      → list_any test (act_tells ts before name at seed r items puts a) ≡ false
  quiet_act ts before seed r items puts (act.Router m) h = router_quiet test m h items puts
  quiet_act ts before seed r items puts (act.Register c m rate) h =
      when_quiet test (not (list_any (stops_node m) ts)) (telling.channel_registered m c rate ∷ []) (one (telling.channel_registered m c rate) h)
  quiet_act ts before seed r items puts (act.Start m) h = when_quiet test (not (list_any (stops_node m) ts)) (telling.node_started m at ∷ []) (one (telling.node_started m at) h)
  quiet_act ts before seed r items puts (act.Stop by_start m) h = when_quiet test (not (list_any (stops_node m) ts)) (stop_tells ts before m) (stop_quiet ts before m h)
  quiet_act ts before seed r items puts (act.Send bytes c m priority to) h = one (telling.sends_admitted m c at (admitted_in ts m c at to)) (h (admitted_in ts m c at to))
  quiet_act ts before seed r items puts (act.Check c m to) h = more (telling.sends_admitted m c at (admitted_in ts m c at to)) (check_tells m name c r) (h.0 (admitted_in ts m c at to)) (check_quiet m c r h.1)
  quiet_act ts before seed r items puts (act.SendChecked bytes check priority) h = one (telling.check_spent check) h
  quiet_act ts before seed r items puts (act.SendStep conn m) h =
      append_quiet test (over_tells m conn r (half_in ts m conn)) (done_tells r (sender_tells m conn at items puts)) (over_quiet m conn r (half_in ts m conn) h.0) (sender_quiet m conn r items puts h.1)
  quiet_act ts before seed r items puts (act.RecvStep conn m) h =
      append_quiet test (over_tells m conn r (half_in ts m conn)) (admitted_tells m conn at r items puts) (over_quiet m conn r (half_in ts m conn) h.0) (admitted_quiet m conn r items puts h.1)
  quiet_act ts before seed r items puts (act.Close c m) h = done_quiet test r (telling.reader_dropped m c ∷ []) (one (telling.reader_dropped m c) h)
  quiet_act ts before seed r items puts (act.Tracker m) h = tracker_quiet test m at h before seed r items puts
  quiet_act ts before seed r items puts (act.Dialer m) h =
      append_quiet test (answer_tells m (last_or 0 (asks_list m) ts) name at seed items) (ask_tells m at items puts) (answer_quiet m (last_or 0 (asks_list m) ts) seed items h) (ask_quiet m items puts h.due h.dials h.asks)
  quiet_act ts before seed r items puts (act.Listener m) h =
      append_quiet test (arrival_tells m (admitted_as name r) items ++ (begun_tells m at (admitted_as name r) items ++ gates_tell r items)) (heard_tells m at r items) (listener_quiet m r items h.0) (heard_quiet m r items h.1)
  quiet_act ts before seed r items puts (act.Handshake e m) h = shaken_quiet m e (link_over (handshake_in ts e)) (ends_handshake r items) (broke_off r items puts) items h
  quiet_act ts before seed r items puts (act.Spawner m) h = spawn_quiet m items h
  quiet_act ts before seed r items puts (act.Attempt e m) h = step_quiet m e seed items (link_in ts m e) puts h
  quiet_act ts before seed r items puts (act.Resolve addresses e m) h = done_quiet test r (telling.addresses_told m e ∷ []) (one (telling.addresses_told m e) h)
  quiet_act ts before seed r items puts (act.Connect e from m to) h = connect_quiet m e to r puts h.0 h.1
  quiet_act ts before seed r items puts (act.Refuse e m) h = done_quiet test r (telling.dial_answered m e name ∷ []) (one (telling.dial_answered m e name) h)
  quiet_act ts before seed r items puts (act.Finish link ok) h = done_quiet test r (telling.exchange_ended link ∷ []) (one (telling.exchange_ended link) h)
  quiet_act ts before seed r items puts (act.Cut link) h = done_quiet test r (telling.link_cut link ∷ []) (one (telling.link_cut link) h)
  quiet_act ts before seed r items puts (act.Answer question) h = when_quiet test (is_peer_set r) (telling.question_answered question ∷ []) (one (telling.question_answered question) h)
  quiet_act ts before seed r items puts _ h = refl

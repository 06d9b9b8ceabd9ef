-- Steps of one connection, worked out. It is connection 24, of node 1 with key 2, which began it: channel 7 has one message a second, a
-- bit vector is due every ten, and the link takes each frame. Moments are in seconds.
use Rattle.std.proofs.Common.{◌≡◌, ℕ, Bool, true, false, not, ◌==◌, List, [], ◌∷◌, length, Some, None, refl}
use Rattle.std.specs.Prelude.{Ok}
use Rattle.std.specs.Ordering.{nat_cmp}
use Rattle.p2p_address.specs.declared.ip.IpAddr.TheVariants.{V4}
use Rattle.p2p_address.specs.declared.peer.Ingress.TheVariants.{Socket}
use Rattle.p2p_base.specs.Queue.{empty_queue, closed_queue, with_items}
use Rattle.p2p_flow.specs.Lanes.{empty_lanes}
use Rattle.p2p_flow_connection.specs.Arriving.{Arrived, nothing_arrived, with_channel}
use Rattle.p2p_flow_connection.specs.Batching.{filled}
use Rattle.p2p_flow_connection.specs.Intake.{Intake}
use Rattle.p2p_flow_connection.specs.Limiting.{fresh}
use Rattle.p2p_flow_connection.specs.declared.delivered.Delivered.TheVariants as delivered
use Rattle.p2p_flow_connection.specs.declared.error.Error.TheVariants as cause
use Rattle.p2p_router.specs.Routes.{Routes, new_routes}
use Rattle.p2p_runtime.specs.QuotaLaw.{rate_of}
use Rattle.p2p_wire.specs.declared.frame.Data.{Data}
use Rattle.p2p_discovery.specs.Spelling.{spelled}
use Rattle.p2p_discovery.specs.Verifying.{first_fault}
use Rattle.p2p_discovery.specs.declared.bit_vec.BitVec.{BitVec}
use Rattle.p2p_discovery.specs.declared.info.Info.{Info}
use Rattle.p2p_discovery.specs.declared.payload.Payload.{Payload}
use Rattle.p2p_discovery.specs.declared.payload.Payload.TheVariants as payload
use Rattle.p2p_discovery.specs.declared.types.error.Error.TheVariants as fault
use Rattle.p2p_discovery_directory.specs.Asking.{Way, new_way, with_message, with_answer}
use Rattle.p2p_discovery_directory.specs.declared.metadata.Metadata.TheVariants as metadata
use Rattle.p2p_discovery_directory.specs.declared.peer.message.Message.{Message}
use Rattle.p2p_discovery_directory.specs.declared.peer.message.Message.TheVariants as message
use Rattle.p2p_discovery_directory.specs.declared.tracker.answer.Answer.TheVariants as answer
use Rattle.p2p_discovery_directory.specs.declared.tracker.message.Message.TheVariants as tracker
use Rattle.p2p_discovery_peer.specs.Connection.{Connection}
use Rattle.p2p_discovery_peer.specs.Judging.{Judge, judge}
use Rattle.p2p_discovery_peer.specs.Receiving.{with_payload, receive_answer, after_receive, way_received}
use Rattle.p2p_discovery_peer.specs.Sending.{send_answer, after_send, way_sent}
use Rattle.p2p_discovery_peer.specs.Sparing.{spares_first}
use Rattle.p2p_discovery_peer.specs.declared.peer.config.Limits.{Limits}
use Rattle.p2p_discovery_peer.specs.declared.peer.error.Error.TheVariants as error
use Rattle.p2p_discovery_peer.specs.declared.peer.gossip.GossipKind.TheVariants as kind
use Rattle.p2p_discovery_peer.specs.declared.peer.live.Live.{Live}
use Rattle.p2p_discovery_peer.specs.declared.peer.live.Stage.{Stage}
use Rattle.p2p_discovery_peer.specs.declared.peer.live.Stage.TheVariants as stage
use Rattle.p2p_discovery_peer.specs.declared.peer.stepped.Stepped.{Stepped}
use Rattle.p2p_discovery_peer.specs.declared.peer.stepped.Stepped.TheVariants as stepped

-- ---- the connection

abbrev limits : Limits
limits = record { mailbox_size = 4; send_batch_size = 2; gossip_bit_vec_frequency = 10; payload = record { max_bit_vec = 8; max_peers = 1; max_data_length = 1024 } }

abbrev intake : Intake ℕ
intake = record { channels = (7, rate_of 1 1) ∷ []; limiters = (7, fresh (rate_of 1 1)) ∷ []; held = None }

abbrev live : Stage ℕ → Bool → Live ℕ
live s greeted = record {
  reservation = metadata.Listener 2;
  stage = s;
  is_greeted = greeted;
  inbox = intake;
  bit_vecs = spares_first (rate_of 1 5);
  peers = spares_first (rate_of 1 5);
  held = None;
}

abbrev told : List (Message ℕ) → Stage ℕ → Bool → Connection ℕ
told messages s greeted = record { conn = 24; limits = limits; control = with_items (empty_queue 4) messages; live = Some (live s greeted); failed = false }

abbrev at : Stage ℕ → Connection ℕ
at s = told [] s true

-- it runs, was greeted, and its next bit vector is due at this moment
abbrev running : ℕ → Connection ℕ
running due_at = at (stage.Running due_at)

-- once it ended: nothing is left, and it is told nothing more
abbrev ended : Connection ℕ
ended = record { conn = 24; limits = limits; control = closed_queue (empty_queue 4); live = None; failed = false }

abbrev bytes_of : ℕ → List ℕ
bytes_of key = key ∷ []

abbrev info : ℕ → List ℕ → Info ℕ
info key signature = record { ingress = Socket (record { ip = V4 (10 ∷ 0 ∷ 0 ∷ 2 ∷ []); port = 3000 }); timestamp = 0; public_key = key; signature = signature }

abbrev signed : ℕ → Info ℕ
signed key = info key (key ∷ [])

abbrev bits : BitVec
bits = record { index = 5; bits = true ∷ false ∷ [] }

abbrev byte : Data
byte = record { channel = 7; message = 109 ∷ [] }

-- ---- the sending half

abbrev unrouted : Routes ℕ
unrouted = new_routes

abbrev routed : Routes ℕ
routed = record { links = (2, record { conn = 24; relay = empty_lanes 4 }) ∷ []; peers = (24, 2) ∷ []; subscriptions = []; failed = false }

abbrev way : Way ℕ
way = new_way 4

abbrev sends : Connection ℕ → Routes ℕ → Way ℕ → ℕ → Stepped ℕ
sends c r w now = send_answer bytes_of nat_cmp c r w now 1

abbrev sent : Connection ℕ → Routes ℕ → Way ℕ → ℕ → Connection ℕ
sent c r w now = after_send bytes_of nat_cmp c r w now (sends c r w now)

begins : sends (at stage.New) unrouted way 0 ≡ stepped.Started
begins = refl

tells_its_tracker : way_sent (at stage.New) stepped.Started way ≡ with_message way (tracker.Connect 2 false 24)
tells_its_tracker = refl

waits_for_its_tracker : sends (at stage.Asking) unrouted way 0 ≡ stepped.Idle
waits_for_its_tracker = refl

may_connect : sends (at stage.Asking) unrouted (with_answer way 24 (answer.Greeting (signed 1))) 0 ≡ stepped.Announced
may_connect = refl

may_not_connect : sends (at stage.Asking) unrouted (with_answer way 24 answer.NotEligible) 0 ≡ stepped.NotEligible
may_not_connect = refl

ends_unannounced : sent (at stage.Asking) unrouted (with_answer way 24 answer.NotEligible) 0 ≡ ended
ends_unannounced = refl

gives_back_its_peer : way_sent (at stage.Asking) stepped.NotEligible (with_answer way 24 answer.NotEligible) ≡ with_message way (tracker.Release (metadata.Listener 2))
gives_back_its_peer = refl

waits_for_its_router : sends (at (stage.Greeting (signed 1))) unrouted way 0 ≡ stepped.Idle
waits_for_its_router = refl

greets_first : sends (at (stage.Greeting (signed 1))) routed way 0 ≡ stepped.Running (spelled bytes_of (payload.Greeting (signed 1)) ∷ [])
greets_first = refl

runs_then : sent (at (stage.Greeting (signed 1))) routed way 0 ≡ running 0
runs_then = refl

asks_at_once : sends (running 0) routed way 0 ≡ stepped.Asked
asks_at_once = refl

asks_its_tracker : way_sent (running 0) stepped.Asked way ≡ with_message way (tracker.Construct 2)
asks_its_tracker = refl

next_is_due : sent (running 0) routed way 0 ≡ running 10
next_is_due = refl

not_yet_due : sends (running 10) routed way 9 ≡ stepped.Idle
unfolding filled
not_yet_due = refl

due_again : sends (running 10) routed way 10 ≡ stepped.Asked
due_again = refl

sends_what_it_is_told : sends (told (message.BitVec bits ∷ []) (stage.Running 10) true) routed way 9 ≡ stepped.Sent (spelled bytes_of (payload.BitVec bits) ∷ [])
unfolding filled
sends_what_it_is_told = refl

is_killed : sends (told (message.Kill ∷ []) (stage.Running 10) true) routed way 9 ≡ stepped.Ended (error.Connection (cause.Killed 2)) [] 0
unfolding filled
is_killed = refl

-- also where something else is sent first
is_killed_in_a_batch : sends (told (message.Peers (signed 3 ∷ []) ∷ message.Kill ∷ []) (stage.Running 10) true) routed way 9 ≡ stepped.Ended (error.Connection (cause.Killed 2)) [] 0
unfolding filled
is_killed_in_a_batch = refl

ends_once : sent (told (message.Kill ∷ []) (stage.Running 10) true) routed way 9 ≡ ended
unfolding filled
ends_once = refl

is_at_rest : sends ended routed way 20 ≡ stepped.Idle
is_at_rest = refl

-- ---- the receiving half

abbrev believed : Judge ℕ
believed = judge (λ a b. a == b) (record { me = 1; max_count = 1; bound = 1; namespace = [] }) (λ key namespace bytes signature. not (length signature == 0)) 0

-- one place for channel 7
abbrev mailboxes : Arrived ℕ
mailboxes = with_channel nothing_arrived 7 2

abbrev hears : Connection ℕ → Payload ℕ → ℕ → Stepped ℕ
hears c p now = receive_answer (λ frame. Ok p) believed c mailboxes way now (Ok (Some []))

abbrev heard : Connection ℕ → Payload ℕ → ℕ → Connection ℕ
heard c p now = after_receive (λ frame. Ok p) believed c mailboxes way now (Ok (Some [])) (hears c p now)

abbrev ungreeted : Connection ℕ
ungreeted = told [] (stage.Running 10) false

not_before_it_runs : hears (at stage.Asking) (payload.Greeting (signed 2)) 0 ≡ stepped.Idle
not_before_it_runs = refl

is_greeted : hears ungreeted (payload.Greeting (signed 2)) 0 ≡ stepped.Greeted
unfolding with_payload
is_greeted = refl

tells_of_its_peer : way_received (λ frame. Ok (payload.Greeting (signed 2))) believed ungreeted mailboxes way 0 (Ok (Some [])) stepped.Greeted ≡ with_message way (tracker.Peers (signed 2 ∷ []))
unfolding with_payload
tells_of_its_peer = refl

no_message_before : hears ungreeted (payload.Data byte) 0 ≡ stepped.Ended error.MissingGreeting [] 0
unfolding with_payload
no_message_before = refl

no_bit_vector_before : hears ungreeted (payload.BitVec bits) 0 ≡ stepped.Ended error.MissingGreeting [] 0
unfolding with_payload
no_bit_vector_before = refl

no_infos_before : hears ungreeted (payload.Peers (signed 3 ∷ [])) 0 ≡ stepped.Ended error.MissingGreeting [] 0
unfolding with_payload
no_infos_before = refl

greeting_of_another : hears ungreeted (payload.Greeting (signed 3)) 0 ≡ stepped.Ended error.GreetingMismatch [] 0
unfolding with_payload
greeting_of_another = refl

greeting_that_nobody_signed : hears ungreeted (payload.Greeting (info 2 [])) 0 ≡ stepped.Ended (error.Types fault.InvalidSignature) [] 0
unfolding with_payload
greeting_that_nobody_signed = refl

second_greeting : hears (running 10) (payload.Greeting (signed 2)) 0 ≡ stepped.Ended error.DuplicateGreeting [] 0
unfolding with_payload
second_greeting = refl

too_many_infos : hears (running 10) (payload.Peers (signed 3 ∷ signed 4 ∷ [])) 0 ≡ stepped.Ended (error.Types (fault.TooManyPeers 2)) [] 0
unfolding with_payload first_fault
too_many_infos = refl

-- a message is delivered; a second one is held until its quota admits it, and then goes before what the link has
delivers : hears (running 10) (payload.Data byte) 0 ≡ stepped.Received false byte delivered.Kept
unfolding with_payload
delivers = refl

abbrev delivered_one : Connection ℕ
delivered_one = heard (running 10) (payload.Data byte) 0

holds : hears delivered_one (payload.Data byte) 0 ≡ stepped.Received false byte delivered.Held
unfolding with_payload
holds = refl

abbrev holding_one : Connection ℕ
holding_one = heard delivered_one (payload.Data byte) 0

still_holds : hears holding_one (payload.BitVec bits) 0 ≡ stepped.Idle
unfolding with_payload
still_holds = refl

delivers_what_it_held : hears holding_one (payload.BitVec bits) 1 ≡ stepped.Received true byte delivered.Kept
unfolding with_payload
delivers_what_it_held = refl

-- the first bit vector takes no cell, the second does, and the third is held for five seconds; infos behind it wait
first_skips_its_quota : hears (running 10) (payload.BitVec bits) 0 ≡ stepped.Gossiped kind.BitVec false true
unfolding with_payload
first_skips_its_quota = refl

abbrev one_bit_vector : Connection ℕ
one_bit_vector = heard (running 10) (payload.BitVec bits) 0

second_takes_a_cell : hears one_bit_vector (payload.BitVec bits) 0 ≡ stepped.Gossiped kind.BitVec false true
unfolding with_payload
second_takes_a_cell = refl

abbrev two_bit_vectors : Connection ℕ
two_bit_vectors = heard one_bit_vector (payload.BitVec bits) 0

third_is_held : hears two_bit_vectors (payload.BitVec bits) 0 ≡ stepped.Gossiped kind.BitVec false false
unfolding with_payload
third_is_held = refl

abbrev three_bit_vectors : Connection ℕ
three_bit_vectors = heard two_bit_vectors (payload.BitVec bits) 0

infos_wait_behind_it : hears three_bit_vectors (payload.Peers (signed 3 ∷ [])) 4 ≡ stepped.Idle
unfolding with_payload
infos_wait_behind_it = refl

passes_at_last : hears three_bit_vectors (payload.Peers (signed 3 ∷ [])) 5 ≡ stepped.Gossiped kind.BitVec true true
unfolding with_payload
passes_at_last = refl

first_infos_skip_theirs : hears (heard three_bit_vectors (payload.Peers (signed 3 ∷ [])) 5) (payload.Peers (signed 3 ∷ [])) 5 ≡ stepped.Gossiped kind.Peers false true
unfolding with_payload first_fault
first_infos_skip_theirs = refl

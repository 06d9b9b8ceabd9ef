-- A step of the receiving half is idle exactly where no input is ready.
use Rattle.std.proofs.Common.{◌≡◌, ℕ, Bool, true, false, cond, List, [], Option, Some, None, Result, Ok, Err, refl}
use Rattle.std.specs.Prelude.{not, ◌&&◌}
use Rattle.p2p_base.specs.declared.outcome.Sent.{Sent}
use Rattle.p2p_base.specs.declared.outcome.Sent.TheVariants as sent
use Rattle.p2p_flow_connection.specs.Arriving.{Arrived, arrival_answer}
use Rattle.p2p_flow_connection.specs.Delivering.{delivered_by, verdict_at, arrival_of}
use Rattle.p2p_peer_shared.specs.Hearing.{comes, passes}
use Rattle.p2p_runtime.specs.declared.streams.Failed.{Failed}
use Rattle.p2p_wire.specs.declared.error.CodecError.{CodecError}
use Rattle.p2p_wire.specs.declared.frame.Data.{Data}
use Rattle.p2p_discovery.specs.declared.types.error.Error.{Error as Fault}
use Rattle.p2p_discovery_directory.specs.Reserved.{peer_of}
use Rattle.p2p_discovery_directory.specs.Asking.{Way}
use Rattle.p2p_discovery.specs.declared.payload.Payload.{Payload}
use Rattle.p2p_discovery.specs.declared.payload.Payload.TheVariants as payload
use Rattle.p2p_discovery_peer.specs.Connection.{Connection}
use Rattle.p2p_discovery_peer.specs.Judging.{Judge}
use Rattle.p2p_discovery_peer.specs.Ready.{is_idle, receives_held, receives_kept, receives_of, receives}
use Rattle.p2p_discovery_peer.specs.Receiving.{Received, is_running, received_as, only, told_as, admitted_as, refused_as, gossip_admitted, greeting_judged, with_data, with_gossip, with_payload, with_decoded, with_heard, with_held, with_kept, receive_answer, receive_answer_of}
use Rattle.p2p_discovery_peer.specs.Sparing.{kind_of}
use Rattle.p2p_discovery_peer.specs.declared.peer.error.Error.TheVariants as error
use Rattle.p2p_discovery_peer.specs.declared.peer.gossip.Gossip.{Gossip}
use Rattle.p2p_discovery_peer.specs.declared.peer.gossip.Gossip.TheVariants as gossip
use Rattle.p2p_discovery_peer.specs.declared.peer.live.Live.{Live}
use Rattle.p2p_discovery_peer.specs.declared.peer.stepped.Stepped.TheVariants as stepped

told_busy : (P : Type 0) (was_held : Bool) (f : Option Fault) → is_idle {P = P} (told_as was_held f) ≡ false
told_busy P was_held None = refl
told_busy P was_held (Some f) = refl

judged_busy : (P : Type 0) (f : Option Fault) → is_idle {P = P} (greeting_judged f) ≡ false
judged_busy P None = refl
judged_busy P (Some f) = refl

same_busy : (P : Type 0) (same : Bool) (f : Option Fault) → is_idle {P = P} (cond same (greeting_judged f) (stepped.Ended error.GreetingMismatch [] 0)) ≡ false
same_busy P true f = judged_busy P f
same_busy P false f = refl

greeting_busy : (P : Type 0) (again same : Bool) (f : Option Fault)
    → is_idle {P = P} (cond again (stepped.Ended error.DuplicateGreeting [] 0) (cond same (greeting_judged f) (stepped.Ended error.GreetingMismatch [] 0))) ≡ false
greeting_busy P true same f = refl
greeting_busy P false same f = same_busy P same f

module _ {P : Type 0} where
  -- a message that was held is no input while its quota refuses it
  message_held : (verdict : Option Bool) (answer : Sent (P × List ℕ)) (m : Data) → is_idle (received_as true m (delivered_by verdict answer)) ≡ not (passes verdict)
  message_held None answer m = refl
  message_held (Some false) answer m = refl
  message_held (Some true) sent.Ok m = refl
  message_held (Some true) sent.Backoff m = refl
  message_held (Some true) (sent.Rejected back) m = refl
  message_held (Some true) (sent.Closed back) m = refl

  -- one that comes is
  message_comes : (verdict : Option Bool) (answer : Sent (P × List ℕ)) (m : Data) → is_idle (received_as false m (delivered_by verdict answer)) ≡ false
  message_comes None answer m = refl
  message_comes (Some false) answer m = refl
  message_comes (Some true) sent.Ok m = refl
  message_comes (Some true) sent.Backoff m = refl
  message_comes (Some true) (sent.Rejected back) m = refl
  message_comes (Some true) (sent.Closed back) m = refl

  module _ (j : Judge P) where
    admitted_busy : (was_held : Bool) (g : Gossip P) → is_idle (admitted_as j was_held g) ≡ false
    admitted_busy was_held (gossip.BitVec bits) = refl
    admitted_busy was_held (gossip.Peers infos) = told_busy P was_held (j.faults infos)

    -- what was held is no input while its quota refuses it
    gossip_held : (admitted : Bool) (g : Gossip P) → is_idle (cond admitted (admitted_as j true g) (refused_as true (kind_of g))) ≡ not admitted
    gossip_held true g = admitted_busy true g
    gossip_held false g = refl

    -- what comes is
    gossip_comes : (admitted : Bool) (g : Gossip P) → is_idle (cond admitted (admitted_as j false g) (refused_as false (kind_of g))) ≡ false
    gossip_comes true g = admitted_busy false g
    gossip_comes false g = refl

  -- what comes before the greeting ends the connection
  by_greeted : (greeted : Bool) (x : Received P) (l : Live P) (a : Arrived P) (w : Way P) → is_idle x.stepped ≡ false
      → is_idle (cond greeted x (only (stepped.Ended error.MissingGreeting [] 0) l a w)).stepped ≡ false
  by_greeted true x l a w busy = busy
  by_greeted false x l a w busy = refl

  module _ (j : Judge P) (now : ℕ) (l : Live P) (a : Arrived P) (w : Way P) where
    payload_busy : (p : Payload P) → is_idle (with_payload j now p l a w).stepped ≡ false
    unfolding with_payload
    payload_busy (payload.Greeting info) = greeting_busy P l.is_greeted (j.is_same info.public_key (peer_of l.reservation)) (j.fault info)
    payload_busy (payload.Data m) =
        by_greeted l.is_greeted (with_data now false (peer_of l.reservation) m l a w) l a w
        (message_comes (verdict_at l.inbox m now) (arrival_answer a m.channel (arrival_of (peer_of l.reservation) m)) m)
    payload_busy (payload.BitVec bits) =
        by_greeted l.is_greeted (with_gossip j now false (gossip.BitVec bits) l a w) l a w
        (gossip_comes j (gossip_admitted now (gossip.BitVec bits) l) (gossip.BitVec bits))
    payload_busy (payload.Peers infos) =
        by_greeted l.is_greeted (with_gossip j now false (gossip.Peers infos) l a w) l a w
        (gossip_comes j (gossip_admitted now (gossip.Peers infos) l) (gossip.Peers infos))

    decoded_busy : (d : Result (Payload P) CodecError) → is_idle (with_decoded j now d l a w).stepped ≡ false
    decoded_busy (Err e) = refl
    decoded_busy (Ok p) = payload_busy p

    module _ (says : List ℕ → Result (Payload P) CodecError) where
      heard_of : (heard : Result (Option (List ℕ)) Failed) → is_idle (with_heard says j now heard l a w).stepped ≡ not (comes heard)
      heard_of (Err f) = refl
      heard_of (Ok None) = refl
      heard_of (Ok (Some frame)) = decoded_busy (says frame)

      held_of : (o : Option (P × Data)) (heard : Result (Option (List ℕ)) Failed) → is_idle (with_held says j now o heard l a w).stepped ≡ not (receives_held l now heard o)
      held_of None heard = heard_of heard
      held_of (Some h) heard = message_held (verdict_at l.inbox h.1 now) (arrival_answer a h.1.channel (arrival_of h.0 h.1)) h.1

      kept_of : (o : Option (Gossip P)) (heard : Result (Option (List ℕ)) Failed) → is_idle (with_kept says j now o heard l a w).stepped ≡ not (receives_kept l now heard o)
      kept_of None heard = held_of l.inbox.held heard
      kept_of (Some g) heard = gossip_held j (gossip_admitted now g l) g

      by_stage : (running : Bool) (heard : Result (Option (List ℕ)) Failed)
          → is_idle (cond running (with_kept says j now l.held heard l a w) (only stepped.Idle l a w)).stepped ≡ not (running && receives_kept l now heard l.held)
      by_stage true heard = kept_of l.held heard
      by_stage false heard = refl

  module _ (says : List ℕ → Result (Payload P) CodecError) (j : Judge P) (c : Connection P) (a : Arrived P) (w : Way P) (now : ℕ) (heard : Result (Option (List ℕ)) Failed) where
    while_live : (o : Option (Live P)) → is_idle (receive_answer_of says j c a w now heard o) ≡ not (receives_of now heard o)
    while_live None = refl
    while_live (Some l) = by_stage j now l a w says (is_running l.stage) heard

    pub receive-idle : is_idle (receive_answer says j c a w now heard) ≡ not (receives c now heard)
    receive-idle = while_live c.live

-- What the receiving half of a connection does, by its first ready input: while something is held, that, once its quota admits it; and
-- otherwise a frame of the link, or a fault.
use Rattle.std.specs.Prelude.{ℕ, Bool, true, false, not, ◌&&◌, cond, List, [], ◌∷◌, Option, Some, None, is_some, Result, Ok, Err}
use Rattle.p2p_flow_connection.specs.Arriving.{Arrived}
use Rattle.p2p_flow_connection.specs.Intake.{Intake}
use Rattle.p2p_flow_connection.specs.Delivering.{deliver_answer, after_deliver, arrived_after}
use Rattle.p2p_flow_connection.specs.declared.delivered.Delivered.{Delivered}
use Rattle.p2p_flow_connection.specs.declared.delivered.Delivered.TheVariants as delivered
use Rattle.p2p_flow_connection.specs.declared.error.Error.TheVariants as cause
use Rattle.p2p_peer_shared.specs.Hearing.{heard_by}
use Rattle.p2p_runtime.specs.declared.streams.Failed.{Failed}
use Rattle.p2p_wire.specs.declared.error.CodecError.{CodecError}
use Rattle.p2p_wire.specs.declared.frame.Data.{Data}
use Rattle.p2p_discovery.specs.declared.types.error.Error.{Error as Fault}
use Rattle.p2p_discovery_directory.specs.Reserved.{peer_of}
use Rattle.p2p_discovery_directory.specs.Asking.{Way, with_message}
use Rattle.p2p_discovery_directory.specs.declared.tracker.message.Message.TheVariants as tracker
use Rattle.p2p_discovery.specs.declared.info.Info.{Info}
use Rattle.p2p_discovery.specs.declared.payload.Payload.{Payload}
use Rattle.p2p_discovery.specs.declared.payload.Payload.TheVariants as payload
use Rattle.p2p_discovery_peer.specs.Connection.{Connection, settled, told_to_tracker}
use Rattle.p2p_discovery_peer.specs.Judging.{Judge}
use Rattle.p2p_discovery_peer.specs.Sparing.{admits, after_check, kind_of}
use Rattle.p2p_discovery_peer.specs.declared.peer.after_first.AfterFirst.{AfterFirst}
use Rattle.p2p_discovery_peer.specs.declared.peer.error.Error.TheVariants as error
use Rattle.p2p_discovery_peer.specs.declared.peer.gossip.Gossip.{Gossip}
use Rattle.p2p_discovery_peer.specs.declared.peer.gossip.Gossip.TheVariants as gossip
use Rattle.p2p_discovery_peer.specs.declared.peer.gossip.GossipKind.{GossipKind}
use Rattle.p2p_discovery_peer.specs.declared.peer.gossip.GossipKind.TheVariants as kind
use Rattle.p2p_discovery_peer.specs.declared.peer.live.Live.{Live}
use Rattle.p2p_discovery_peer.specs.declared.peer.live.Stage.{Stage}
use Rattle.p2p_discovery_peer.specs.declared.peer.live.Stage.TheVariants as stage
use Rattle.p2p_discovery_peer.specs.declared.peer.stepped.Stepped.{Stepped}
use Rattle.p2p_discovery_peer.specs.declared.peer.stepped.Stepped.TheVariants as stepped

-- what a step answers, and what the connection, the mailboxes of channels and the tracker's mailbox are then
pub record Received (P : Type 0) : Type 0 where
  pub stepped : Stepped P
  pub live : Live P
  pub arrived : Arrived P
  pub way : Way P

module _ {P : Type 0} where
  -- it takes part in the traffic
  abbrev pub is_running : Stage P → Bool
  is_running (stage.Running due_at) = true
  is_running _ = false

  -- nothing of the three changes
  abbrev pub only : Stepped P → Live P → Arrived P → Way P → Received P
  only s l a w = record { stepped = s; live = l; arrived = a; way = w }

  -- ---- a message

  -- a message, whether it was held, and what became of it: one that stays held is no input
  abbrev pub received_as : Bool → Data → Delivered P → Stepped P
  received_as was_held m delivered.InvalidChannel = stepped.Ended (error.Connection cause.InvalidChannel) [] 0
  received_as true m delivered.Held = stepped.Idle
  received_as false m delivered.Held = stepped.Received false m delivered.Held
  received_as was_held m delivered.Kept = stepped.Received was_held m delivered.Kept
  received_as was_held m (delivered.MailboxFull back) = stepped.Received was_held m (delivered.MailboxFull back)
  received_as was_held m (delivered.Closed back) = stepped.Received was_held m (delivered.Closed back)

  -- once the quota of its channel was asked
  abbrev pub with_inbox : Intake P → Live P → Live P
  with_inbox inbox l = record {
    reservation = l.reservation;
    stage = l.stage;
    is_greeted = l.is_greeted;
    inbox = inbox;
    bit_vecs = l.bit_vecs;
    peers = l.peers;
    held = l.held;
  }

  -- a message waits for the quota of its channel, and goes into the channel's mailbox then
  abbrev pub with_data : ℕ → Bool → P → Data → Live P → Arrived P → Way P → Received P
  with_data now was_held from m l a w = record {
    stepped = received_as was_held m (deliver_answer l.inbox a from m now);
    live = with_inbox (after_deliver l.inbox from m now) l;
    arrived = arrived_after l.inbox a from m now;
    way = w;
  }

  -- ---- a bit vector, or infos

  -- the quota of a kind
  abbrev pub quota_of : GossipKind → Live P → AfterFirst
  quota_of kind.BitVec l = l.bit_vecs
  quota_of kind.Peers l = l.peers

  abbrev pub bit_vecs_after : GossipKind → Live P → ℕ → AfterFirst
  bit_vecs_after kind.BitVec l now = after_check l.bit_vecs now
  bit_vecs_after kind.Peers l now = l.bit_vecs

  abbrev pub peers_after : GossipKind → Live P → ℕ → AfterFirst
  peers_after kind.BitVec l now = l.peers
  peers_after kind.Peers l now = after_check l.peers now

  -- once the quota of a kind was asked
  abbrev pub asked_of : GossipKind → ℕ → Live P → Live P
  asked_of k now l = record {
    reservation = l.reservation;
    stage = l.stage;
    is_greeted = l.is_greeted;
    inbox = l.inbox;
    bit_vecs = bit_vecs_after k l now;
    peers = peers_after k l now;
    held = l.held;
  }

  abbrev pub holding : Option (Gossip P) → Live P → Live P
  holding held l = record {
    reservation = l.reservation;
    stage = l.stage;
    is_greeted = l.is_greeted;
    inbox = l.inbox;
    bit_vecs = l.bit_vecs;
    peers = l.peers;
    held = held;
  }

  -- what its quota refuses, by whether it was held before: what stays held is no input
  abbrev pub refused_as : Bool → GossipKind → Stepped P
  refused_as true k = stepped.Idle
  refused_as false k = stepped.Gossiped k false false

  -- infos, by why they aren't believed
  abbrev pub told_as : Bool → Option Fault → Stepped P
  told_as was_held None = stepped.Gossiped kind.Peers was_held true
  told_as was_held (Some f) = stepped.Ended (error.Types f) [] 0

  abbrev pub way_told : Option Fault → List (Info P) → Way P → Way P
  way_told None infos w = with_message w (tracker.Peers infos)
  way_told (Some f) infos w = w

  module _ (j : Judge P) where
    -- what is admitted is put for the tracker; infos only where they are believed
    abbrev pub admitted_as : Bool → Gossip P → Stepped P
    admitted_as was_held (gossip.BitVec bits) = stepped.Gossiped kind.BitVec was_held true
    admitted_as was_held (gossip.Peers infos) = told_as was_held (j.faults infos)

    abbrev pub way_admitted : P → Gossip P → Way P → Way P
    way_admitted peer (gossip.BitVec bits) w = with_message w (tracker.BitVec peer bits)
    way_admitted peer (gossip.Peers infos) w = way_told (j.faults infos) infos w

  -- ---- whether its quota admits it, which the first of its kind skips

  module _ (now : ℕ) (g : Gossip P) (l : Live P) where
    abbrev pub gossip_admitted : Bool
    gossip_admitted = admits (quota_of (kind_of g) l) now

    -- it is held where its quota refuses it
    abbrev pub gossip_live : Live P
    gossip_live = holding (cond gossip_admitted None (Some g)) (asked_of (kind_of g) now l)

  module _ (j : Judge P) (now : ℕ) (g : Gossip P) (l : Live P) where
    abbrev pub gossip_answer : Bool → Stepped P
    gossip_answer was_held = cond (gossip_admitted now g l) (admitted_as j was_held g) (refused_as was_held (kind_of g))

    abbrev pub gossip_way : Way P → Way P
    gossip_way w = cond (gossip_admitted now g l) (way_admitted j (peer_of l.reservation) g w) w

  abbrev pub with_gossip : Judge P → ℕ → Bool → Gossip P → Live P → Arrived P → Way P → Received P
  with_gossip j now was_held g l a w = record {
    stepped = gossip_answer j now g l was_held;
    live = gossip_live now g l;
    arrived = a;
    way = gossip_way j now g l w;
  }

  -- ---- a greeting

  abbrev pub greeted : Live P → Live P
  greeted l = record {
    reservation = l.reservation;
    stage = l.stage;
    is_greeted = true;
    inbox = l.inbox;
    bit_vecs = l.bit_vecs;
    peers = l.peers;
    held = l.held;
  }

  -- one of the peer, by why it isn't believed
  abbrev pub greeting_judged : Option Fault → Stepped P
  greeting_judged None = stepped.Greeted
  greeting_judged (Some f) = stepped.Ended (error.Types f) [] 0

  module _ (j : Judge P) (info : Info P) (l : Live P) where
    -- the peer greets once, and for itself
    abbrev pub greeting_answer : Stepped P
    greeting_answer = cond l.is_greeted (stepped.Ended error.DuplicateGreeting [] 0)
        (cond (j.is_same info.public_key (peer_of l.reservation)) (greeting_judged (j.fault info))
        (stepped.Ended error.GreetingMismatch [] 0))

    -- where it is believed the tracker is told
    abbrev pub greeting_way : Way P → Way P
    greeting_way w = cond l.is_greeted w
        (cond (j.is_same info.public_key (peer_of l.reservation)) (way_told (j.fault info) (info ∷ []) w) w)

  -- ---- a frame

  module _ (j : Judge P) (now : ℕ) where
    -- all else comes after the greeting
    unfoldable pub with_payload : Payload P → Live P → Arrived P → Way P → Received P
    with_payload (payload.Greeting info) l a w =
        record { stepped = greeting_answer j info l; live = greeted l; arrived = a; way = greeting_way j info l w }
    with_payload (payload.Data m) l a w = cond l.is_greeted
        (with_data now false (peer_of l.reservation) m l a w)
        (only (stepped.Ended error.MissingGreeting [] 0) l a w)
    with_payload (payload.BitVec bits) l a w = cond l.is_greeted
        (with_gossip j now false (gossip.BitVec bits) l a w)
        (only (stepped.Ended error.MissingGreeting [] 0) l a w)
    with_payload (payload.Peers infos) l a w = cond l.is_greeted
        (with_gossip j now false (gossip.Peers infos) l a w)
        (only (stepped.Ended error.MissingGreeting [] 0) l a w)

    abbrev pub with_decoded : Result (Payload P) CodecError → Live P → Arrived P → Way P → Received P
    with_decoded (Err e) l a w = only (stepped.Ended (error.DecodeFailed e) [] 0) l a w
    with_decoded (Ok p) l a w = with_payload p l a w

  -- ---- the first ready input, by what a frame says

  module _ (says : List ℕ → Result (Payload P) CodecError) (j : Judge P) (now : ℕ) where
    -- what the link has for it: a fault, nothing, or a frame
    abbrev pub with_heard : Result (Option (List ℕ)) Failed → Live P → Arrived P → Way P → Received P
    with_heard (Err f) l a w = only (stepped.Ended error.ReceiveFailed [] 0) l a w
    with_heard (Ok None) l a w = only stepped.Idle l a w
    with_heard (Ok (Some frame)) l a w = with_decoded j now (says frame) l a w

    -- a message that is held, or else what is heard
    abbrev pub with_held : Option (P × Data) → Result (Option (List ℕ)) Failed → Live P → Arrived P → Way P → Received P
    with_held None heard l a w = with_heard heard l a w
    with_held (Some h) heard l a w = with_data now true h.0 h.1 l a w

    -- a bit vector or infos that are held, or else the message
    abbrev pub with_kept : Option (Gossip P) → Result (Option (List ℕ)) Failed → Live P → Arrived P → Way P → Received P
    with_kept None heard l a w = with_held l.inbox.held heard l a w
    with_kept (Some g) heard l a w = with_gossip j now true g l a w

    -- what is held holds back all later frames
    abbrev pub received : Live P → Arrived P → Way P → Result (Option (List ℕ)) Failed → Received P
    received l a w heard = cond (is_running l.stage) (with_kept l.held heard l a w) (only stepped.Idle l a w)

  -- ---- a step, by what the link answered

  abbrev pub receive_fails : Stepped P → Bool
  receive_fails (stepped.Ended error.ReceiveFailed frames written) = true
  receive_fails _ = false

  -- what was heard of the link, by the answer, where these frames wait
  abbrev pub heard_in : Stepped P → List (List ℕ) → Result (Option (List ℕ)) Failed
  heard_in s waiting = heard_by (receive_fails s) waiting

  -- the link is read where nothing is held
  abbrev pub reads : Live P → Bool
  reads l = is_running l.stage && (not (is_some l.held) && not (is_some l.inbox.held))

  abbrev pub reads_from : Option (Live P) → Bool
  reads_from None = false
  reads_from (Some l) = reads l

  module _ (says : List ℕ → Result (Payload P) CodecError) (j : Judge P) (c : Connection P) (a : Arrived P) (w : Way P) (now : ℕ) (heard : Result (Option (List ℕ)) Failed) where
    abbrev pub receive_answer_of : Option (Live P) → Stepped P
    receive_answer_of None = stepped.Idle
    receive_answer_of (Some l) = (received says j now l a w heard).stepped

    abbrev pub after_receive_of : Option (Live P) → Stepped P → Connection P
    after_receive_of None s = c
    after_receive_of (Some l) s = settled c s c.control (received says j now l a w heard).live

    abbrev pub arrived_of : Option (Live P) → Arrived P
    arrived_of None = a
    arrived_of (Some l) = (received says j now l a w heard).arrived

    abbrev pub way_received_of : Option (Live P) → Stepped P → Way P
    way_received_of None s = w
    way_received_of (Some l) s = told_to_tracker c.conn s l.reservation (received says j now l a w heard).way

  module _ (says : List ℕ → Result (Payload P) CodecError) (j : Judge P) (c : Connection P) (a : Arrived P) (w : Way P) (now : ℕ) (heard : Result (Option (List ℕ)) Failed) where
    -- what a step answers, where this was heard of the link
    abbrev pub receive_answer : Stepped P
    receive_answer = receive_answer_of says j c a w now heard c.live

    -- the connection after a step with this answer
    abbrev pub after_receive : Stepped P → Connection P
    after_receive s = after_receive_of says j c a w now heard c.live s

    -- the mailboxes of the channels after it
    abbrev pub arrived_then : Arrived P
    arrived_then = arrived_of says j c a w now heard c.live

    -- the tracker's mailbox after it
    abbrev pub way_received : Stepped P → Way P
    way_received s = way_received_of says j c a w now heard c.live s

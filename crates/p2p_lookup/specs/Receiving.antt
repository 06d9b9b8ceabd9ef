-- What the receiving half of a connection does, by its first ready input: while something is held, that, once its quota admits it; and
-- otherwise a frame of the link, or a fault.
use Rattle.std.specs.Prelude.{ℕ, Bool, true, false, not, ◌&&◌, cond, List, [], Option, Some, None, is_some, Result, Ok, Err, is_ok}
use Rattle.p2p_flow_connection.specs.Arriving.{Arrived}
use Rattle.p2p_flow_connection.specs.Delivering.{deliver_answer, after_deliver, arrived_after}
use Rattle.p2p_flow_connection.specs.declared.delivered.Delivered.{Delivered}
use Rattle.p2p_flow_connection.specs.declared.delivered.Delivered.TheVariants as delivered
use Rattle.p2p_flow_connection.specs.declared.error.Error.TheVariants as cause
use Rattle.p2p_peer_shared.specs.Hearing.{heard_by}
use Rattle.p2p_runtime.specs.QuotaCheck.{rate_answer, after_rate}
use Rattle.p2p_runtime.specs.declared.streams.Failed.{Failed}
use Rattle.p2p_tracker_directory.specs.Reserved.{peer_of}
use Rattle.p2p_wire.specs.Frame.{decode_frame}
use Rattle.p2p_wire.specs.declared.error.CodecError.{CodecError}
use Rattle.p2p_wire.specs.declared.frame.Data.{Data}
use Rattle.p2p_wire.specs.declared.frame.Message.{Message}
use Rattle.p2p_wire.specs.declared.frame.Message.TheVariants as wire
use Rattle.p2p_lookup.specs.Connection.{Connection, settled}
use Rattle.p2p_lookup.specs.declared.peer.error.Error.TheVariants as error
use Rattle.p2p_lookup.specs.declared.peer.live.Live.{Live}
use Rattle.p2p_lookup.specs.declared.peer.live.Stage.{Stage}
use Rattle.p2p_lookup.specs.declared.peer.live.Stage.TheVariants as stage
use Rattle.p2p_lookup.specs.declared.peer.stepped.Stepped.{Stepped}
use Rattle.p2p_lookup.specs.declared.peer.stepped.Stepped.TheVariants as stepped

-- what a step answers, and what the connection and the mailboxes of channels are then
pub record Received (P : Type 0) : Type 0 where
  pub stepped : Stepped P
  pub live : Live P
  pub arrived : Arrived P

-- it takes part in the traffic
abbrev pub is_running : Stage → Bool
is_running (stage.Running ping_at) = true
is_running _ = false

module _ {P : Type 0} where
  -- a ping, whether it was held, and whether its quota admits it
  abbrev pub pinged : Bool → Bool → Stepped P
  pinged true true = stepped.Pinged true true
  pinged true false = stepped.Idle
  pinged false admitted = stepped.Pinged false admitted

  -- a message, whether it was held, and what became of it: one that stays held is no input
  abbrev pub received_as : Bool → Data → Delivered P → Stepped P
  received_as was_held m delivered.InvalidChannel = stepped.Ended (error.Connection cause.InvalidChannel) [] 0
  received_as true m delivered.Held = stepped.Idle
  received_as false m delivered.Held = stepped.Received false m delivered.Held
  received_as was_held m delivered.Kept = stepped.Received was_held m delivered.Kept
  received_as was_held m (delivered.MailboxFull back) = stepped.Received was_held m (delivered.MailboxFull back)
  received_as was_held m (delivered.Closed back) = stepped.Received was_held m (delivered.Closed back)

  module _ (now : ℕ) where
    abbrev pub ping_taken : Bool → Live P → Live P
    ping_taken admitted l = record {
      reservation = l.reservation;
      stage = l.stage;
      inbox = l.inbox;
      pings = after_rate l.pings now;
      holds_ping = not admitted;
    }

    abbrev pub ping_admitted : Live P → Bool
    ping_admitted l = is_ok (rate_answer l.pings now)

    -- a ping waits for its quota, and is dropped then
    abbrev pub with_ping : Bool → Live P → Arrived P → Received P
    with_ping was_held l a = record {
      stepped = pinged was_held (ping_admitted l);
      live = ping_taken (ping_admitted l) l;
      arrived = a;
    }

    -- a message waits for the quota of its channel, and goes into the channel's mailbox then
    abbrev pub with_message : Bool → P → Data → Live P → Arrived P → Received P
    with_message was_held from m l a = record {
      stepped = received_as was_held m (deliver_answer l.inbox a from m now);
      live = record {
        reservation = l.reservation;
        stage = l.stage;
        inbox = after_deliver l.inbox from m now;
        pings = l.pings;
        holds_ping = l.holds_ping;
      };
      arrived = arrived_after l.inbox a from m now;
    }

  -- nothing of the two changes
  abbrev pub only : Stepped P → Live P → Arrived P → Received P
  only s l a = record { stepped = s; live = l; arrived = a }

  module _ (now : ℕ) where
    abbrev pub with_decoded : Live P → Arrived P → Result Message CodecError → Received P
    with_decoded l a (Err e) = only (stepped.Ended (error.DecodeFailed e) [] 0) l a
    with_decoded l a (Ok wire.Ping) = with_ping now false l a
    with_decoded l a (Ok (wire.Data m)) = with_message now false (peer_of l.reservation) m l a

  module _ (limit now : ℕ) where
    -- what the link has for it: a fault, nothing, or a frame
    abbrev pub with_heard : Live P → Arrived P → Result (Option (List ℕ)) Failed → Received P
    with_heard l a (Err f) = only (stepped.Ended error.ReceiveFailed [] 0) l a
    with_heard l a (Ok None) = only stepped.Idle l a
    with_heard l a (Ok (Some frame)) = with_decoded now l a (decode_frame frame limit)

    abbrev pub with_held : Live P → Arrived P → Result (Option (List ℕ)) Failed → Option (P × Data) → Received P
    with_held l a heard None = with_heard l a heard
    with_held l a heard (Some h) = with_message now true h.0 h.1 l a

  module _ (limit now : ℕ) where
    -- a held ping or message holds back all later frames
    abbrev pub received : Live P → Arrived P → Result (Option (List ℕ)) Failed → Received P
    received l a heard =
        cond (is_running l.stage)
        (cond l.holds_ping (with_ping now true l a) (with_held limit now l a heard l.inbox.held))
        (only stepped.Idle l a)

  -- ---- a step, by what the link answered

  abbrev pub receive_fails : Stepped P → Bool
  receive_fails (stepped.Ended error.ReceiveFailed frames written) = true
  receive_fails _ = false

  -- what was heard of the link, by the answer, where these frames wait
  abbrev pub heard_in : Stepped P → List (List ℕ) → Result (Option (List ℕ)) Failed
  heard_in s waiting = heard_by (receive_fails s) waiting

  -- the link is read where nothing is held
  abbrev pub reads : Live P → Bool
  reads l = is_running l.stage && (not l.holds_ping && not (is_some l.inbox.held))

  abbrev pub reads_from : Option (Live P) → Bool
  reads_from None = false
  reads_from (Some l) = reads l

  module _ (c : Connection P) (a : Arrived P) (now : ℕ) (heard : Result (Option (List ℕ)) Failed) where
    abbrev pub receive_answer_of : Option (Live P) → Stepped P
    receive_answer_of None = stepped.Idle
    receive_answer_of (Some l) = (received c.limits.max_message_size now l a heard).stepped

    abbrev pub after_receive_of : Option (Live P) → Stepped P → Connection P
    after_receive_of None s = c
    after_receive_of (Some l) s = settled c s c.control (received c.limits.max_message_size now l a heard).live

    abbrev pub arrived_of : Option (Live P) → Arrived P
    arrived_of None = a
    arrived_of (Some l) = (received c.limits.max_message_size now l a heard).arrived

  module _ (c : Connection P) (a : Arrived P) (now : ℕ) (heard : Result (Option (List ℕ)) Failed) where
    -- what a step answers, where this was heard of the link
    abbrev pub receive_answer : Stepped P
    receive_answer = receive_answer_of c a now heard c.live

    -- the connection after a step with this answer
    abbrev pub after_receive : Stepped P → Connection P
    after_receive s = after_receive_of c a now heard c.live s

    -- the mailboxes of the channels after it
    abbrev pub arrived_then : Arrived P
    arrived_then = arrived_of c a now heard c.live

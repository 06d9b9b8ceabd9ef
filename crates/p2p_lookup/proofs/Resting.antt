-- A step of the receiving half is idle exactly where no input is ready.
use Rattle.std.proofs.Common.{◌≡◌, ℕ, Bool, true, false, cond, List, Option, Some, None, Result, Ok, Err, refl}
use Rattle.std.specs.Prelude.{not, ◌&&◌}
use Rattle.p2p_base.specs.declared.outcome.Sent.{Sent}
use Rattle.p2p_base.specs.declared.outcome.Sent.TheVariants as sent
use Rattle.p2p_flow_connection.specs.Arriving.{Arrived, arrival_answer}
use Rattle.p2p_flow_connection.specs.Delivering.{delivered_by, verdict_at, arrival_of}
use Rattle.p2p_runtime.specs.declared.streams.Failed.{Failed}
use Rattle.p2p_peer_shared.specs.Hearing.{comes, passes}
use Rattle.p2p_tracker_directory.specs.Reserved.{peer_of}
use Rattle.p2p_wire.specs.Frame.{decode_frame}
use Rattle.p2p_wire.specs.declared.error.CodecError.{CodecError}
use Rattle.p2p_wire.specs.declared.frame.Data.{Data}
use Rattle.p2p_wire.specs.declared.frame.Message.{Message}
use Rattle.p2p_wire.specs.declared.frame.Message.TheVariants as wire
use Rattle.p2p_lookup.specs.Connection.{Connection}
use Rattle.p2p_lookup.specs.Ready.{is_idle, receives_held, receives_of, receives}
use Rattle.p2p_lookup.specs.Receiving.{pinged, received_as, ping_admitted, with_ping, with_decoded, with_heard, with_held, is_running, receive_answer, receive_answer_of, only}
use Rattle.p2p_lookup.specs.declared.peer.live.Live.{Live}
use Rattle.p2p_lookup.specs.declared.peer.stepped.Stepped.TheVariants as stepped

ping_held : (P : Type 0) (admitted : Bool) → is_idle (pinged {P = P} true admitted) ≡ not admitted
ping_held P true = refl
ping_held P false = refl

module _ {P : Type 0} where
  -- a message that was held is no input while its quota refuses it
  message_held : (verdict : Option Bool) (answer : Sent (P × List ℕ)) (m : Data) → is_idle (received_as true m (delivered_by verdict answer)) ≡ not (passes verdict)
  message_held None answer m = refl
  message_held (Some false) answer m = refl
  message_held (Some true) sent.Ok m = refl
  message_held (Some true) sent.Backoff m = refl
  message_held (Some true) (sent.Rejected back) m = refl
  message_held (Some true) (sent.Closed back) m = refl

  -- one that comes is
  message_comes : (verdict : Option Bool) (answer : Sent (P × List ℕ)) (m : Data) → is_idle (received_as false m (delivered_by verdict answer)) ≡ false
  message_comes None answer m = refl
  message_comes (Some false) answer m = refl
  message_comes (Some true) sent.Ok m = refl
  message_comes (Some true) sent.Backoff m = refl
  message_comes (Some true) (sent.Rejected back) m = refl
  message_comes (Some true) (sent.Closed back) m = refl

  decoded : (now : ℕ) (l : Live P) (a : Arrived P) (d : Result Message CodecError) → is_idle (with_decoded now l a d).stepped ≡ false
  decoded now l a (Err e) = refl
  decoded now l a (Ok wire.Ping) = refl
  decoded now l a (Ok (wire.Data m)) = message_comes (verdict_at l.inbox m now) (arrival_answer a m.channel (arrival_of (peer_of l.reservation) m)) m

  heard_of : (limit now : ℕ) (l : Live P) (a : Arrived P) (heard : Result (Option (List ℕ)) Failed) → is_idle (with_heard limit now l a heard).stepped ≡ not (comes heard)
  heard_of limit now l a (Err f) = refl
  heard_of limit now l a (Ok None) = refl
  heard_of limit now l a (Ok (Some frame)) = decoded now l a (decode_frame frame limit)

  held_of : (limit now : ℕ) (l : Live P) (a : Arrived P) (heard : Result (Option (List ℕ)) Failed) (o : Option (P × Data))
      → is_idle (with_held limit now l a heard o).stepped ≡ not (receives_held l now heard o)
  held_of limit now l a heard None = heard_of limit now l a heard
  held_of limit now l a heard (Some h) = message_held (verdict_at l.inbox h.1 now) (arrival_answer a h.1.channel (arrival_of h.0 h.1)) h.1

  by_tests : (limit now : ℕ) (l : Live P) (a : Arrived P) (heard : Result (Option (List ℕ)) Failed) (running holds : Bool)
      → is_idle (cond running (cond holds (with_ping now true l a) (with_held limit now l a heard l.inbox.held)) (only stepped.Idle l a)).stepped
      ≡ not (running && cond holds (ping_admitted now l) (receives_held l now heard l.inbox.held))
  by_tests limit now l a heard false holds = refl
  by_tests limit now l a heard true true = ping_held P (ping_admitted now l)
  by_tests limit now l a heard true false = held_of limit now l a heard l.inbox.held

  while_live : (c : Connection P) (a : Arrived P) (now : ℕ) (heard : Result (Option (List ℕ)) Failed) (o : Option (Live P))
      → is_idle (receive_answer_of c a now heard o) ≡ not (receives_of now heard o)
  while_live c a now heard None = refl
  while_live c a now heard (Some l) = by_tests c.limits.max_message_size now l a heard (is_running l.stage) l.holds_ping

  pub receive-idle : (c : Connection P) (a : Arrived P) (now : ℕ) (heard : Result (Option (List ℕ)) Failed) → is_idle (receive_answer c a now heard) ≡ not (receives c now heard)
  receive-idle c a now heard = while_live c a now heard c.live

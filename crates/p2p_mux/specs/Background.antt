-- A background receiver, and its turns: a message whose bytes are a value is forwarded, or dropped where the queue is
-- full; one whose bytes are none has its sender blocked.
use Rattle.std.specs.Prelude.{ℕ, Bool, true, false, List, Result, Ok, Err}
use Rattle.p2p_base.specs.Queue.{Queue, empty_queue, enqueue_answer, enqueued, without_oldest}
use Rattle.p2p_base.specs.declared.outcome.Feedback.{Feedback}
use Rattle.p2p_base.specs.declared.outcome.Sent.{Sent}
use Rattle.p2p_base.specs.declared.outcome.Sent.TheVariants as sent
use Rattle.p2p_base.specs.declared.policy.Keep.TheVariants.{Refuse}
use Rattle.p2p_flow.specs.declared.plain.Polled.{Polled}
use Rattle.p2p_flow.specs.declared.plain.Polled.TheVariants as polled
use Rattle.p2p_wire.specs.declared.error.CodecError.{CodecError}
use Rattle.p2p_mux.specs.declared.codec.stepped.Stepped.{Stepped}
use Rattle.p2p_mux.specs.declared.codec.stepped.Stepped.TheVariants as stepped

-- the decoded messages that wait, with their senders, and whether no more will come
pub record Forwarded (P V : Type 0) : Type 0 where
  pub messages : Queue (P × V)
  pub ended : Bool

-- a background receiver: what it receives from, how it reads bytes, whom it asks to block, and whether a step of it
-- found no memory
pub record Decoding (B R C : Type 0) : Type 0 where
  pub receiver : R
  pub config : C
  pub blocker : B
  pub has_failed : Bool

module _ {P V : Type 0} where
  abbrev pub nothing_forwarded : ℕ → Forwarded P V
  nothing_forwarded places = record { messages = empty_queue places; ended = false }

  abbrev pub with_forwarded : Forwarded P V → P × V → Forwarded P V
  with_forwarded f m = record { messages = enqueued Refuse f.messages m; ended = f.ended }

  abbrev pub without_forwarded : Forwarded P V → Forwarded P V
  without_forwarded f = record { messages = without_oldest f.messages; ended = f.ended }

  abbrev pub ended_forwarded : Forwarded P V → Forwarded P V
  ended_forwarded f = record { messages = f.messages; ended = true }

  -- what becomes of a decoded message by what the queue answers
  abbrev pub forwarded_as : P → Sent (P × V) → Stepped P
  forwarded_as peer sent.Ok = stepped.Forwarded peer
  forwarded_as peer sent.Backoff = stepped.Forwarded peer
  forwarded_as peer (sent.Rejected m) = stepped.Dropped peer
  forwarded_as peer (sent.Closed m) = stepped.Dropped peer

-- what became of a message: what the step answers, and what the queue and the blocker's way are then
pub record Decoded (P V U : Type 0) : Type 0 where
  pub stepped : Stepped P
  pub out : Forwarded P V
  pub blocker_way : U

-- a turn: what the step answers, and what the queue, the receiver's way and the blocker's way are then
pub record Turn (P V W U : Type 0) : Type 0 where
  pub stepped : Stepped P
  pub out : Forwarded P V
  pub way : W
  pub blocker_way : U

module _ {P V U : Type 0} where
  -- a value is forwarded; of bytes that are none the sender is blocked, where the blocker tells `told` and leaves its
  -- way `block peer`
  abbrev pub decoded_as : P → Result V CodecError → Feedback → (P → U) → Forwarded P V → U → Decoded P V U
  decoded_as peer (Ok v) told block out blocker_way = record {
    stepped = forwarded_as peer (enqueue_answer Refuse out.messages (peer, v));
    out = with_forwarded out (peer, v);
    blocker_way = blocker_way;
  }
  decoded_as peer (Err e) told block out blocker_way = record {
    stepped = stepped.Blocked peer e told;
    out = out;
    blocker_way = block peer;
  }

module _ {P V W U : Type 0} where
  abbrev pub on_way : W → Decoded P V U → Turn P V W U
  on_way way d = record { stepped = d.stepped; out = d.out; way = way; blocker_way = d.blocker_way }

  abbrev pub received_turn : {E : Type 0} → (List ℕ → Result V CodecError) → Result (Polled (P × List ℕ)) E → Feedback
      → (P → U) → Forwarded P V → W → U → Turn P V W U
  received_turn decoding (Ok (polled.Ready m)) told block out way blocker_way =
      on_way way (decoded_as m.0 (decoding m.1) told block out blocker_way)
  received_turn decoding (Ok polled.Pending) told block out way blocker_way = record {
    stepped = stepped.Idle;
    out = out;
    way = way;
    blocker_way = blocker_way;
  }
  received_turn decoding (Err e) told block out way blocker_way = record {
    stepped = stepped.Ended;
    out = ended_forwarded out;
    way = way;
    blocker_way = blocker_way;
  }

  abbrev pub turn_by : {E : Type 0} → Bool → (List ℕ → Result V CodecError) → Result (Polled (P × List ℕ)) E → Feedback
      → (P → U) → Forwarded P V → W → W → U → Turn P V W U
  turn_by true decoding received told block out way after blocker_way = record {
    stepped = stepped.Ended;
    out = out;
    way = way;
    blocker_way = blocker_way;
  }
  turn_by false decoding received told block out way after blocker_way =
      received_turn decoding received told block out after blocker_way

  -- the turn of a background receiver, whose receiver would give `received` and leave its way `after`, and whose
  -- blocker would tell `told` and leave its way `block peer`: one that has ended takes nothing
  abbrev pub background_turn : {E : Type 0} → (List ℕ → Result V CodecError) → Result (Polled (P × List ℕ)) E → Feedback
      → (P → U) → Forwarded P V → W → W → U → Turn P V W U
  background_turn decoding received told block out way after blocker_way =
      turn_by out.ended decoding received told block out way after blocker_way

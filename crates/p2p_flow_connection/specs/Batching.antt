-- What the sending half of a connection takes next, and how a batch is filled.
use Rattle.std.specs.Prelude.{ℕ, zero, suc, Bool, true, false, ◌||◌, cond, List, [], ◌∷◌, ◌++◌, drop, Option, Some, None, slice_get}
use Rattle.p2p_base.specs.Queue.{oldest, without_oldest}
use Rattle.p2p_wire.specs.declared.encoded.EncodedData.{EncodedData}
use Rattle.p2p_flow.specs.Lanes.{Lanes}
use Rattle.p2p_flow_connection.specs.declared.control.Prioritized.{Prioritized}
use Rattle.p2p_flow_connection.specs.declared.control.Prioritized.TheVariants as prioritized
use Rattle.p2p_flow_connection.specs.declared.outbox.Ready.{Ready}
use Rattle.p2p_flow_connection.specs.declared.outbox.Ready.TheVariants as ready

-- ---- what is next

-- high goes before low
abbrev pub next_of_lanes : {C : Type 0} → Option EncodedData → Option EncodedData → Option (Prioritized C EncodedData)
next_of_lanes (Some message) low = Some (prioritized.Data message)
next_of_lanes None (Some message) = Some (prioritized.Data message)
next_of_lanes None None = None

abbrev pub has_ended : Bool → Lanes EncodedData → Bool
has_ended ended lanes = ended || (lanes.high.closed || lanes.low.closed)

-- control goes before data, and an end, of the control or of the relay, before data too
abbrev pub next_of : {C : Type 0} → Option C → Bool → Lanes EncodedData → Option (Prioritized C EncodedData)
next_of (Some message) ended lanes = Some (prioritized.Control message)
next_of None ended lanes =
    cond (has_ended ended lanes) (Some prioritized.Closed) (next_of_lanes (oldest lanes.high) (oldest lanes.low))

-- the lanes without the message that is next in them
abbrev pub without_next : Option EncodedData → Lanes EncodedData → Lanes EncodedData
without_next (Some message) lanes = record { high = without_oldest lanes.high; low = lanes.low }
without_next None lanes = record { high = lanes.high; low = without_oldest lanes.low }

-- the lanes once the next message was taken
abbrev pub lanes_after : {C : Type 0} → Option C → Bool → Lanes EncodedData → Lanes EncodedData
lanes_after (Some message) ended lanes = lanes
lanes_after None ended lanes = cond (has_ended ended lanes) lanes (without_next (oldest lanes.high) lanes)

-- ---- a batch

-- what is next for a batch: a control message in its frame, or a kill where it has none; or a message of a lane
abbrev pub ready_of : {C : Type 0} → (C → Option (List ℕ)) → Option (Prioritized C EncodedData) → Ready
ready_of frame_of None = ready.Nothing
ready_of frame_of (Some prioritized.Closed) = ready.Nothing
ready_of frame_of (Some (prioritized.Data message)) = ready.Frame message.payload
ready_of frame_of (Some (prioritized.Control message)) = elim (frame_of message) [ None ↦ ready.Kill | Some frame ↦ ready.Frame frame ]

-- a batch that was filled: whether a kill was met, the frames, the control messages that are left, and the lanes
pub record Filled (C : Type 0) : Type 0 where
  pub killed : Bool
  pub frames : List (List ℕ)
  pub control : List C
  pub lanes : Lanes EncodedData

-- a batch with room for so many frames more takes what is next until it is full, nothing is next, or a kill is met
unfoldable pub filled : {C : Type 0} → (C → Option (List ℕ)) → Bool → ℕ → List (List ℕ) → List C → Lanes EncodedData → Filled C
filled frame_of ended zero frames control lanes = record { killed = false; frames = frames; control = control; lanes = lanes }
filled frame_of ended (suc room) frames control lanes =
    let first = slice_get control 0 in
    let rest = drop 1 control in
    let left = lanes_after first ended lanes in
    elim (ready_of frame_of (next_of first ended lanes)) [
      | ready.Nothing ↦ record { killed = false; frames = frames; control = rest; lanes = left }
      | ready.Kill ↦ record { killed = true; frames = frames; control = rest; lanes = left }
      | ready.Frame frame ↦ filled frame_of ended room (frames ++ frame ∷ []) rest left
    ]

-- What the sending half of a connection finds to do: the batch that begins with one frame or none, and takes what is next until it is full.
use Rattle.std.specs.Prelude.{ℕ, ◌-◌, Bool, true, false, ◌||◌, List, [], ◌∷◌, length, slice_get, Option, Some, None, is_some}
use Rattle.std.specs.declared.cmp.Ordering.{Ordering}
use Rattle.p2p_flow.specs.Lanes.{Lanes}
use Rattle.p2p_flow_connection.specs.Batching.{Filled, filled, has_ended, next_of}
use Rattle.p2p_router.specs.Connections.{with_relay_at}
use Rattle.p2p_router.specs.Routes.{Routes}
use Rattle.p2p_wire.specs.declared.encoded.EncodedData.{EncodedData}
use Rattle.p2p_peer_shared.specs.declared.gathering.Gathered.{Gathered}
use Rattle.p2p_peer_shared.specs.declared.gathering.Gathered.TheVariants as gathered

-- a kill that is met leaves no batch; without a frame nothing is ready, or no more comes
abbrev pub gathered_as : Bool → List (List ℕ) → Bool → Gathered
gathered_as true frames ended = gathered.Killed
gathered_as false (f ∷ fs) ended = gathered.Batch (f ∷ fs)
gathered_as false [] true = gathered.Disconnected
gathered_as false [] false = gathered.Nothing

-- the frames with which a batch begins
abbrev pub first_frames : Option (List ℕ) → List (List ℕ)
first_frames None = []
first_frames (Some frame) = frame ∷ []

abbrev pub gathered_of : {C : Type 0} → Bool → Filled C → Gathered
gathered_of ended f = gathered_as f.killed f.frames (has_ended ended f.lanes)

module _ {C : Type 0} (frame_of : C → Option (List ℕ)) (ended : Bool) (size : ℕ) (first : Option (List ℕ)) where
  abbrev pub batch : List C → Lanes EncodedData → Filled C
  batch control lanes = filled frame_of ended (size - length (first_frames first)) (first_frames first) control lanes

module _ {C : Type 0} (frame_of : C → Option (List ℕ)) (ended : Bool) (size : ℕ) (first : Option (List ℕ)) (control : List C) where
  -- what a batch from these queues comes to; where the router holds no relay, no more comes
  abbrev pub gathered_over : Option (Lanes EncodedData) → Gathered
  gathered_over None = gathered.Disconnected
  gathered_over (Some lanes) = gathered_of ended (batch frame_of ended size first control lanes)

  -- the control messages that are left
  abbrev pub control_over : Option (Lanes EncodedData) → List C
  control_over None = control
  control_over (Some lanes) = (batch frame_of ended size first control lanes).control

  -- the router then
  abbrev pub router_over : {P : Type 0} → (P → P → Ordering) → Routes P → ℕ → Option (Lanes EncodedData) → Routes P
  router_over cmp r conn None = r
  router_over cmp r conn (Some lanes) = with_relay_at cmp r conn (batch frame_of ended size first control lanes).lanes

-- ---- whether there is something to do

abbrev pub is_nothing : Gathered → Bool
is_nothing gathered.Nothing = true
is_nothing _ = false

-- a frame is first, or something is next; where the router holds no relay, the end is
abbrev pub has_work : {C : Type 0} → Bool → Option (List ℕ) → List C → Option (Lanes EncodedData) → Bool
has_work ended first control None = true
has_work ended first control (Some lanes) = is_some first || is_some (next_of (slice_get control 0) ended lanes)

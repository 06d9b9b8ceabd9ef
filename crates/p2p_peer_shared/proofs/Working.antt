-- Nothing is gathered exactly where there is nothing to do.
use Rattle.std.proofs.Common.{◌≡◌, ℕ, zero, suc, ◌-◌, ◌≤◌, Bool, true, false, cond, List, [], ◌∷◌, ◌++◌, Option, Some, None, refl, ap, ◌∙◌, arith}
use Rattle.std.specs.Prelude.{drop, slice_get, not, is_some}
use Rattle.std.proofs.lemmas.Bool.{false≢true}
use Rattle.p2p_base.specs.Queue.{oldest}
use Rattle.p2p_flow.specs.Lanes.{Lanes}
use Rattle.p2p_flow_connection.specs.Batching.{Filled, filled, next_of, next_of_lanes, lanes_after, without_next, ready_of, has_ended}
use Rattle.p2p_flow_connection.specs.declared.control.Prioritized.{Prioritized}
use Rattle.p2p_flow_connection.specs.declared.control.Prioritized.TheVariants as prioritized
use Rattle.p2p_flow_connection.specs.declared.outbox.Ready.{Ready}
use Rattle.p2p_flow_connection.specs.declared.outbox.Ready.TheVariants as ready
use Rattle.p2p_wire.specs.declared.encoded.EncodedData.{EncodedData}
use Rattle.p2p_peer_shared.specs.Gathering.{gathered_as, gathered_of, gathered_over, is_nothing, has_work}

abbrev has_frame : List (List ℕ) → Bool
has_frame [] = false
has_frame (f ∷ fs) = true

-- with a frame there is something to do
busy : (killed ended : Bool) (frames : List (List ℕ)) → has_frame frames ≡ true → is_nothing (gathered_as killed frames ended) ≡ false
busy true ended frames h = refl
busy false ended [] h = absurd (false≢true h)
busy false ended (f ∷ fs) h = refl

-- what is next, by whether no more comes, and what waits in the lanes
abbrev next_by : {C : Type 0} → Bool → Option EncodedData → Option EncodedData → Option (Prioritized C EncodedData)
next_by b high low = cond b (Some prioritized.Closed) (next_of_lanes high low)

module _ {C : Type 0} (frame_of : C → Option (List ℕ)) (ended : Bool) where
  abbrev filled_by : ℕ → List (List ℕ) → List C → Lanes EncodedData → Ready → Filled C
  filled_by room frames rest left r = elim r [
    | ready.Nothing ↦ record { killed = false; frames = frames; control = rest; lanes = left }
    | ready.Kill ↦ record { killed = true; frames = frames; control = rest; lanes = left }
    | ready.Frame one ↦ filled frame_of ended room (frames ++ one ∷ []) rest left
  ]

  step : (room : ℕ) (frames : List (List ℕ)) (control : List C) (lanes : Lanes EncodedData)
      → filled frame_of ended (suc room) frames control lanes
      ≡ filled_by room frames (drop 1 control) (lanes_after (slice_get control 0) ended lanes) (ready_of frame_of (next_of (slice_get control 0) ended lanes))
  unfolding filled
  step room frames control lanes = refl

  -- ---- a batch that has a frame keeps it

  kept_by : (room : ℕ) (f : List ℕ) (fs : List (List ℕ)) (rest : List C) (left : Lanes EncodedData) (r : Ready)
      → ((one : List ℕ) → has_frame (filled frame_of ended room (f ∷ (fs ++ one ∷ [])) rest left).frames ≡ true)
      → has_frame (filled_by room (f ∷ fs) rest left r).frames ≡ true
  kept_by room f fs rest left ready.Nothing h = refl
  kept_by room f fs rest left ready.Kill h = refl
  kept_by room f fs rest left (ready.Frame one) h = h one

  kept : (room : ℕ) (f : List ℕ) (fs : List (List ℕ)) (control : List C) (lanes : Lanes EncodedData)
      → has_frame (filled frame_of ended room (f ∷ fs) control lanes).frames ≡ true
  unfolding filled
  kept zero f fs control lanes = refl
  kept (suc room) f fs control lanes =
      ap (λ (x : Filled C). has_frame x.frames) (step room (f ∷ fs) control lanes)
      ∙ kept_by room f fs (drop 1 control) (lanes_after (slice_get control 0) ended lanes) (ready_of frame_of (next_of (slice_get control 0) ended lanes))
      (λ one. kept room f (fs ++ one ∷ []) (drop 1 control) (lanes_after (slice_get control 0) ended lanes))

  abbrev idles : Filled C → Bool
  idles f = is_nothing (gathered_of ended f)

  begun : (room : ℕ) (one : List ℕ) (rest : List C) (lanes : Lanes EncodedData) → idles (filled frame_of ended room (one ∷ []) rest lanes) ≡ false
  begun room one rest lanes =
      let f = filled frame_of ended room (one ∷ []) rest lanes in
      busy f.killed (has_ended ended f.lanes) f.frames (kept room one [] rest lanes)

  -- ---- without a first frame, by what is next

  module _ (lanes : Lanes EncodedData) (room : ℕ) (rest : List C) where
    abbrev came : Bool → Option EncodedData → Option EncodedData → Filled C
    came b high low = filled_by room [] rest (cond b lanes (without_next high lanes)) (ready_of frame_of (next_by b high low))

    by_lanes : (b : Bool) (high low : Option EncodedData) → has_ended ended lanes ≡ b
        → idles (came b high low) ≡ not (is_some (next_by {C = C} b high low))
    by_lanes true high low e = ap (λ b. is_nothing (gathered_as false [] b)) e
    by_lanes false (Some one) low e = begun room one.payload rest (without_next (Some one) lanes)
    by_lanes false None (Some one) e = begun room one.payload rest (without_next None lanes)
    by_lanes false None None e = ap (λ b. is_nothing (gathered_as false [] b)) e

    -- a control message is a frame, or a kill
    by_frame : (frame : Option (List ℕ))
        → idles (filled_by room [] rest lanes (elim frame [ None ↦ ready.Kill | Some one ↦ ready.Frame one ])) ≡ false
    by_frame None = refl
    by_frame (Some one) = begun room one rest lanes

    by_control : (first : Option C)
        → idles (filled_by room [] rest (lanes_after first ended lanes) (ready_of frame_of (next_of first ended lanes))) ≡ not (is_some (next_of first ended lanes))
    by_control (Some message) = by_frame (frame_of message)
    by_control None = by_lanes (has_ended ended lanes) (oldest lanes.high) (oldest lanes.low) refl

  quiet : (items : List C) (lanes : Lanes EncodedData) (size room : ℕ) → size ≡ suc room
      → idles (filled frame_of ended size [] items lanes) ≡ not (is_some (next_of (slice_get items 0) ended lanes))
  quiet items lanes size room e =
      ap (λ n. idles (filled frame_of ended n [] items lanes)) e
      ∙ (ap idles (step room [] items lanes) ∙ by_control lanes room (drop 1 items) (slice_get items 0))

  pub nothing-gathered : (size : ℕ) (first : Option (List ℕ)) (control : List C) (lanes : Option (Lanes EncodedData)) → 1 ≤ size
      → is_nothing (gathered_over frame_of ended size first control lanes) ≡ not (has_work ended first control lanes)
  nothing-gathered size first control None some = refl
  nothing-gathered size (Some one) control (Some lanes) some = begun (size - 1) one control lanes
  nothing-gathered size None control (Some lanes) some = quiet control lanes (size - 0) (size - 1) (omega (arith, some))

-- One step of the filling of a batch.
use Rattle.std.proofs.Common.{◌≡◌, ℕ, zero, suc, ◌+◌, ◌-◌, ◌<◌, ◌≤◌, Bool, true, false, List, [], ◌∷◌, ◌++◌, length, length-append, Option, refl, ap, sym, ◌∙◌, arith}
use Rattle.std.specs.Prelude.{drop, slice_get}
use Rattle.p2p_wire.specs.declared.encoded.EncodedData.{EncodedData}
use Rattle.p2p_flow.specs.Lanes.{Lanes}
use Rattle.p2p_flow_connection.specs.declared.outbox.Ready.{Ready}
use Rattle.p2p_flow_connection.specs.declared.outbox.Ready.TheVariants as ready
use Rattle.p2p_flow_connection.specs.Batching.{next_of, lanes_after, ready_of, filled, Filled}

module _ {C : Type 0} (frame_of : C → Option (List ℕ)) (ended : Bool) (frames : List (List ℕ)) (control : List C) (lanes : Lanes EncodedData) where
  abbrev left : Lanes EncodedData
  left = lanes_after (slice_get control 0) ended lanes

  abbrev next : Ready
  next = ready_of frame_of (next_of (slice_get control 0) ended lanes)

  -- a full batch takes nothing
  pub filled-full : (room : ℕ) → room ≡ 0 → filled frame_of ended room frames control lanes ≡ record { killed = false; frames = frames; control = control; lanes = lanes }
  unfolding filled
  filled-full zero e = refl
  filled-full (suc room) e = absurd (omega (arith, e))

  abbrev filled_by : ℕ → Ready → Filled C
  filled_by room r = elim r [
    | ready.Nothing ↦ record { killed = false; frames = frames; control = drop 1 control; lanes = left }
    | ready.Kill ↦ record { killed = true; frames = frames; control = drop 1 control; lanes = left }
    | ready.Frame frame ↦ filled frame_of ended room (frames ++ frame ∷ []) (drop 1 control) left
  ]

  step : (room rest : ℕ) (r : Ready) → room ≡ suc rest → next ≡ r → filled frame_of ended room frames control lanes ≡ filled_by rest r
  unfolding filled
  step zero rest r e n = absurd (omega (arith, e))
  step (suc room) rest r e n =
      let same : room ≡ rest = omega (arith, e) in
      ap (filled_by room) n ∙ ap (λ k. filled_by k r) same

  pub filled-frame : (room rest : ℕ) (frame : List ℕ) → room ≡ suc rest → next ≡ ready.Frame frame
      → filled frame_of ended room frames control lanes ≡ filled frame_of ended rest (frames ++ frame ∷ []) (drop 1 control) left
  filled-frame room rest frame e n = step room rest (ready.Frame frame) e n

  pub filled-kill : (room rest : ℕ) → room ≡ suc rest → next ≡ ready.Kill
      → filled frame_of ended room frames control lanes ≡ record { killed = true; frames = frames; control = drop 1 control; lanes = left }
  filled-kill room rest e n = step room rest ready.Kill e n

  pub filled-nothing : (room rest : ℕ) → room ≡ suc rest → next ≡ ready.Nothing
      → filled frame_of ended room frames control lanes ≡ record { killed = false; frames = frames; control = drop 1 control; lanes = left }
  filled-nothing room rest e n = step room rest ready.Nothing e n

-- the room of a batch that isn't full
pub room-suc : (size taken : ℕ) → taken < size → size - taken ≡ suc (size - (taken + 1))
room-suc size taken h = omega (arith, h)

-- a batch that is full has none
pub room-none : (size taken : ℕ) → size ≤ taken → size - taken ≡ 0
room-none size taken h = omega (arith, h)

-- what is next, told at the batch's own word of whether the control has ended
module _ {C : Type 0} (frame_of : C → Option (List ℕ)) (e ended : Bool) (frames : List (List ℕ)) (control after : List C) (lanes left_over : Lanes EncodedData) (size taken : ℕ) (r : Ready)
    (same : e ≡ ended) (count : taken ≡ length frames) (room : taken < size)
    (is : r ≡ ready_of frame_of (next_of (slice_get control 0) e lanes))
    (rest : after ≡ drop 1 control) (lane : left_over ≡ lanes_after (slice_get control 0) e lanes) where
  in_room : size - length frames ≡ suc (size - (length frames + 1))
  in_room = let h = room in let n = count in room-suc size (length frames) (omega (arith, h, n))

  next_is : (s : Ready) → r ≡ s → ready_of frame_of (next_of (slice_get control 0) ended lanes) ≡ s
  next_is s h = ap (λ b. ready_of frame_of (next_of (slice_get control 0) b lanes)) (sym same) ∙ (sym is ∙ h)

  lanes_are : left_over ≡ lanes_after (slice_get control 0) ended lanes
  lanes_are = lane ∙ ap (λ b. lanes_after (slice_get control 0) b lanes) same

  abbrev as_filled : Bool → List C → Lanes EncodedData → Filled C
  as_filled k c l = record { killed = k; frames = frames; control = c; lanes = l }

  are_left : (k : Bool) → as_filled k after left_over ≡ as_filled k (drop 1 control) (lanes_after (slice_get control 0) ended lanes)
  are_left k = ap (λ c. as_filled k c left_over) rest ∙ ap (as_filled k (drop 1 control)) lanes_are

  pub ends-killed : r ≡ ready.Kill → record { killed = true; frames = frames; control = after; lanes = left_over } ≡ filled frame_of ended (size - length frames) frames control lanes
  ends-killed h = are_left true ∙ sym (filled-kill frame_of ended frames control lanes (size - length frames) (size - (length frames + 1)) in_room (next_is ready.Kill h))

  pub ends-empty : r ≡ ready.Nothing → record { killed = false; frames = frames; control = after; lanes = left_over } ≡ filled frame_of ended (size - length frames) frames control lanes
  ends-empty h = are_left false ∙ sym (filled-nothing frame_of ended frames control lanes (size - length frames) (size - (length frames + 1)) in_room (next_is ready.Nothing h))

  -- a frame more leaves what filling comes to
  pub goes_on : (frame : List ℕ) (more : List (List ℕ)) → r ≡ ready.Frame frame → more ≡ frames ++ frame ∷ []
      → filled frame_of ended (size - length more) more after left_over ≡ filled frame_of ended (size - length frames) frames control lanes
  goes_on frame more h m =
      let long : length (frames ++ frame ∷ []) ≡ length frames + 1 = length-append frames (frame ∷ []) in
      ap (λ f. filled frame_of ended (size - length f) f after left_over) m
      ∙ (ap (λ n. filled frame_of ended (size - n) (frames ++ frame ∷ []) after left_over) long
      ∙ (ap (λ c. filled frame_of ended (size - (length frames + 1)) (frames ++ frame ∷ []) c left_over) rest
      ∙ (ap (filled frame_of ended (size - (length frames + 1)) (frames ++ frame ∷ []) (drop 1 control)) lanes_are
      ∙ sym (filled-frame frame_of ended frames control lanes (size - length frames) (size - (length frames + 1)) frame in_room (next_is (ready.Frame frame) h)))))

-- What a step of a muxer comes to: its turn, or without memory the loss of what it took.
use Rattle.std.specs.Prelude.{◌≡◌, ℕ, Bool, true, false, List, Option, Some, None, Result, Ok, Err, slice_get}
use Rattle.p2p_flow.specs.declared.plain.Polled.{Polled}
use Rattle.p2p_flow.specs.declared.plain.Polled.TheVariants as polled
use Rattle.p2p_mux.specs.Muxed.{Muxed}
use Rattle.p2p_mux.specs.MuxerTurns.{Turn, WholeTurn, mux_turn, without_control}
use Rattle.p2p_mux.specs.declared.request.Control.{Control}
use Rattle.p2p_mux.specs.declared.stepped.MuxStepped.{MuxStepped}

-- what a step finds: whether one before found no memory, how many places a route has, the queues, and the receiver's
-- way, what it gives and its way then
pub record Found (P W E : Type 0) : Type 0 where
  pub has_failed : Bool
  pub places : ℕ
  pub queues : Muxed P
  pub way : W
  pub received : Result (Polled (P × List ℕ)) E
  pub after : W

-- the muxer was asked something, or else its receiver gives a message
abbrev pub IsAtWork : {X E : Type 0} → Option Control → Result (Polled X) E → Type 0
IsAtWork (Some c) received = Unit {0}
IsAtWork None (Ok (polled.Ready m)) = Unit {0}
IsAtWork None (Ok polled.Pending) = ⊥
IsAtWork None (Err e) = ⊥

-- the receiver's way once the oldest was taken: of what the muxer was asked, or else of the receiver
abbrev pub way_after : {W : Type 0} → Option Control → W → W → W
way_after (Some c) way after = way
way_after None way after = after

module _ {P W E : Type 0} where
  -- what a step over the receiver `r` finds, by the receiver's `places`, `received` and `after_recv`
  abbrev pub found : {R : Type 0} → (R → ℕ) → (R → W → Result (Polled (P × List ℕ)) E) → (R → W → W) → Bool → R
      → Muxed P → W → Found P W E
  found places received after_recv has_failed r queues way = record {
    has_failed = has_failed;
    places = places r;
    queues = queues;
    way = way;
    received = received r way;
    after = after_recv r way;
  }

  abbrev pub turn_of : Found P W E → WholeTurn P W
  turn_of f = mux_turn f.places f.queues f.way f.received f.after

  -- a step made its turn
  pub record IsTurned (f : Found P W E) (s : MuxStepped) (queues : Muxed P) (way : W) : Type 0 where
    pub answer : s ≡ (turn_of f).stepped
    pub queues_then : queues ≡ (turn_of f).queues
    pub way_then : way ≡ (turn_of f).way

  -- a step found no memory: what it took is lost, and nothing else has changed, so nothing has ended
  pub record IsTaken (f : Found P W E) (queues : Muxed P) (way : W) : Type 0 where
    pub going : f.queues.ended ≡ false
    pub taken : IsAtWork (slice_get f.queues.control 0) f.received
    pub queues_then : queues ≡ without_control f.queues
    pub way_then : way ≡ way_after (slice_get f.queues.control 0) f.way f.after

  -- a step that answers want of memory: after one that did, it takes nothing
  pub record IsLost (f : Found P W E) (queues : Muxed P) (way : W) : Type 0 where
    pub first : f.has_failed ≡ false → IsTaken f queues way
    pub later_queues : f.has_failed ≡ true → queues ≡ f.queues
    pub later_way : f.has_failed ≡ true → way ≡ f.way

  -- what a step comes to
  abbrev pub IsStepOf : {X : Type 0} → Found P W E → Result MuxStepped X → Muxed P → W → Type 0
  IsStepOf f (Ok s) queues way = IsTurned f s queues way
  IsStepOf f (Err e) queues way = IsLost f queues way

module _ {P : Type 0} where
  pub record IsDone (t : Turn P) (s : MuxStepped) (queues : Muxed P) : Type 0 where
    pub answer : s ≡ t.stepped
    pub queues_then : queues ≡ t.queues

  -- what a turn that reads no receiver comes to: without memory nothing has changed
  abbrev pub IsTurn : {X : Type 0} → Turn P → Muxed P → Result MuxStepped X → Muxed P → Type 0
  IsTurn t old (Ok s) new = IsDone t s new
  IsTurn t old (Err e) new = new ≡ old

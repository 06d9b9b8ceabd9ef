-- What a step of a background receiver comes to: its turn, or without memory the loss of the message that it took.
use Rattle.std.specs.Prelude.{◌≡◌, ℕ, Bool, true, false, List, Result, Ok, Err}
use Rattle.p2p_base.specs.declared.outcome.Feedback.{Feedback}
use Rattle.p2p_flow.specs.declared.plain.Polled.{Polled}
use Rattle.p2p_flow.specs.declared.plain.Polled.TheVariants as polled
use Rattle.p2p_wire.specs.declared.error.CodecError.{CodecError}
use Rattle.p2p_mux.specs.Background.{Forwarded, Decoding, Decoded, Turn, background_turn}
use Rattle.p2p_mux.specs.declared.codec.stepped.Stepped.{Stepped}

-- what is lent to a step: the queue, the receiver's way and the blocker's way
pub record Lent (P V W U : Type 0) : Type 0 where
  pub out : Forwarded P V
  pub way : W
  pub blocker_way : U

-- what a step finds: whether one before found no memory, what bytes mean, what the receiver gives and its way then,
-- what the blocker tells and its way then, and what is lent
pub record Found (P V W U E : Type 0) : Type 0 where
  pub has_failed : Bool
  pub decoding : List ℕ → Result V CodecError
  pub received : Result (Polled (P × List ℕ)) E
  pub after : W
  pub told : Feedback
  pub block : P → U
  pub lent : Lent P V W U

module _ {P V W U : Type 0} where
  abbrev pub lent_of : Forwarded P V → W → U → Lent P V W U
  lent_of out way blocker_way = record { out = out; way = way; blocker_way = blocker_way }

  -- what a step of `d` finds, by the codec's `decoding`, the receiver's `received` and `after_recv`, and the blocker's
  -- `told` and `after_block`
  abbrev pub found : {B R C E : Type 0} → (C → List ℕ → Result V CodecError) → (R → W → Result (Polled (P × List ℕ)) E)
      → (R → W → W) → (B → U → Feedback) → (B → U → P → U) → Decoding B R C → Lent P V W U → Found P V W U E
  found decoding received after_recv told after_block d lent = record {
    has_failed = d.has_failed;
    decoding = decoding d.config;
    received = received d.receiver lent.way;
    after = after_recv d.receiver lent.way;
    told = told d.blocker lent.blocker_way;
    block = after_block d.blocker lent.blocker_way;
    lent = lent;
  }

-- the receiver gives a message
abbrev pub IsMessage : {X E : Type 0} → Result (Polled X) E → Type 0
IsMessage (Ok (polled.Ready m)) = Unit {0}
IsMessage (Ok polled.Pending) = ⊥
IsMessage (Err e) = ⊥

module _ {P V W U E : Type 0} where
  abbrev pub turn_of : Found P V W U E → Turn P V W U
  turn_of f =
      background_turn f.decoding f.received f.told f.block f.lent.out f.lent.way f.after f.lent.blocker_way

  -- a step made its turn
  pub record IsTurned (f : Found P V W U E) (s : Stepped P) (new : Lent P V W U) : Type 0 where
    pub answer : s ≡ (turn_of f).stepped
    pub out : new.out ≡ (turn_of f).out
    pub way : new.way ≡ (turn_of f).way
    pub blocker_way : new.blocker_way ≡ (turn_of f).blocker_way

  -- a step found no memory: nothing was forwarded or ended, and nobody is blocked. It had taken a message, which is
  -- lost; after such a step nothing is taken
  pub record IsLost (f : Found P V W U E) (new : Lent P V W U) : Type 0 where
    pub out : new.out ≡ f.lent.out
    pub blocker_way : new.blocker_way ≡ f.lent.blocker_way
    pub going : f.has_failed ≡ false → f.lent.out.ended ≡ false
    pub taken : f.has_failed ≡ false → IsMessage f.received
    pub way : f.has_failed ≡ false → new.way ≡ f.after
    pub same_way : f.has_failed ≡ true → new.way ≡ f.lent.way

  -- what a step comes to
  abbrev pub IsStepOf : {X : Type 0} → Found P V W U E → Result (Stepped P) X → Lent P V W U → Type 0
  IsStepOf f (Ok s) new = IsTurned f s new
  IsStepOf f (Err e) new = IsLost f new

module _ {P V U : Type 0} where
  -- a message became this
  pub record IsDecoded (d : Decoded P V U) (s : Stepped P) (new : Forwarded P V) (new_way : U) : Type 0 where
    pub answer : s ≡ d.stepped
    pub out : new ≡ d.out
    pub blocker_way : new_way ≡ d.blocker_way

  -- what a message that was taken comes to: without memory nothing
  abbrev pub IsDecodedFrom : {X : Type 0} → Decoded P V U → Forwarded P V → U → Result (Stepped P) X → Forwarded P V → U
      → Type 0
  IsDecodedFrom d out blocker_way (Ok s) new new_way = IsDecoded d s new new_way
  IsDecodedFrom d out blocker_way (Err e) new new_way = (new ≡ out) × (new_way ≡ blocker_way)

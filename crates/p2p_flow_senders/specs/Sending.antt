-- What sending answers.
use Rattle.std.specs.Prelude.{◌≡◌, ℕ, Bool, true, List, [], length, Option, Some, None, Result, Ok, Err, nat_lt, cond}
use Rattle.p2p_base.specs.Outcome.{is_accepted}
use Rattle.p2p_base.specs.declared.outcome.Unreliable.{Unreliable}
use Rattle.p2p_flow_senders.specs.declared.send_error.SendError.{SendError}
use Rattle.p2p_flow_senders.specs.declared.send_error.SendError.TheVariants as send_error

-- a message is refused where it is longer than the limit
abbrev pub size_refusal : ℕ → List ℕ → Option SendError
size_refusal limit message =
    cond (nat_lt limit (length message)) (Some (send_error.MessageTooLarge (length message) limit)) None

-- the error is want of memory, or the refusal that is due
abbrev pub IsCause : Option SendError → SendError → Type 0
IsCause due send_error.Memory = Unit {0}
IsCause due (send_error.MessageTooLarge size limit) = due ≡ Some (send_error.MessageTooLarge size limit)
IsCause due send_error.NoSubchannel = due ≡ Some send_error.NoSubchannel

-- the same of a send, which is refused only after its check passed
abbrev pub IsCauseAfter : Bool → Option SendError → SendError → Type 0
IsCauseAfter passed due send_error.Memory = Unit {0}
IsCauseAfter passed due (send_error.MessageTooLarge size limit) =
    (passed ≡ true) × (due ≡ Some (send_error.MessageTooLarge size limit))
IsCauseAfter passed due send_error.NoSubchannel = (passed ≡ true) × (due ≡ Some send_error.NoSubchannel)

-- the fact holds, unless memory ran out
abbrev pub UnlessMemory : {X : Type 0} → Result X SendError → Type 0 → Type 0
UnlessMemory (Ok x) fact = fact
UnlessMemory (Err send_error.Memory) fact = Unit {0}
UnlessMemory (Err (send_error.MessageTooLarge size limit)) fact = fact
UnlessMemory (Err send_error.NoSubchannel) fact = fact

-- the fact holds where memory ran out
abbrev pub OnMemory : {X : Type 0} → Result X SendError → Type 0 → Type 0
OnMemory (Ok x) fact = Unit {0}
OnMemory (Err send_error.Memory) fact = fact
OnMemory (Err (send_error.MessageTooLarge size limit)) fact = Unit {0}
OnMemory (Err send_error.NoSubchannel) fact = Unit {0}

module _ {K : Type 0} where
  -- the keys of a checked value, or the moment from which a check passes
  abbrev pub keys_checked : {C : Type 0} → (C → List K) → Result C ℕ → Result (List K) ℕ
  keys_checked keys_of (Ok checked) = Ok (keys_of checked)
  keys_checked keys_of (Err at) = Err at

  -- what a send leaves: where its check passed and its content was taken, that was handed in after the check, and else the check alone was made
  abbrev pub IsLeft : {W X : Type 0} → (W → Type 0) → (List K → W → W → Type 0) → Result (List K) ℕ →
      Result X SendError → W → Type 0
  IsLeft {W = W} asked handed (Ok keys) (Ok x) new = (mid : W) × (asked mid × handed keys mid new)
  IsLeft asked handed (Ok keys) (Err e) new = asked new
  IsLeft asked handed (Err at) r new = asked new

  -- whom a send reaches, by its check and by what is told of its content: nobody where it is refused
  abbrev pub sent_to : (List K → Unreliable) → Result (List K) ℕ → List K
  sent_to told (Ok keys) = cond (is_accepted (told keys)) keys []
  sent_to told (Err at) = []

-- A sender as contracts see it, and what its calls come to: a check, a send to those whom a check admitted, and both in one.
use Rattle.std.specs.Prelude.{◌≡◌, ◌⊎◌, ℕ, Bool, max, true, is_ok, List, Option, None, Result, IfOk, IfErr, OnOk, OnErr}
use Rattle.std.specs.declared.cmp.Ordering.{Ordering}
use Rattle.p2p_base.specs.declared.outcome.Unreliable.{Unreliable}
use Rattle.p2p_runtime.specs.QuotaLaw.{Rate}
use Rattle.p2p_flow.specs.declared.plain.Recipients.{Recipients}
use Rattle.p2p_flow_senders.specs.Admission.{check_by_law, past_after, moment_after}
use Rattle.p2p_flow_senders.specs.Sending.{IsCause, IsCauseAfter, UnlessMemory, OnMemory, IsLeft, keys_checked}
use Rattle.p2p_flow_senders.specs.declared.send_error.SendError.{SendError}

-- one sender: how its keys are compared, whom a checked value admits, and its ghost members
pub record Sends (W K C : Type 0) : Type 1 where
  pub cmp : K → K → Ordering
  pub checked : C → List K
  pub serves : W → Type 0
  pub gave : C → Type 0
  pub rate : W → Rate
  pub stands : W → (K → List ℕ) → ℕ → Type 0
  pub offered : W → Recipients K → List K
  pub refusal : C → List ℕ → Option SendError
  pub due : List ℕ → Option SendError
  pub content : C → List ℕ → List ℕ
  pub content_due : List ℕ → List ℕ
  pub told : W → List K → List ℕ → Bool → Unreliable
  pub asked : W → Recipients K → W → Type 0
  pub handed : W → List K → List ℕ → Bool → W → Type 0
  pub told_after : W → Recipients K → List K → List ℕ → Bool → Unreliable

module _ {W K C : Type 0} where
  abbrev pub sends : (K → K → Ordering) → (C → List K) → (W → Type 0) → (C → Type 0) → (W → Rate)
      → (W → (K → List ℕ) → ℕ → Type 0) → (W → Recipients K → List K) → (C → List ℕ → Option SendError)
      → (List ℕ → Option SendError) → (C → List ℕ → List ℕ) → (List ℕ → List ℕ)
      → (W → List K → List ℕ → Bool → Unreliable) → (W → Recipients K → W → Type 0)
      → (W → List K → List ℕ → Bool → W → Type 0)
      → (W → Recipients K → List K → List ℕ → Bool → Unreliable) → Sends W K C
  sends cmp checked serves gave rate stands offered refusal due content content_due told asked handed told_after = record {
    cmp = cmp;
    checked = checked;
    serves = serves;
    gave = gave;
    rate = rate;
    stands = stands;
    offered = offered;
    refusal = refusal;
    due = due;
    content = content;
    content_due = content_due;
    told = told;
    asked = asked;
    handed = handed;
    told_after = told_after;
  }

  -- what the law answers to a check, where each key was admitted at `past` before
  abbrev pub lawful : Sends W K C → W → Recipients K → ℕ → (K → List ℕ) → ℕ → Result (List K) ℕ
  lawful s old recipients now past latest =
      check_by_law s.cmp (s.rate old) past (max latest now) (s.offered old recipients)

  -- the new way stands for the admissions after the check, and for its moment
  abbrev pub StandsAfter : Sends W K C → W → Recipients K → ℕ → (K → List ℕ) → ℕ → W → Type 0
  StandsAfter s old recipients now past latest new =
      s.stands new (past_after s.cmp (s.rate old) past (max latest now) (s.offered old recipients))
      (moment_after (s.offered old recipients) latest now)

  -- a check of these recipients at a moment: it answers by the law, and takes the cells of those whom it admits; want of memory takes
  -- none
  pub record IsCheckOf {E : Type 0} (s : Sends W K C) (old : W) (recipients : Recipients K) (now : ℕ)
      (result : Result (Result C ℕ) E) (new : W) : Type 0 where
    pub law : (past : K → List ℕ) (latest : ℕ) → s.stands old past latest →
        IfOk result (λ r. keys_checked s.checked r ≡ lawful s old recipients now past latest)
    pub stands : (past : K → List ℕ) (latest : ℕ) → s.stands old past latest →
        OnOk result (StandsAfter s old recipients now past latest new)
    pub memory : (past : K → List ℕ) (latest : ℕ) → s.stands old past latest →
        OnErr result (s.stands new past latest)
    pub gave : IfOk result (λ r. IfOk r (λ c. s.gave c))
    pub due : IfOk result (λ r. IfOk r (λ c. (message : List ℕ) → s.refusal c message ≡ s.due message))
    pub content : IfOk result (λ r. IfOk r (λ c. (message : List ℕ) → s.content c message ≡ s.content_due message))
    pub told : (keys : List K) (message : List ℕ) (priority : Bool) →
        s.told new keys message priority ≡ s.told_after old recipients keys message priority
    pub rate : s.rate new ≡ s.rate old
    pub asked : s.asked old recipients new
    pub serves : s.serves new

  -- a send to those whom a check admitted: where it is refused, or there is no memory, nothing has changed; no cell is taken or given
  -- back
  pub record IsSendCheckedOf (s : Sends W K C) (old : W) (checked : C) (message : List ℕ) (priority : Bool)
      (result : Result Unreliable SendError) (new : W) : Type 0 where
    pub answer : IfOk result (λ u. u ≡ s.told old (s.checked checked) (s.content checked message) priority)
    pub fits : OnOk result (s.refusal checked message ≡ None)
    pub refused : IfErr result (λ e. IsCause (s.refusal checked message) e)
    pub handed : OnOk result (s.handed old (s.checked checked) (s.content checked message) priority new)
    pub unchanged : OnErr result (new ≡ old)
    pub stands : (past : K → List ℕ) (latest : ℕ) → s.stands old past latest → s.stands new past latest
    pub rate : s.rate new ≡ s.rate old
    pub serves : s.serves new

  -- a check of these recipients, and a send of a message to those whom it admits, which answers so by what is told of it and by the
  -- check. Where memory runs out, the cells of the check are taken, or none is
  pub record IsSendOf {X : Type 0} (s : Sends W K C) (answers : (List K → Unreliable) → Result (List K) ℕ → X → Type 0)
      (old : W) (recipients : Recipients K) (message : List ℕ) (priority : Bool) (now : ℕ)
      (result : Result X SendError) (new : W) : Type 0 where
    pub answer : (past : K → List ℕ) (latest : ℕ) → s.stands old past latest → IfOk result
        (answers (λ keys. s.told_after old recipients keys (s.content_due message) priority)
        (lawful s old recipients now past latest))
    pub fits : (past : K → List ℕ) (latest : ℕ) → s.stands old past latest → OnOk result
        (is_ok (lawful s old recipients now past latest) ≡ true → s.due message ≡ None)
    pub refused : (past : K → List ℕ) (latest : ℕ) → s.stands old past latest →
        IfErr result (IsCauseAfter (is_ok (lawful s old recipients now past latest)) (s.due message))
    pub stands : (past : K → List ℕ) (latest : ℕ) → s.stands old past latest →
        UnlessMemory result (StandsAfter s old recipients now past latest new)
    pub memory : (past : K → List ℕ) (latest : ℕ) → s.stands old past latest →
        OnMemory result (s.stands new past latest ⊎ StandsAfter s old recipients now past latest new)
    pub left : (past : K → List ℕ) (latest : ℕ) → s.stands old past latest → UnlessMemory result
        (IsLeft (s.asked old recipients) (λ keys mid to. s.handed mid keys (s.content_due message) priority to)
        (lawful s old recipients now past latest) result new)
    pub rate : s.rate new ≡ s.rate old
    pub serves : s.serves new

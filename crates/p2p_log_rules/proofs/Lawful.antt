-- A lawful log goes on by the effect of one more event, and is the only one.
use Rattle.std.proofs.Common.{◌≡◌, ℕ, suc, ◌+◌, ◌<◌, Bool, true, false, cond, List, [], ◌∷◌, ◌++◌, length, take, refl, ap, sym, subst, ◌∙◌, arith, append_assoc, length-append, Some, None}
use Rattle.std.specs.Prelude.{slice_get, nat_lt, ◌==◌}
use Rattle.std.proofs.lemmas.Bool.Decides.{nat_tests}
use Rattle.std.proofs.lemmas.List.{take-append-le}
use Rattle.std.proofs.Math.Seq.{take-append_seam}
use Rattle.p2p_log.specs.declared.config.Config.{Config}
use Rattle.p2p_log.specs.declared.event.Event.{Event}
use Rattle.p2p_log.specs.declared.entry.Entry.{Entry}
use Rattle.p2p_log_rules.specs.Effect.{effect}
use Rattle.p2p_log_rules.specs.Lawful.{IsLawful}
use Rattle.p2p_log.proofs.Places.{slice_get-append}

pub IsLawful-nil : (configs : List Config) → IsLawful configs [] []
IsLawful-nil configs = record { long = refl; each = λ n e ev s t. cc }

-- the last of two lists in step is the last of both
step_each :
    (configs : List Config) (script : List Event) (log : List Entry) (v : Event) → IsLawful configs script log
    → (n : ℕ) (e : Entry) (ev : Event) (b c : Bool)
    → b ≡ nat_lt n (length log) → c ≡ (n == length log)
    → cond b (slice_get log n) (cond c (Some (effect configs log v)) None) ≡ Some e
    → cond b (slice_get script n) (cond c (Some v) None) ≡ Some ev
    → e ≡ effect configs (take n (log ++ effect configs log v ∷ [])) ev
step_each configs script log v h n e ev true c p q s t =
    let le : n < length log = grind (arith, nat_tests) in
    h.each n e ev s t ∙ ap (λ l. effect configs l ev) (sym (take-append-le n log (effect configs log v ∷ []) (omega arith)))
step_each configs script log v h n e ev false true p q s t =
    let at : n ≡ length log = grind (arith, nat_tests) in
    let whole : take n (log ++ effect configs log v ∷ []) ≡ log =
    ap (λ k. take k (log ++ effect configs log v ∷ [])) at ∙ take-append_seam log (effect configs log v ∷ [])
    in
    let es : effect configs log v ≡ e = cc in
    let vs : v ≡ ev = cc in
    sym es ∙ (ap (effect configs log) vs ∙ ap (λ l. effect configs l ev) (sym whole))
step_each configs script log v h n e ev false false p q s t = cc

pub IsLawful-append :
    (configs : List Config) (script : List Event) (log : List Entry) (v : Event)
    → IsLawful configs script log → IsLawful configs (script ++ v ∷ []) (log ++ effect configs log v ∷ [])
IsLawful-append configs script log v h = record {
  long = length-append log (effect configs log v ∷ []) ∙ (ap (λ k. k + 1) h.long ∙ sym (length-append script (v ∷ [])));
  each = λ n e ev s t.
      step_each configs script log v h n e ev (nat_lt n (length log)) (n == length log) refl refl
      (sym (slice_get-append log (effect configs log v) n) ∙ s)
      (subst (λ k. cond (nat_lt n k) (slice_get script n) (cond (n == k) (Some v) None) ≡ Some ev) (sym h.long)
      (sym (slice_get-append script v n) ∙ t));
}

-- the same after entries that stand before the log
record IsLawfulAfter (configs : List Config) (before : List Entry) (script : List Event) (log : List Entry) : Type 0 where
  long : length log ≡ length script
  each : (n : ℕ) (e : Entry) (ev : Event) → slice_get log n ≡ Some e → slice_get script n ≡ Some ev → e ≡ effect configs (before ++ take n log) ev

tail_lawful :
    (configs : List Config) (before : List Entry) (v : Event) (script : List Event) (x : Entry) (xs : List Entry)
    → IsLawfulAfter configs before (v ∷ script) (x ∷ xs) → IsLawfulAfter configs (before ++ x ∷ []) script xs
tail_lawful configs before v script x xs h = record {
  long = let l = h.long in grind arith;
  each = λ n e ev s t. h.each (suc n) e ev s t ∙ ap (λ l. effect configs l ev) (sym (append_assoc before (x ∷ []) (take n xs)));
}

unique_after :
    (configs : List Config) (before : List Entry) (script : List Event) (a b : List Entry)
    → IsLawfulAfter configs before script a → IsLawfulAfter configs before script b → a ≡ b
unique_after configs before [] [] [] h k = refl
unique_after configs before [] (x ∷ xs) b h k = absurd (let l = h.long in grind arith)
unique_after configs before [] [] (y ∷ ys) h k = absurd (let l = k.long in grind arith)
unique_after configs before (v ∷ script) [] b h k = absurd (let l = h.long in grind arith)
unique_after configs before (v ∷ script) (x ∷ xs) [] h k = absurd (let l = k.long in grind arith)
unique_after configs before (v ∷ script) (x ∷ xs) (y ∷ ys) h k =
    let same : x ≡ y = h.each 0 x v refl refl ∙ sym (k.each 0 y v refl refl) in
    ap (λ z. z ∷ xs) same
    ∙ ap (λ r. y ∷ r)
    (unique_after configs (before ++ y ∷ []) script xs ys
    (subst (λ (z : Entry). IsLawfulAfter configs (before ++ z ∷ []) script xs) same (tail_lawful configs before v script x xs h))
    (tail_lawful configs before v script y ys k))

from_start : (configs : List Config) (script : List Event) (log : List Entry) → IsLawful configs script log → IsLawfulAfter configs [] script log
from_start configs script log h = record { long = h.long; each = h.each }

-- each lawful log of one script is the same
pub IsLawful-unique :
    (configs : List Config) (script : List Event) (a b : List Entry) → IsLawful configs script a → IsLawful configs script b → a ≡ b
IsLawful-unique configs script a b h k =
    unique_after configs [] script a b (from_start configs script a h) (from_start configs script b k)

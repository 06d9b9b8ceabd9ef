-- What holds of the empty log and is kept by each entry that is due holds of each beginning of a lawful log.
use Rattle.std.proofs.Common.{◌≡◌, ℕ, suc, zero, List, [], ◌∷◌, ◌++◌, length, take, Option, Some, None, refl, ap, sym, subst, ◌∙◌, arith}
use Rattle.std.specs.Prelude.{slice_get}
use Rattle.std.proofs.lemmas.List.{take_all}
use Rattle.p2p_log.specs.declared.config.Config.{Config}
use Rattle.p2p_log.specs.declared.event.Event.{Event}
use Rattle.p2p_log.specs.declared.entry.Entry.{Entry}
use Rattle.p2p_log_rules.specs.Lawful.{IsLawful}
use Rattle.p2p_log_rules.specs.Effect.{effect}
use Rattle.p2p_log_rules.proofs.Lawful.{IsLawful-nil, IsLawful-append}

-- one element more, or none
pub take_next : {X : Type 0} (xs : List X) (n : ℕ) (x : X) → slice_get xs n ≡ Some x → take (suc n) xs ≡ take n xs ++ x ∷ []
take_next [] n x h = absurd (cc)
take_next (y ∷ ys) zero x h = let same : y ≡ x = cc in ap (λ z. z ∷ []) same
take_next (y ∷ ys) (suc n) x h = ap (λ r. y ∷ r) (take_next ys n x h)

pub take_no_more : {X : Type 0} (xs : List X) (n : ℕ) → slice_get xs n ≡ None → take (suc n) xs ≡ take n xs
take_no_more [] zero h = refl
take_no_more [] (suc n) h = refl
take_no_more (y ∷ ys) zero h = absurd (cc)
take_no_more (y ∷ ys) (suc n) h = ap (λ r. y ∷ r) (take_no_more ys n h)

-- where a list has an element, a list of its length has one
get_in_other : {X Y : Type 0} (xs : List X) (ys : List Y) (n : ℕ) (x : X) → length xs ≡ length ys → slice_get xs n ≡ Some x → (y : Y) × (slice_get ys n ≡ Some y)
get_in_other [] ys n x long h = absurd (cc)
get_in_other (x ∷ xs) [] n z long h = absurd (omega (arith, long))
get_in_other (x ∷ xs) (y ∷ ys) zero z long h = (y, refl)
get_in_other (x ∷ xs) (y ∷ ys) (suc n) z long h = get_in_other xs ys n z (omega (arith, long)) h

-- each entry of a lawful log is the effect of an event after the entries before it
pub entry_due : (configs : List Config) (script : List Event) (log : List Entry) → IsLawful configs script log
    → (n : ℕ) (e : Entry) → slice_get log n ≡ Some e → (ev : Event) × (e ≡ effect configs (take n log) ev)
entry_due configs script log lawful n e h =
    let v = get_in_other log script n e lawful.long h in
    (v.0, lawful.each n e v.0 h v.1)

module _ (configs : List Config) (P : List Entry → Type 0) (base : P [])
    (step : (before : List Entry) (ev : Event) → P before → P (before ++ effect configs before ev ∷ [])) where
  next : (script : List Event) (log : List Entry) → IsLawful configs script log → (n : ℕ) (o : Option Entry) → slice_get log n ≡ o → P (take n log) → P (take (suc n) log)
  next script log lawful n None h p = subst P (sym (take_no_more log n h)) p
  next script log lawful n (Some e) h p =
      let due = entry_due configs script log lawful n e h in
      subst P (sym (take_next log n e h ∙ ap (λ d. take n log ++ d ∷ []) due.1)) (step (take n log) due.0 p)

  pub at_each : (script : List Event) (log : List Entry) → IsLawful configs script log → (n : ℕ) → P (take n log)
  at_each script log lawful zero = base
  at_each script log lawful (suc n) = next script log lawful n (slice_get log n) refl (at_each script log lawful n)

  pub at_end : (script : List Event) (log : List Entry) → IsLawful configs script log → P log
  at_end script log lawful = subst P (take_all (length log) log (omega arith)) (at_each script log lawful (length log))

-- the same, where the entries before are known to be lawful
module _ (configs : List Config) (P : List Entry → Type 0) (base : P [])
    (step : (script : List Event) (before : List Entry) (ev : Event) → IsLawful configs script before → P before → P (before ++ effect configs before ev ∷ [])) where
  abbrev OfLawful : List Entry → Type 0
  OfLawful before = (script : List Event) × IsLawful configs script before × P before

  first : OfLawful []
  first = ([], IsLawful-nil configs, base)

  more : (before : List Entry) (ev : Event) → OfLawful before → OfLawful (before ++ effect configs before ev ∷ [])
  more before ev (script, lawful, p) = (script ++ ev ∷ [], IsLawful-append configs script before ev lawful, step script before ev lawful p)

  pub lawful_at_each : (script : List Event) (log : List Entry) → IsLawful configs script log → (n : ℕ) → P (take n log)
  lawful_at_each script log lawful n = (at_each configs OfLawful first more script log lawful n).2

  pub lawful_at_end : (script : List Event) (log : List Entry) → IsLawful configs script log → P log
  lawful_at_end script log lawful = (at_end configs OfLawful first more script log lawful).2

-- Infos that are looked at one after another.
use Rattle.std.proofs.Common.{◌≡◌, ℕ, suc, ◌+◌, ◌<◌, ◌≤◌, Bool, List, ◌∷◌, length, get_or, drop, Option, Some, None, refl, sym, ap, ◌∙◌, add-one, drop-cons}
use Rattle.std.proofs.lemmas.List.{drop_all}
use Rattle.p2p_discovery.specs.declared.info.Info.{Info}
use Rattle.p2p_discovery.specs.declared.types.error.Error.{Error}
use Rattle.p2p_discovery.specs.Verifying.{Believed, info_fault, first_fault}

module _ {P : Type 0} (eq : P → P → Bool) (b : Believed P) (accepts : P → List ℕ → List ℕ → List ℕ → Bool) (now : ℕ) where
  from-here : (infos : List (Info P)) (i : ℕ) (x : Info P) → i < length infos → x ≡ get_or infos i x → drop i infos ≡ x ∷ drop (i + 1) infos
  from-here infos i x lt is = rw add-one (drop-cons infos i x lt ∙ ap (λ (y : Info P). y ∷ drop (suc i) infos) (sym is))

  -- one that is believed is passed
  pub one-passed : (infos : List (Info P)) (i : ℕ) (x : Info P) (all : Option Error) → i < length infos → x ≡ get_or infos i x → info_fault eq b accepts now x ≡ None
      → first_fault eq b accepts now (drop i infos) ≡ all → first_fault eq b accepts now (drop (i + 1) infos) ≡ all
  unfolding first_fault
  one-passed infos i x all lt is none so_far =
      let step : first_fault eq b accepts now (drop i infos) ≡ first_fault eq b accepts now (drop (i + 1) infos) = rw (from-here infos i x lt is, none) refl in
      sym step ∙ so_far

  -- the first that isn't is the answer
  pub one-refused : (infos : List (Info P)) (i : ℕ) (x : Info P) (e : Error) (all : Option Error) → i < length infos → x ≡ get_or infos i x → info_fault eq b accepts now x ≡ Some e
      → first_fault eq b accepts now (drop i infos) ≡ all → all ≡ Some e
  unfolding first_fault
  one-refused infos i x e all lt is fault so_far =
      let step : first_fault eq b accepts now (drop i infos) ≡ Some e = rw (from-here infos i x lt is, fault) refl in
      sym so_far ∙ step

  pub all-passed : (infos : List (Info P)) (i : ℕ) (all : Option Error) → length infos ≤ i → first_fault eq b accepts now (drop i infos) ≡ all → all ≡ None
  unfolding first_fault
  all-passed infos i all le so_far =
      let step : first_fault eq b accepts now (drop i infos) ≡ None = rw (drop_all i infos le) refl in
      sym so_far ∙ step

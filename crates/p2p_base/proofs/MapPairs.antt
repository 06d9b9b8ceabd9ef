-- Equality and clones of entries, by their keys and by their values.
use Rattle.std.proofs.Common.{◌≡◌, Bool, true, false, ◌&&◌, List, [], ◌∷◌, length, refl, ap, ◌∙◌, arith}
use Rattle.std.specs.List.{AllZip, zip}
use Rattle.std.specs.Cmp.Lexicographic.{pointwise}

regroup : (a b c d : Bool) → ((a && b) && (c && d)) ≡ ((a && c) && (b && d))
regroup true true c d = refl
regroup true false true d = refl
regroup true false false d = refl
regroup false b c d = refl

-- the answer of a test after a first that holds, and of a first that fails
pub second_answers : (a b whole r : Bool) → true ≡ a → r ≡ b → (a && b) ≡ whole → r ≡ whole
second_answers true b whole r h e w = e ∙ w
second_answers false b whole r h e w = cc

pub first_answers : (a b whole r : Bool) → false ≡ a → r ≡ a → (a && b) ≡ whole → r ≡ whole
first_answers true b whole r h e w = cc
first_answers false b whole r h e w = e ∙ w

module _ {K V : Type 0} (E : K → K → Bool) (F : V → V → Bool) where
  -- entries are equal where their keys are and their values are
  pub pointwise-zip : (ks js : List K) (vs ws : List V) → length vs ≡ length ks → length ws ≡ length js
      → (pointwise E ks js && pointwise F vs ws) ≡ pointwise (λ a b. E a.0 b.0 && F a.1 b.1) (zip ks vs) (zip js ws)
  pointwise-zip [] [] [] [] h k = refl
  pointwise-zip [] [] (v ∷ vs) ws h k = absurd (omega arith)
  pointwise-zip [] [] [] (w ∷ ws) h k = absurd (omega arith)
  pointwise-zip [] (j ∷ js) vs [] h k = absurd (omega arith)
  pointwise-zip [] (j ∷ js) vs (w ∷ ws) h k = refl
  pointwise-zip (i ∷ ks) [] [] ws h k = absurd (omega arith)
  pointwise-zip (i ∷ ks) [] (v ∷ vs) ws h k = refl
  pointwise-zip (i ∷ ks) (j ∷ js) [] ws h k = absurd (omega arith)
  pointwise-zip (i ∷ ks) (j ∷ js) (v ∷ vs) [] h k = absurd (omega arith)
  pointwise-zip (i ∷ ks) (j ∷ js) (v ∷ vs) (w ∷ ws) h k =
      regroup (E i j) (pointwise E ks js) (F v w) (pointwise F vs ws)
      ∙ ap (λ z. (E i j && F v w) && z) (pointwise-zip ks js vs ws (omega arith) (omega arith))

module _ {K V : Type 0} (C : V → V → Type 0) where
  -- clones of the values beside the keys are clones of the entries
  pub AllZip-zip : (ks : List K) (vs ws : List V) → length vs ≡ length ks → AllZip C vs ws
      → AllZip (λ (a b : K × V). (b.0 ≡ a.0) × C a.1 b.1) (zip ks vs) (zip ks ws)
  AllZip-zip [] vs ws h a = tt
  AllZip-zip (k ∷ ks) [] ws h a = absurd (omega arith)
  AllZip-zip (k ∷ ks) (v ∷ vs) [] h a = absurd a
  AllZip-zip (k ∷ ks) (v ∷ vs) (w ∷ ws) h a = ((refl, a.0), AllZip-zip ks vs ws (omega arith) a.1)

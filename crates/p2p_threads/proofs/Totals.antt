-- Sums over all seats, and facts of each seat, as one view changes or one more comes.
use Rattle.std.proofs.Common.{◌≡◌, ◌≢◌, ℕ, zero, suc, ◌+◌, ◌≤◌, List, [], ◌∷◌, ◌++◌, set, refl, sym, ap, subst, ⊎_elim, arith}
use mathlib.Core.Option.{some, some-injective, some-ne-none}
use lib.ListN.{get_elem?}
use Rattle.atomic_table.proofs.Lists.{at_set, at_snoc}
use Rattle.p2p_threads.specs.Turns.{total}

module _ {V : Type 0} where
  pub total-set : (f : V → ℕ) (l : List V) (i : ℕ) (v w : V) → get_elem? l i ≡ some v → total f (set l i w) + f v ≡ total f l + f w
  total-set f [] i v w e = absurd (some-ne-none v (sym e))
  total-set f (x ∷ xs) zero v w e = let is : f x ≡ f v = ap f (some-injective x v e) in omega arith
  total-set f (x ∷ xs) (suc i) v w e = let r = total-set f xs i v w e in omega arith

  pub total-snoc : (f : V → ℕ) (l : List V) (v : V) → total f (l ++ v ∷ []) ≡ total f l + f v
  total-snoc f [] v = omega arith
  total-snoc f (x ∷ xs) v = let r = total-snoc f xs v in omega arith

  pub total-at : (f : V → ℕ) (l : List V) (i : ℕ) (v : V) → get_elem? l i ≡ some v → f v ≤ total f l
  total-at f [] i v e = absurd (some-ne-none v (sym e))
  total-at f (x ∷ xs) zero v e = let is : f x ≡ f v = ap f (some-injective x v e) in omega arith
  total-at f (x ∷ xs) (suc i) v e = let r = total-at f xs i v e in omega arith

  pub total-none : (f : V → ℕ) (l : List V) → ((i : ℕ) (v : V) → get_elem? l i ≡ some v → f v ≡ 0) → total f l ≡ 0
  total-none f [] h = refl
  total-none f (x ∷ xs) h = let a = h 0 x refl in let r = total-none f xs (λ i v e. h (suc i) v e) in omega arith

  -- where this seat has all of the sum, each other seat has none of it
  pub total-others : (f : V → ℕ) (l : List V) (i : ℕ) (v : V) → get_elem? l i ≡ some v → total f l ≡ f v → (j : ℕ) (u : V) → j ≢ i → get_elem? l j ≡ some u → f u ≡ 0
  total-others f [] i v e sum j u ne at = absurd (some-ne-none v (sym e))
  total-others f (x ∷ xs) zero v e sum zero u ne at = absurd (ne refl)
  total-others f (x ∷ xs) zero v e sum (suc j) u ne at =
      let is : f x ≡ f v = ap f (some-injective x v e) in
      let r = total-at f xs j u at in omega arith
  total-others f (x ∷ xs) (suc i) v e sum zero u ne at =
      let is : f x ≡ f u = ap f (some-injective x u at) in
      let r = total-at f xs i v e in omega arith
  total-others f (x ∷ xs) (suc i) v e sum (suc j) u ne at =
      let r = total-at f xs i v e in
      total-others f xs i v e (omega arith) j u (λ same. ne (ap suc same)) at

  -- where f is nothing of a seat that has nothing of g, and this seat has all of g, it has all of f
  pub total-alone : (f g : V → ℕ) (l : List V) (i : ℕ) (v : V) → get_elem? l i ≡ some v → total g l ≡ g v → ((j : ℕ) (u : V) → get_elem? l j ≡ some u → g u ≡ 0 → f u ≡ 0) → total f l ≡ f v
  total-alone f g [] i v e sum h = absurd (some-ne-none v (sym e))
  total-alone f g (x ∷ xs) zero v e sum h =
      let a : f x ≡ f v = ap f (some-injective x v e) in
      let b : g x ≡ g v = ap g (some-injective x v e) in
      let r = total-none f xs (λ j u at. h (suc j) u at (let m = total-at g xs j u at in omega arith)) in omega arith
  total-alone f g (x ∷ xs) (suc i) v e sum h =
      let b = total-at g xs i v e in
      let a = h 0 x refl (omega arith) in
      let r = total-alone f g xs i v e (omega arith) (λ j u at. h (suc j) u at) in omega arith

  -- a fact of each seat, where this one's view becomes w
  pub each-set : (P : V → Type 0) (l : List V) (i : ℕ) (w : V) → ((j : ℕ) (u : V) → j ≢ i → get_elem? l j ≡ some u → P u) → P w → (j : ℕ) (u : V) → get_elem? (set l i w) j ≡ some u → P u
  each-set P l i w others mine j u e =
      ⊎_elim
      (λ (t : (j ≡ i) × (w ≡ u)). subst P t.1 mine)
      (λ (t : (j ≢ i) × (get_elem? l j ≡ some u)). others j u t.0 t.1)
      (at_set l i j w u e)

  pub each-snoc : (P : V → Type 0) (l : List V) (w : V) → ((j : ℕ) (u : V) → get_elem? l j ≡ some u → P u) → P w → (j : ℕ) (u : V) → get_elem? (l ++ w ∷ []) j ≡ some u → P u
  each-snoc P l w others mine j u e =
      ⊎_elim (λ (t : get_elem? l j ≡ some u). others j u t) (λ (t : w ≡ u). subst P t mine) (at_snoc l w u j e)

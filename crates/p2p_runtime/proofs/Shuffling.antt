-- The exchanges of a shuffle, one by one.
use Rattle.std.proofs.Common.{◌≡◌, ℕ, zero, suc, ◌-◌, ◌<◌, ◌≤◌, List, [], ◌∷◌, length, IsPermutation, refl, arith}
use Rattle.std.proofs.lemmas.List.Sorted.{IsPermutation-refl, IsPermutation-swap, IsPermutation-trans, length_permutation}
use Rattle.std.specs.List.{swap}
use Rattle.rand_pcg.specs.Lcg.{Lcg}
use Rattle.p2p_runtime.specs.Draws.{drawn, exchanged, shuffled}

-- a number that is drawn is at most the greatest one
pub drawn-le : (most : ℕ) (g : Lcg) → (drawn most g).0 ≤ most
drawn-le most g = omega arith

module _ {T : Type 0} where
  pub exchanged-more : (i m : ℕ) (xs : List T) (g : Lcg) → m ≡ suc i → exchanged m xs g ≡ exchanged i (swap xs m (drawn m g).0) (drawn m g).1
  unfolding exchanged
  exchanged-more i m xs g e = rw e

  pub exchanged-all : (m : ℕ) (xs : List T) (g : Lcg) → m ≡ 0 → exchanged m xs g ≡ (xs, g)
  unfolding exchanged
  exchanged-all m xs g e = rw e

  kept_order : (i : ℕ) (xs : List T) (g : Lcg) → i < length xs → IsPermutation xs (exchanged i xs g).0
  unfolding exchanged
  kept_order zero xs g h = IsPermutation-refl xs
  kept_order (suc i) xs g h =
      let place = (drawn (suc i) g).0 in
      let within : place < length xs = omega (arith, drawn-le (suc i) g) in
      let moved = IsPermutation-swap xs (swap xs (suc i) place) (suc i) place h within refl in
      let long = length_permutation xs (swap xs (suc i) place) moved in
      IsPermutation-trans xs (swap xs (suc i) place) _ moved (kept_order i (swap xs (suc i) place) (drawn (suc i) g).1 (omega arith))

  -- a shuffled list has the items of the list
  pub shuffled-permutation : (xs : List T) (g : Lcg) → IsPermutation xs (shuffled xs g).0
  shuffled-permutation [] g = rw (exchanged-all (length {A = T} [] - 1) [] g (omega arith)) (IsPermutation-refl [])
  shuffled-permutation (x ∷ xs) g = kept_order (length (x ∷ xs) - 1) (x ∷ xs) g (omega arith)

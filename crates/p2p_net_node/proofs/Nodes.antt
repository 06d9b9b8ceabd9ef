-- Places of a list, of which one is changed.
use Rattle.std.proofs.Common.{◌≡◌, ℕ, zero, suc, ◌<◌, false, cond, List, [], ◌∷◌, length, get_or, ap, sym, ◌∙◌, refl, arith, Option, None, Some, Bor}
use Rattle.std.specs.Prelude.{slice_get, slice_set, slice_index_or, is_some, nat_lt, IfSome, ◌==◌}
use Rattle.std.specs.Option.{option_copied}
use Rattle.std.proofs.lemmas.Bool.Decides.{nat_tests}
use Rattle.std.proofs.lemmas.List.{length-set}
use Rattle.std.proofs.lemmas.Option.{slice_get-get_or, slice_get_past}

pub slice_get-set : {X : Type 0} (xs : List X) (k n : ℕ) (v : X) → k < length xs → slice_get (slice_set xs k v) n ≡ cond (k == n) (Some v) (slice_get xs n)
slice_get-set [] k n v h = absurd (omega arith)
slice_get-set (x ∷ xs) zero zero v h = refl
slice_get-set (x ∷ xs) zero (suc n) v h = grind (arith, nat_tests)
slice_get-set (x ∷ xs) (suc k) zero v h = grind (arith, nat_tests)
slice_get-set (x ∷ xs) (suc k) (suc n) v h =
    slice_get-set xs k n v (omega arith) ∙ ap (λ b. cond b (Some v) (slice_get xs n)) (grind (arith, nat_tests))

-- what an index found
pub found : {X : Type 0} (xs : List X) (i : ℕ) (x : X) → i < length xs → x ≡ slice_index_or xs i x → slice_get xs i ≡ Some x
found xs i x lt h = slice_get-get_or xs i x lt ∙ ap Some (sym h)

-- what a second index found, after the first place changed
pub found_second :
    {X : Type 0} (xs : List X) (a b : ℕ) (v x : X) → a < length xs → b < length xs → (a == b) ≡ false
    → x ≡ slice_index_or (slice_set xs a v) b x → slice_get xs b ≡ Some x
found_second xs a b v x la lb two h =
    let long : length (slice_set xs a v) ≡ length xs = length-set xs a v in
    ap (λ t. cond t (Some v) (slice_get xs b)) (sym two)
    ∙ (sym (slice_get-set xs a b v la) ∙ found (slice_set xs a v) b x (omega (arith, long)) h)

-- a place below the end
pub record IsAt {X : Type 0} (xs : List X) (n : ℕ) : Type 0 where
  pub x : X
  pub is : slice_get xs n ≡ Some x

pub some_at : {X : Type 0} (xs : List X) (n : ℕ) → n < length xs → IsAt xs n
some_at [] n h = absurd (omega arith)
some_at (x ∷ xs) zero h = record { x = x; is = refl }
some_at (x ∷ xs) (suc n) h = let r = some_at xs n (omega arith) in record { x = r.x; is = r.is }

pub below : {X : Type 0} (xs : List X) (n : ℕ) (x : X) → slice_get xs n ≡ Some x → n < length xs
below [] n x h = cc
below (y ∷ ys) zero x h = omega arith
below (y ∷ ys) (suc n) x h = let r = below ys n x h in omega arith

-- what is found at a place, if there is something
pub copied_at : {X : Type 0} (o : Option (Bor X)) (xs : List X) (n : ℕ) → is_some o ≡ nat_lt n (length xs) → IfSome o (λ b. b.now ≡ get_or xs n b.now) → option_copied o ≡ slice_get xs n
copied_at None xs n none h = sym (slice_get_past xs n (grind (arith, nat_tests)))
copied_at (Some b) xs n some h = sym (slice_get-get_or xs n b.now (grind (arith, nat_tests)) ∙ ap (λ y. Some y) (sym h))

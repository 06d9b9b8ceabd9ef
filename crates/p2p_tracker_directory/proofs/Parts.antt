-- What stands before an item of a list, at it, and behind it.
use Rattle.std.proofs.Common.{◌≡◌, ℕ, zero, suc, ◌+◌, ◌^◌, ◌<◌, List, [], ◌∷◌, ◌++◌, length, length-append, take, drop, Some, refl, sym, ap, ◌∙◌, arith}
use Rattle.std.proofs.lemmas.List.{append_assoc}
use Rattle.std.specs.List.{slice_get}

module _ {X : Type 0} (x : X) where
  pub take-past : (l r : List X) (n m : ℕ) → n ≡ length l + suc m → take n (l ++ x ∷ r) ≡ l ++ x ∷ take m r
  take-past [] r n m e = let is : n ≡ suc m = omega (arith, e) in ap (λ k. take k (x ∷ r)) is
  take-past (y ∷ l) r n m e = let is : n ≡ suc (length l + suc m) = omega (arith, e) in ap (λ k. take k (y ∷ (l ++ x ∷ r))) is ∙ ap (λ zs. y ∷ zs) (take-past l r (length l + suc m) m refl)

  pub drop-past : (l r : List X) (n m : ℕ) → n ≡ length l + suc m → drop n (l ++ x ∷ r) ≡ drop m r
  drop-past [] r n m e = let is : n ≡ suc m = omega (arith, e) in ap (λ k. drop k (x ∷ r)) is
  drop-past (y ∷ l) r n m e = let is : n ≡ suc (length l + suc m) = omega (arith, e) in ap (λ k. drop k (y ∷ (l ++ x ∷ r))) is ∙ drop-past l r (length l + suc m) m refl

  pub get-past : (l r : List X) (n m : ℕ) → n ≡ length l + suc m → slice_get (l ++ x ∷ r) n ≡ slice_get r m
  get-past [] r n m e = let is : n ≡ suc m = omega (arith, e) in ap (slice_get (x ∷ r)) is
  get-past (y ∷ l) r n m e = let is : n ≡ suc (length l + suc m) = omega (arith, e) in ap (slice_get (y ∷ (l ++ x ∷ r))) is ∙ get-past l r (length l + suc m) m refl

  pub get-at : (l r : List X) (n : ℕ) → n ≡ length l → slice_get (l ++ x ∷ r) n ≡ Some x
  get-at [] r n e = ap (slice_get (x ∷ r)) e
  get-at (y ∷ l) r n e = ap (slice_get (y ∷ (l ++ x ∷ r))) e ∙ get-at l r (length l) refl

module _ {X : Type 0} where
  pub get-before : (l r : List X) (n : ℕ) → n < length l → slice_get (l ++ r) n ≡ slice_get l n
  get-before [] r n h = absurd (omega (arith, h))
  get-before (y ∷ l) r zero h = refl
  get-before (y ∷ l) r (suc n) h = get-before l r n (omega (arith, h))

  -- how long a list is that has parts
  pub len-parts : (l r : List X) (x : X) (n m : ℕ) → n ≡ length l → m ≡ length r → (n + 1) + m ≡ length (l ++ x ∷ r)
  len-parts l r x n m e f = let long = length-append l (x ∷ r) in omega (arith, e, f, long)

  -- a list before one that has parts, and one behind
  pub join-before : (a b j l r : List X) → j ≡ a ++ l → b ≡ l ++ r → j ++ r ≡ a ++ b
  join-before a b j l r e f = ap (λ xs. xs ++ r) e ∙ (append_assoc a l r ∙ ap (λ xs. a ++ xs) (sym f))

  pub join-behind : (a b j l r : List X) (x : X) → j ≡ r ++ b → a ≡ l ++ x ∷ r → l ++ x ∷ j ≡ a ++ b
  join-behind a b j l r x e f = ap (λ xs. l ++ x ∷ xs) e ∙ (sym (append_assoc l (x ∷ r) b) ∙ ap (λ xs. xs ++ b) (sym f))

  -- there is room for both
  pub room-before : (a b j l r : List X) (x : X) → j ≡ a ++ l → b ≡ l ++ x ∷ r → length a + length b < 2 ^ 64 → length j + 1 + length r < 2 ^ 64
  room-before a b j l r x e f h =
      let more = ap length e ∙ length-append a l in
      let long = ap length f ∙ length-append l (x ∷ r) in
      omega (arith, more, long, h)

  pub room-behind : (a b j l r : List X) (x : X) → j ≡ r ++ b → a ≡ l ++ x ∷ r → length a + length b < 2 ^ 64 → length l + 1 + length j < 2 ^ 64
  room-behind a b j l r x e f h =
      let more = ap length e ∙ length-append r b in
      let long = ap length f ∙ length-append l (x ∷ r) in
      omega (arith, more, long, h)

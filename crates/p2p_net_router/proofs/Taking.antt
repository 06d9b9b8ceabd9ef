-- Items that are taken one by one.
use Rattle.std.proofs.Common.{◌≡◌, ℕ, zero, suc, ◌+◌, ◌-◌, ◌≤◌, List, [], ◌∷◌, ◌++◌, length, take, drop, refl, ap, sym, ◌∙◌, arith, append_assoc, add-one, Some, None}
use Rattle.std.specs.Prelude.{map, slice_get}
use Rattle.std.proofs.lemmas.List.{take_all, map-append}
use Rattle.p2p_log.specs.declared.item.Envelope.{Envelope}

take_next : (i : ℕ) (xs : List Envelope) (x : Envelope) → Some x ≡ slice_get (drop i xs) 0 → take (suc i) xs ≡ take i xs ++ x ∷ []
take_next zero [] x h = cc
take_next (suc i) [] x h = cc
take_next zero (y ∷ ys) x h = let e : y ≡ x = cc in ap (λ z. z ∷ []) e
take_next (suc i) (y ∷ ys) x h = ap (λ l. y ∷ l) (take_next i ys x h)

pub take_then : (i : ℕ) (xs : List Envelope) → take (i + 1) xs ≡ take i xs ++ take 1 (drop i xs)
take_then i xs = ap (λ k. take k xs) (add-one i) ∙ then i xs
  where
    then : (k : ℕ) (ys : List Envelope) → take (suc k) ys ≡ take k ys ++ take 1 (drop k ys)
    then zero ys = refl
    then (suc k) [] = refl
    then (suc k) (y ∷ ys) = ap (λ l. y ∷ l) (then k ys)

-- the items so far, with the next one
pub map-take_next :
    {X : Type 0} (f : Envelope → X) (before so_far after : List X) (i : ℕ) (xs line : List Envelope) (x : Envelope)
    → so_far ≡ before ++ map f (take i xs) → line ≡ drop i xs → Some x ≡ slice_get line 0 → after ≡ so_far ++ f x ∷ []
    → after ≡ before ++ map f (take (i + 1) xs)
map-take_next f before so_far after i xs line x e at first more =
    let next : take (i + 1) xs ≡ take i xs ++ x ∷ [] =
    ap (λ k. take k xs) (add-one i) ∙ take_next i xs x (first ∙ ap (λ l. slice_get l 0) at)
    in
    more
    ∙ (ap (λ l. l ++ f x ∷ []) e
    ∙ (append_assoc before (map f (take i xs)) (f x ∷ [])
    ∙ ap (λ l. before ++ l) (sym (map-append f (take i xs) (x ∷ [])) ∙ ap (map f) (sym next))))

short : (i : ℕ) (xs : List Envelope) → None ≡ slice_get (drop i xs) 0 → length xs ≤ i
short i [] h = omega arith
short zero (x ∷ xs) h = cc
short (suc i) (x ∷ xs) h = let e = short i xs h in omega arith

-- where nothing is left, all was taken
pub take_spent : (i most : ℕ) (xs line : List Envelope) → i ≤ most → line ≡ drop i xs → None ≡ slice_get line 0 → take i xs ≡ take most xs
take_spent i most xs line le at none =
    let few : length xs ≤ i = short i xs (none ∙ ap (λ l. slice_get l 0) at) in
    take_all i xs few ∙ sym (take_all most xs (omega arith))

-- a batch of two lines
pub take_two : (size left : ℕ) (xs ys : List Envelope) → left ≡ size - length (take size xs) → take size xs ++ take left ys ≡ take size (xs ++ ys)
take_two zero left xs ys h = let e : left ≡ 0 = omega arith in ap (λ k. take k ys) e
take_two (suc n) left [] ys h = let e : left ≡ suc n = omega arith in ap (λ k. take k ys) e
take_two (suc n) left (x ∷ xs) ys h = ap (λ l. x ∷ l) (take_two n left xs ys (omega arith))

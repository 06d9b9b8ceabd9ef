-- Two lists of which each place goes together.
use Rattle.std.proofs.Common.{◌≡◌, ℕ, zero, suc, List, [], ◌∷◌, ◌++◌, drop, length, Some, refl, ap}
use Rattle.std.specs.Prelude.{slice_get, slice_index_or}
use Rattle.p2p_net_queues.specs.Matching.{Match}

pub Match-weaker : {A B : Type 0} (R S : A → B → Type 0) → ((x : A) (y : B) → R x y → S x y) → (xs : List A) (ys : List B) → Match R xs ys → Match S xs ys
Match-weaker R S f [] [] h = tt
Match-weaker R S f (x ∷ xs) (y ∷ ys) h = (f x y h.0, Match-weaker R S f xs ys h.1)
Match-weaker R S f [] (y ∷ ys) h = absurd h
Match-weaker R S f (x ∷ xs) [] h = absurd h

pub Match-last : {A B : Type 0} (R : A → B → Type 0) (xs : List A) (ys : List B) (x : A) (y : B) → Match R xs ys → R x y → Match R (xs ++ x ∷ []) (ys ++ y ∷ [])
Match-last R [] [] x y h r = (r, tt)
Match-last R (a ∷ xs) (b ∷ ys) x y h r = (h.0, Match-last R xs ys x y h.1 r)
Match-last R [] (b ∷ ys) x y h r = absurd h
Match-last R (a ∷ xs) [] x y h r = absurd h

pub Match-append : {A B : Type 0} (R : A → B → Type 0) (xs us : List A) (ys vs : List B) → Match R xs ys → Match R us vs → Match R (xs ++ us) (ys ++ vs)
Match-append R [] us [] vs h k = k
Match-append R (x ∷ xs) us (y ∷ ys) vs h k = (h.0, Match-append R xs us ys vs h.1 k)
Match-append R [] us (y ∷ ys) vs h k = absurd h
Match-append R (x ∷ xs) us [] vs h k = absurd h

pub Match-drop : {A B : Type 0} (R : A → B → Type 0) (xs : List A) (ys : List B) → Match R xs ys → Match R (drop 1 xs) (drop 1 ys)
Match-drop R [] [] h = tt
Match-drop R (x ∷ xs) (y ∷ ys) h = h.1
Match-drop R [] (y ∷ ys) h = absurd h
Match-drop R (x ∷ xs) [] h = absurd h

pub Match-rest : {A B : Type 0} (R : A → B → Type 0) (x : A) (xs : List A) (ys : List B) → Match R (x ∷ xs) ys → Match R xs (drop 1 ys)
Match-rest R x xs (y ∷ ys) h = h.1
Match-rest R x xs [] h = absurd h

pub Match-long : {A B : Type 0} (R : A → B → Type 0) (xs : List A) (ys : List B) → Match R xs ys → length xs ≡ length ys
Match-long R [] [] h = refl
Match-long R (x ∷ xs) (y ∷ ys) h = ap (λ n. suc n) (Match-long R xs ys h.1)
Match-long R [] (y ∷ ys) h = absurd h
Match-long R (x ∷ xs) [] h = absurd h

-- what stands at a place stands there in a longer list
pub slice_get-longer : {X : Type 0} (xs ys : List X) (i : ℕ) (x : X) → slice_get xs i ≡ Some x → slice_get (xs ++ ys) i ≡ Some x
slice_get-longer [] ys i x h = cc
slice_get-longer (y ∷ xs) ys zero x h = h
slice_get-longer (y ∷ xs) ys (suc i) x h = slice_get-longer xs ys i x h

pub slice_get-last : {X : Type 0} (xs : List X) (x : X) → slice_get (xs ++ x ∷ []) (length xs) ≡ Some x
slice_get-last [] x = refl
slice_get-last (y ∷ xs) x = slice_get-last xs x

pub slice_index-get : {X : Type 0} (xs : List X) (i : ℕ) (x d : X) → slice_get xs i ≡ Some x → slice_index_or xs i d ≡ x
slice_index-get [] i x d h = cc
slice_index-get (y ∷ xs) zero x d h = cc
slice_index-get (y ∷ xs) (suc i) x d h = slice_index-get xs i x d h

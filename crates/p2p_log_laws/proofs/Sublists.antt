-- Sublists, and lists of copies in order.
use Rattle.std.proofs.Common.{◌≡◌, ℕ, ◌<◌, Bool, true, false, cond, List, [], ◌∷◌, ◌++◌, inl, inr, refl, ap, sym, subst, arith}
use Rattle.std.specs.Prelude.{filter, flat_map}
use Rattle.std.specs.List.{AllByRecursion as Each}
use Rattle.std.proofs.lemmas.Bool.Decides.{nat_tests}
use Rattle.p2p_log_laws.specs.Order.{is_before}
use Rattle.p2p_log.proofs.Each.{Has, Has-after, Each-append, Each-has}
use Rattle.p2p_log_laws.specs.Flow.{IsSublist}

-- ---- sublists

pub IsSublist-nil : {X : Type 0} (ys : List X) → IsSublist [] ys
IsSublist-nil [] = refl
IsSublist-nil (y ∷ ys) = inl (IsSublist-nil ys)

pub IsSublist-refl : {X : Type 0} (xs : List X) → IsSublist xs xs
IsSublist-refl [] = refl
IsSublist-refl (x ∷ xs) = inr (xs, refl, IsSublist-refl xs)

pub IsSublist-append : {X : Type 0} (xs ys vs ws : List X) → IsSublist xs ys → IsSublist vs ws → IsSublist (xs ++ vs) (ys ++ ws)
IsSublist-append xs [] vs ws h k = subst (λ l. IsSublist (l ++ vs) ws) (sym h) k
IsSublist-append xs (y ∷ ys) vs ws h k = elim h [
  | inl skip ↦ inl (IsSublist-append xs ys vs ws skip k)
  | inr take ↦ inr (take.0 ++ vs, ap (λ l. l ++ vs) take.1, IsSublist-append take.0 ys vs ws take.2 k)
]

-- a sublist of what follows
pub IsSublist-after : {X : Type 0} (bs cs ds : List X) → IsSublist cs ds → IsSublist cs (bs ++ ds)
IsSublist-after bs cs ds k = IsSublist-append [] bs cs ds (IsSublist-nil bs) k

IsSublist-cond : {X : Type 0} (b : Bool) (y : X) (xs ys : List X) → IsSublist xs ys → IsSublist (cond b (y ∷ xs) xs) (cond b (y ∷ ys) ys)
IsSublist-cond true y xs ys h = inr (xs, refl, h)
IsSublist-cond false y xs ys h = h

IsSublist-cond_left : {X : Type 0} (b : Bool) (y : X) (xs ys : List X) → IsSublist xs ys → IsSublist xs (cond b (y ∷ ys) ys)
IsSublist-cond_left true y xs ys h = inl h
IsSublist-cond_left false y xs ys h = h

pub IsSublist-filters : {X : Type 0} (p : X → Bool) (xs ys : List X) → IsSublist xs ys → IsSublist (filter p xs) (filter p ys)
IsSublist-filters p xs [] h = subst (λ l. filter p l ≡ []) (sym h) refl
IsSublist-filters p xs (y ∷ ys) h = elim h [
  | inl skip ↦ IsSublist-cond_left (p y) y (filter p xs) (filter p ys) (IsSublist-filters p xs ys skip)
  | inr take ↦ subst (λ l. IsSublist (filter p l) (filter p (y ∷ ys))) (sym take.1)
      (IsSublist-cond (p y) y (filter p take.0) (filter p ys) (IsSublist-filters p take.0 ys take.2))
]

pub IsSublist-filter : {X : Type 0} (p : X → Bool) (xs : List X) → IsSublist (filter p xs) xs
IsSublist-filter p [] = refl
IsSublist-filter p (x ∷ xs) =
    elim (p x) as (λ b. IsSublist (cond b (x ∷ filter p xs) (filter p xs)) (x ∷ xs)) [
      | true ↦ inr (filter p xs, refl, IsSublist-filter p xs)
      | false ↦ inl (IsSublist-filter p xs)
    ]

-- what a filter leaves gives some of what all give
pub IsSublist-flat_map : {X Y : Type 0} (f : X → List Y) (p : X → Bool) (xs : List X) → IsSublist (flat_map f (filter p xs)) (flat_map f xs)
IsSublist-flat_map f p [] = refl
IsSublist-flat_map f p (x ∷ xs) =
    elim (p x) as (λ b. IsSublist (flat_map f (cond b (x ∷ filter p xs) (filter p xs))) (f x ++ flat_map f xs)) [
      | true ↦ IsSublist-append (f x) (f x) (flat_map f (filter p xs)) (flat_map f xs) (IsSublist-refl (f x)) (IsSublist-flat_map f p xs)
      | false ↦ IsSublist-after (f x) (flat_map f (filter p xs)) (flat_map f xs) (IsSublist-flat_map f p xs)
    ]

pub IsSublist-each : {X : Type 0} (P : X → Type 0) (xs ys : List X) → IsSublist xs ys → Each P ys → Each P xs
IsSublist-each P xs [] h k = subst (Each P) (sym h) tt
IsSublist-each P xs (y ∷ ys) h k = elim h [
  | inl skip ↦ IsSublist-each P xs ys skip k.1
  | inr take ↦ subst (Each P) (sym take.1) (k.0, IsSublist-each P take.0 ys take.2 k.1)
]

-- ---- lists in an order

module _ {X : Type 0} (R : X → X → Type 0) where
  abbrev pub Ordered : List X → Type 0
  Ordered [] = Unit {0}
  Ordered (x ∷ xs) = Each (R x) xs × Ordered xs

  pub Ordered-sublist : (xs ys : List X) → IsSublist xs ys → Ordered ys → Ordered xs
  Ordered-sublist xs [] h k = subst Ordered (sym h) tt
  Ordered-sublist xs (y ∷ ys) h k = elim h [
    | inl skip ↦ Ordered-sublist xs ys skip k.1
    | inr take ↦ subst Ordered (sym take.1) (IsSublist-each (R y) take.0 ys take.2 k.0, Ordered-sublist take.0 ys take.2 k.1)
  ]

  pub Ordered-append : (xs ys : List X) → Ordered xs → Ordered ys → Each (λ x. Each (R x) ys) xs → Ordered (xs ++ ys)
  Ordered-append [] ys h k b = k
  Ordered-append (x ∷ xs) ys h k b = (Each-append (R x) xs ys h.0 b.0, Ordered-append xs ys h.1 k b.1)

  pub Ordered-parts : (xs ys : List X) (x y : X) → Ordered (xs ++ ys) → Has xs x → Has ys y → R x y
  Ordered-parts [] ys x y h i k = absurd i
  Ordered-parts (z ∷ zs) ys x y h i k = elim i [
    | inl e ↦ subst (λ w. R w y) e (Each-has (R z) (zs ++ ys) y h.0 (Has-after zs ys y k))
    | inr l ↦ Ordered-parts zs ys x y h.1 l k
  ]

-- ---- copies in order

abbrev pub IsBefore : ℕ × ℕ → ℕ × ℕ → Type 0
IsBefore x y = is_before x y ≡ true

abbrev pub AreInOrder : List (ℕ × ℕ) → Type 0
AreInOrder xs = Ordered IsBefore xs

-- names of a later send come after those of earlier ones
pub before_later : (a b c d : ℕ) → a < c → is_before (a, b) (c, d) ≡ true
before_later a b c d h = grind (arith, nat_tests)

pub before_next : (a b d : ℕ) → b < d → is_before (a, b) (a, d) ≡ true
before_next a b d h = grind (arith, nat_tests)

-- no copy comes before one that comes before it
pub not_both : (a b c d : ℕ) → is_before (a, b) (c, d) ≡ true → is_before (c, d) (a, b) ≡ true → ⊥
not_both a b c d h k = absurd (grind (arith, nat_tests))

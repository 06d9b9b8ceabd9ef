-- What a mark passes in a list in order.
use Rattle.std.proofs.Common.{◌≡◌, ℕ, suc, ◌+◌, ◌-◌, ◌≤◌, Bool, true, false, cond, not, ◌||◌, List, [], ◌∷◌, ◌++◌, length, length-append, Option, refl, sym, ap, ◌∙◌, arith, subst}
use Rattle.std.proofs.lemmas.Bool.{false≢true}
use Rattle.std.proofs.lemmas.Cmp.{eq_by_cmp_equiv, alike_right, then_total, on_total}
use Rattle.std.specs.Cmp.{IsTotalOrder}
use Rattle.std.specs.Cmp.Lexicographic.{options_total}
use Rattle.std.specs.List.{AllByRecursion, list_any}
use Rattle.std.specs.List.Sorted.{IsStrictlySortedBy}
use Rattle.std.specs.Option.{option_cmp}
use Rattle.std.specs.Ordering.{is_eq, is_lt, is_gt, ordering_then, ordering_reverse}
use Rattle.std.specs.BTreeMap.{is_at}
use Rattle.std.specs.declared.cmp.Ordering.{Ordering}
use Rattle.std.specs.declared.cmp.Ordering.TheVariants.{Less, Equal, Greater}
use Rattle.p2p_tracker_calls.specs.Sets.{how_many}
use Rattle.p2p_tracker_directory.specs.Placed.{by_place, is_passed}
use Rattle.p2p_tracker_directory.specs.declared.places.mark.Mark.{Mark}
use Rattle.p2p_tracker_directory.specs.declared.places.mark.Mark.TheVariants as mark
use Rattle.p2p_tracker_directory.proofs.Ordered.{many-passed, many-stopped, sorted-left, sorted-behind}

pub by_place-total : {A K : Type 0} {pc : A → A → Ordering} {kc : K → K → Ordering} → IsTotalOrder pc → IsTotalOrder kc → IsTotalOrder (by_place pc kc)
by_place-total a k = then_total (on_total (λ x. x.0) (options_total a)) (on_total (λ x. x.1) k)

pub first-not : (r s : Ordering) → ordering_then r s ≡ Less → is_gt r ≡ false
first-not Less s e = refl
first-not Equal s e = refl
first-not Greater s e = absurd (false≢true (sym (ap is_gt e)))

only-less : (r : Ordering) → is_lt r ≡ true → r ≡ Less
only-less Less e = refl
only-less Equal e = absurd (false≢true e)
only-less Greater e = absurd (false≢true e)

module _ {A : Type 0} {R : A → A → Ordering} (o : IsTotalOrder R) (a b p : A) where
  below-falls : (r : Ordering) → R a b ≡ r → is_gt r ≡ false → is_lt (R b p) ≡ true → is_lt (R a p) ≡ true
  below-falls Less e g h = ap is_lt (o.trans a b p e (only-less (R b p) h))
  below-falls Equal e g h = ap is_lt (o.congr a b p e) ∙ h
  below-falls Greater e g h = absurd (false≢true (sym g))

  through-falls : (r : Ordering) → R a b ≡ r → is_gt r ≡ false → not (is_gt (R b p)) ≡ true → not (is_gt (R a p)) ≡ true
  through-falls Less e g h = at (R b p) refl h
    where
      at : (s : Ordering) → R b p ≡ s → not (is_gt s) ≡ true → not (is_gt (R a p)) ≡ true
      at Less f h = ap (λ s. not (is_gt s)) (o.trans a b p e f)
      at Equal f h = ap (λ s. not (is_gt s)) (sym (alike_right o b p a f) ∙ e)
      at Greater f h = absurd (false≢true h)
  through-falls Equal e g h = ap (λ s. not (is_gt s)) (o.congr a b p e) ∙ h
  through-falls Greater e g h = absurd (false≢true (sym g))

module _ {A K : Type 0} {pc : A → A → Ordering} {kc : K → K → Ordering} (a : IsTotalOrder pc) (k : IsTotalOrder kc) where
  -- a mark that passes an entry passes those before it
  pub falls : (m : Mark A K) (x y : Option A × K) → by_place pc kc x y ≡ Less → is_passed pc kc m y ≡ true → is_passed pc kc m x ≡ true
  falls (mark.Below p) x y e h = below-falls (options_total a) x.0 y.0 p (option_cmp pc x.0 y.0) refl (first-not (option_cmp pc x.0 y.0) (kc x.1 y.1) e) h
  falls (mark.Through p) x y e h = through-falls (options_total a) x.0 y.0 p (option_cmp pc x.0 y.0) refl (first-not (option_cmp pc x.0 y.0) (kc x.1 y.1) e) h
  falls (mark.Before p q) x y e h = below-falls (by_place-total a k) x y (p, q) Less e refl h
  falls (mark.Upto p q) x y e h = through-falls (by_place-total a k) x y (p, q) Less e refl h

  module _ (m : Mark A K) (l r : List (Option A × K)) (x : Option A × K) (s : IsStrictlySortedBy (by_place pc kc) (l ++ x ∷ r)) where
    pub rank-passed : is_passed pc kc m x ≡ true → how_many (is_passed pc kc m) (l ++ x ∷ r) ≡ (length l + 1) + how_many (is_passed pc kc m) r
    rank-passed h = many-passed (by_place pc kc) (is_passed pc kc m) (falls m) l r x s h

    pub rank-stopped : is_passed pc kc m x ≡ false → how_many (is_passed pc kc m) (l ++ x ∷ r) ≡ how_many (is_passed pc kc m) l
    rank-stopped h = many-stopped (by_place pc kc) (is_passed pc kc m) (falls m) l r x s h

  module _ (m : Mark A K) (whole l r : List (Option A × K)) (x : Option A × K) (is : whole ≡ l ++ x ∷ r) (s : IsStrictlySortedBy (by_place pc kc) whole) where
    -- what is counted of a tree by what is counted on its right, and on its left
    pub rank-right : is_passed pc kc m x ≡ true → (all right rank : ℕ) → all ≡ length whole → right ≡ length r → (IsStrictlySortedBy (by_place pc kc) r → rank ≡ how_many (is_passed pc kc m) r)
        → (all - right) + rank ≡ how_many (is_passed pc kc m) whole
    rank-right h all right rank all_is right_is rank_is =
        let parts = subst (IsStrictlySortedBy (by_place pc kc)) is s in
        let passed = rank-passed m l r x parts h in
        let behind = rank_is (sorted-behind (by_place pc kc) l r x parts) in
        let long = ap length is in
        let both = length-append l (x ∷ r) in
        let sum : (all - right) + rank ≡ how_many (is_passed pc kc m) (l ++ x ∷ r) = omega (arith, passed, behind, long, both, all_is, right_is) in
        sum ∙ ap (how_many (is_passed pc kc m)) (sym is)

    pub rank-left : is_passed pc kc m x ≡ false → (rank : ℕ) → (IsStrictlySortedBy (by_place pc kc) l → rank ≡ how_many (is_passed pc kc m) l) → rank ≡ how_many (is_passed pc kc m) whole
    rank-left h rank rank_is =
        let parts = subst (IsStrictlySortedBy (by_place pc kc)) is s in
        rank_is (sorted-left (by_place pc kc) l (x ∷ r) parts) ∙ (sym (rank-stopped m l r x parts h) ∙ ap (how_many (is_passed pc kc m)) (sym is))

-- no more items pass than there are
pub many-least : {X : Type 0} (test : X → Bool) (xs : List X) → how_many test xs ≤ length xs
unfolding how_many
many-least test [] = omega arith
many-least test (x ∷ xs) = at (test x) (many-least test xs)
  where
    at : (b : Bool) → how_many test xs ≤ length xs → cond b (suc (how_many test xs)) (how_many test xs) ≤ suc (length xs)
    at true h = omega (arith, h)
    at false h = omega (arith, h)

module _ {A K : Type 0} {pc : A → A → Ordering} (kc : K → K → Ordering) (a : IsTotalOrder pc) (p : Option A) where
  -- those whose place isn't above one are those below it and those at it
  pub through-parts : (es : List (Option A × K))
      → how_many (is_passed pc kc (mark.Through p)) es ≡ how_many (is_passed pc kc (mark.Below p)) es + how_many (λ e. is_at (option_cmp pc p) e.0) es
  unfolding how_many
  through-parts [] = omega arith
  through-parts (e ∷ es) =
      at (option_cmp pc e.0 p) (is_at (option_cmp pc p) e.0) ((eq_by_cmp_equiv (options_total a)).symm p e.0) (through-parts es)
    where
      at : (r : Ordering) (b : Bool) → b ≡ is_eq r
          → how_many (is_passed pc kc (mark.Through p)) es ≡ how_many (is_passed pc kc (mark.Below p)) es + how_many (λ x. is_at (option_cmp pc p) x.0) es
          → cond (not (is_gt r)) (suc (how_many (is_passed pc kc (mark.Through p)) es)) (how_many (is_passed pc kc (mark.Through p)) es)
          ≡ cond (is_lt r) (suc (how_many (is_passed pc kc (mark.Below p)) es)) (how_many (is_passed pc kc (mark.Below p)) es)
          + cond b (suc (how_many (λ x. is_at (option_cmp pc p) x.0) es)) (how_many (λ x. is_at (option_cmp pc p) x.0) es)
      at Less true e h = absurd (false≢true (sym e))
      at Less false e h = omega (arith, h)
      at Equal true e h = omega (arith, h)
      at Equal false e h = absurd (false≢true e)
      at Greater true e h = absurd (false≢true (sym e))
      at Greater false e h = h

module _ {A K : Type 0} {pc : A → A → Ordering} {kc : K → K → Ordering} (a : IsTotalOrder pc) (k : IsTotalOrder kc) (x : Option A × K) where
  behind-none : (e : Option A × K) (es : List (Option A × K)) → by_place pc kc x e ≡ Equal → AllByRecursion (λ y. by_place pc kc e y ≡ Less) es
      → how_many (is_passed pc kc (mark.Upto x.0 x.1)) es ≡ how_many (is_passed pc kc (mark.Before x.0 x.1)) es
  unfolding how_many
  behind-none e [] h all = refl
  behind-none e (y ∷ ys) h all =
      let above = (by_place-total a k).antisymm y x ∙ ap ordering_reverse ((by_place-total a k).congr x e y h ∙ all.0) in
      at (by_place pc kc y x) above (behind-none e ys h all.1)
    where
      at : (r : Ordering) → r ≡ Greater → how_many (is_passed pc kc (mark.Upto x.0 x.1)) ys ≡ how_many (is_passed pc kc (mark.Before x.0 x.1)) ys
          → cond (not (is_gt r)) (suc (how_many (is_passed pc kc (mark.Upto x.0 x.1)) ys)) (how_many (is_passed pc kc (mark.Upto x.0 x.1)) ys)
          ≡ cond (is_lt r) (suc (how_many (is_passed pc kc (mark.Before x.0 x.1)) ys)) (how_many (is_passed pc kc (mark.Before x.0 x.1)) ys)
      at Less e i = absurd (false≢true (ap is_gt e))
      at Equal e i = absurd (false≢true (ap is_gt e))
      at Greater e i = i

  -- a key at its place is the one by which those up to it are more than those before it
  pub upto-parts : (es : List (Option A × K)) → IsStrictlySortedBy (by_place pc kc) es
      → how_many (is_passed pc kc (mark.Upto x.0 x.1)) es ≡ how_many (is_passed pc kc (mark.Before x.0 x.1)) es + cond (list_any (is_at (by_place pc kc x)) es) 1 0
  unfolding how_many IsStrictlySortedBy
  upto-parts [] s = omega arith
  upto-parts (e ∷ es) s =
      at (by_place pc kc e x) refl (is_at (by_place pc kc x) e) ((eq_by_cmp_equiv (by_place-total a k)).symm x e) (upto-parts es s.1)
    where
      less : (b : Bool) (n m : ℕ) → n ≡ m → suc n ≡ m + cond (true || b) 1 0
      less b n m h = omega (arith, h)

      at : (r : Ordering) → by_place pc kc e x ≡ r → (b : Bool) → b ≡ is_eq r
          → how_many (is_passed pc kc (mark.Upto x.0 x.1)) es ≡ how_many (is_passed pc kc (mark.Before x.0 x.1)) es + cond (list_any (is_at (by_place pc kc x)) es) 1 0
          → cond (not (is_gt r)) (suc (how_many (is_passed pc kc (mark.Upto x.0 x.1)) es)) (how_many (is_passed pc kc (mark.Upto x.0 x.1)) es)
          ≡ cond (is_lt r) (suc (how_many (is_passed pc kc (mark.Before x.0 x.1)) es)) (how_many (is_passed pc kc (mark.Before x.0 x.1)) es)
          + cond (b || list_any (is_at (by_place pc kc x)) es) 1 0
      at Less h true t i = absurd (false≢true (sym t))
      at Less h false t i = omega (arith, i)
      at Equal h true t i =
          less (list_any (is_at (by_place pc kc x)) es) (how_many (is_passed pc kc (mark.Upto x.0 x.1)) es) (how_many (is_passed pc kc (mark.Before x.0 x.1)) es)
          (behind-none e es ((by_place-total a k).antisymm x e ∙ ap ordering_reverse h) s.0)
      at Equal h false t i = absurd (false≢true t)
      at Greater h true t i = absurd (false≢true (sym t))
      at Greater h false t i = i

-- Which entries of a list in order have the place of one of them.
use Rattle.std.proofs.Common.{◌≡◌, ℕ, zero, suc, ◌+◌, ◌-◌, ◌<◌, ◌≤◌, Bool, true, false, cond, not, List, [], ◌∷◌, take, drop, Option, Some, refl, sym, ap, ◌∙◌, arith, subst}
use Rattle.std.proofs.lemmas.Bool.{false≢true}
use Rattle.std.proofs.lemmas.Cmp.{tied_itself}
use Rattle.std.specs.Prelude.{is_some}
use Rattle.std.specs.Cmp.{IsTotalOrder}
use Rattle.std.specs.Cmp.Lexicographic.{options_total}
use Rattle.std.specs.List.{AllByRecursion, slice_get}
use Rattle.std.specs.List.Sorted.{IsStrictlySortedBy}
use Rattle.std.specs.Option.{option_cmp}
use Rattle.std.specs.Ordering.{is_eq, is_gt, ordering_reverse}
use Rattle.std.specs.BTreeMap.{is_at}
use Rattle.std.specs.declared.cmp.Ordering.{Ordering}
use Rattle.std.specs.declared.cmp.Ordering.TheVariants.{Less, Equal, Greater}
use Rattle.p2p_tracker_calls.specs.Sets.{how_many}
use Rattle.p2p_tracker_directory.specs.Placed.{by_place, is_passed}
use Rattle.p2p_tracker_directory.specs.declared.places.mark.Mark.{Mark}
use Rattle.p2p_tracker_directory.specs.declared.places.mark.Mark.TheVariants as mark
use Rattle.p2p_tracker_directory.proofs.Marks.{first-not, falls, rank-stopped}

drop-none : {X : Type 0} (n : ℕ) → drop {A = X} n [] ≡ []
drop-none zero = refl
drop-none (suc n) = refl

module _ {A K : Type 0} {pc : A → A → Ordering} {kc : K → K → Ordering} (a : IsTotalOrder pc) (k : IsTotalOrder kc) where
  stands-after : (x : Option A × K) (xs : List (Option A × K)) (i : ℕ) (e : Option A × K) → AllByRecursion (λ y. by_place pc kc x y ≡ Less) xs → slice_get xs i ≡ Some e
      → by_place pc kc x e ≡ Less
  stands-after x [] i e all h = absurd (false≢true (ap is_some h))
  stands-after x (y ∷ ys) zero e all h = let same : y ≡ e = cc in ap (by_place pc kc x) (sym same) ∙ all.0
  stands-after x (y ∷ ys) (suc i) e all h = stands-after x ys i e all.1 h

  -- an entry that passes stands before as many as do
  pub rank-index : (m : Mark A K) (es : List (Option A × K)) → IsStrictlySortedBy (by_place pc kc) es → (i : ℕ) (e : Option A × K) → slice_get es i ≡ Some e
      → is_passed pc kc m e ≡ true → i < how_many (is_passed pc kc m) es
  unfolding how_many IsStrictlySortedBy
  rank-index m [] s i e h p = absurd (false≢true (ap is_some h))
  rank-index m (x ∷ xs) s zero e h p = let same : x ≡ e = cc in at (is_passed pc kc m x) (ap (is_passed pc kc m) same ∙ p)
    where
      at : (b : Bool) → b ≡ true → 0 < cond b (suc (how_many (is_passed pc kc m) xs)) (how_many (is_passed pc kc m) xs)
      at true g = omega arith
      at false g = absurd (false≢true g)
  rank-index m (x ∷ xs) s (suc i) e h p = at (is_passed pc kc m x) (falls a k m x e (stands-after x xs i e s.0 h) p) (rank-index m xs s.1 i e h p)
    where
      at : (b : Bool) → b ≡ true → i < how_many (is_passed pc kc m) xs → suc i < cond b (suc (how_many (is_passed pc kc m) xs)) (how_many (is_passed pc kc m) xs)
      at true g h = omega (arith, h)
      at false g h = absurd (false≢true g)

  module _ (f : Option A → Bool) (same : (p q : Option A) → is_at (option_cmp pc p) q ≡ true → f p ≡ f q) where
    nothing : (b : Bool) → ◌≡◌ {A = ℕ} 0 (cond b 0 0)
    nothing true = refl
    nothing false = refl

    -- of those not below a place, those not above it have it
    run : (p : Option A) (es : List (Option A × K)) → AllByRecursion (λ y. is_gt (option_cmp pc p y.0) ≡ false) es → IsStrictlySortedBy (by_place pc kc) es
        → how_many (λ e. f e.0) (take (how_many (is_passed pc kc (mark.Through p)) es) es) ≡ cond (f p) (how_many (is_passed pc kc (mark.Through p)) es) 0
    unfolding how_many IsStrictlySortedBy
    run p [] all s = nothing (f p)
    run p (y ∷ ys) all s = at (option_cmp pc y.0 p) refl (run p ys all.1 s.1)
      where
        both : (b c : Bool) (n m : ℕ) → b ≡ c → m ≡ cond b n 0 → cond c (suc m) m ≡ cond b (suc n) 0
        both true true n m e h = ap suc h
        both false false n m e h = h
        both true false n m e h = absurd (false≢true (sym e))
        both false true n m e h = absurd (false≢true e)

        at : (r : Ordering) → option_cmp pc y.0 p ≡ r
            → how_many (λ e. f e.0) (take (how_many (is_passed pc kc (mark.Through p)) ys) ys) ≡ cond (f p) (how_many (is_passed pc kc (mark.Through p)) ys) 0
            → how_many (λ e. f e.0) (take (cond (not (is_gt r)) (suc (how_many (is_passed pc kc (mark.Through p)) ys)) (how_many (is_passed pc kc (mark.Through p)) ys)) (y ∷ ys))
            ≡ cond (f p) (cond (not (is_gt r)) (suc (how_many (is_passed pc kc (mark.Through p)) ys)) (how_many (is_passed pc kc (mark.Through p)) ys)) 0
        at Less e i =
            let above = (options_total a).antisymm p y.0 ∙ ap ordering_reverse e in
            absurd (false≢true (sym all.0 ∙ ap is_gt above))
        at Equal e i =
            let tied = ap is_eq ((options_total a).antisymm p y.0 ∙ ap ordering_reverse e) in
            both (f p) (f y.0) (how_many (is_passed pc kc (mark.Through p)) ys) (how_many (λ x. f x.0) (take (how_many (is_passed pc kc (mark.Through p)) ys) ys)) (same p y.0 tied) i
        at Greater e i =
            let none = sym (ap (λ r. cond (not (is_gt r)) (suc (how_many (is_passed pc kc (mark.Through p)) ys)) (how_many (is_passed pc kc (mark.Through p)) ys)) e)
            ∙ rank-stopped a k (mark.Through p) [] ys y s (ap (λ r. not (is_gt r)) e) in
            ap (λ n. how_many (λ x. f x.0) (take n (y ∷ ys))) none ∙ (nothing (f p) ∙ sym (ap (λ n. cond (f p) n 0) none))

    first-run : (x : Option A × K) (xs : List (Option A × K)) → IsStrictlySortedBy (by_place pc kc) (x ∷ xs)
        → how_many (λ e. f e.0) (take (how_many (is_passed pc kc (mark.Through x.0)) (x ∷ xs)) (x ∷ xs)) ≡ cond (f x.0) (how_many (is_passed pc kc (mark.Through x.0)) (x ∷ xs)) 0
    unfolding IsStrictlySortedBy
    first-run x xs s = run x.0 (x ∷ xs) (ap is_gt (tied_itself (options_total a) x.0), above xs s.0) s
      where
        above : (ys : List (Option A × K)) → AllByRecursion (λ y. by_place pc kc x y ≡ Less) ys → AllByRecursion (λ y. is_gt (option_cmp pc x.0 y.0) ≡ false) ys
        above [] all = tt
        above (y ∷ ys) all = (first-not (option_cmp pc x.0 y.0) (kc x.1 y.1) all.0, above ys all.1)

    -- those up to an entry's place are those before it, and those that have its place from it on
    pub segment : (es : List (Option A × K)) → IsStrictlySortedBy (by_place pc kc) es → (i : ℕ) (e : Option A × K) → slice_get es i ≡ Some e
        → how_many (λ x. f x.0) (take (how_many (is_passed pc kc (mark.Through e.0)) es) es)
        ≡ how_many (λ x. f x.0) (take i es) + cond (f e.0) (how_many (is_passed pc kc (mark.Through e.0)) es - i) 0
    unfolding how_many IsStrictlySortedBy
    segment [] s i e h = absurd (false≢true (ap is_some h))
    segment (x ∷ xs) s zero e h =
        let same : x ≡ e = cc in
        subst (λ y. how_many (λ z. f z.0) (take (how_many (is_passed pc kc (mark.Through y.0)) (x ∷ xs)) (x ∷ xs)) ≡ 0 + cond (f y.0) (how_many (is_passed pc kc (mark.Through y.0)) (x ∷ xs) - 0) 0) same
        (first-run x xs s ∙ (ap (λ n. cond (f x.0) n 0) (less (how_many (is_passed pc kc (mark.Through x.0)) (x ∷ xs))) ∙ more (cond (f x.0) (how_many (is_passed pc kc (mark.Through x.0)) (x ∷ xs) - 0) 0)))
      where
        less : (n : ℕ) → n ≡ n - 0
        less n = omega arith

        more : (n : ℕ) → n ≡ 0 + n
        more n = omega arith
    segment (x ∷ xs) s (suc i) e h =
        at (is_passed pc kc (mark.Through e.0) x) (falls a k (mark.Through e.0) x e (stands-after x xs i e s.0 h) (ap (λ r. not (is_gt r)) (tied_itself (options_total a) e.0)))
        (segment xs s.1 i e h)
      where
        less : (n : ℕ) → n - i ≡ suc n - suc i
        less n = omega arith

        sum : (b : Bool) (m n z : ℕ) → m ≡ n + z → cond b (suc m) m ≡ cond b (suc n) n + z
        sum true m n z e = omega (arith, e)
        sum false m n z e = e

        at : (b : Bool) → b ≡ true
            → how_many (λ y. f y.0) (take (how_many (is_passed pc kc (mark.Through e.0)) xs) xs)
            ≡ how_many (λ y. f y.0) (take i xs) + cond (f e.0) (how_many (is_passed pc kc (mark.Through e.0)) xs - i) 0
            → how_many (λ y. f y.0) (take (cond b (suc (how_many (is_passed pc kc (mark.Through e.0)) xs)) (how_many (is_passed pc kc (mark.Through e.0)) xs)) (x ∷ xs))
            ≡ cond (f x.0) (suc (how_many (λ y. f y.0) (take i xs))) (how_many (λ y. f y.0) (take i xs))
            + cond (f e.0) (cond b (suc (how_many (is_passed pc kc (mark.Through e.0)) xs)) (how_many (is_passed pc kc (mark.Through e.0)) xs) - suc i) 0
        at true g i_h =
            sum (f x.0) (how_many (λ y. f y.0) (take (how_many (is_passed pc kc (mark.Through e.0)) xs) xs)) (how_many (λ y. f y.0) (take i xs))
            (cond (f e.0) (suc (how_many (is_passed pc kc (mark.Through e.0)) xs) - suc i) 0)
            (i_h ∙ ap (λ n. how_many (λ y. f y.0) (take i xs) + cond (f e.0) n 0) (less (how_many (is_passed pc kc (mark.Through e.0)) xs)))
        at false g i_h = absurd (false≢true g)

  -- the first ones, as many as pass, are those that do
  pub passed-first : (m : Mark A K) (es : List (Option A × K)) → IsStrictlySortedBy (by_place pc kc) es → AllByRecursion (λ e. is_passed pc kc m e ≡ true) (take (how_many (is_passed pc kc m) es) es)
  unfolding how_many IsStrictlySortedBy
  passed-first m [] s = tt
  passed-first m (x ∷ xs) s = at (is_passed pc kc m x) refl (passed-first m xs s.1)
    where
      at : (b : Bool) → is_passed pc kc m x ≡ b → AllByRecursion (λ e. is_passed pc kc m e ≡ true) (take (how_many (is_passed pc kc m) xs) xs)
          → AllByRecursion (λ e. is_passed pc kc m e ≡ true) (take (cond b (suc (how_many (is_passed pc kc m) xs)) (how_many (is_passed pc kc m) xs)) (x ∷ xs))
      at true h i = (h, i)
      at false h i =
          let none = sym (ap (λ b. cond b (suc (how_many (is_passed pc kc m) xs)) (how_many (is_passed pc kc m) xs)) h) ∙ rank-stopped a k m [] xs x s h in
          subst (λ n. AllByRecursion (λ e. is_passed pc kc m e ≡ true) (take n (x ∷ xs))) (sym none) tt

  -- and those behind them don't pass
  pub stopped-last : (m : Mark A K) (es : List (Option A × K)) → IsStrictlySortedBy (by_place pc kc) es → (n : ℕ) → how_many (is_passed pc kc m) es ≤ n
      → AllByRecursion (λ e. is_passed pc kc m e ≡ false) (drop n es)
  unfolding how_many IsStrictlySortedBy
  stopped-last m [] s n h = subst (AllByRecursion (λ e. is_passed pc kc m e ≡ false)) (sym (drop-none n)) tt
  stopped-last m (x ∷ xs) s zero h = at (is_passed pc kc m x) refl h
    where
      stopped : (y : Option A × K) (b : Bool) → is_passed pc kc m x ≡ false → by_place pc kc x y ≡ Less → is_passed pc kc m y ≡ b → b ≡ false
      stopped y true g e i = absurd (false≢true (sym g ∙ falls a k m x y e i))
      stopped y false g e i = refl

      all : (ys : List (Option A × K)) → is_passed pc kc m x ≡ false → AllByRecursion (λ y. by_place pc kc x y ≡ Less) ys → AllByRecursion (λ e. is_passed pc kc m e ≡ false) ys
      all [] g b = tt
      all (y ∷ ys) g b = (stopped y (is_passed pc kc m y) g b.0 refl, all ys g b.1)

      at : (b : Bool) → is_passed pc kc m x ≡ b → cond b (suc (how_many (is_passed pc kc m) xs)) (how_many (is_passed pc kc m) xs) ≤ 0 → AllByRecursion (λ e. is_passed pc kc m e ≡ false) (x ∷ xs)
      at true g h = absurd (omega (arith, h))
      at false g h = (g, all xs g s.0)
  stopped-last m (x ∷ xs) s (suc n) h = stopped-last m xs s.1 n (at (is_passed pc kc m x) refl h)
    where
      at : (b : Bool) → is_passed pc kc m x ≡ b → cond b (suc (how_many (is_passed pc kc m) xs)) (how_many (is_passed pc kc m) xs) ≤ suc n → how_many (is_passed pc kc m) xs ≤ n
      at true g h = omega (arith, h)
      at false g h =
          let none = sym (ap (λ b. cond b (suc (how_many (is_passed pc kc m) xs)) (how_many (is_passed pc kc m) xs)) g) ∙ rank-stopped a k m [] xs x s g in
          omega (arith, none)

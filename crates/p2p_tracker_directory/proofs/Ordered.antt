-- What counts, and where an item stands, in a list in order.
use Rattle.std.proofs.Common.{◌≡◌, ℕ, suc, ◌+◌, Bool, true, false, cond, not, ◌||◌, ◌&&◌, List, [], ◌∷◌, ◌++◌, length, take, drop, refl, sym, ap, ◌∙◌, arith}
use Rattle.std.proofs.lemmas.Bool.{false≢true}
use Rattle.std.proofs.lemmas.Cmp.{eq_by_cmp_equiv, alike_right}
use Rattle.std.specs.Cmp.{IsTotalOrder}
use Rattle.std.specs.List.{AllByRecursion, filter, list_any, slice_get}
use Rattle.std.specs.List.Sorted.{IsStrictlySortedBy}
use Rattle.std.specs.Ordering.{is_eq, is_lt, ordering_reverse, match_ordering}
use Rattle.std.specs.BTreeMap.{is_at}
use Rattle.std.specs.BTreeSet.{insert_key}
use Rattle.std.specs.declared.cmp.Ordering.{Ordering}
use Rattle.std.specs.declared.cmp.Ordering.TheVariants.{Less, Equal, Greater}
use Rattle.p2p_base.proofs.SortedLists.{all_above}
use Rattle.p2p_tracker_calls.specs.Sets.{how_many}
use Rattle.p2p_tracker_directory.specs.Placed.{finds}

module _ {X : Type 0} (cmp : X → X → Ordering) where
  -- the parts of a list in order are in order
  pub sorted-left : (l r : List X) → IsStrictlySortedBy cmp (l ++ r) → IsStrictlySortedBy cmp l
  unfolding IsStrictlySortedBy
  sorted-left [] r s = tt
  sorted-left (x ∷ l) r s = (first l s.0, sorted-left l r s.1)
    where
      first : (l : List X) → AllByRecursion (λ y. cmp x y ≡ Less) (l ++ r) → AllByRecursion (λ y. cmp x y ≡ Less) l
      first [] a = tt
      first (y ∷ l) a = (a.0, first l a.1)

  pub sorted-right : (l r : List X) → IsStrictlySortedBy cmp (l ++ r) → IsStrictlySortedBy cmp r
  unfolding IsStrictlySortedBy
  sorted-right [] r s = s
  sorted-right (x ∷ l) r s = sorted-right l r s.1

  pub sorted-behind : (l r : List X) (x : X) → IsStrictlySortedBy cmp (l ++ x ∷ r) → IsStrictlySortedBy cmp r
  unfolding IsStrictlySortedBy
  sorted-behind [] r x s = s.1
  sorted-behind (y ∷ l) r x s = sorted-behind l r x s.1

  pub all-behind : (l r : List X) (x : X) → IsStrictlySortedBy cmp (l ++ x ∷ r) → AllByRecursion (λ y. cmp x y ≡ Less) r
  unfolding IsStrictlySortedBy
  all-behind [] r x s = s.0
  all-behind (y ∷ l) r x s = all-behind l r x s.1

  pub all-before : (l r : List X) (x : X) → IsStrictlySortedBy cmp (l ++ x ∷ r) → AllByRecursion (λ y. cmp y x ≡ Less) l
  unfolding IsStrictlySortedBy
  all-before [] r x s = tt
  all-before (y ∷ l) r x s = (at l s.0, all-before l r x s.1)
    where
      at : (l : List X) → AllByRecursion (λ z. cmp y z ≡ Less) (l ++ x ∷ r) → cmp y x ≡ Less
      at [] a = a.0
      at (z ∷ l) a = at l a.1

module _ {X : Type 0} (test : X → Bool) where
  pub many-append : (l r : List X) → how_many test (l ++ r) ≡ how_many test l + how_many test r
  unfolding how_many
  many-append [] r = omega arith
  many-append (x ∷ l) r = at (test x) (many-append l r)
    where
      at : (b : Bool) → how_many test (l ++ r) ≡ how_many test l + how_many test r
          → cond b (suc (how_many test (l ++ r))) (how_many test (l ++ r)) ≡ cond b (suc (how_many test l)) (how_many test l) + how_many test r
      at true h = omega (arith, h)
      at false h = h

  pub many-all : (xs : List X) → AllByRecursion (λ y. test y ≡ true) xs → how_many test xs ≡ length xs
  unfolding how_many
  many-all [] a = refl
  many-all (x ∷ xs) a = ap (λ b. cond b (suc (how_many test xs)) (how_many test xs)) a.0 ∙ ap suc (many-all xs a.1)

  pub many-none : (xs : List X) → AllByRecursion (λ y. test y ≡ false) xs → how_many test xs ≡ 0
  unfolding how_many
  many-none [] a = refl
  many-none (x ∷ xs) a = ap (λ b. cond b (suc (how_many test xs)) (how_many test xs)) a.0 ∙ many-none xs a.1

pub all-imply : {X : Type 0} (P Q : X → Type 0) → ((x : X) → P x → Q x) → (xs : List X) → AllByRecursion P xs → AllByRecursion Q xs
all-imply P Q f [] a = tt
all-imply P Q f (x ∷ xs) a = (f x a.0, all-imply P Q f xs a.1)

module _ {X : Type 0} (cmp : X → X → Ordering) (test : X → Bool) (falls : (x y : X) → cmp x y ≡ Less → test y ≡ true → test x ≡ true)
    (l r : List X) (x : X) (s : IsStrictlySortedBy cmp (l ++ x ∷ r)) where
  -- where an item passes, those before it do
  pub many-passed : test x ≡ true → how_many test (l ++ x ∷ r) ≡ (length l + 1) + how_many test r
  unfolding how_many
  many-passed h =
      let all = many-all test l (all-imply (λ y. cmp y x ≡ Less) (λ y. test y ≡ true) (λ y e. falls y x e h) l (all-before cmp l r x s)) in
      let here = ap (λ b. cond b (suc (how_many test r)) (how_many test r)) h in
      let both = many-append test l (x ∷ r) in
      omega (arith, all, here, both)

  -- and where it doesn't, none behind it does
  pub many-stopped : test x ≡ false → how_many test (l ++ x ∷ r) ≡ how_many test l
  unfolding how_many
  many-stopped h =
      let none = many-none test r (all-imply (λ y. cmp x y ≡ Less) (λ y. test y ≡ false) (λ y e. stopped y e (test y) refl) r (all-behind cmp l r x s)) in
      let here = ap (λ b. cond b (suc (how_many test r)) (how_many test r)) h in
      let both = many-append test l (x ∷ r) in
      omega (arith, none, here, both)
    where
      stopped : (y : X) → cmp x y ≡ Less → (b : Bool) → test y ≡ b → b ≡ false
      stopped y e true g = absurd (false≢true (sym h ∙ falls x y e g))
      stopped y e false g = refl

module _ {X : Type 0} {cmp : X → X → Ordering} (o : IsTotalOrder cmp) (x : X) where
  above-not : (y : X) → cmp x y ≡ Less → is_lt (cmp y x) ≡ false
  above-not y e = ap is_lt (o.antisymm y x ∙ ap ordering_reverse e)

  above-apart : (y : X) → cmp x y ≡ Less → is_at (cmp x) y ≡ false
  above-apart y e = ap is_eq e

  none-before : (ys : List X) → AllByRecursion (λ y. cmp x y ≡ Less) ys → how_many (λ y. is_lt (cmp y x)) ys ≡ 0
  none-before ys a = many-none (λ y. is_lt (cmp y x)) ys (all-imply (λ y. cmp x y ≡ Less) (λ y. is_lt (cmp y x) ≡ false) above-not ys a)

  none-at : (ys : List X) → AllByRecursion (λ y. cmp x y ≡ Less) ys → list_any (is_at (cmp x)) ys ≡ false
  none-at [] a = refl
  none-at (y ∷ ys) a = ap (λ b. b || list_any (is_at (cmp x)) ys) (above-apart y a.0) ∙ none-at ys a.1

  all-kept : (ys : List X) → AllByRecursion (λ y. cmp x y ≡ Less) ys → filter (λ y. not (is_at (cmp x) y)) ys ≡ ys
  all-kept [] a = refl
  all-kept (y ∷ ys) a = ap (λ b. cond (not b) (y ∷ filter (λ z. not (is_at (cmp x) z)) ys) (filter (λ z. not (is_at (cmp x) z)) ys)) (above-apart y a.0) ∙ ap (λ zs. y ∷ zs) (all-kept ys a.1)

  above-equal : (y : X) (ys : List X) → cmp y x ≡ Equal → AllByRecursion (λ z. cmp y z ≡ Less) ys → AllByRecursion (λ z. cmp x z ≡ Less) ys
  above-equal y [] e a = tt
  above-equal y (z ∷ ys) e a = (sym (o.congr y x z e) ∙ a.0, above-equal y ys e a.1)

  -- an item stands behind those before it, or is nowhere
  pub stands-behind : (ys : List X) → IsStrictlySortedBy cmp ys → finds (is_at (cmp x)) (slice_get ys (how_many (λ y. is_lt (cmp y x)) ys)) ≡ list_any (is_at (cmp x)) ys
  unfolding how_many IsStrictlySortedBy
  stands-behind [] s = refl
  stands-behind (y ∷ ys) s = at (cmp y x) refl (stands-behind ys s.1)
    where
      at : (r : Ordering) → cmp y x ≡ r → finds (is_at (cmp x)) (slice_get ys (how_many (λ z. is_lt (cmp z x)) ys)) ≡ list_any (is_at (cmp x)) ys
          → finds (is_at (cmp x)) (slice_get (y ∷ ys) (cond (is_lt r) (suc (how_many (λ z. is_lt (cmp z x)) ys)) (how_many (λ z. is_lt (cmp z x)) ys))) ≡ (is_eq (cmp x y) || list_any (is_at (cmp x)) ys)
      at Less e i = i ∙ ap (λ r. is_eq r || list_any (is_at (cmp x)) ys) (sym (o.antisymm x y ∙ ap ordering_reverse e))
      at Equal e i =
          ap (λ n. finds (is_at (cmp x)) (slice_get (y ∷ ys) n)) (none-before ys (above-equal y ys e s.0))
          ∙ (ap is_eq (o.antisymm x y ∙ ap ordering_reverse e) ∙ ap (λ r. is_eq r || list_any (is_at (cmp x)) ys) (sym (o.antisymm x y ∙ ap ordering_reverse e)))
      at Greater e i =
          let less : cmp x y ≡ Less = o.antisymm x y ∙ ap ordering_reverse e in
          ap (λ n. finds (is_at (cmp x)) (slice_get (y ∷ ys) n)) (none-before ys (all_above o x y ys less s.0))
          ∙ (ap is_eq less ∙ (sym (none-at ys (all_above o x y ys less s.0)) ∙ ap (λ r. is_eq r || list_any (is_at (cmp x)) ys) (sym less)))

  -- an item that isn't among them is put behind those before it
  pub put-behind : (ys : List X) → IsStrictlySortedBy cmp ys → list_any (is_at (cmp x)) ys ≡ false
      → take (how_many (λ y. is_lt (cmp y x)) ys) ys ++ x ∷ drop (how_many (λ y. is_lt (cmp y x)) ys) ys ≡ insert_key cmp ys x
  unfolding how_many IsStrictlySortedBy
  put-behind [] s f = refl
  put-behind (y ∷ ys) s f = at (cmp y x) refl (put-behind ys s.1) f
    where
      at : (r : Ordering) → cmp y x ≡ r
          → (list_any (is_at (cmp x)) ys ≡ false → take (how_many (λ z. is_lt (cmp z x)) ys) ys ++ x ∷ drop (how_many (λ z. is_lt (cmp z x)) ys) ys ≡ insert_key cmp ys x)
          → (is_eq (cmp x y) || list_any (is_at (cmp x)) ys) ≡ false
          → take (cond (is_lt r) (suc (how_many (λ z. is_lt (cmp z x)) ys)) (how_many (λ z. is_lt (cmp z x)) ys)) (y ∷ ys) ++ x ∷ drop (cond (is_lt r) (suc (how_many (λ z. is_lt (cmp z x)) ys)) (how_many (λ z. is_lt (cmp z x)) ys)) (y ∷ ys) ≡ match_ordering (cmp x y) (x ∷ y ∷ ys) (y ∷ ys) (y ∷ insert_key cmp ys x)
      at Less e i f =
          let back : cmp x y ≡ Greater = o.antisymm x y ∙ ap ordering_reverse e in
          let rest = sym (ap (λ r. is_eq r || list_any (is_at (cmp x)) ys) back) ∙ f in
          ap (λ zs. y ∷ zs) (i rest) ∙ sym (ap (λ r. match_ordering r (x ∷ y ∷ ys) (y ∷ ys) (y ∷ insert_key cmp ys x)) back)
      at Equal e i f =
          let back : cmp x y ≡ Equal = o.antisymm x y ∙ ap ordering_reverse e in
          absurd (false≢true (sym f ∙ ap (λ r. is_eq r || list_any (is_at (cmp x)) ys) back))
      at Greater e i f =
          let back : cmp x y ≡ Less = o.antisymm x y ∙ ap ordering_reverse e in
          ap (λ n. take n (y ∷ ys) ++ x ∷ drop n (y ∷ ys)) (none-before ys (all_above o x y ys back s.0))
          ∙ sym (ap (λ r. match_ordering r (x ∷ y ∷ ys) (y ∷ ys) (y ∷ insert_key cmp ys x)) back)

  -- one that is among them is put in no second time
  pub put-again : (ys : List X) → IsStrictlySortedBy cmp ys → list_any (is_at (cmp x)) ys ≡ true → insert_key cmp ys x ≡ ys
  unfolding IsStrictlySortedBy
  put-again [] s f = absurd (false≢true f)
  put-again (y ∷ ys) s f = at (cmp x y) refl (put-again ys s.1) f
    where
      at : (r : Ordering) → cmp x y ≡ r → (list_any (is_at (cmp x)) ys ≡ true → insert_key cmp ys x ≡ ys) → (is_eq r || list_any (is_at (cmp x)) ys) ≡ true
          → match_ordering r (x ∷ y ∷ ys) (y ∷ ys) (y ∷ insert_key cmp ys x) ≡ y ∷ ys
      at Less e i f = absurd (false≢true (sym (none-at ys (all_above o x y ys e s.0)) ∙ f))
      at Equal e i f = refl
      at Greater e i f = ap (λ zs. y ∷ zs) (i f)

  -- one that is among them is taken from behind those before it
  pub taken-behind : (ys : List X) → IsStrictlySortedBy cmp ys → list_any (is_at (cmp x)) ys ≡ true
      → take (how_many (λ y. is_lt (cmp y x)) ys) ys ++ drop (how_many (λ y. is_lt (cmp y x)) ys + 1) ys ≡ filter (λ y. not (is_at (cmp x) y)) ys
  unfolding how_many IsStrictlySortedBy
  taken-behind [] s f = absurd (false≢true f)
  taken-behind (y ∷ ys) s f = at (cmp y x) refl (taken-behind ys s.1) f
    where
      next : (n : ℕ) → suc n + 1 ≡ suc (n + 1)
      next n = omega arith

      at : (r : Ordering) → cmp y x ≡ r
          → (list_any (is_at (cmp x)) ys ≡ true → take (how_many (λ z. is_lt (cmp z x)) ys) ys ++ drop (how_many (λ z. is_lt (cmp z x)) ys + 1) ys ≡ filter (λ z. not (is_at (cmp x) z)) ys)
          → (is_eq (cmp x y) || list_any (is_at (cmp x)) ys) ≡ true
          → take (cond (is_lt r) (suc (how_many (λ z. is_lt (cmp z x)) ys)) (how_many (λ z. is_lt (cmp z x)) ys)) (y ∷ ys) ++ drop (cond (is_lt r) (suc (how_many (λ z. is_lt (cmp z x)) ys)) (how_many (λ z. is_lt (cmp z x)) ys) + 1) (y ∷ ys)
          ≡ cond (not (is_eq (cmp x y))) (y ∷ filter (λ z. not (is_at (cmp x) z)) ys) (filter (λ z. not (is_at (cmp x) z)) ys)
      at Less e i f =
          let back : cmp x y ≡ Greater = o.antisymm x y ∙ ap ordering_reverse e in
          let rest = sym (ap (λ r. is_eq r || list_any (is_at (cmp x)) ys) back) ∙ f in
          ap (λ n. y ∷ take (how_many (λ z. is_lt (cmp z x)) ys) ys ++ drop n (y ∷ ys)) (next (how_many (λ z. is_lt (cmp z x)) ys)) ∙ (ap (λ zs. y ∷ zs) (i rest) ∙ sym (ap (λ r. cond (not (is_eq r)) (y ∷ filter (λ z. not (is_at (cmp x) z)) ys) (filter (λ z. not (is_at (cmp x) z)) ys)) back))
      at Equal e i f =
          let back : cmp x y ≡ Equal = o.antisymm x y ∙ ap ordering_reverse e in
          let above = above-equal y ys e s.0 in
          ap (λ n. take n (y ∷ ys) ++ drop (n + 1) (y ∷ ys)) (none-before ys above)
          ∙ (sym (all-kept ys above) ∙ sym (ap (λ r. cond (not (is_eq r)) (y ∷ filter (λ z. not (is_at (cmp x) z)) ys) (filter (λ z. not (is_at (cmp x) z)) ys)) back))
      at Greater e i f =
          let back : cmp x y ≡ Less = o.antisymm x y ∙ ap ordering_reverse e in
          let none = none-at ys (all_above o x y ys back s.0) in
          absurd (false≢true (sym none ∙ (sym (ap (λ r. is_eq r || list_any (is_at (cmp x)) ys) back) ∙ f)))

  -- without one that isn't among them they are the same
  pub without-none : (ys : List X) → list_any (is_at (cmp x)) ys ≡ false → filter (λ y. not (is_at (cmp x) y)) ys ≡ ys
  without-none [] f = refl
  without-none (y ∷ ys) f = at (is_at (cmp x) y) (without-none ys) f
    where
      at : (b : Bool) → (list_any (is_at (cmp x)) ys ≡ false → filter (λ z. not (is_at (cmp x) z)) ys ≡ ys) → (b || list_any (is_at (cmp x)) ys) ≡ false → cond (not b) (y ∷ filter (λ z. not (is_at (cmp x) z)) ys) (filter (λ z. not (is_at (cmp x) z)) ys) ≡ y ∷ ys
      at true i f = absurd (false≢true (sym f))
      at false i f = ap (λ zs. y ∷ zs) (i f)

module _ {X : Type 0} {cmp : X → X → Ordering} (o : IsTotalOrder cmp) where
  all-inserted : (P : X → Type 0) (xs : List X) (k : X) → P k → AllByRecursion P xs → AllByRecursion P (insert_key cmp xs k)
  all-inserted P [] k p a = (p, tt)
  all-inserted P (x ∷ xs) k p a = at (cmp k x) (all-inserted P xs k p a.1)
    where
      at : (r : Ordering) → AllByRecursion P (insert_key cmp xs k) → AllByRecursion P (match_ordering r (k ∷ x ∷ xs) (x ∷ xs) (x ∷ insert_key cmp xs k))
      at Less i = (p, a)
      at Equal i = a
      at Greater i = (a.0, i)

  pub sorted-inserted : (xs : List X) (k : X) → IsStrictlySortedBy cmp xs → IsStrictlySortedBy cmp (insert_key cmp xs k)
  unfolding IsStrictlySortedBy
  sorted-inserted [] k s = (tt, tt)
  sorted-inserted (x ∷ xs) k s = at (cmp k x) refl (sorted-inserted xs k s.1)
    where
      at : (r : Ordering) → cmp k x ≡ r → IsStrictlySortedBy cmp (insert_key cmp xs k) → IsStrictlySortedBy cmp (match_ordering r (k ∷ x ∷ xs) (x ∷ xs) (x ∷ insert_key cmp xs k))
      at Less e i = ((e, all_above o k x xs e s.0), s)
      at Equal e i = s
      at Greater e i = (all-inserted (λ z. cmp x z ≡ Less) xs k (o.antisymm x k ∙ ap ordering_reverse e) s.0, i)

  -- what is found once an item is put in, and once it is taken out
  pub any-inserted : (q : X) (xs : List X) (k : X) → list_any (is_at (cmp q)) (insert_key cmp xs k) ≡ (is_at (cmp q) k || list_any (is_at (cmp q)) xs)
  any-inserted q [] k = refl
  any-inserted q (x ∷ xs) k = at (cmp k x) refl (any-inserted q xs k)
    where
      swap : (a b c : Bool) → (a || (b || c)) ≡ (b || (a || c))
      swap true true c = refl
      swap true false c = refl
      swap false b c = refl

      twice : (a b c : Bool) → a ≡ b → (a || c) ≡ (b || (a || c))
      twice true true c e = refl
      twice true false c e = absurd (false≢true (sym e))
      twice false true c e = absurd (false≢true e)
      twice false false c e = refl

      at : (r : Ordering) → cmp k x ≡ r → list_any (is_at (cmp q)) (insert_key cmp xs k) ≡ (is_at (cmp q) k || list_any (is_at (cmp q)) xs)
          → list_any (is_at (cmp q)) (match_ordering r (k ∷ x ∷ xs) (x ∷ xs) (x ∷ insert_key cmp xs k))
          ≡ (is_at (cmp q) k || (is_at (cmp q) x || list_any (is_at (cmp q)) xs))
      at Less e i = refl
      at Equal e i = twice (is_at (cmp q) x) (is_at (cmp q) k) (list_any (is_at (cmp q)) xs) (sym (ap is_eq (alike_right o k x q e)))
      at Greater e i =
          ap (λ b. is_at (cmp q) x || b) i ∙ swap (is_at (cmp q) x) (is_at (cmp q) k) (list_any (is_at (cmp q)) xs)

  pub any-without : (q x : X) (xs : List X) → list_any (is_at (cmp q)) (filter (λ y. not (is_at (cmp x) y)) xs) ≡ (not (is_at (cmp x) q) && list_any (is_at (cmp q)) xs)
  any-without q x [] = nothing (is_at (cmp x) q)
    where
      nothing : (b : Bool) → false ≡ (not b && false)
      nothing true = refl
      nothing false = refl
  any-without q x (y ∷ ys) = at (is_at (cmp x) y) (is_at (cmp q) y) refl refl (any-without q x ys)
    where
      off : (b c : Bool) → b ≡ true → (not b && c) ≡ false
      off true c e = refl
      off false c e = absurd (false≢true e)

      on : (b c : Bool) → b ≡ false → (not b && c) ≡ c
      on true c e = absurd (false≢true (sym e))
      on false c e = refl

      at : (a b : Bool) → is_at (cmp x) y ≡ a → is_at (cmp q) y ≡ b → list_any (is_at (cmp q)) (filter (λ z. not (is_at (cmp x) z)) ys) ≡ (not (is_at (cmp x) q) && list_any (is_at (cmp q)) ys)
          → list_any (is_at (cmp q)) (cond (not a) (y ∷ filter (λ z. not (is_at (cmp x) z)) ys) (filter (λ z. not (is_at (cmp x) z)) ys)) ≡ (not (is_at (cmp x) q) && (b || list_any (is_at (cmp q)) ys))
      at true true e f h =
          let same : is_at (cmp x) q ≡ true = (eq_by_cmp_equiv o).congr x y q e ∙ ((eq_by_cmp_equiv o).symm y q ∙ f) in
          h ∙ (off (is_at (cmp x) q) (list_any (is_at (cmp q)) ys) same ∙ sym (off (is_at (cmp x) q) true same))
      at true false e f h = h
      at false true e f h =
          let apart : is_at (cmp x) q ≡ false = (eq_by_cmp_equiv o).symm x q ∙ ((eq_by_cmp_equiv o).congr q y x f ∙ ((eq_by_cmp_equiv o).symm y x ∙ e)) in
          ap (λ b. b || list_any (is_at (cmp q)) (filter (λ z. not (is_at (cmp x) z)) ys)) f ∙ sym (on (is_at (cmp x) q) true apart)
      at false false e f h = ap (λ b. b || list_any (is_at (cmp q)) (filter (λ z. not (is_at (cmp x) z)) ys)) f ∙ h

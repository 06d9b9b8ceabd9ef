-- Lists that strictly ascend by a comparison: each query finds one element at most, and what the queries find makes the list.
use Rattle.std.proofs.Common.{◌≡◌, Bool, true, false, cond, not, ◌&&◌, List, [], ◌∷◌, Option, Some, None, refl, sym, ap, ◌∙◌, subst}
use Rattle.std.specs.List.{AllByRecursion, find, filter, dedup, dedup_from}
use Rattle.std.specs.List.Sorted.{IsStrictlySortedBy, IsSorted, IsStable, ties}
use Rattle.std.specs.Cmp.{IsTotalOrder}
use Rattle.std.specs.Ordering.{is_eq, is_lt, eq_by_cmp, ordering_reverse, match_ordering}
use Rattle.std.specs.BTreeMap.{is_at}
use Rattle.std.specs.BTreeSet.{replace_key}
use Rattle.std.specs.declared.cmp.Ordering.{Ordering}
use Rattle.std.specs.declared.cmp.Ordering.TheVariants.{Less, Equal, Greater}
use Rattle.std.proofs.lemmas.Cmp.{tied_itself, tied_back, alike_right}
use Rattle.std.proofs.lemmas.List.Kept.{IsStrictlySortedBy-dedup}
use Rattle.p2p_base.specs.Sorted.{sorted_once}

module _ {X : Type 0} where
  find_same : (p q : X → Bool) → ((x : X) → p x ≡ q x) → (xs : List X) → find p xs ≡ find q xs
  find_same p q e [] = refl
  find_same p q e (x ∷ xs) = rw (e x, find_same p q e xs)

  -- the first of what a filter keeps
  first_of : List X → Option X
  first_of [] = None
  first_of (x ∷ xs) = Some x

  find-filter : (p : X → Bool) (xs : List X) → find p xs ≡ first_of (filter p xs)
  unfolding first_of
  find-filter p [] = refl
  find-filter p (x ∷ xs) =
      elim (p x) as (λ b. cond b (Some x) (find p xs) ≡ first_of (cond b (x ∷ filter p xs) (filter p xs))) [
        | true ↦ refl
        | false ↦ find-filter p xs
      ]

module _ {X : Type 0} {cmp : X → X → Ordering} (o : IsTotalOrder cmp) where
  greater_back : (x y : X) → cmp x y ≡ Greater → cmp y x ≡ Less
  greater_back x y e = o.antisymm y x ∙ ap ordering_reverse e

  pub all_above : (x y : X) (zs : List X) → cmp x y ≡ Less → AllByRecursion (λ z. cmp y z ≡ Less) zs → AllByRecursion (λ z. cmp x z ≡ Less) zs
  all_above x y [] e a = tt
  all_above x y (z ∷ zs) e a = (o.trans x y z e a.0, all_above x y zs e a.1)

  all_above_equal : (x y : X) (zs : List X) → cmp x y ≡ Equal → AllByRecursion (λ z. cmp y z ≡ Less) zs → AllByRecursion (λ z. cmp x z ≡ Less) zs
  all_above_equal x y [] e a = tt
  all_above_equal x y (z ∷ zs) e a = (o.congr x y z e ∙ a.0, all_above_equal x y zs e a.1)

  find_below : (x : X) (zs : List X) → AllByRecursion (λ z. cmp x z ≡ Less) zs → find (is_at (cmp x)) zs ≡ None
  find_below x [] a = refl
  find_below x (z ∷ zs) a = rw (a.0) (find_below x zs a.1)

  -- a query at an element of a sorted list finds nothing behind it
  find_past : (q x : X) (zs : List X) → cmp q x ≡ Equal → AllByRecursion (λ z. cmp x z ≡ Less) zs → find (is_at (cmp q)) zs ≡ None
  find_past q x zs e a = find_below q zs (all_above_equal q x zs e a)

  all-replace_key : (P : X → Type 0) (xs : List X) (k : X) → P k → AllByRecursion P xs → AllByRecursion P (replace_key cmp xs k)
  all-replace_key P [] k p a = (p, tt)
  all-replace_key P (x ∷ xs) k p a =
      elim (cmp k x) as (λ r. AllByRecursion P (match_ordering r (k ∷ x ∷ xs) (k ∷ xs) (x ∷ replace_key cmp xs k))) [
        | Less ↦ (p, a)
        | Equal ↦ (p, a.1)
        | Greater ↦ (a.0, all-replace_key P xs k p a.1)
      ]

  sorted-replace_key : (xs : List X) (k : X) → IsStrictlySortedBy cmp xs → IsStrictlySortedBy cmp (replace_key cmp xs k)
  unfolding IsStrictlySortedBy
  sorted-replace_key [] k s = (tt, tt)
  sorted-replace_key (x ∷ xs) k s =
      elim (cmp k x) as (λ r. cmp k x ≡ r → IsStrictlySortedBy cmp (match_ordering r (k ∷ x ∷ xs) (k ∷ xs) (x ∷ replace_key cmp xs k))) [
        | Less ↦ λ e. ((e, all_above k x xs e s.0), s)
        | Equal ↦ λ e. (all_above_equal k x xs e s.0, s.1)
        | Greater ↦ λ e. (all-replace_key (λ z. cmp x z ≡ Less) xs k (greater_back k x e) s.0, sorted-replace_key xs k s.1)
      ] refl

  choose_equal : (k x : X) (rest : Option X) (r s : Ordering) → r ≡ s → cond (is_eq r) (Some k) rest ≡ cond (is_eq r) (Some k) (cond (is_eq s) (Some x) rest)
  choose_equal k x rest Less Less e = refl
  choose_equal k x rest Less Equal e = cc
  choose_equal k x rest Less Greater e = refl
  choose_equal k x rest Equal s e = refl
  choose_equal k x rest Greater Less e = refl
  choose_equal k x rest Greater Equal e = cc
  choose_equal k x rest Greater Greater e = refl

  choose_apart : (q k x : X) (rest : Option X) (r s : Ordering) → cmp k x ≡ Greater → cmp q k ≡ r → cmp q x ≡ s
      → cond (is_eq s) (Some x) (cond (is_eq r) (Some k) rest) ≡ cond (is_eq r) (Some k) (cond (is_eq s) (Some x) rest)
  choose_apart q k x rest Less s e a b = refl
  choose_apart q k x rest Greater s e a b = refl
  choose_apart q k x rest Equal Less e a b = refl
  choose_apart q k x rest Equal Greater e a b = refl
  choose_apart q k x rest Equal Equal e a b = let same = o.congr q k x a in cc

  find-replace_key : (q : X) (xs : List X) (k : X) → find (is_at (cmp q)) (replace_key cmp xs k) ≡ cond (is_at (cmp q) k) (Some k) (find (is_at (cmp q)) xs)
  find-replace_key q [] k = refl
  find-replace_key q (x ∷ xs) k =
      elim (cmp k x) as (λ r. cmp k x ≡ r
      → find (is_at (cmp q)) (match_ordering r (k ∷ x ∷ xs) (k ∷ xs) (x ∷ replace_key cmp xs k)) ≡ cond (is_at (cmp q) k) (Some k) (find (is_at (cmp q)) (x ∷ xs))) [
        | Less ↦ λ e. refl
        | Equal ↦ λ e. choose_equal k x (find (is_at (cmp q)) xs) (cmp q k) (cmp q x) (alike_right o k x q e)
        | Greater ↦ λ e. ap (λ z. cond (is_eq (cmp q x)) (Some x) z) (find-replace_key q xs k)
            ∙ choose_apart q k x (find (is_at (cmp q)) xs) (cmp q k) (cmp q x) e refl refl
      ] refl

  pub sorted-sorted_once : (xs : List X) → IsStrictlySortedBy cmp (sorted_once cmp xs)
  unfolding IsStrictlySortedBy
  sorted-sorted_once [] = tt
  sorted-sorted_once (x ∷ xs) = sorted-replace_key (sorted_once cmp xs) x (sorted-sorted_once xs)

  pub find-sorted_once : (q : X) (xs : List X) → find (is_at (cmp q)) (sorted_once cmp xs) ≡ find (is_at (cmp q)) xs
  find-sorted_once q [] = refl
  find-sorted_once q (x ∷ xs) = find-replace_key q (sorted_once cmp xs) x ∙ ap (λ z. cond (is_at (cmp q) x) (Some x) z) (find-sorted_once q xs)

  finds_none : (y : X) (r : Ordering) (rest : Option X) → cmp y y ≡ r → None ≡ cond (is_eq r) (Some y) rest → ⊥
  finds_none y Less rest a e = let own = tied_itself o y in cc
  finds_none y Equal rest a e = cc
  finds_none y Greater rest a e = let own = tied_itself o y in cc

  -- where both begin with x, the queries find the same behind it
  tails_alike : (x : X) (xs ys : List X) → AllByRecursion (λ z. cmp x z ≡ Less) xs → AllByRecursion (λ z. cmp x z ≡ Less) ys
      → (q : X) → find (is_at (cmp q)) (x ∷ xs) ≡ find (is_at (cmp q)) (x ∷ ys) → find (is_at (cmp q)) xs ≡ find (is_at (cmp q)) ys
  tails_alike x xs ys a b q = at (cmp q x) refl
    where
      at : (r : Ordering) → cmp q x ≡ r → cond (is_eq r) (Some x) (find (is_at (cmp q)) xs) ≡ cond (is_eq r) (Some x) (find (is_at (cmp q)) ys)
          → find (is_at (cmp q)) xs ≡ find (is_at (cmp q)) ys
      at Less e h = h
      at Equal e h = find_past q x xs e a ∙ sym (find_past q x ys e b)
      at Greater e h = h

  find_own : (x : X) (r : Ordering) (rest : Option X) → cmp x x ≡ r → cond (is_eq r) (Some x) rest ≡ Some x
  find_own x Less rest e = let own = tied_itself o x in cc
  find_own x Equal rest e = refl
  find_own x Greater rest e = let own = tied_itself o x in cc

  -- the first elements of two lists in order that queries find alike
  heads_alike : (x y : X) (xs ys : List X) (r : Ordering) → cmp x y ≡ r → AllByRecursion (λ z. cmp x z ≡ Less) xs → AllByRecursion (λ z. cmp y z ≡ Less) ys
      → cond (is_eq (cmp x x)) (Some x) (find (is_at (cmp x)) xs) ≡ cond (is_eq r) (Some y) (find (is_at (cmp x)) ys)
      → cond (is_eq (cmp y x)) (Some x) (find (is_at (cmp y)) xs) ≡ cond (is_eq (cmp y y)) (Some y) (find (is_at (cmp y)) ys)
      → x ≡ y
  heads_alike x y xs ys Less e a b h k =
      let own = find_own x (cmp x x) (find (is_at (cmp x)) xs) refl in
      let gone = find_below x ys (all_above x y ys e b) in
      cc
  heads_alike x y xs ys Equal e a b h k = let own = find_own x (cmp x x) (find (is_at (cmp x)) xs) refl in cc
  heads_alike x y xs ys Greater e a b h k =
      let own = find_own y (cmp y y) (find (is_at (cmp y)) ys) refl in
      let back = greater_back x y e in
      let gone = find_below y xs (all_above y x xs back a) in
      let past : cond (is_eq (cmp y x)) (Some x) (find (is_at (cmp y)) xs) ≡ None = rw (back) gone in
      cc

  -- two lists in order in which each query finds the same are one list
  pub sorted_unique : (xs ys : List X) → IsStrictlySortedBy cmp xs → IsStrictlySortedBy cmp ys
      → ((q : X) → find (is_at (cmp q)) xs ≡ find (is_at (cmp q)) ys) → xs ≡ ys
  unfolding IsStrictlySortedBy
  sorted_unique [] [] s t h = refl
  sorted_unique [] (y ∷ ys) s t h = absurd (finds_none y (cmp y y) (find (is_at (cmp y)) ys) refl (h y))
  sorted_unique (x ∷ xs) [] s t h = absurd (finds_none x (cmp x x) (find (is_at (cmp x)) xs) refl (sym (h x)))
  sorted_unique (x ∷ xs) (y ∷ ys) s t h =
      let same = heads_alike x y xs ys (cmp x y) refl s.0 t.0 (h x) (h y) in
      let from : X → Type 0 = λ w. AllByRecursion (λ z. cmp w z ≡ Less) ys → ((q : X) → find (is_at (cmp q)) (x ∷ xs) ≡ find (is_at (cmp q)) (w ∷ ys)) → xs ≡ ys in
      let rest = subst from same (λ b g. sorted_unique xs ys s.1 t.1 (λ q. tails_alike x xs ys s.0 b q (g q))) t.0 h in
      ap (λ w. w ∷ xs) same ∙ ap (λ w. y ∷ w) rest

  -- the elements that tie with q are those that a query for q finds
  ties_are : (q y : X) → ties (λ a b. is_lt (cmp a b)) q y ≡ is_at (cmp q) y
  ties_are q y = at (cmp q y) (cmp y q) (o.antisymm y q)
    where
      at : (r s : Ordering) → s ≡ ordering_reverse r → (not (is_lt r) && not (is_lt s)) ≡ is_eq r
      at Less s e = refl
      at Equal s e = rw e
      at Greater s e = rw e

  -- a stable sort changes no answer
  pub find_stable : (xs ys : List X) → IsStable cmp xs ys → (q : X) → find (is_at (cmp q)) ys ≡ find (is_at (cmp q)) xs
  find_stable xs ys h q =
      let tied : X → Bool = ties (λ a b. is_lt (cmp a b)) q in
      find_same (is_at (cmp q)) tied (λ y. sym (ties_are q y)) ys ∙ find-filter tied ys ∙ ap first_of (h q) ∙ sym (find-filter tied xs)
      ∙ find_same tied (is_at (cmp q)) (ties_are q) xs

  module _ {E : X → X → Bool} (tied : (x y : X) → E x y ≡ eq_by_cmp cmp x y) where
    find-dedup_from : (q k : X) (xs : List X) → find (is_at (cmp q)) (dedup_from E k xs) ≡ find (is_at (cmp q)) (k ∷ xs)
    find-dedup_from q k [] = refl
    find-dedup_from q k (x ∷ xs) =
        rw (tied x k)
        (elim (cmp x k) as (λ r. cmp x k ≡ r
        → find (is_at (cmp q)) (cond (is_eq r) (dedup_from E k xs) (k ∷ dedup_from E x xs)) ≡ find (is_at (cmp q)) (k ∷ x ∷ xs)) [
          | Less ↦ λ e. ap (λ z. cond (is_at (cmp q) k) (Some k) z) (find-dedup_from q x xs)
          | Equal ↦ λ e. find-dedup_from q k xs ∙ choose_equal k x (find (is_at (cmp q)) xs) (cmp q k) (cmp q x) (alike_right o k x q (tied_back o x k e))
          | Greater ↦ λ e. ap (λ z. cond (is_at (cmp q) k) (Some k) z) (find-dedup_from q x xs)
        ] refl)

    find-dedup : (q : X) (xs : List X) → find (is_at (cmp q)) (dedup E xs) ≡ find (is_at (cmp q)) xs
    find-dedup q [] = refl
    find-dedup q (x ∷ xs) = find-dedup_from q x xs

    -- a stable sort, and a dedup after it
    pub sorted_once-from_sort : (xs ys : List X) → IsStable cmp xs ys → IsSorted cmp ys → dedup E ys ≡ sorted_once cmp xs
    sorted_once-from_sort xs ys stable sorted =
        sorted_unique (dedup E ys) (sorted_once cmp xs) (IsStrictlySortedBy-dedup o tied ys sorted) (sorted-sorted_once xs)
        (λ q. find-dedup q ys ∙ find_stable xs ys stable q ∙ sym (find-sorted_once q xs))

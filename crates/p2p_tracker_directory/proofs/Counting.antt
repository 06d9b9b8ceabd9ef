-- How many entries of a list in order pass a test, told by what is found under each key.
use Rattle.std.proofs.Common.{◌≡◌, ℕ, ◌+◌, suc, Bool, true, false, cond, not, ◌&&◌, ◌||◌, List, [], ◌∷◌, length, Some, refl, sym, ap, ◌∙◌, arith}
use Rattle.std.proofs.lemmas.Bool.{false≢true}
use Rattle.std.proofs.lemmas.Cmp.{eq_by_cmp_equiv, tied_itself}
use Rattle.std.specs.Cmp.{IsTotalOrder}
use Rattle.std.specs.List.{AllByRecursion, filter}
use Rattle.std.specs.List.Sorted.{IsStrictlySortedBy}
use Rattle.std.specs.Map.{keys_of, lookup}
use Rattle.std.specs.Ordering.{is_eq, ordering_reverse}
use Rattle.std.specs.BTreeMap.{is_at}
use Rattle.std.specs.declared.cmp.Ordering.{Ordering}
use Rattle.std.specs.declared.cmp.Ordering.TheVariants.{Less, Equal, Greater}
use Rattle.p2p_base.proofs.SortedLists.{all_above}
use Rattle.p2p_tracker_calls.specs.Sets.{how_many, is_among}
use Rattle.p2p_tracker_directory.specs.Tracked.{one_if, passes}
use Rattle.p2p_tracker_directory.proofs.Entries.{among-listed, lookup_past}
use Rattle.p2p_tracker_directory.proofs.Found.{sorted-filter}
use Rattle.p2p_tracker_directory.proofs.Killing.{lookup-flip}
use Rattle.p2p_tracker_directory.proofs.Walks.{apart, equal_by}

module _ {P : Type 0} {cmp : P → P → Ordering} (o : IsTotalOrder cmp) where
  none_among : (q : P) (ks : List P) → AllByRecursion (λ y. is_at (cmp y) q ≡ false) ks → is_among cmp ks q ≡ false
  none_among q [] a = refl
  none_among q (k ∷ ks) a = ap (λ b. b || is_among cmp ks q) a.0 ∙ none_among q ks a.1

  below : (q y : P) → cmp q y ≡ Less → is_at (cmp y) q ≡ false
  below q y e = ap is_eq (o.antisymm y q ∙ ap ordering_reverse e)

  -- keys above another aren't equal to it
  all_apart : (q : P) (ks : List P) → AllByRecursion (λ y. cmp q y ≡ Less) ks → AllByRecursion (λ y. is_at (cmp y) q ≡ false) ks
  all_apart q [] a = tt
  all_apart q (k ∷ ks) a = (below q k a.0, all_apart q ks a.1)

  own : (k : P) (ks : List P) → is_among cmp (k ∷ ks) k ≡ true
  own k ks = ap (λ r. is_eq r || is_among cmp ks k) (tied_itself o k)

  heads_tied : (k l : P) (ks ls : List P) → AllByRecursion (λ y. cmp k y ≡ Less) ks → AllByRecursion (λ y. cmp l y ≡ Less) ls
      → is_among cmp (k ∷ ks) k ≡ is_among cmp (l ∷ ls) k → is_among cmp (k ∷ ks) l ≡ is_among cmp (l ∷ ls) l → cmp k l ≡ Equal
  heads_tied k l ks ls a b h i = at (cmp k l) refl
    where
      at : (r : Ordering) → cmp k l ≡ r → r ≡ Equal
      at Equal e = refl
      at Less e =
          let none = none_among k (l ∷ ls) (below k l e, all_apart k ls (all_above o k l ls e b)) in
          absurd (false≢true (sym none ∙ (sym h ∙ own k ks)))
      at Greater e =
          let back : cmp l k ≡ Less = o.antisymm l k ∙ ap ordering_reverse e in
          let none = none_among l (k ∷ ks) (below l k back, all_apart l ks (all_above o l k ks back a)) in
          absurd (false≢true (sym none ∙ (i ∙ own l ls)))

  tails_alike : (k l q : P) (ks ls : List P) → cmp k l ≡ Equal → AllByRecursion (λ y. cmp k y ≡ Less) ks → AllByRecursion (λ y. cmp l y ≡ Less) ls
      → is_among cmp (k ∷ ks) q ≡ is_among cmp (l ∷ ls) q → is_among cmp ks q ≡ is_among cmp ls q
  tails_alike k l q ks ls e a b h = at (is_at (cmp k) q) (is_at (cmp l) q) refl refl h
    where
      tied : is_at (cmp k) q ≡ is_at (cmp l) q
      tied = ap is_eq (o.congr k l q e)

      at : (c d : Bool) → is_at (cmp k) q ≡ c → is_at (cmp l) q ≡ d → (c || is_among cmp ks q) ≡ (d || is_among cmp ls q) → is_among cmp ks q ≡ is_among cmp ls q
      at false false f g i = i
      at true true f g i =
          none_among q ks (apart o k q ks (equal_by (cmp k q) f) a) ∙ sym (none_among q ls (apart o l q ls (equal_by (cmp l q) g) b))
      at true false f g i = absurd (false≢true (sym g ∙ (sym tied ∙ f)))
      at false true f g i = absurd (false≢true (sym f ∙ (tied ∙ g)))

  -- lists in order in which the same keys stand are of one length
  same_length : (ks ls : List P) → IsStrictlySortedBy cmp ks → IsStrictlySortedBy cmp ls → ((q : P) → is_among cmp ks q ≡ is_among cmp ls q) → length ks ≡ length ls
  unfolding IsStrictlySortedBy
  same_length [] [] s t h = refl
  same_length [] (l ∷ ls) s t h = absurd (false≢true (h l ∙ own l ls))
  same_length (k ∷ ks) [] s t h = absurd (false≢true (sym (h k) ∙ own k ks))
  same_length (k ∷ ks) (l ∷ ls) s t h =
      let tied = heads_tied k l ks ls s.0 t.0 (h k) (h l) in
      ap suc (same_length ks ls s.1 t.1 (λ q. tails_alike k l q ks ls tied s.0 t.0 (h q)))

module _ {P X : Type 0} where
  pub how_many-length : (test : P × X → Bool) (es : List (P × X)) → how_many test es ≡ length (keys_of (filter test es))
  unfolding how_many
  how_many-length test [] = refl
  how_many-length test (e ∷ es) = at (test e) (how_many-length test es)
    where
      at : (b : Bool) → how_many test es ≡ length (keys_of (filter test es)) → cond b (suc (how_many test es)) (how_many test es) ≡ length (keys_of (cond b (e ∷ filter test es) (filter test es)))
      at true h = ap suc h
      at false h = h

module _ {X : Type 0} where
  pub how_many-same : (a b : X → Bool) → ((x : X) → a x ≡ b x) → (xs : List X) → how_many a xs ≡ how_many b xs
  unfolding how_many
  how_many-same a b h [] = refl
  how_many-same a b h (x ∷ xs) = ap (λ c. cond c (suc (how_many a xs)) (how_many a xs)) (h x) ∙ ap (λ n. cond (b x) (suc n) n) (how_many-same a b h xs)

  pub how_many-none : (a : X → Bool) → ((x : X) → a x ≡ false) → (xs : List X) → how_many a xs ≡ 0
  unfolding how_many
  how_many-none a h [] = refl
  how_many-none a h (x ∷ xs) = ap (λ c. cond c (suc (how_many a xs)) (how_many a xs)) (h x) ∙ how_many-none a h xs

  -- those that pass two tests, and those that pass one of them alone
  pub how_many-split : (b a : X → Bool) (xs : List X) → how_many a xs ≡ how_many (λ x. b x && a x) xs + how_many (λ x. not (b x) && a x) xs
  unfolding how_many
  how_many-split b a [] = refl
  how_many-split b a (x ∷ xs) = at (b x) (a x) (how_many-split b a xs)
    where
      at : (c d : Bool) → how_many a xs ≡ how_many (λ y. b y && a y) xs + how_many (λ y. not (b y) && a y) xs
          → cond d (suc (how_many a xs)) (how_many a xs)
          ≡ cond (c && d) (suc (how_many (λ y. b y && a y) xs)) (how_many (λ y. b y && a y) xs)
          + cond (not c && d) (suc (how_many (λ y. not (b y) && a y) xs)) (how_many (λ y. not (b y) && a y) xs)
      at true true h = omega (arith, h)
      at true false h = h
      at false true h = omega (arith, h)
      at false false h = h

module _ {P X Y : Type 0} {cmp : P → P → Ordering} (o : IsTotalOrder cmp) (a : P → X → Bool) (b : P → Y → Bool) where
  -- lists in order have as many entries that pass where under each key an entry of either passes
  pub counts-alike : ((p q : P) (x : X) → is_at (cmp p) q ≡ true → a p x ≡ a q x) → ((p q : P) (y : Y) → is_at (cmp p) q ≡ true → b p y ≡ b q y)
      → (xs : List (P × X)) (ys : List (P × Y)) → IsStrictlySortedBy cmp (keys_of xs) → IsStrictlySortedBy cmp (keys_of ys)
      → ((q : P) → passes (a q) (lookup (is_at (cmp q)) xs) ≡ passes (b q) (lookup (is_at (cmp q)) ys))
      → how_many (λ e. a e.0 e.1) xs ≡ how_many (λ e. b e.0 e.1) ys
  counts-alike ra rb xs ys s t h =
      how_many-length (λ e. a e.0 e.1) xs
      ∙ (same_length o (keys_of (filter (λ e. a e.0 e.1) xs)) (keys_of (filter (λ e. b e.0 e.1) ys)) (sorted-filter cmp (λ e. a e.0 e.1) xs s) (sorted-filter cmp (λ e. b e.0 e.1) ys t)
      (λ q. among-listed o a q xs (keys_of (filter (λ e. a e.0 e.1) xs)) s (λ p x e. ra p q x e) refl
      ∙ (h q ∙ sym (among-listed o b q ys (keys_of (filter (λ e. b e.0 e.1) ys)) t (λ p y e. rb p q y e) refl)))
      ∙ sym (how_many-length (λ e. b e.0 e.1) ys))

module _ {P X : Type 0} {cmp : P → P → Ordering} (o : IsTotalOrder cmp) (a : X → Bool) (p : P) where
  -- of one key's entries at most one passes
  pub count-at : (es : List (P × X)) → IsStrictlySortedBy cmp (keys_of es) → how_many (λ e. is_at (cmp p) e.0 && a e.1) es ≡ one_if (passes a (lookup (is_at (cmp p)) es))
  unfolding how_many IsStrictlySortedBy
  count-at [] s = refl
  count-at (e ∷ es) s = at (is_at (cmp p) e.0) refl (count-at es s.1)
    where
      once : (d : Bool) (n : ℕ) → n ≡ 0 → cond d (suc n) n ≡ one_if d
      once true n h = ap suc h
      once false n h = h

      at : (b : Bool) → is_at (cmp p) e.0 ≡ b → how_many (λ x. is_at (cmp p) x.0 && a x.1) es ≡ one_if (passes a (lookup (is_at (cmp p)) es))
          → cond (b && a e.1) (suc (how_many (λ x. is_at (cmp p) x.0 && a x.1) es)) (how_many (λ x. is_at (cmp p) x.0 && a x.1) es)
          ≡ one_if (passes a (cond b (Some e.1) (lookup (is_at (cmp p)) es)))
      at true h i =
          let same = sym ((eq_by_cmp_equiv o).symm p e.0) ∙ h in
          let none = lookup-flip o p es ∙ lookup_past o es p (apart o e.0 p (keys_of es) (equal_by (cmp e.0 p) same) s.0) in
          once (a e.1) (how_many (λ x. is_at (cmp p) x.0 && a x.1) es) (i ∙ ap (λ r. one_if (passes a r)) none)
      at false h i = i

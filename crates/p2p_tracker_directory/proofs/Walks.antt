-- A walk over entries in key order changes what is kept of each key at most once.
use Rattle.std.proofs.Common.{◌≡◌, Bool, true, false, cond, ◌||◌, List, [], ◌∷◌, ◌++◌, ℕ, suc, ◌+◌, ◌<◌, ◌≤◌, length, get_or, drop, drop-cons, add-one, Option, Some, None, refl, sym, ap, ◌∙◌}
use Rattle.std.proofs.lemmas.Bool.{false≢true}
use Rattle.std.proofs.lemmas.List.{drop_all}
use Rattle.std.specs.Cmp.{IsTotalOrder}
use Rattle.std.specs.List.{AllByRecursion, list_any}
use Rattle.std.specs.List.Sorted.{IsStrictlySortedBy}
use Rattle.std.specs.Map.{keys_of, lookup}
use Rattle.std.specs.BTreeMap.{is_at}
use Rattle.std.specs.Ordering.{is_eq, ordering_reverse}
use Rattle.std.specs.declared.cmp.Ordering.{Ordering}
use Rattle.std.specs.declared.cmp.Ordering.TheVariants.{Less, Equal, Greater}

pub equal_by : (r : Ordering) → is_eq r ≡ true → r ≡ Equal
equal_by Less e = absurd (false≢true e)
equal_by Equal e = refl
equal_by Greater e = absurd (false≢true e)

module _ {P X R : Type 0} (cmp : P → P → Ordering) (f : X → R → R) where
  -- what a walk makes of what is kept of a key: each entry of an equal key changes it
  unfoldable pub walked : List (P × X) → P → R → R
  walked [] q r = r
  walked (e ∷ es) q r = walked es q (cond (is_at (cmp e.0) q) (f e.1 r) r)

  abbrev pub changed : Option X → R → R
  changed None r = r
  changed (Some x) r = f x r

module _ {P : Type 0} {cmp : P → P → Ordering} (o : IsTotalOrder cmp) where
  -- keys above one that is equal to another are not equal to it
  pub apart : (p q : P) (ks : List P) → cmp p q ≡ Equal → AllByRecursion (λ y. cmp p y ≡ Less) ks → AllByRecursion (λ y. is_at (cmp y) q ≡ false) ks
  apart p q [] h a = tt
  apart p q (y ∷ ks) h a = (ap is_eq (o.antisymm y q ∙ ap ordering_reverse (sym (o.congr p q y h) ∙ a.0)), apart p q ks h a.1)

module _ {P X R : Type 0} {cmp : P → P → Ordering} (o : IsTotalOrder cmp) (f : X → R → R) where
  walked_past : (es : List (P × X)) (q : P) (r : R) → AllByRecursion (λ y. is_at (cmp y) q ≡ false) (keys_of es) → walked cmp f es q r ≡ r
  unfolding walked
  walked_past [] q r a = refl
  walked_past (e ∷ es) q r a = ap (λ b. walked cmp f es q (cond b (f e.1 r) r)) a.0 ∙ walked_past es q r a.1

  pub walked-once : (es : List (P × X)) (q : P) (r : R) → IsStrictlySortedBy cmp (keys_of es) → walked cmp f es q r ≡ changed cmp f (lookup (λ p. is_at (cmp p) q) es) r
  unfolding walked IsStrictlySortedBy
  walked-once [] q r s = refl
  walked-once (e ∷ es) q r s = at (is_at (cmp e.0) q) refl (walked-once es q r s.1)
    where
      at : (b : Bool) → is_at (cmp e.0) q ≡ b → walked cmp f es q r ≡ changed cmp f (lookup (λ p. is_at (cmp p) q) es) r
          → walked cmp f es q (cond b (f e.1 r) r) ≡ changed cmp f (cond b (Some e.1) (lookup (λ p. is_at (cmp p) q) es)) r
      at true h i = walked_past es q (f e.1 r) (apart o e.0 q (keys_of es) (equal_by (cmp e.0 q) h) s.0)
      at false h i = i

  pub walked-push : (es : List (P × X)) (e : P × X) (q : P) (r : R) → walked cmp f (es ++ e ∷ []) q r ≡ cond (is_at (cmp e.0) q) (f e.1 (walked cmp f es q r)) (walked cmp f es q r)
  unfolding walked
  walked-push [] e q r = refl
  walked-push (x ∷ es) e q r = walked-push es e q (cond (is_at (cmp x.0) q) (f x.1 r) r)

module _ {P R : Type 0} (cmp : P → P → Ordering) (f : R → R) where
  -- the same of a walk over keys alone
  unfoldable pub walked_keys : List P → P → R → R
  walked_keys [] q r = r
  walked_keys (k ∷ ks) q r = walked_keys ks q (cond (is_at (cmp k) q) (f r) r)

module _ {P R : Type 0} {cmp : P → P → Ordering} (o : IsTotalOrder cmp) (f : R → R) where
  keys_past : (ks : List P) (q : P) (r : R) → AllByRecursion (λ y. is_at (cmp y) q ≡ false) ks → walked_keys cmp f ks q r ≡ r
  unfolding walked_keys
  keys_past [] q r a = refl
  keys_past (k ∷ ks) q r a = ap (λ b. walked_keys cmp f ks q (cond b (f r) r)) a.0 ∙ keys_past ks q r a.1

  pub keys-once : (ks : List P) (q : P) (r : R) → IsStrictlySortedBy cmp ks → walked_keys cmp f ks q r ≡ cond (list_any (λ k. is_at (cmp k) q) ks) (f r) r
  unfolding walked_keys IsStrictlySortedBy
  keys-once [] q r s = refl
  keys-once (k ∷ ks) q r s = at (is_at (cmp k) q) refl (keys-once ks q r s.1)
    where
      at : (b : Bool) → is_at (cmp k) q ≡ b → walked_keys cmp f ks q r ≡ cond (list_any (λ k. is_at (cmp k) q) ks) (f r) r
          → walked_keys cmp f ks q (cond b (f r) r) ≡ cond (b || list_any (λ k. is_at (cmp k) q) ks) (f r) r
      at true h i = keys_past ks q (f r) (apart o k q ks (equal_by (cmp k q) h) s.0)
      at false h i = i

  -- one key further
  pub keys-step : (ks : List P) (i : ℕ) (k q : P) (x y r : R) → i < length ks → k ≡ get_or ks i k → walked_keys cmp f (drop i ks) q x ≡ r → y ≡ cond (is_at (cmp k) q) (f x) x
      → walked_keys cmp f (drop (i + 1) ks) q y ≡ r
  unfolding walked_keys
  keys-step ks i k q x y r h k_is e y_is =
      ap (walked_keys cmp f (drop (i + 1) ks) q) y_is
      ∙ (ap (λ j. walked_keys cmp f (drop j ks) q (cond (is_at (cmp k) q) (f x) x)) (add-one i) ∙ sym (ap (λ zs. walked_keys cmp f zs q x) (drop-cons ks i k h ∙ ap (λ z. z ∷ drop (suc i) ks) (sym k_is))) ∙ e)

  -- and at the end
  pub keys-end : (ks : List P) (i : ℕ) (q : P) (x r : R) → length ks ≤ i → walked_keys cmp f (drop i ks) q x ≡ r → x ≡ r
  unfolding walked_keys
  keys-end ks i q x r h e = sym (ap (λ zs. walked_keys cmp f zs q x) (drop_all i ks h)) ∙ e

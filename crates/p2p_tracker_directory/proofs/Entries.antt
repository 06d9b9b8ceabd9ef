-- Which keys stand in a list of the entries that pass a test.
use Rattle.std.proofs.Common.{◌≡◌, Bool, true, false, cond, ◌||◌, List, [], ◌∷◌, ◌++◌, Some, None, refl, sym, ap, ◌∙◌}
use Rattle.std.proofs.lemmas.List.{append_assoc}
use Rattle.std.specs.Cmp.{IsTotalOrder}
use Rattle.std.specs.List.{AllByRecursion, filter}
use Rattle.std.specs.List.Sorted.{IsStrictlySortedBy}
use Rattle.std.specs.Map.{keys_of, lookup}
use Rattle.std.specs.BTreeMap.{is_at}
use Rattle.std.specs.declared.cmp.Ordering.{Ordering}
use Rattle.p2p_base.specs.Sorted.{sorted_once}
use Rattle.p2p_base.proofs.SortedRepeats.{any-sorted_once}
use Rattle.p2p_tracker_calls.specs.Sets.{is_among}
use Rattle.p2p_tracker_directory.specs.Tracked.{passes}
use Rattle.p2p_tracker_directory.proofs.Killing.{lookup-flip}
use Rattle.p2p_tracker_directory.proofs.Newcomers.{list_any-flip}
use Rattle.p2p_tracker_directory.proofs.Walks.{apart, equal_by}

module _ {P X : Type 0} {cmp : P → P → Ordering} (o : IsTotalOrder cmp) where
  pub lookup_past : (es : List (P × X)) (q : P) → AllByRecursion (λ y. is_at (cmp y) q ≡ false) (keys_of es) → lookup (λ p. is_at (cmp p) q) es ≡ None
  lookup_past [] q a = refl
  lookup_past (e ∷ es) q a = ap (λ b. cond b (Some e.1) (lookup (λ p. is_at (cmp p) q) es)) a.0 ∙ lookup_past es q a.1

  among_step : (test : X → Bool) (b c : Bool) (e : P × X) (q : P) (rest es : List (P × X)) → (c ≡ true → b ≡ test e.1) → (c ≡ true → lookup (λ p. is_at (cmp p) q) es ≡ None)
      → is_among cmp (keys_of rest) q ≡ passes test (lookup (λ p. is_at (cmp p) q) es)
      → (cond b (c || is_among cmp (keys_of rest) q) (is_among cmp (keys_of rest) q)) ≡ passes test (cond c (Some e.1) (lookup (λ p. is_at (cmp p) q) es))
  among_step test true true e q rest es h n i = h refl
  among_step test false true e q rest es h n i = i ∙ (ap (passes test) (n refl) ∙ h refl)
  among_step test true false e q rest es h n i = i
  among_step test false false e q rest es h n i = i

  split : (b : Bool) (e : P × X) (q : P) (rest : List (P × X))
      → is_among cmp (keys_of (cond b (e ∷ rest) rest)) q ≡ cond b (is_at (cmp e.0) q || is_among cmp (keys_of rest) q) (is_among cmp (keys_of rest) q)
  split true e q rest = refl
  split false e q rest = refl

  among-entries : (test : P → X → Bool) (q : P) (es : List (P × X)) → IsStrictlySortedBy cmp (keys_of es) → ((k : P) (x : X) → is_at (cmp k) q ≡ true → test k x ≡ test q x)
      → is_among cmp (keys_of (filter (λ e. test e.0 e.1) es)) q ≡ passes (test q) (lookup (λ p. is_at (cmp p) q) es)
  unfolding IsStrictlySortedBy
  among-entries test q [] s h = refl
  among-entries test q (e ∷ es) s h =
      split (test e.0 e.1) e q (filter (λ x. test x.0 x.1) es)
      ∙ among_step (test q) (test e.0 e.1) (is_at (cmp e.0) q) e q (filter (λ x. test x.0 x.1) es) es (h e.0 e.1)
      (λ c. lookup_past es q (apart o e.0 q (keys_of es) (equal_by (cmp e.0 q) c) s.0)) (among-entries test q es s.1 h)

  -- a key is among those whose entry passes where its own passes
  pub among-listed : (test : P → X → Bool) (q : P) (es : List (P × X)) (k : List P) → IsStrictlySortedBy cmp (keys_of es)
      → ((p : P) (x : X) → is_at (cmp p) q ≡ true → test p x ≡ test q x)
      → k ≡ keys_of (filter (λ e. test e.0 e.1) es) → is_among cmp k q ≡ passes (test q) (lookup (is_at (cmp q)) es)
  among-listed test q es k s h e =
      ap (λ ks. is_among cmp ks q) e ∙ (among-entries test q es s h ∙ ap (passes (test q)) (sym (lookup-flip o q es)))

  -- the same of the set of them
  pub among-kept : (test : P → X → Bool) (q : P) (es : List (P × X)) (k : List P) → IsStrictlySortedBy cmp (keys_of es)
      → ((p : P) (x : X) → is_at (cmp p) q ≡ true → test p x ≡ test q x)
      → k ≡ sorted_once cmp (keys_of (filter (λ e. test e.0 e.1) es)) → is_among cmp k q ≡ passes (test q) (lookup (is_at (cmp q)) es)
  among-kept test q es k s h e =
      ap (λ ks. is_among cmp ks q) e
      ∙ (sym (list_any-flip o q (sorted_once cmp (keys_of (filter (λ x. test x.0 x.1) es))))
      ∙ (any-sorted_once o q (keys_of (filter (λ x. test x.0 x.1) es))
      ∙ (list_any-flip o q (keys_of (filter (λ x. test x.0 x.1) es))
      ∙ (among-entries test q es s h ∙ ap (passes (test q)) (sym (lookup-flip o q es))))))

-- the keys of the entries that pass a test, listed one entry after another
module _ {P X : Type 0} (test : P × X → Bool) (all : List P) where
  pub listed : (at rest : List (P × X)) (e : P × X) (keys more : List P) → at ≡ e ∷ rest → test e ≡ true → more ≡ keys ++ e.0 ∷ []
      → keys ++ keys_of (filter test at) ≡ all → more ++ keys_of (filter test rest) ≡ all
  listed at rest e keys more at_is passed more_is so_far =
      ap (λ ks. ks ++ keys_of (filter test rest)) more_is
      ∙ (append_assoc keys (e.0 ∷ []) (keys_of (filter test rest))
      ∙ (ap (λ b. keys ++ keys_of (cond b (e ∷ filter test rest) (filter test rest))) (sym passed)
      ∙ (ap (λ es. keys ++ keys_of (filter test es)) (sym at_is) ∙ so_far)))

  pub passed_over : (at rest : List (P × X)) (e : P × X) (keys : List P) → at ≡ e ∷ rest → test e ≡ false
      → keys ++ keys_of (filter test at) ≡ all → keys ++ keys_of (filter test rest) ≡ all
  passed_over at rest e keys at_is fails so_far =
      ap (λ b. keys ++ keys_of (cond b (e ∷ filter test rest) (filter test rest))) (sym fails)
      ∙ (ap (λ es. keys ++ keys_of (filter test es)) (sym at_is) ∙ so_far)

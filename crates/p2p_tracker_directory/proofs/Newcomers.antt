-- How the peers of a set are copied, one after another.
use Rattle.std.proofs.Common.{◌≡◌, ℕ, ◌+◌, zero, suc, Bool, true, false, not, cond, ◌||◌, List, [], ◌∷◌, ◌++◌, length, take, get_or, add-one, ◌-◌, ◌<◌, Some, refl, sym, ap, ◌∙◌, subst, arith}
use Rattle.std.proofs.lemmas.Cmp.{eq_by_cmp_equiv}
use Rattle.std.proofs.lemmas.Iterator.Adapters.{position_from-zero}
use Rattle.std.proofs.lemmas.List.Kept.{IsStrictlySortedBy-filter}
use Rattle.std.specs.Prelude.{is_some, position}
use Rattle.std.specs.List.{list_any, filter, position_from}
use Rattle.std.specs.List.Sorted.{IsStrictlySortedBy}
use Rattle.std.specs.Map.{keys_of}
use Rattle.std.specs.BTreeMap.{is_at}
use Rattle.std.specs.Cmp.{IsTotalOrder}
use Rattle.std.specs.declared.cmp.Ordering.{Ordering}
use Rattle.p2p_base.specs.Sorted.{sorted_once}
use Rattle.p2p_base.proofs.SortedLists.{sorted-sorted_once, find-sorted_once, sorted_unique}
use Rattle.p2p_address.specs.declared.peer.Address.{Address as PeerAddress}
use Rattle.p2p_tracker_calls.specs.Sets.{only_secondary}
use Rattle.p2p_tracker_directory.specs.Tracked.{oldest_of}

is_some-position_from : {X : Type 0} (test : X → Bool) (i : ℕ) (xs : List X) → is_some (position_from test i xs) ≡ list_any test xs
is_some-position_from test i [] = refl
is_some-position_from test i (x ∷ xs) = at (test x) (is_some-position_from test (i + 1) xs)
  where
    at : (b : Bool) → is_some (position_from test (i + 1) xs) ≡ list_any test xs → is_some (cond b (Some i) (position_from test (i + 1) xs)) ≡ (b || list_any test xs)
    at true h = refl
    at false h = h

-- a test finds a place exactly where an element passes
pub is_some-position : {X : Type 0} (test : X → Bool) (xs : List X) → is_some (position test xs) ≡ list_any test xs
is_some-position test xs = ap is_some (position_from-zero test xs) ∙ is_some-position_from test 0 xs

keys-suc : {P A : Type 0} (es : List (P × A)) (i : ℕ) (e : P × A) → i < length es → e ≡ get_or es i e → keys_of (take (suc i) es) ≡ keys_of (take i es) ++ e.0 ∷ []
keys-suc [] i e h q = absurd (omega (arith, h))
keys-suc (x ∷ es) zero e h q = ap (λ y. y.0 ∷ []) (sym q)
keys-suc (x ∷ es) (suc i) e h q = ap (λ ks. x.0 ∷ ks) (keys-suc es i e (omega (arith, h)) q)

-- one more key
pub keys-more : {P A : Type 0} (es : List (P × A)) (i : ℕ) (e : P × A) → i < length es → e ≡ get_or es i e → keys_of (take (i + 1) es) ≡ keys_of (take i es) ++ e.0 ∷ []
keys-more es i e h q = ap (λ n. keys_of (take n es)) (add-one i) ∙ keys-suc es i e h q

-- keys in order are the same, taken once
pub sorted_once-sorted : {P : Type 0} {cmp : P → P → Ordering} (o : IsTotalOrder cmp) (ks : List P) → IsStrictlySortedBy cmp ks → sorted_once cmp ks ≡ ks
sorted_once-sorted {cmp = cmp} o ks s = sorted_unique o (sorted_once cmp ks) ks (sorted-sorted_once o ks) s (λ q. find-sorted_once o q ks)

keys_of-filter : {P A : Type 0} (test : P → Bool) (es : List (P × A)) → keys_of (filter (λ e. test e.0) es) ≡ filter test (keys_of es)
keys_of-filter test [] = refl
keys_of-filter test (e ∷ es) = at (test e.0) (keys_of-filter test es)
  where
    at : (b : Bool) → keys_of (filter (λ x. test x.0) es) ≡ filter test (keys_of es)
        → keys_of (cond b (e ∷ filter (λ x. test x.0) es) (filter (λ x. test x.0) es)) ≡ cond b (e.0 ∷ filter test (keys_of es)) (filter test (keys_of es))
    at true h = ap (λ ks. e.0 ∷ ks) h
    at false h = h

module _ {P : Type 0} (cmp : P → P → Ordering) (primary : List (P × PeerAddress)) where
  -- they stand in order
  pub sorted-only_secondary : (secondary : List (P × PeerAddress)) → IsStrictlySortedBy cmp (keys_of secondary) → IsStrictlySortedBy cmp (keys_of (only_secondary cmp primary secondary))
  sorted-only_secondary secondary s =
      subst (IsStrictlySortedBy cmp) (sym (keys_of-filter (λ p. not (list_any (is_at (cmp p)) (keys_of primary))) secondary))
      (IsStrictlySortedBy-filter cmp (λ p. not (list_any (is_at (cmp p)) (keys_of primary))) (keys_of secondary) s)

-- a key is found whichever of the two is compared first
pub list_any-flip : {P : Type 0} {cmp : P → P → Ordering} (o : IsTotalOrder cmp) (q : P) (ks : List P) → list_any (is_at (cmp q)) ks ≡ list_any (λ p. is_at (cmp p) q) ks
list_any-flip o q [] = refl
list_any-flip {cmp = cmp} o q (k ∷ ks) = ap (λ b. b || list_any (is_at (cmp q)) ks) ((eq_by_cmp_equiv o).symm q k) ∙ ap (λ b. is_at (cmp k) q || b) (list_any-flip o q ks)

oldest-at : {X : Type 0} (x y : X) (ys : List X) (d : X) → oldest_of x (y ∷ ys) ≡ Some (get_or (y ∷ ys) (length ys) d)
oldest-at x y [] d = refl
oldest-at x y (z ∷ zs) d = oldest-at y z zs d

-- the last of some sets is the one at their end
pub oldest_of-back : {X : Type 0} (x : X) (xs : List X) (n : ℕ) (d : X) → n ≡ length xs → 0 < n → oldest_of x xs ≡ Some (get_or xs (n - 1) d)
oldest_of-back x [] n d e h = absurd (omega (arith, e, h))
oldest_of-back x (y ∷ ys) n d e h = oldest-at x y ys d ∙ ap (λ i. Some (get_or (y ∷ ys) i d)) (omega (arith, e))

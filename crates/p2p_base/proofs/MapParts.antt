-- The entries of a map as its keys beside its values.
use Rattle.std.proofs.Common.{◌≡◌, ℕ, zero, suc, ◌<◌, ◌≤◌, ◌+◌, Bool, true, false, cond, List, [], ◌∷◌, length, get_or, Some, None, refl, sym, ap, ◌∙◌, arith}
use Rattle.std.specs.List.{AllByRecursion, dedup, dedup_from, position, position_from, zip}
use Rattle.std.specs.List.Sorted.{IsStrictlySortedBy}
use Rattle.std.specs.Map.{keys_of, values_of, lookup}
use Rattle.std.specs.BTreeSet.{replace_key}
use Rattle.std.specs.Ordering.{match_ordering}
use Rattle.std.specs.declared.cmp.Ordering.{Ordering}
use Rattle.std.specs.declared.cmp.Ordering.TheVariants.{Less, Equal, Greater}
use Rattle.std.proofs.lemmas.Iterator.Adapters.{position_from-zero}
use Rattle.std.proofs.lemmas.List.Quantifiers.{position-Some}
use Rattle.p2p_base.specs.Sorted.{sorted_once, by_key}

module _ {K V : Type 0} where
  pub keys_of-zip : (ks : List K) (vs : List V) → length vs ≡ length ks → keys_of (zip ks vs) ≡ ks
  keys_of-zip [] vs h = refl
  keys_of-zip (k ∷ ks) [] h = absurd (omega arith)
  keys_of-zip (k ∷ ks) (v ∷ vs) h = ap (λ z. k ∷ z) (keys_of-zip ks vs (omega arith))

  pub values_of-zip : (ks : List K) (vs : List V) → length vs ≡ length ks → values_of (zip ks vs) ≡ vs
  values_of-zip [] [] h = refl
  values_of-zip [] (v ∷ vs) h = absurd (omega arith)
  values_of-zip (k ∷ ks) [] h = absurd (omega arith)
  values_of-zip (k ∷ ks) (v ∷ vs) h = ap (λ z. v ∷ z) (values_of-zip ks vs (omega arith))

  pub length-zip : (ks : List K) (vs : List V) → length vs ≡ length ks → length (zip ks vs) ≡ length ks
  length-zip [] vs h = refl
  length-zip (k ∷ ks) [] h = absurd (omega arith)
  length-zip (k ∷ ks) (v ∷ vs) h = ap suc (length-zip ks vs (omega arith))

  pub zip_parts : (es : List (K × V)) → zip (keys_of es) (values_of es) ≡ es
  zip_parts [] = refl
  zip_parts (e ∷ es) = ap (λ z. e ∷ z) (zip_parts es)

  lookup_first : (p : K → Bool) (ks : List K) (vs : List V) (i : ℕ) (d : V) (x : K) → length vs ≡ length ks → i < length ks → p (get_or ks i x) ≡ true
      → ((j : ℕ) → j < i → p (get_or ks j x) ≡ false) → lookup p (zip ks vs) ≡ Some (get_or vs i d)
  lookup_first p [] vs i d x h l a b = absurd (omega arith)
  lookup_first p (k ∷ ks) [] i d x h l a b = absurd (omega arith)
  lookup_first p (k ∷ ks) (v ∷ vs) zero d x h l a b = rw a
  lookup_first p (k ∷ ks) (v ∷ vs) (suc i) d x h l a b =
      let no : p k ≡ false = b 0 (omega arith) in
      rw no (lookup_first p ks vs i d x (omega arith) (omega arith) a (λ j m. b (suc j) (omega arith)))

  -- the value under the key at the place that was found
  pub lookup_at : (p : K → Bool) (ks : List K) (vs : List V) (i : ℕ) (d : V) (x : K) → length vs ≡ length ks → position p ks ≡ Some i
      → lookup p (zip ks vs) ≡ Some (get_or vs i d)
  lookup_at p ks vs i d x h e =
      let at = position-Some p ks i x e in
      lookup_first p ks vs i d x h at.0 at.1 at.2

  lookup_past : (p : K → Bool) (ks : List K) (vs : List V) (i : ℕ) → position_from p i ks ≡ None → lookup p (zip ks vs) ≡ None
  lookup_past p [] vs i e = refl
  lookup_past p (k ∷ ks) [] i e = refl
  lookup_past p (k ∷ ks) (v ∷ vs) i e =
      elim (p k) as (λ b. cond b (Some i) (position_from p (i + 1) ks) ≡ None → cond b (Some v) (lookup p (zip ks vs)) ≡ None) [
        | true ↦ λ h. cc
        | false ↦ λ h. lookup_past p ks vs (i + 1) h
      ] e

  pub lookup_nowhere : (p : K → Bool) (ks : List K) (vs : List V) → position p ks ≡ None → lookup p (zip ks vs) ≡ None
  lookup_nowhere p ks vs e = lookup_past p ks vs 0 (sym (position_from-zero p ks) ∙ e)

  keys_of-dedup_from : (E : K → K → Bool) (e : K × V) (es : List (K × V))
      → keys_of (dedup_from (λ a b. E a.0 b.0) e es) ≡ dedup_from E e.0 (keys_of es)
  keys_of-dedup_from E e [] = refl
  keys_of-dedup_from E e (f ∷ es) =
      elim (E f.0 e.0) as (λ b. keys_of (cond b (dedup_from (λ a b. E a.0 b.0) e es) (e ∷ dedup_from (λ a b. E a.0 b.0) f es))
      ≡ cond b (dedup_from E e.0 (keys_of es)) (e.0 ∷ dedup_from E f.0 (keys_of es))) [
        | true ↦ keys_of-dedup_from E e es
        | false ↦ ap (λ z. e.0 ∷ z) (keys_of-dedup_from E f es)
      ]

  pub keys_of-dedup : (E : K → K → Bool) (es : List (K × V)) → keys_of (dedup (λ a b. E a.0 b.0) es) ≡ dedup E (keys_of es)
  keys_of-dedup E [] = refl
  keys_of-dedup E (e ∷ es) = keys_of-dedup_from E e es

  keys_above : (P : K → Type 0) (es : List (K × V)) → AllByRecursion (λ e. P e.0) es → AllByRecursion P (keys_of es)
  keys_above P [] a = tt
  keys_above P (e ∷ es) a = (a.0, keys_above P es a.1)

  -- entries that ascend by their keys have keys that ascend
  pub sorted_keys : (cmp : K → K → Ordering) (es : List (K × V)) → IsStrictlySortedBy (by_key cmp) es → IsStrictlySortedBy cmp (keys_of es)
  unfolding IsStrictlySortedBy
  sorted_keys cmp [] s = tt
  sorted_keys cmp (e ∷ es) s = (keys_above (λ k. cmp e.0 k ≡ Less) es s.0, sorted_keys cmp es s.1)

  keys_of-replace_key : (cmp : K → K → Ordering) (es : List (K × V)) (e : K × V)
      → keys_of (replace_key (by_key cmp) es e) ≡ replace_key cmp (keys_of es) e.0
  keys_of-replace_key cmp [] e = refl
  keys_of-replace_key cmp (f ∷ es) e =
      elim (cmp e.0 f.0) as (λ r. keys_of (match_ordering r (e ∷ f ∷ es) (e ∷ es) (f ∷ replace_key (by_key cmp) es e))
      ≡ match_ordering r (e.0 ∷ f.0 ∷ keys_of es) (e.0 ∷ keys_of es) (f.0 ∷ replace_key cmp (keys_of es) e.0)) [
        | Less ↦ refl
        | Equal ↦ refl
        | Greater ↦ ap (λ z. f.0 ∷ z) (keys_of-replace_key cmp es e)
      ]

  -- the keys of a map are the set of the keys that it was made of
  pub keys_of-sorted_once : (cmp : K → K → Ordering) (es : List (K × V)) → keys_of (sorted_once (by_key cmp) es) ≡ sorted_once cmp (keys_of es)
  keys_of-sorted_once cmp [] = refl
  keys_of-sorted_once cmp (e ∷ es) =
      keys_of-replace_key cmp (sorted_once (by_key cmp) es) e ∙ ap (λ z. replace_key cmp z e.0) (keys_of-sorted_once cmp es)

module _ {X : Type 0} (same : X → X → Bool) where
  length-dedup_from-le : (k : X) (xs : List X) → length (dedup_from same k xs) ≤ suc (length xs)
  length-dedup_from-le k [] = omega arith
  length-dedup_from-le k (x ∷ xs) =
      elim (same x k) as (λ b. length (cond b (dedup_from same k xs) (k ∷ dedup_from same x xs)) ≤ suc (suc (length xs))) [
        | true ↦ omega (arith, length-dedup_from-le k xs)
        | false ↦ omega (arith, length-dedup_from-le x xs)
      ]

  whole_from : (k : X) (xs : List X) → length xs < length (dedup_from same k xs) → dedup_from same k xs ≡ k ∷ xs
  whole_from k [] h = refl
  whole_from k (x ∷ xs) h =
      elim (same x k) as (λ b. suc (length xs) < length (cond b (dedup_from same k xs) (k ∷ dedup_from same x xs))
      → cond b (dedup_from same k xs) (k ∷ dedup_from same x xs) ≡ k ∷ x ∷ xs) [
        | true ↦ λ l. absurd (omega (arith, length-dedup_from-le k xs))
        | false ↦ λ l. ap (λ z. k ∷ z) (whole_from x xs (omega arith))
      ] h

  -- a `dedup` that takes nothing out
  pub dedup_whole : (xs : List X) → length xs < suc (length (dedup same xs)) → dedup same xs ≡ xs
  dedup_whole [] h = refl
  dedup_whole (x ∷ xs) h = whole_from x xs (omega arith)

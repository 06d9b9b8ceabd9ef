-- What a binary search finds in a list that strictly ascends.
use Rattle.std.proofs.Common.{◌≡◌, ℕ, zero, suc, ◌+◌, ◌<◌, ◌≤◌, false, List, [], ◌∷◌, length, get_or, Result, Ok, Err, sym, ap, ◌∙◌, ⊎_elim, arith}
use Rattle.std.specs.List.{AllByRecursion, HoldsAt, position, position_or_len}
use Rattle.std.specs.List.Sorted.{IsStrictlySortedBy, IsSorted, IsBinarySearchResult, IsSearchInRange}
use Rattle.std.specs.Cmp.{IsTotalOrder}
use Rattle.std.specs.Ordering.{is_eq}
use Rattle.std.specs.Result.{result_ok}
use Rattle.std.specs.BTreeMap.{is_at}
use Rattle.std.specs.declared.cmp.Ordering.{Ordering}
use Rattle.std.specs.declared.cmp.Ordering.TheVariants.{Less, Equal, Greater}
use Rattle.std.proofs.lemmas.Cmp.{tied_back, alike_right}
use Rattle.std.proofs.lemmas.List.Sorted.{searchable_from_sorted}
use Rattle.std.proofs.lemmas.List.Sums.{position_or_len_is}
use Rattle.std.proofs.lemmas.Bool.{cases_lt, lt-ltb, le-ltb}

module _ {X : Type 0} where
  all_at : (P : X → Type 0) (xs : List X) → AllByRecursion P xs → (j : ℕ) (d : X) → j < length xs → P (get_or xs j d)
  all_at P [] a j d h = absurd (omega arith)
  all_at P (x ∷ xs) a zero d h = a.0
  all_at P (x ∷ xs) a (suc j) d h = all_at P xs a.1 j d (omega arith)

  -- each element is below each later one
  pub sorted_pairs : (cmp : X → X → Ordering) (xs : List X) → IsStrictlySortedBy cmp xs → (i j : ℕ) (d : X) → i < j → j < length xs
      → cmp (get_or xs i d) (get_or xs j d) ≡ Less
  unfolding IsStrictlySortedBy
  sorted_pairs cmp [] s i j d h k = absurd (omega arith)
  sorted_pairs cmp (x ∷ xs) s i zero d h k = absurd (omega arith)
  sorted_pairs cmp (x ∷ xs) s zero (suc j) d h k = all_at (λ z. cmp x z ≡ Less) xs s.0 j d (omega arith)
  sorted_pairs cmp (x ∷ xs) s (suc i) (suc j) d h k = sorted_pairs cmp xs s.1 i j d (omega arith) (omega arith)

module _ {X : Type 0} {cmp : X → X → Ordering} (o : IsTotalOrder cmp) where
  pub IsSorted-from_strictly : (xs : List X) → IsStrictlySortedBy cmp xs → IsSorted cmp xs
  IsSorted-from_strictly xs s k d low high =
      let below = sorted_pairs cmp xs s k (k + 1) d (omega arith) high in
      rw (o.antisymm (get_or xs (k + 1) d) (get_or xs k d), below)

  apart_less : (q y : X) → cmp y q ≡ Less → is_at (cmp q) y ≡ false
  apart_less q y e = rw (o.antisymm q y, e)

  apart_greater : (q y : X) → cmp y q ≡ Greater → is_at (cmp q) y ≡ false
  apart_greater q y e = rw (o.antisymm q y, e)

  found : (q : X) (xs : List X) (i : ℕ) → IsStrictlySortedBy cmp xs → i < length xs → HoldsAt (λ y. cmp y q ≡ Equal) xs i
      → position_or_len (is_at (cmp q)) xs ≡ i
  found q xs i s h at =
      position_or_len_is (is_at (cmp q)) xs i q (omega arith)
      (λ k below. apart_less q (get_or xs k q) (sym (alike_right o (get_or xs i q) q (get_or xs k q) (at q)) ∙ sorted_pairs cmp xs s k i q below h))
      (λ _. ap is_eq (tied_back o (get_or xs i q) q (at q)))

  missed : (q : X) (xs : List X) (i : ℕ) → IsStrictlySortedBy cmp xs → i ≤ length xs → IsBinarySearchResult (λ y. cmp y q) xs (Err i)
      → position_or_len (is_at (cmp q)) xs ≡ length xs
  missed q xs i s h at =
      let parts = at (searchable_from_sorted o (λ x. x) xs q (IsSorted-from_strictly xs s)) in
      position_or_len_is (is_at (cmp q)) xs (length xs) q (omega arith)
      (λ k below. ⊎_elim (λ (l : k < i). apart_less q (get_or xs k q) (parts.0 k q (omega arith) l))
      (λ (l : i ≤ k). apart_greater q (get_or xs k q) (parts.1 k q l below)) (cases_lt k i))
      (λ l. absurd (omega arith))

  -- a binary search answers the place of the query
  pub position_from_search : (q : X) (xs : List X) (r : Result ℕ ℕ) → IsStrictlySortedBy cmp xs → IsSearchInRange r (length xs)
      → IsBinarySearchResult (λ y. cmp y q) xs r → result_ok r ≡ position (is_at (cmp q)) xs
  position_from_search q xs (Ok i) s h at = rw (found q xs i s h at, lt-ltb i (length xs) h)
  position_from_search q xs (Err i) s h at = rw (missed q xs i s h at, le-ltb (length xs) (length xs) (omega arith))

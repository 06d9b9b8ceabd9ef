-- A list is as long as its elements taken once exactly where none repeats.
use Rattle.std.proofs.Common.{◌≡◌, ℕ, suc, ◌<◌, Bool, true, false, cond, ◌||◌, List, [], ◌∷◌, length, Option, refl, ap, ◌∙◌, arith}
use Rattle.std.specs.Bool.{MatchBool}
use Rattle.std.specs.List.{AllByRecursion, find, list_any}
use Rattle.std.specs.List.Sorted.{IsStrictlySortedBy}
use Rattle.std.specs.Cmp.{IsTotalOrder}
use Rattle.std.specs.Option.{is_some}
use Rattle.std.specs.Ordering.{is_eq, match_ordering}
use Rattle.std.specs.BTreeMap.{is_at}
use Rattle.std.specs.BTreeSet.{replace_key}
use Rattle.std.specs.declared.cmp.Ordering.{Ordering}
use Rattle.std.specs.declared.cmp.Ordering.TheVariants.{Less, Equal, Greater}
use Rattle.p2p_base.specs.Sorted.{sorted_once, has_repeat}
use Rattle.p2p_base.proofs.SortedLists.{all_above, find-sorted_once, sorted-sorted_once}

module _ {X : Type 0} where
  any_is : (p : X → Bool) (xs : List X) → list_any p xs ≡ is_some (find p xs)
  any_is p [] = refl
  any_is p (x ∷ xs) =
      elim (p x) as (λ b. (b || list_any p xs) ≡ is_some (cond b (Rattle.std.proofs.Common.Some x) (find p xs))) [ true ↦ refl | false ↦ any_is p xs ]

longer : (b : Bool) (n m : ℕ) → m ≡ cond b n (suc n) → suc m ≡ cond b (suc n) (suc (suc n))
longer true n m e = ap suc e
longer false n m e = ap suc e

counted : (a r : Bool) (n m l : ℕ) → m ≡ cond a n (suc n) → MatchBool r (n < l) (n ≡ l) → MatchBool (a || r) (m < suc l) (m ≡ suc l)
counted true true n m l e h = omega arith
counted true false n m l e h = omega arith
counted false true n m l e h = omega arith
counted false false n m l e h = omega arith

told_false : (r : Bool) (m l : ℕ) → l < suc m → MatchBool r (m < l) (m ≡ l) → r ≡ false
told_false true m l h k = absurd (omega arith)
told_false false m l h k = refl

told_true : (r : Bool) (m l : ℕ) → m < l → MatchBool r (m < l) (m ≡ l) → r ≡ true
told_true true m l h k = refl
told_true false m l h k = absurd (omega arith)

module _ {X : Type 0} {cmp : X → X → Ordering} (o : IsTotalOrder cmp) where
  none_below : (x : X) (zs : List X) → AllByRecursion (λ z. cmp x z ≡ Less) zs → list_any (is_at (cmp x)) zs ≡ false
  none_below x [] a = refl
  none_below x (z ∷ zs) a = rw (a.0) (none_below x zs a.1)

  length-replace_key : (xs : List X) (k : X) → IsStrictlySortedBy cmp xs
      → length (replace_key cmp xs k) ≡ cond (list_any (is_at (cmp k)) xs) (length xs) (suc (length xs))
  unfolding IsStrictlySortedBy
  length-replace_key [] k s = refl
  length-replace_key (x ∷ xs) k s =
      elim (cmp k x) as (λ r. cmp k x ≡ r
      → length (match_ordering r (k ∷ x ∷ xs) (k ∷ xs) (x ∷ replace_key cmp xs k)) ≡ cond (is_eq r || list_any (is_at (cmp k)) xs) (suc (length xs)) (suc (suc (length xs)))) [
        | Less ↦ λ e. rw (none_below k xs (all_above o k x xs e s.0))
        | Equal ↦ λ e. refl
        | Greater ↦ λ e. longer (list_any (is_at (cmp k)) xs) (length xs) (length (replace_key cmp xs k)) (length-replace_key xs k s.1)
      ] refl

  -- an element is in a list exactly where it is among the elements taken once
  pub any-sorted_once : (q : X) (xs : List X) → list_any (is_at (cmp q)) (sorted_once cmp xs) ≡ list_any (is_at (cmp q)) xs
  any-sorted_once q xs =
      any_is (is_at (cmp q)) (sorted_once cmp xs) ∙ rw (find-sorted_once o q xs, any_is (is_at (cmp q)) xs)

  length-sorted_once : (xs : List X) → MatchBool (has_repeat cmp xs) (length (sorted_once cmp xs) < length xs) (length (sorted_once cmp xs) ≡ length xs)
  length-sorted_once [] = refl
  length-sorted_once (x ∷ xs) =
      counted (list_any (is_at (cmp x)) xs) (has_repeat cmp xs) (length (sorted_once cmp xs)) (length (replace_key cmp (sorted_once cmp xs) x)) (length xs)
      (rw (← any-sorted_once x xs) (length-replace_key (sorted_once cmp xs) x (sorted-sorted_once o xs))) (length-sorted_once xs)

  pub has_repeat-false : (xs : List X) → length xs < suc (length (sorted_once cmp xs)) → has_repeat cmp xs ≡ false
  has_repeat-false xs h = told_false (has_repeat cmp xs) (length (sorted_once cmp xs)) (length xs) h (length-sorted_once xs)

  pub has_repeat-true : (xs : List X) → length (sorted_once cmp xs) < length xs → has_repeat cmp xs ≡ true
  has_repeat-true xs h = told_true (has_repeat cmp xs) (length (sorted_once cmp xs)) (length xs) h (length-sorted_once xs)

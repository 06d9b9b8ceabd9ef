-- A list from which nothing could be taken stays as it was.
use Rattle.std.proofs.Common.{◌≡◌, ℕ, zero, suc, ◌+◌, ◌-◌, true, List, [], ◌∷◌, ◌++◌, Option, Some, None, length, drop, refl, sym, ap, ◌∙◌, subst, arith, length-append}
use Rattle.std.proofs.lemmas.Bool.{false≢true}
use Rattle.std.proofs.lemmas.Map.Steps.{set_value_same}
use Rattle.std.specs.Prelude.{slice_get, is_some}
use Rattle.std.specs.Option.{option_to_list}
use Rattle.std.specs.BTreeMap.{is_at}
use Rattle.std.specs.Ordering.{nat_cmp}
use Rattle.p2p_tracker_mailbox.specs.Lines.{Lines, line_of, first_of, replaced, with_line}
use Rattle.p2p_gates.specs.DialerTurns.{last_peer, without_last}

module _ {X : Type 0} where
  pub drop-none : (xs : List X) → slice_get xs 0 ≡ None → drop 1 xs ≡ xs
  drop-none [] e = refl
  drop-none (x ∷ xs) e = absurd cc

  -- the last of a list that another was put behind
  get-pushed : (ys : List X) (x : X) (n : ℕ) → n ≡ length ys → slice_get (ys ++ x ∷ []) n ≡ Some x
  get-pushed [] x zero e = refl
  get-pushed [] x (suc n) e = absurd (omega arith)
  get-pushed (y ∷ ys) x zero e = absurd (omega arith)
  get-pushed (y ∷ ys) x (suc n) e = get-pushed ys x n (omega arith)

  -- what `pop` takes is the last one
  pub popped : (old new : List X) (r : Option X) → old ≡ new ++ option_to_list r
      → length new + length (option_to_list r) ≡ length old → (r ≡ None → length old ≡ 0) → r ≡ last_peer old
  popped old new (Some x) e n z =
      sym (subst (λ (l : List X). slice_get l (length l - 1) ≡ Some x) (sym e)
      (get-pushed new x (length (new ++ x ∷ []) - 1) (omega (arith, length-append new (x ∷ [])))))
  popped [] new None e n z = refl
  popped (y ∷ ys) new None e n z = absurd (omega (arith, z refl))

  last_of : (y : X) (ys : List X) → is_some (slice_get (y ∷ ys) (length ys)) ≡ true
  last_of y [] = refl
  last_of y (z ∷ zs) = last_of z zs

  pub without_last-none : (xs : List X) → last_peer xs ≡ None → without_last xs ≡ xs
  without_last-none [] e = refl
  without_last-none (y ∷ ys) e =
      absurd (false≢true (sym (ap is_some e) ∙ ap (λ n. is_some (slice_get (y ∷ ys) n)) (omega arith) ∙ last_of y ys))

  -- the line of one for whom nothing waits
  pub with_line-none : (lines : Lines X) (n : ℕ) → first_of (line_of lines n) ≡ None
      → with_line lines n (drop 1) ≡ lines
  with_line-none lines n e = at (line_of lines n) refl e
    where
      at : (r : Option (List X)) → line_of lines n ≡ r → first_of r ≡ None → replaced r lines n (drop 1) ≡ lines
      at None found none = refl
      at (Some []) found none = set_value_same (is_at (nat_cmp n)) lines [] found
      at (Some (x ∷ xs)) found none = absurd cc

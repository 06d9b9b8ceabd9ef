-- Each handshake for which something may wait stands once: one begins, what waits for one changes, and one ends.
use Rattle.std.proofs.Common.{◌≡◌, ℕ, Bool, true, false, cond, List, [], ◌∷◌, refl, sym, subst, Option, Some, None, arith}
use Rattle.std.specs.Prelude.{is_some}
use Rattle.std.specs.List.{IsDistinct, AllByRecursion as Each}
use Rattle.std.specs.Map.{keys_of}
use Rattle.std.specs.BTreeMap.{is_at, insert_entry}
use Rattle.std.specs.Ordering.{nat_cmp, eq_by_cmp, match_ordering}
use Rattle.std.specs.declared.cmp.Ordering.{Ordering}
use Rattle.std.specs.declared.cmp.Ordering.TheVariants.{Less, Equal, Greater}
use Rattle.std.proofs.lemmas.Bool.Decides.{nat_tests}
use Rattle.std.proofs.lemmas.Map.{keys-set_value}
use Rattle.p2p_base.specs.declared.key.Key.{Key}
use Rattle.p2p_tracker_mailbox.specs.Lines.{Lines, line_of, replaced, with_line, begun, ended}
use Rattle.p2p_tracker_mailbox.specs.declared.answer.HandshakeItem.{HandshakeItem}
use Rattle.p2p_net_tracker.specs.Stands.{AreDistinct}

-- what waits for one changes
pub keys-with_line : (lines : Lines (HandshakeItem Key)) (h : ℕ) (f : List (HandshakeItem Key) → List (HandshakeItem Key)) → keys_of (with_line lines h f) ≡ keys_of lines
keys-with_line lines h f = by (line_of lines h)
  where
    by : (o : Option (List (HandshakeItem Key))) → keys_of (replaced o lines h f) ≡ keys_of lines
    by None = refl
    by (Some line) = keys-set_value (is_at (nat_cmp h)) lines (f line)

pub distinct-with_line : (lines : Lines (HandshakeItem Key)) (h : ℕ) (f : List (HandshakeItem Key) → List (HandshakeItem Key)) → AreDistinct lines → AreDistinct (with_line lines h f)
distinct-with_line lines h f = subst (IsDistinct (eq_by_cmp nat_cmp)) (sym (keys-with_line lines h f))

-- one ends
each-ended : (P : ℕ → Type 0) (lines : Lines (HandshakeItem Key)) (h : ℕ) → Each P (keys_of lines) → Each P (keys_of (ended lines h))
each-ended P [] h each = tt
each-ended P (x ∷ lines) h each = by (is_at (nat_cmp h) x.0) (each-ended P lines h each.1)
  where
    by : (b : Bool) → Each P (keys_of (ended lines h)) → Each P (keys_of (cond b lines (x ∷ ended lines h)))
    by true rest = each.1
    by false rest = (each.0, rest)

pub distinct-ended : (lines : Lines (HandshakeItem Key)) (h : ℕ) → AreDistinct lines → AreDistinct (ended lines h)
unfolding IsDistinct
distinct-ended [] h distinct = tt
distinct-ended (x ∷ lines) h distinct = by (is_at (nat_cmp h) x.0) (distinct-ended lines h distinct.1)
  where
    by : (b : Bool) → AreDistinct (ended lines h) → AreDistinct (cond b lines (x ∷ ended lines h))
    by true rest = distinct.1
    by false rest = (each-ended (λ k. eq_by_cmp nat_cmp x.0 k ≡ false) lines h distinct.0, rest)

-- one begins
each-inserted : (P : ℕ → Type 0) (lines : Lines (HandshakeItem Key)) (h : ℕ) → Each P (keys_of lines) → P h → Each P (keys_of (insert_entry nat_cmp lines h []))
each-inserted P [] h each here = (here, tt)
each-inserted P (x ∷ lines) h each here = by (nat_cmp h x.0) (each-inserted P lines h each.1 here)
  where
    by : (o : Ordering) → Each P (keys_of (insert_entry nat_cmp lines h [])) → Each P (keys_of (match_ordering o ((h, []) ∷ x ∷ lines) ((x.0, []) ∷ lines) (x ∷ insert_entry nat_cmp lines h [])))
    by Less rest = (here, each)
    by Equal rest = each
    by Greater rest = (each.0, rest)

-- another stands under each other number
others_there : (lines : Lines (HandshakeItem Key)) (h : ℕ) → line_of lines h ≡ None → Each (λ k. eq_by_cmp nat_cmp h k ≡ false) (keys_of lines)
others_there [] h none = tt
others_there (x ∷ lines) h none = by (is_at (nat_cmp h) x.0) refl none (others_there lines h)
  where
    by : (b : Bool) → is_at (nat_cmp h) x.0 ≡ b → cond b (Some x.1) (line_of lines h) ≡ None → (line_of lines h ≡ None → Each (λ k. eq_by_cmp nat_cmp h k ≡ false) (keys_of lines))
        → Each (λ k. eq_by_cmp nat_cmp h k ≡ false) (keys_of (x ∷ lines))
    by true is none rest = cc
    by false is none rest = (is, rest none)

distinct-inserted : (lines : Lines (HandshakeItem Key)) (h : ℕ) → Each (λ k. eq_by_cmp nat_cmp h k ≡ false) (keys_of lines) → AreDistinct lines → AreDistinct (insert_entry nat_cmp lines h [])
unfolding IsDistinct
distinct-inserted [] h others distinct = (tt, tt)
distinct-inserted (x ∷ lines) h others distinct = by (nat_cmp h x.0) (distinct-inserted lines h others.1 distinct.1)
  where
    turned : (a b : ℕ) → eq_by_cmp nat_cmp a b ≡ false → eq_by_cmp nat_cmp b a ≡ false
    turned a b apart = grind (arith, nat_tests)

    by : (o : Ordering) → AreDistinct (insert_entry nat_cmp lines h []) → AreDistinct (match_ordering o ((h, []) ∷ x ∷ lines) ((x.0, []) ∷ lines) (x ∷ insert_entry nat_cmp lines h []))
    by Less rest = (others, distinct)
    by Equal rest = distinct
    by Greater rest = (each-inserted (λ k. eq_by_cmp nat_cmp x.0 k ≡ false) lines h distinct.0 (turned h x.0 others.0), rest)

pub distinct-begun : (lines : Lines (HandshakeItem Key)) (h : ℕ) → line_of lines h ≡ None → AreDistinct lines → AreDistinct (begun lines h)
distinct-begun lines h none distinct =
    subst (λ (o : Option (List (HandshakeItem Key))). AreDistinct (cond (is_some o) lines (insert_entry nat_cmp lines h []))) (sym none) (distinct-inserted lines h (others_there lines h none) distinct)

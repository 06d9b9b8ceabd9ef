-- The end of a copy that ends at most once, as it is found from the front.
use Rattle.std.proofs.Common.{◌≡◌, ℕ, zero, suc, ◌+◌, ◌≤◌, Bool, true, false, cond, List, [], ◌∷◌, Option, Some, None, refl, ap, sym, subst, ◌∙◌, arith, eqb-true}
use Rattle.std.specs.Prelude.{◌==◌, count_by, slice_get}
use Rattle.std.proofs.lemmas.Bool.{and_parts}
use Rattle.std.proofs.lemmas.List.Sums.{sum_by-append, sum_by-cons}
use Rattle.std.proofs.lemmas.Option.{same_Some}
use Rattle.p2p_log.specs.declared.end.End.{End}
use Rattle.p2p_log.specs.declared.end.End.TheVariants as end
use Rattle.p2p_log.specs.declared.end.Outcome.{Outcome}
use Rattle.p2p_log.specs.declared.entry.Entry.{Entry}
use Rattle.p2p_log.specs.Lines.{same_name}
use Rattle.p2p_log.specs.Copies.{ends_copy, ends_of, times_ended}
use Rattle.p2p_log.specs.Fates.{outcome_in, ended_from}
use Rattle.p2p_log.proofs.Names.{same_name-refl}
use Rattle.p2p_log_laws.specs.Fates.{EndsAt}
use Rattle.p2p_log_laws.proofs.Spreading.{one}

module _ (copy : ℕ × ℕ) where
  -- how often these ends are the copy's
  abbrev times : List End → ℕ
  times ends = count_by (ends_copy copy) ends

  itself : (o : Outcome) → ends_copy copy (end.Copy copy.0 copy.1 o) ≡ true
  itself o = same_name-refl copy

  -- an end that is the copy's counts
  times_get : (ends : List End) (i : ℕ) (o : Outcome) → slice_get ends i ≡ Some (end.Copy copy.0 copy.1 o) → 1 ≤ times ends
  times_get [] i o h = absurd (cc)
  times_get (d ∷ ds) zero o h =
      let is : one (ends_copy copy d) ≡ 1 = ap (λ b. one b) (ap (ends_copy copy) (same_Some d (end.Copy copy.0 copy.1 o) h) ∙ itself o) in
      let sum : times (d ∷ ds) ≡ one (ends_copy copy d) + times ds = sum_by-cons (λ x. one (ends_copy copy x)) d ds in
      omega (arith, is, sum)
  times_get (d ∷ ds) (suc i) o h =
      let more : 1 ≤ times ds = times_get ds i o h in
      let sum : times (d ∷ ds) ≡ one (ends_copy copy d) + times ds = sum_by-cons (λ x. one (ends_copy copy x)) d ds in
      omega (arith, more, sum)

  -- ---- among the ends of one entry

  -- the first outcome is that of an end at some place
  outcome_place : (ends : List End) (o : Outcome) → outcome_in copy ends ≡ Some o → (i : ℕ) × (slice_get ends i ≡ Some (end.Copy copy.0 copy.1 o))
  outcome_place [] o h = absurd (cc)
  outcome_place (end.Item n p ∷ ds) o h = let rest = outcome_place ds o h in (suc rest.0, rest.1)
  outcome_place (end.Copy n p q ∷ ds) o h = go (same_name copy (n, p)) refl h (outcome_place ds o)
    where
      go : (b : Bool) → same_name copy (n, p) ≡ b → cond b (Some q) (outcome_in copy ds) ≡ Some o
          → (outcome_in copy ds ≡ Some o → (i : ℕ) × (slice_get ds i ≡ Some (end.Copy copy.0 copy.1 o)))
          → (i : ℕ) × (slice_get (end.Copy n p q ∷ ds) i ≡ Some (end.Copy copy.0 copy.1 o))
      go true e k rest =
          let parts = and_parts (copy.0 == n) (copy.1 == p) e in
          let sends : copy.0 ≡ n = eqb-true copy.0 n parts.0 in
          let places : copy.1 ≡ p = eqb-true copy.1 p parts.1 in
          let outcomes : q ≡ o = same_Some q o k in
          (0, ap (λ s. Some (end.Copy s p q)) (sym sends) ∙ (ap (λ i. Some (end.Copy copy.0 i q)) (sym places) ∙ ap (λ r. Some (end.Copy copy.0 copy.1 r)) outcomes))
      go false e k rest = let found = rest k in (suc found.0, found.1)

  outcome_none : (ends : List End) → outcome_in copy ends ≡ None → times ends ≡ 0
  outcome_none [] h = refl
  outcome_none (end.Item n p ∷ ds) h = sum_by-cons (λ x. one (ends_copy copy x)) (end.Item n p) ds ∙ ap (λ m. 0 + m) (outcome_none ds h)
  outcome_none (end.Copy n p q ∷ ds) h = go (same_name copy (n, p)) refl h (outcome_none ds)
    where
      go : (b : Bool) → same_name copy (n, p) ≡ b → cond b (Some q) (outcome_in copy ds) ≡ None → (outcome_in copy ds ≡ None → times ds ≡ 0) → times (end.Copy n p q ∷ ds) ≡ 0
      go true e k rest = absurd (cc)
      go false e k rest =
          let sum : times (end.Copy n p q ∷ ds) ≡ one (ends_copy copy (end.Copy n p q)) + times ds = sum_by-cons (λ x. one (ends_copy copy x)) (end.Copy n p q) ds in
          let none : one (ends_copy copy (end.Copy n p q)) ≡ 0 = ap (λ b. one b) e in
          let last = rest k in
          omega (arith, sum, none, last)

  none_counted : (ends : List End) → times ends ≡ 0 → outcome_in copy ends ≡ None
  none_counted ends h = go (outcome_in copy ends) refl
    where
      go : (o : Option Outcome) → outcome_in copy ends ≡ o → o ≡ None
      go None e = refl
      go (Some o) e = let found = outcome_place ends o e in absurd (let some = times_get ends found.0 o found.1 in omega (arith, some, h))

  -- where the copy ends once, its end is the first
  outcome_is : (ends : List End) (i : ℕ) (o : Outcome) → slice_get ends i ≡ Some (end.Copy copy.0 copy.1 o) → times ends ≤ 1 → outcome_in copy ends ≡ Some o
  outcome_is [] i o h few = absurd (cc)
  outcome_is (d ∷ ds) zero o h few =
      ap (λ (e : End). outcome_in copy (e ∷ ds)) (same_Some d (end.Copy copy.0 copy.1 o) h) ∙ ap (λ b. cond b (Some o) (outcome_in copy ds)) (same_name-refl copy)
  outcome_is (end.Item n p ∷ ds) (suc i) o h few =
      let sum : times (end.Item n p ∷ ds) ≡ 0 + times ds = sum_by-cons (λ x. one (ends_copy copy x)) (end.Item n p) ds in
      outcome_is ds i o h (omega (arith, sum, few))
  outcome_is (end.Copy n p q ∷ ds) (suc i) o h few =
      let some : 1 ≤ times ds = times_get ds i o h in
      let sum : times (end.Copy n p q ∷ ds) ≡ one (same_name copy (n, p)) + times ds = sum_by-cons (λ x. one (ends_copy copy x)) (end.Copy n p q) ds in
      let other : same_name copy (n, p) ≡ false = no_one (same_name copy (n, p)) (omega (arith, some, sum, few)) in
      ap (λ b. cond b (Some q) (outcome_in copy ds)) other ∙ outcome_is ds i o h (omega (arith, sum, few))
    where
      no_one : (b : Bool) → one b ≡ 0 → b ≡ false
      no_one true h = absurd (omega (arith, h))
      no_one false h = refl

  -- ---- among all entries

  times_more : (e : Entry) (es : List Entry) → times_ended (e ∷ es) copy ≡ times e.ends + times_ended es copy
  times_more e es = sum_by-append (λ x. one (ends_copy copy x)) e.ends (ends_of es)

  -- an end that an entry makes counts
  pub times_at : (es : List Entry) (n : ℕ) (o : Outcome) → EndsAt es copy o n → 1 ≤ times_ended es copy
  times_at [] n o h = let none = h.at in absurd (cc)
  times_at (e ∷ es) zero o h =
      let here : e ≡ h.entry = same_Some e h.entry h.at in
      let some : 1 ≤ times e.ends = times_get e.ends h.place o (ap (λ (d : Entry). slice_get d.ends h.place) here ∙ h.ended) in
      let sum = times_more e es in
      omega (arith, some, sum)
  times_at (e ∷ es) (suc n) o h =
      let some : 1 ≤ times_ended es copy = times_at es n o (record { entry = h.entry; at = h.at; place = h.place; ended = h.ended }) in
      let sum = times_more e es in
      omega (arith, some, sum)

  -- what is found first: in this entry, or else in the later ones
  abbrev found_by : ℕ → List Entry → Option Outcome → Option (ℕ × Outcome)
  found_by k es x = elim x [ None ↦ ended_from (k + 1) copy es | Some p ↦ Some (k, p) ]

  -- the end that is found is an entry's
  from_place : (es : List Entry) (k n : ℕ) (o : Outcome) → ended_from k copy es ≡ Some (n, o) → (m : ℕ) × (n ≡ k + m) × EndsAt es copy o m
  from_place [] k n o h = absurd (cc)
  from_place (e ∷ es) k n o h = go (outcome_in copy e.ends) refl h (from_place es (k + 1) n o)
    where
      go : (x : Option Outcome) → outcome_in copy e.ends ≡ x → found_by k es x ≡ Some (n, o)
          → (ended_from (k + 1) copy es ≡ Some (n, o) → (m : ℕ) × (n ≡ (k + 1) + m) × EndsAt es copy o m)
          → (m : ℕ) × (n ≡ k + m) × EndsAt (e ∷ es) copy o m
      go None s t rest =
          let found = rest t in
          let ends : EndsAt es copy o found.0 = found.2 in
          let there : n ≡ (k + 1) + found.0 = found.1 in
          (suc found.0, next k n found.0 there, record { entry = ends.entry; at = ends.at; place = ends.place; ended = ends.ended })
        where
          next : (k n m : ℕ) → n ≡ (k + 1) + m → n ≡ k + suc m
          next k n m h = omega arith
      go (Some p) s t rest =
          let pair : (k, p) ≡ (n, o) = same_Some (k, p) (n, o) t in
          let here : k ≡ n = ap (λ (x : ℕ × Outcome). x.0) pair in
          let outcomes : p ≡ o = ap (λ (x : ℕ × Outcome). x.1) pair in
          let found = outcome_place e.ends o (s ∙ ap (λ x. Some x) outcomes) in
          (0, omega (arith, here), record { entry = e; at = refl; place = found.0; ended = found.1 })

  pub ended_place : (log : List Entry) (n : ℕ) (o : Outcome) → ended_from 0 copy log ≡ Some (n, o) → EndsAt log copy o n
  ended_place log n o h =
      let found = from_place log 0 n o h in
      let same : found.0 ≡ n = let e : n ≡ 0 + found.0 = found.1 in omega (arith, e) in
      subst (EndsAt log copy o) same found.2

  from_none : (es : List Entry) (k : ℕ) → ended_from k copy es ≡ None → times_ended es copy ≡ 0
  from_none [] k h = refl
  from_none (e ∷ es) k h = go (outcome_in copy e.ends) refl h (from_none es (k + 1))
    where
      go : (x : Option Outcome) → outcome_in copy e.ends ≡ x → found_by k es x ≡ None
          → (ended_from (k + 1) copy es ≡ None → times_ended es copy ≡ 0) → times_ended (e ∷ es) copy ≡ 0
      go None s t rest =
          let none : times e.ends ≡ 0 = outcome_none e.ends s in
          let later : times_ended es copy ≡ 0 = rest t in
          let sum = times_more e es in
          omega (arith, none, later, sum)
      go (Some p) s t rest = absurd (cc)

  -- where no end is found there is none
  pub ended_none : (log : List Entry) → ended_from 0 copy log ≡ None → times_ended log copy ≡ 0
  ended_none log h = from_none log 0 h

  from_is : (es : List Entry) (k m : ℕ) (o : Outcome) → EndsAt es copy o m → times_ended es copy ≤ 1 → ended_from k copy es ≡ Some (k + m, o)
  from_is [] k m o h few = let none = h.at in absurd (cc)
  from_is (e ∷ es) k zero o h few =
      let here : e ≡ h.entry = same_Some e h.entry h.at in
      let sum = times_more e es in
      let found : outcome_in copy e.ends ≡ Some o =
      outcome_is e.ends h.place o (ap (λ (d : Entry). slice_get d.ends h.place) here ∙ h.ended) (omega (arith, sum, few))
      in
      ap (found_by k es) found ∙ ap (λ i. Some (i, o)) (none_more k)
    where
      none_more : (k : ℕ) → k ≡ k + 0
      none_more k = omega arith
  from_is (e ∷ es) k (suc m) o h few =
      let later : EndsAt es copy o m = record { entry = h.entry; at = h.at; place = h.place; ended = h.ended } in
      let some : 1 ≤ times_ended es copy = times_at es m o later in
      let sum = times_more e es in
      let none : outcome_in copy e.ends ≡ None = none_counted e.ends (omega (arith, some, sum, few)) in
      ap (found_by k es) none
      ∙ (from_is es (k + 1) m o later (omega (arith, sum, few)) ∙ ap (λ i. Some (i, o)) (next k m))
    where
      next : (k m : ℕ) → (k + 1) + m ≡ k + suc m
      next k m = omega arith

  -- where the copy ends once, its end is found
  pub ended_is : (log : List Entry) (n : ℕ) (o : Outcome) → EndsAt log copy o n → times_ended log copy ≤ 1 → ended_from 0 copy log ≡ Some (n, o)
  ended_is log n o h few = from_is log 0 n o h few ∙ ap (λ i. Some (i, o)) (none_before n)
    where
      none_before : (n : ℕ) → 0 + n ≡ n
      none_before n = omega arith

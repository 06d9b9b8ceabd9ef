-- What takes its name from the entry that begins it has none of a later entry.
use Rattle.std.proofs.Common.{◌≡◌, ℕ, suc, ◌≤◌, Bool, true, false, cond, List, [], ◌∷◌, ◌++◌, length, refl, ap, sym, subst, ◌∙◌, arith, append_assoc, append-nil, length-append, eqb-true, Option, Some, None}
use Rattle.std.specs.Prelude.{◌==◌}
use Rattle.std.proofs.lemmas.Bool.Decides.{nat_tests}
use Rattle.p2p_log.specs.declared.entry.Entry.{Entry}
use Rattle.p2p_log_rules.specs.Facts.{state_from, with_named, with_begun}

module _ {X : Type 0} where
  abbrev pub NoneFrom : ℕ → (ℕ → Option X) → Type 0
  NoneFrom m xs = (k : ℕ) → m ≤ k → xs k ≡ None

  pub either_none : (b : Bool) (x y : Option X) → x ≡ None → y ≡ None → cond b x y ≡ None
  either_none true x y h i = h
  either_none false x y h i = i

  -- one that is there may change, and one that is not stays away
  pub named_none : (e k : ℕ) (o : Option X) (xs : ℕ → Option X) → xs k ≡ None → (xs e ≡ None → o ≡ None) → with_named e o xs k ≡ None
  named_none e k o xs none same = by (k == e) refl
    where
      by : (b : Bool) → (k == e) ≡ b → cond b o (xs k) ≡ None
      by true is = same (ap xs (sym (eqb-true k e is)) ∙ none)
      by false is = none

  pub begun_none : (o : Option X) (m k : ℕ) (xs : ℕ → Option X) → NoneFrom m xs → suc m ≤ k → with_begun o m xs k ≡ None
  begun_none None m k xs none past = none k (omega (arith, past))
  begun_none (Some x) m k xs none past = ap (λ b. cond b (Some x) (xs k)) (later m k past) ∙ none k (omega (arith, past))
    where
      later : (m k : ℕ) → suc m ≤ k → (k == m) ≡ false
      later m k past = grind (arith, nat_tests)

  -- where each entry names nothing of a later one
  module _ (by : List Entry → Entry → (ℕ → Option X) → ℕ → Option X)
      (each : (before : List Entry) (e : Entry) (xs : ℕ → Option X) → NoneFrom (length before) xs → (k : ℕ) → suc (length before) ≤ k → by before e xs k ≡ None) where
    pub late_none : (before es : List Entry) (xs : ℕ → Option X) → NoneFrom (length before) xs → NoneFrom (length (before ++ es)) (state_from by before es xs)
    unfolding state_from
    late_none before [] xs none = subst (λ l. NoneFrom (length l) xs) (sym (append-nil before)) none
    late_none before (e ∷ es) xs none =
        let next = by before e xs in
        let grown : NoneFrom (length (before ++ e ∷ [])) next = λ k past. each before e xs none k (more before e k past) in
        subst (λ l. NoneFrom (length l) (state_from by (before ++ e ∷ []) es next)) (append_assoc before (e ∷ []) es) (late_none (before ++ e ∷ []) es next grown)
      where
        more : (before : List Entry) (e : Entry) (k : ℕ) → length (before ++ e ∷ []) ≤ k → suc (length before) ≤ k
        more before e k past = let longer = length-append before (e ∷ []) in omega (arith, longer, past)

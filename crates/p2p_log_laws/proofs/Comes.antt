-- What entries give comes in the order of the entries.
use Rattle.std.proofs.Common.{◌≡◌, ℕ, zero, suc, ◌<◌, List, [], ◌∷◌, ◌++◌, take, drop, Some, refl, ap, sym, subst, ◌∙◌, arith, append_assoc, append-nil, take-append-drop}
use Rattle.std.specs.Prelude.{slice_get}
use Rattle.p2p_log.specs.declared.entry.Entry.{Entry}
use Rattle.p2p_log_rules.specs.Facts.{history_from, history}
use Rattle.p2p_log.proofs.Each.{Has, Has-first, Has-after}
use Rattle.p2p_log_laws.proofs.Sublists.{Ordered, Ordered-parts}

module _ {X : Type 0} (f : List Entry → Entry → List X) where
  -- the entry n gives x
  abbrev pub Gives : List Entry → X → ℕ → Type 0
  Gives log x n = (e : Entry) × (slice_get log n ≡ Some e) × Has (f (take n log) e) x

  from_parts : (before xs ys : List Entry) → history_from f before (xs ++ ys) ≡ history_from f before xs ++ history_from f (before ++ xs) ys
  unfolding history_from
  from_parts before [] ys = ap (λ b. history_from f b ys) (sym (append-nil before))
  from_parts before (e ∷ xs) ys =
      ap (λ l. f before e ++ l) (from_parts (before ++ e ∷ []) xs ys)
      ∙ (ap (λ b. f before e ++ (history_from f (before ++ e ∷ []) xs ++ history_from f b ys)) (append_assoc before (e ∷ []) xs)
      ∙ sym (append_assoc (f before e) (history_from f (before ++ e ∷ []) xs) (history_from f (before ++ e ∷ xs) ys)))

  has_from : (before es : List Entry) (n : ℕ) (e : Entry) (x : X) → slice_get es n ≡ Some e → Has (f (before ++ take n es) e) x → Has (history_from f before es) x
  unfolding history_from
  has_from before [] n e x at h = absurd (cc)
  has_from before (d ∷ es) zero e x at h =
      let same : d ≡ e = cc in
      Has-first (f before d) (history_from f (before ++ d ∷ []) es) x
      (subst (λ b. Has (f b d) x) (append-nil before) (subst (λ c. Has (f (before ++ []) c) x) (sym same) h))
  has_from before (d ∷ es) (suc n) e x at h =
      Has-after (f before d) (history_from f (before ++ d ∷ []) es) x
      (has_from (before ++ d ∷ []) es n e x at (subst (λ b. Has (f b e) x) (sym (append_assoc before (d ∷ []) (take n es))) h))

  get_early : (log : List Entry) (m n : ℕ) (e : Entry) → slice_get log m ≡ Some e → m < n → slice_get (take n log) m ≡ Some e
  get_early [] m n e at h = absurd (cc)
  get_early (d ∷ log) m zero e at h = absurd (omega (arith, h))
  get_early (d ∷ log) zero (suc n) e at h = at
  get_early (d ∷ log) (suc m) (suc n) e at h = get_early log m n e at (omega (arith, h))

  take_early : (log : List Entry) (m n : ℕ) → m < n → take m (take n log) ≡ take m log
  take_early [] zero (suc n) h = refl
  take_early [] (suc m) (suc n) h = refl
  take_early log m zero h = absurd (omega (arith, h))
  take_early (d ∷ log) zero (suc n) h = refl
  take_early (d ∷ log) (suc m) (suc n) h = ap (λ l. d ∷ l) (take_early log m n (omega (arith, h)))

  get_late : (log : List Entry) (n : ℕ) (e : Entry) → slice_get log n ≡ Some e → (rest : List Entry) × (drop n log ≡ e ∷ rest)
  get_late [] n e at = absurd (cc)
  get_late (d ∷ log) zero e at = let same : d ≡ e = cc in (log, ap (λ z. z ∷ log) same)
  get_late (d ∷ log) (suc n) e at = get_late log n e at

  -- what an earlier entry gives comes before what a later one gives
  pub given_before : (R : X → X → Type 0) (log : List Entry) (x y : X) (m n : ℕ) → Ordered R (history f log) → Gives log x m → Gives log y n → m < n → R x y
  unfolding history_from
  given_before R log x y m n order a b h =
      let parts : history f log ≡ history f (take n log) ++ history_from f (take n log) (drop n log) =
      ap (history f) (sym (take-append-drop n log)) ∙ from_parts [] (take n log) (drop n log)
      in
      let early : Has (history f (take n log)) x =
      has_from [] (take n log) m a.0 x (get_early log m n a.0 a.1 h) (subst (λ l. Has (f l a.0) x) (sym (take_early log m n h)) a.2)
      in
      let late = get_late log n b.0 b.1 in
      let rest : Has (history_from f (take n log) (drop n log)) y =
      subst (λ l. Has (history_from f (take n log) l) y) (sym late.1) (Has-first (f (take n log) b.0) (history_from f (take n log ++ b.0 ∷ []) late.0) y b.2)
      in
      Ordered-parts R (history f (take n log)) (history_from f (take n log) (drop n log)) x y (subst (Ordered R) parts order) early rest

-- Places that stand at most once among as many numbers as there are places: all of them.
use Rattle.std.proofs.Common.{◌≡◌, ◌≢◌, ℕ, zero, suc, ◌+◌, ◌<◌, ◌≤◌, ◌==◌, Bool, true, false, cond, List, [], ◌∷◌, ◌++◌, length, slice_get, Some, None, refl, sym, ap, ◌∙◌, subst, arith, lt_of_not-le}
use Rattle.std.proofs.lemmas.Bool.Decides.{nat_tests}
use mathlib.Core.Logic.{dite}
use native.Mathlib.Decide.{ℕ_discrete, dec_le}
use Rattle.p2p_threads.specs.History.{weight, times, IsEachOnce, entry_at, Stands}
use Rattle.p2p_threads.proofs.Histories.{get_below}

-- the sum of f over the numbers below n
upto : (ℕ → ℕ) → ℕ → ℕ
upto f zero = 0
upto f (suc n) = upto f n + f n

upto-zero : (n : ℕ) → upto (λ _. 0) n ≡ 0
unfolding upto
upto-zero zero = refl
upto-zero (suc n) = let r = upto-zero n in omega arith

upto-add : (f g : ℕ → ℕ) (n : ℕ) → upto (λ k. f k + g k) n ≡ upto f n + upto g n
unfolding upto
upto-add f g zero = refl
upto-add f g (suc n) = let r = upto-add f g n in omega arith

weight-same : (m : ℕ) → weight (m == m) ≡ 1
weight-same m = let e : (m == m) ≡ true = grind (arith, nat_tests) in ap weight e

weight-other : (m n : ℕ) → m ≢ n → weight (m == n) ≡ 0
weight-other m n ne = let e : (m == n) ≡ false = grind (arith, nat_tests) in ap weight e

upto-other : (m n : ℕ) → n ≤ m → upto (λ k. weight (m == k)) n ≡ 0
unfolding upto
upto-other m zero h = refl
upto-other m (suc n) h = let r = upto-other m n (omega arith) in let w = weight-other m n (λ e. omega arith) in omega arith

upto-one : (m n : ℕ) → m < n → upto (λ k. weight (m == k)) n ≡ 1
unfolding upto
upto-one m zero h = absurd (omega arith)
upto-one m (suc n) h = dite (ℕ_discrete m n)
    (λ e. let r = upto-other m n (omega arith) in let w : weight (m == n) ≡ 1 = subst (λ (k : ℕ). weight (m == k) ≡ 1) e (weight-same m) in omega arith)
    (λ ne. let r = upto-one m n (omega arith) in let w = weight-other m n ne in omega arith)

upto-le : (f : ℕ → ℕ) (n : ℕ) → ((k : ℕ) → f k ≤ 1) → upto f n ≤ n
unfolding upto
upto-le f zero h = omega arith
upto-le f (suc n) h = let r = upto-le f n h in let w = h n in omega arith

upto-full : (f : ℕ → ℕ) (n : ℕ) → ((k : ℕ) → f k ≤ 1) → upto f n ≡ n → (k : ℕ) → k < n → f k ≡ 1
unfolding upto
upto-full f zero h e k lt = absurd (omega arith)
upto-full f (suc n) h e k lt =
    let r = upto-le f n h in
    let w = h n in
    dite (ℕ_discrete k n)
    (λ is. let last : f n ≡ 1 = omega arith in subst (λ (j : ℕ). f j ≡ 1) (sym is) last)
    (λ ne. upto-full f n h (omega arith) k (omega arith))

module _ {E : Type 0} where
  pub times-append : (p : ℕ) (ms ns : List (ℕ × E)) → times p (ms ++ ns) ≡ times p ms + times p ns
  times-append p [] ns = omega arith
  times-append p (m ∷ ms) ns = let r = times-append p ms ns in omega arith

  pub times-one : (p : ℕ) (m : ℕ × E) → times p (m ∷ []) ≤ 1
  times-one p m = dite (ℕ_discrete m.0 p)
      (λ e. let w : weight (m.0 == p) ≡ 1 = subst (λ (k : ℕ). weight (m.0 == k) ≡ 1) e (weight-same m.0) in omega arith)
      (λ ne. let w = weight-other m.0 p ne in omega arith)

  pub times-other : (p : ℕ) (m : ℕ × E) → m.0 ≢ p → times p (m ∷ []) ≡ 0
  times-other p m ne = let w = weight-other m.0 p ne in omega arith

  -- no place past the end is made
  pub times-past : (h : List E) (ms : List (ℕ × E)) (p : ℕ) → Stands h ms → length h ≤ p → times p ms ≡ 0
  times-past h [] p s le = refl
  times-past h (m ∷ ms) p s le =
      let b = get_below h m.0 m.1 s.0 in
      let w = weight-other m.0 p (λ e. omega arith) in
      let r = times-past h ms p s.1 le in omega arith

  counted : (h : List E) (ms : List (ℕ × E)) → Stands h ms → upto (λ k. times k ms) (length h) ≡ length ms
  counted h [] s = upto-zero (length h)
  counted h (m ∷ ms) s =
      let one = upto-one m.0 (length h) (get_below h m.0 m.1 s.0) in
      let r = counted h ms s.1 in
      let sum = upto-add (λ (k : ℕ). weight (m.0 == k)) (λ (k : ℕ). times k ms) (length h) in omega arith

  pub made_bound : (h : List E) (ms : List (ℕ × E)) → Stands h ms → IsEachOnce ms → length ms ≤ length h
  made_bound h ms s once = let r = counted h ms s in let u = upto-le (λ (k : ℕ). times k ms) (length h) once in omega arith

  missing : (ms : List (ℕ × E)) (p : ℕ) → times p ms ≡ 0 → entry_at ms p ≡ None
  missing [] p e = refl
  missing (m ∷ ms) p e = at (m.0 == p) refl (missing ms p (omega arith))
    where
      at : (b : Bool) → (m.0 == p) ≡ b → entry_at ms p ≡ None → cond b (Some m.1) (entry_at ms p) ≡ None
      at true is r = let w : weight (m.0 == p) ≡ 1 = ap weight is in absurd (omega arith)
      at false is r = r

  found : (h : List E) (ms : List (ℕ × E)) (p : ℕ) → Stands h ms → 0 < times p ms → entry_at ms p ≡ slice_get h p
  found h [] p s lt = absurd (omega arith)
  found h (m ∷ ms) p s lt = at (m.0 == p) refl (λ more. found h ms p s.1 more)
    where
      at : (b : Bool) → (m.0 == p) ≡ b → (0 < times p ms → entry_at ms p ≡ slice_get h p) → cond b (Some m.1) (entry_at ms p) ≡ slice_get h p
      at true is r = let e : m.0 ≡ p = grind (arith, nat_tests) in sym s.0 ∙ ap (λ (k : ℕ). slice_get h k) e
      at false is r = let w : weight (m.0 == p) ≡ 0 = ap weight is in r (omega arith)

  get_past : (h : List E) (p : ℕ) → length h ≤ p → slice_get h p ≡ None
  get_past [] p le = refl
  get_past (x ∷ h) zero le = absurd (omega arith)
  get_past (x ∷ h) (suc p) le = get_past h p (omega arith)

  -- where as many calls were made as the history has, they are all of it
  pub all_made : (h : List E) (ms : List (ℕ × E)) → Stands h ms → IsEachOnce ms → length ms ≡ length h → (p : ℕ) → entry_at ms p ≡ slice_get h p
  all_made h ms s once e p = dite (dec_le (length h) p)
      (λ past. missing ms p (times-past h ms p s past) ∙ sym (get_past h p past))
      (λ below. let r = counted h ms s in let one = upto-full (λ (k : ℕ). times k ms) (length h) once (r ∙ e) p (lt_of_not-le below) in found h ms p s (omega arith))

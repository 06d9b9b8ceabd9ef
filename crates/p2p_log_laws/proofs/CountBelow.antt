-- How many numbers below one pass a test, and what that comes to for a test that is another at one place, or at none.
use Rattle.std.proofs.Common.{◌≡◌, ℕ, zero, suc, ◌+◌, ◌<◌, ◌≤◌, Bool, true, false, cond, Option, Some, None, refl, ap, sym, ◌∙◌, arith, eqb-true}
use Rattle.std.specs.Prelude.{◌==◌, ◌&&◌, ◌||◌}
use Rattle.std.proofs.lemmas.Bool.Decides.{nat_tests}
use Rattle.p2p_log_rules.specs.Facts.{with_begun}
use Rattle.p2p_log_laws.specs.Grants.{one}
use Rattle.p2p_log_laws.specs.NodeGrants.{count_below}

differ : (m e : ℕ) → suc m ≤ e → (m == e) ≡ false
differ m e le = grind (arith, nat_tests)

below_it : (m e : ℕ) → e < suc m → (m == e) ≡ false → e < m
below_it m e lt other = grind (arith, nat_tests)

module _ (p q : ℕ → Bool) where
  -- tests that agree
  pub count_below-same : (m : ℕ) → ((k : ℕ) → q k ≡ p k) → count_below m q ≡ count_below m p
  unfolding count_below
  count_below-same zero h = refl
  count_below-same (suc m) h = ap (λ b. one b + count_below m q) (h m) ∙ ap (λ n. one (p m) + n) (count_below-same m h)

  module _ (e : ℕ) (b : Bool) (h : (k : ℕ) → q k ≡ cond (k == e) b (p k)) where
    -- they differ past the numbers that are counted
    pub count_below-past : (m : ℕ) → m ≤ e → count_below m q ≡ count_below m p
    unfolding count_below
    count_below-past zero le = refl
    count_below-past (suc m) le =
        ap (λ c. one c + count_below m q) (h m ∙ ap (λ t. cond t b (p m)) (differ m e le)) ∙ ap (λ n. one (p m) + n) (count_below-past m (omega (arith, le)))

    -- they differ at one of them
    pub count_below-there : (m : ℕ) → e < m → count_below m q + one (p e) ≡ count_below m p + one b
    unfolding count_below
    count_below-there zero lt = absurd (omega (arith, lt))
    count_below-there (suc m) lt = go (m == e) refl (count_below-there m)
      where
        go : (t : Bool) → (m == e) ≡ t → (e < m → count_below m q + one (p e) ≡ count_below m p + one b)
            → (one (q m) + count_below m q) + one (p e) ≡ (one (p m) + count_below m p) + one b
        go true same rest =
            let at : m ≡ e = eqb-true m e same in
            let new : one (q m) ≡ one b = ap one (h m ∙ ap (λ t. cond t b (p m)) same) in
            let old : one (p m) ≡ one (p e) = ap (λ k. one (p k)) at in
            let others : count_below m q ≡ count_below m p = count_below-past m (omega (arith, at)) in
            omega (arith, new, old, others)
        go false other rest =
            let new : one (q m) ≡ one (p m) = ap one (h m ∙ ap (λ t. cond t b (p m)) other) in
            let others = rest (below_it m e lt other) in
            omega (arith, new, others)

-- of the numbers that pass one test those that pass another too, and those that do not
module _ (p q s : ℕ → Bool) (h : (k : ℕ) → q k ≡ cond (s k) false (p k)) where
  pub count_below-parts : (m : ℕ) → count_below m q + count_below m (λ k. s k && p k) ≡ count_below m p
  unfolding count_below
  count_below-parts zero = refl
  count_below-parts (suc m) =
      let here : one (q m) + one (s m && p m) ≡ one (p m) = ap (λ b. one b + one (s m && p m)) (h m) ∙ by (s m) (p m) (one (p m)) refl in
      let rest = count_below-parts m in
      omega (arith, here, rest)
    where
      by : (b c : Bool) (k : ℕ) → one c ≡ k → one (cond b false c) + one (b && c) ≡ k
      by true c k is = omega (arith, is)
      by false c k is = omega (arith, is)

-- what is counted of numbers that pass
module _ (p : ℕ → Bool) where
  below_last : (m i : ℕ) → i < suc m → (i == m) ≡ false → i < m
  below_last m i lt other = grind (arith, nat_tests)

  pub count_below-one : (m i : ℕ) → i < m → p i ≡ true → 1 ≤ count_below m p
  unfolding count_below
  count_below-one zero i lt is = absurd (omega (arith, lt))
  count_below-one (suc m) i lt is = go (i == m) refl (count_below-one m i)
    where
      go : (b : Bool) → (i == m) ≡ b → (i < m → p i ≡ true → 1 ≤ count_below m p) → 1 ≤ one (p m) + count_below m p
      go true same rest = let last : one (p m) ≡ 1 = ap (λ k. one (p k)) (sym (eqb-true i m same)) ∙ ap one is in omega (arith, last)
      go false other rest = let more = rest (below_last m i lt other) is in omega (arith, more)

  -- two that are not one count twice
  pub count_below-two : (m i j : ℕ) → i < m → j < m → (i == j) ≡ false → p i ≡ true → p j ≡ true → 2 ≤ count_below m p
  unfolding count_below
  count_below-two zero i j lt less two is it = absurd (omega (arith, lt))
  count_below-two (suc m) i j lt less two is it = go (i == m) (j == m) refl refl (count_below-two m i j)
    where
      not_both : (a b k : ℕ) → (a == b) ≡ false → (a == k) ≡ true → (b == k) ≡ true → ⊥
      not_both a b k two first second = grind (arith, nat_tests)

      go : (b c : Bool) → (i == m) ≡ b → (j == m) ≡ c → (i < m → j < m → (i == j) ≡ false → p i ≡ true → p j ≡ true → 2 ≤ count_below m p) → 2 ≤ one (p m) + count_below m p
      go true true same also rest = absurd (not_both i j m two same also)
      go true false same other rest =
          let last : one (p m) ≡ 1 = ap (λ k. one (p k)) (sym (eqb-true i m same)) ∙ ap one is in
          let more = count_below-one m j (below_last m j less other) it in
          omega (arith, last, more)
      go false true other same rest =
          let last : one (p m) ≡ 1 = ap (λ k. one (p k)) (sym (eqb-true j m same)) ∙ ap one it in
          let more = count_below-one m i (below_last m i lt other) is in
          omega (arith, last, more)
      go false false other also rest = let more = rest (below_last m i lt other) (below_last m j less also) two is it in omega (arith, more)

pub none_below : (m : ℕ) → count_below m (λ k. false) ≡ 0
unfolding count_below
none_below zero = refl
none_below (suc m) = let rest = none_below m in omega (arith, rest)

-- of those that pass a test, one more is counted
pub count_below-more : (p s : ℕ → Bool) (e m : ℕ) → e < m → s e ≡ false → count_below m (λ k. ((e == k) || s k) && p k) ≡ one (p e) + count_below m (λ k. s k && p k)
count_below-more p s e m lt other =
    let there = count_below-there (λ k. s k && p k) (λ k. ((e == k) || s k) && p k) e (p e) here m lt in
    let nothing : one (s e && p e) ≡ 0 = ap (λ b. one (b && p e)) other in
    omega (arith, there, nothing)
  where
    either_way : (a b : ℕ) → (a == b) ≡ (b == a)
    either_way a b = grind (arith, nat_tests)

    here : (k : ℕ) → (((e == k) || s k) && p k) ≡ cond (k == e) (p e) (s k && p k)
    here k = ap (λ b. (b || s k) && p k) (either_way e k) ∙ by (k == e) refl
      where
        by : (b : Bool) → (k == e) ≡ b → ((b || s k) && p k) ≡ cond b (p e) (s k && p k)
        by true is = ap p (eqb-true k e is)
        by false is = refl

-- one number more is counted, which passed no test before
module _ (m more : ℕ) (next : more ≡ suc m) (p q : ℕ → Bool) (none : p m ≡ false) where
  next_counted : count_below more q ≡ one (q m) + count_below m q
  unfolding count_below
  next_counted = ap (λ k. count_below k q) next

  -- the test is the same
  pub count_kept : ((k : ℕ) → q k ≡ p k) → count_below more q ≡ count_below m p
  count_kept h =
      let at : one (q m) ≡ 0 = ap one (h m ∙ none) in
      let all = next_counted in
      let same = count_below-same p q m h in
      omega (arith, at, all, same)

  -- it is another at the new number
  pub count_begun : (b : Bool) → ((k : ℕ) → q k ≡ cond (k == m) b (p k)) → count_below more q ≡ count_below m p + one b
  count_begun b h =
      let at : one (q m) ≡ one b = ap one (h m ∙ ap (λ t. cond t b (p m)) (same_number m)) in
      let all = next_counted in
      let same = count_below-past p q m b h m (omega arith) in
      omega (arith, at, all, same)
    where
      same_number : (k : ℕ) → (k == k) ≡ true
      same_number k = grind (arith, nat_tests)

  -- it is another at an old number
  pub count_changed : (e : ℕ) (b : Bool) → e < m → ((k : ℕ) → q k ≡ cond (k == e) b (p k)) → count_below more q + one (p e) ≡ count_below m p + one b
  count_changed e b lt h =
      let at : one (q m) ≡ 0 = ap one (h m ∙ (ap (λ t. cond t b (p m)) (differ_from m e lt) ∙ none)) in
      let all = next_counted in
      let there = count_below-there p q e b h m lt in
      omega (arith, at, all, there)
    where
      differ_from : (k i : ℕ) → i < k → (k == i) ≡ false
      differ_from k i lt = grind (arith, nat_tests)

  -- some that passed it do no more
  pub count_less : (s : ℕ → Bool) → ((k : ℕ) → q k ≡ cond (s k) false (p k)) → count_below more q + count_below m (λ k. s k && p k) ≡ count_below m p
  count_less s h =
      let at : one (q m) ≡ 0 = ap one (h m ∙ (ap (cond (s m) false) none ∙ nothing (s m))) in
      let all = next_counted in
      let parts = count_below-parts p q s h m in
      omega (arith, at, all, parts)
    where
      nothing : (b : Bool) → cond b false false ≡ false
      nothing true = refl
      nothing false = refl

-- a test of what may stand under a name, once something else does
module _ {X : Type 0} (holds : Option X → Bool) where
  pub test_cond : (b : Bool) (o u : Option X) → holds (cond b o u) ≡ cond b (holds o) (holds u)
  test_cond true o u = refl
  test_cond false o u = refl

  pub begun_test : (o : Option X) (m k : ℕ) (f : ℕ → Option X) → f m ≡ None → holds (with_begun o m f k) ≡ cond (k == m) (holds o) (holds (f k))
  begun_test (Some x) m k f none = test_cond (k == m) (Some x) (f k)
  begun_test None m k f none = go (k == m) refl
    where
      go : (b : Bool) → (k == m) ≡ b → holds (f k) ≡ cond b (holds None) (holds (f k))
      go true same = ap holds (ap f (eqb-true k m same) ∙ none)
      go false other = refl

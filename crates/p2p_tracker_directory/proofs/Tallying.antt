-- What a table of counts keeps where more are counted.
use Rattle.std.proofs.Common.{◌≡◌, ℕ, ◌+◌, ◌<◌, Bool, true, false, cond, ◌&&◌, ◌==◌, List, Some, None, refl, sym, ap, ◌∙◌, arith}
use Rattle.std.proofs.lemmas.Bool.{lt-ltb, ltb-false}
use Rattle.std.specs.Prelude.{nat_lt}
use Rattle.std.specs.Option.{unwrap_or}
use Rattle.std.specs.Cmp.{IsTotalOrder, tied_then, unsigned_tied}
use Rattle.std.specs.Ordering.{is_eq, nat_cmp}
use Rattle.std.specs.Map.{lookup}
use Rattle.std.specs.BTreeMap.{is_at}
use Rattle.std.specs.declared.cmp.Ordering.{Ordering}
use Rattle.p2p_base.specs.Moments.{by_moment}
use Rattle.p2p_tracker_directory.specs.Indexed.{positive, Tallies}
use Rattle.p2p_tracker_directory.proofs.Written.{lookup_same}

-- a number is told by what stands for it
pub number_of : (n : ℕ) → n ≡ unwrap_or (positive n) 0
number_of n = at (nat_lt 0 n) refl
  where
    at : (b : Bool) → nat_lt 0 n ≡ b → n ≡ unwrap_or (cond b (Some n) None) 0
    at true e = refl
    at false e = let most = ltb-false 0 n e in omega (arith, most)

pub some_number : (n c : ℕ) → Some c ≡ positive n → c ≡ n
some_number n c e = sym (number_of n ∙ ap (λ o. unwrap_or o 0) (sym e))

pub no_number : (n : ℕ) → None ≡ positive n → 0 ≡ n
no_number n e = sym (number_of n ∙ ap (λ o. unwrap_or o 0) (sym e))

above : (n : ℕ) → 0 < n → Some n ≡ positive n
above n h = sym (ap (λ b. cond b (Some n) None) (lt-ltb 0 n h))

module _ {K : Type 0} {cmp : K → K → Ordering} (o : IsTotalOrder cmp) (key : K) where
  -- equal keys have one number
  numbers_same : (counts : List (K × ℕ)) (n : K → ℕ) → Tallies cmp counts n → (k : K) → is_at (cmp key) k ≡ true → n k ≡ n key
  numbers_same counts n t k e =
      number_of (n k) ∙ (ap (λ r. unwrap_or r 0) (sym (t.each k) ∙ (sym (lookup_same o key k counts e) ∙ t.each key)) ∙ sym (number_of (n key)))

  module _ (old new : List (K × ℕ)) (n m : K → ℕ) (t : Tallies cmp old n) where
    pub tallies-raised : (count more : ℕ) → 0 < more → count ≡ n key → ((k : K) → m k ≡ n k + cond (is_at (cmp key) k) more 0)
        → ((k : K) → lookup (is_at (cmp k)) new ≡ cond (is_at (cmp key) k) (Some (count + more)) (lookup (is_at (cmp k)) old)) → Tallies cmp new m
    tallies-raised count more some c h u = record { each = λ k. u k ∙ at k (is_at (cmp key) k) refl (h k) }
      where
        at : (k : K) (b : Bool) → is_at (cmp key) k ≡ b → m k ≡ n k + cond b more 0 → cond b (Some (count + more)) (lookup (is_at (cmp k)) old) ≡ positive (m k)
        at k true e i =
            let same = numbers_same old n t k e in
            let is : count + more ≡ m k = omega (arith, c, same, i) in
            ap (λ x. Some x) is ∙ above (m k) (omega (arith, i, some))
        at k false e i = let is : n k ≡ m k = omega (arith, i) in t.each k ∙ ap positive is

module _ {K : Type 0} {cmp : K → K → Ordering} (o : IsTotalOrder cmp) where
  pub same_moment : (t s : ℕ) (k q : K) → is_at (by_moment cmp (t, k)) (s, q) ≡ ((t == s) && is_eq (cmp k q))
  same_moment t s k q = sym (tied_then (nat_cmp t s) (cmp k q)) ∙ ap (λ b. b && is_eq (cmp k q)) (unsigned_tied t s)

-- A key is in a set exactly where a count is above 0.
use Rattle.std.proofs.Common.{◌≡◌, ℕ, Bool, true, false, cond, ◌||◌, List, [], ◌∷◌, refl, sym, ap, ◌∙◌, lt-ltb, arith}
use Rattle.std.specs.Prelude.{nat_lt, suc}
use Rattle.std.specs.List.{list_any}
use Rattle.std.specs.declared.cmp.Ordering.{Ordering}
use Rattle.p2p_tracker_calls.specs.declared.call.Call.{Call}
use Rattle.p2p_tracker_calls.specs.Rules.{Rules}
use Rattle.p2p_tracker_calls.specs.Sets.{how_many, is_primary_in, is_secondary_in, kept_sets, is_tracked, is_primary, primary_sets, secondary_sets}

any_step : (b : Bool) (n : ℕ) (a : Bool) → a ≡ nat_lt 0 n → (b || a) ≡ nat_lt 0 (cond b (suc n) n)
any_step true n a e = sym (lt-ltb 0 (suc n) (omega arith))
any_step false n a e = e

either_step : (a b c d e : Bool) → c ≡ (d || e) → ((a || b) || c) ≡ ((a || d) || (b || e))
either_step true b c d e h = refl
either_step false true c true e h = refl
either_step false true c false e h = refl
either_step false false c d e h = h

module _ {X : Type 0} where
  pub any-how_many : (test : X → Bool) (xs : List X) → list_any test xs ≡ nat_lt 0 (how_many test xs)
  unfolding how_many
  any-how_many test [] = refl
  any-how_many test (x ∷ xs) = any_step (test x) (how_many test xs) (list_any test xs) (any-how_many test xs)

  pub any-or : (f g : X → Bool) (xs : List X) → list_any (λ x. f x || g x) xs ≡ (list_any f xs || list_any g xs)
  any-or f g [] = refl
  any-or f g (x ∷ xs) = either_step (f x) (g x) (list_any (λ y. f y || g y) xs) (list_any f xs) (list_any g xs) (any-or f g xs)

module _ {P : Type 0} (cmp : P → P → Ordering) (rules : Rules P) where
  pub is_tracked-counts : (calls : List (Call P)) (q : P) → is_tracked cmp rules calls q ≡ (nat_lt 0 (primary_sets cmp rules calls q) || nat_lt 0 (secondary_sets cmp rules calls q))
  unfolding is_tracked primary_sets secondary_sets
  is_tracked-counts calls q =
      any-or (is_primary_in cmp q) (is_secondary_in cmp q) (kept_sets cmp rules calls)
      ∙ ap (λ a. a || list_any (is_secondary_in cmp q) (kept_sets cmp rules calls)) (any-how_many (is_primary_in cmp q) (kept_sets cmp rules calls))
      ∙ ap (λ b. nat_lt 0 (how_many (is_primary_in cmp q) (kept_sets cmp rules calls)) || b) (any-how_many (is_secondary_in cmp q) (kept_sets cmp rules calls))

  pub is_primary-count : (calls : List (Call P)) (q : P) → is_primary cmp rules calls q ≡ nat_lt 0 (primary_sets cmp rules calls q)
  unfolding is_primary primary_sets
  is_primary-count calls q = any-how_many (is_primary_in cmp q) (kept_sets cmp rules calls)

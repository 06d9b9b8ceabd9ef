-- Who is killed by a peer set, as the records tell.
use Rattle.std.proofs.Common.{◌≡◌, ℕ, ◌+◌, ◌-◌, ◌≤◌, Bool, true, false, cond, ◌&&◌, ◌||◌, not, List, [], ◌∷◌, Option, Some, None, refl, sym, ap, ◌∙◌, arith}
use Rattle.std.proofs.lemmas.Bool.{false≢true, lt-ltb, ltb-true, ltb-false}
use Rattle.std.proofs.lemmas.Cmp.{eq_by_cmp_equiv}
use Rattle.std.specs.Prelude.{is_some, nat_lt}
use Rattle.std.specs.List.{list_any, filter}
use Rattle.std.specs.Option.{option_map}
use Rattle.std.specs.Cmp.{IsTotalOrder}
use Rattle.std.specs.Map.{lookup, keys_of}
use Rattle.std.specs.BTreeMap.{is_at}
use Rattle.std.specs.declared.cmp.Ordering.{Ordering}
use Rattle.p2p_address.specs.declared.peer.Address.{Address as PeerAddress}
use Rattle.p2p_tracker_calls.specs.Sets.{is_among, only_secondary}
use Rattle.p2p_tracker_calls.specs.Grants.{Grant}
use Rattle.p2p_tracker_calls.specs.Lives.{same_address, is_change}
use Rattle.p2p_tracker_directory.specs.Tracked.{one_if, is_left, is_killed_in}
use Rattle.p2p_tracker_directory.proofs.Steps.{own, peer}
use Rattle.p2p_tracker_directory.proofs.Newcomers.{list_any-flip}

and_false : (b : Bool) → (b && false) ≡ false
and_false true = refl
and_false false = refl

none_held : (tracked held : Bool) → (tracked || held) ≡ false → held ≡ false
none_held true held e = absurd (false≢true (sym e))
none_held false held e = e

-- nobody is told, and one who is evicted is among those asked
evicted_alone : (any e stale left : Bool) → (e ≡ true → any ≡ true) → (any && (false || (e && (stale || not left)))) ≡ (false || (e && (((false && true) || stale) || not left)))
evicted_alone any true stale left h = ap (λ b. b && (stale || not left)) (h refl)
evicted_alone any false stale left h = and_false any

told_too : (any x e stale left : Bool) → any ≡ true → (any && (x || (e && (stale || not left)))) ≡ (x || (e && (((x && true) || stale) || not left)))
told_too any true e stale left h = ap (λ b. b && true) h
told_too any false e stale left h = ap (λ b. b && (e && (stale || not left))) h

pub kill_step : (local held any tracked : Bool) (cooldown n m : ℕ) (joined stale : Bool) (g : Option Grant) (a given : Option PeerAddress) (p s ep es : Bool)
    → (local ≡ false → (tracked || held) ≡ is_some a) → (is_some given ≡ true → any ≡ true) → ((ep || es) ≡ true → any ≡ true)
    → (any && is_killed_in (cond local (Some (own n m)) (option_map (peer cooldown held joined n m stale g) a)) given p s ep es)
    ≡ (not local && held && (is_change given a || ((ep || es) && (((is_change given a && held) || stale) || not (is_left n p ep || is_left m s es)))))
unfolding own peer
kill_step true held any tracked cooldown n m joined stale g a given p s ep es h i j = and_false any
kill_step false held any tracked cooldown n m joined stale g None given p s ep es h i j =
    and_false any ∙ sym (ap (λ b. b && (is_change given None || ((ep || es) && (((is_change given None && b) || stale) || not (is_left n p ep || is_left m s es))))) (none_held tracked held (h refl)))
kill_step false false any tracked cooldown n m joined stale g (Some a) given p s ep es h i j = and_false any
kill_step false true any tracked cooldown n m true stale g (Some a) None p s ep es h i j = evicted_alone any (ep || es) stale (is_left n p ep || is_left m s es) j
kill_step false true any tracked cooldown n m false stale g (Some a) None p s ep es h i j = evicted_alone any (ep || es) stale (is_left n p ep || is_left m s es) j
kill_step false true any tracked cooldown n m true stale g (Some a) (Some b) p s ep es h i j = told_too any (not (same_address a b)) (ep || es) stale (is_left n p ep || is_left m s es) (i refl)
kill_step false true any tracked cooldown n m false stale g (Some a) (Some b) p s ep es h i j = told_too any (not (same_address a b)) (ep || es) stale (is_left n p ep || is_left m s es) (i refl)

-- a count is left where it is above what goes
pub is_left-less : (n : ℕ) (p ep : Bool) → is_left n p ep ≡ nat_lt 0 ((n + one_if p) - one_if ep)
is_left-less n p ep = at (nat_lt (one_if ep) (n + one_if p)) refl
  where
    at : (b : Bool) → nat_lt (one_if ep) (n + one_if p) ≡ b → b ≡ nat_lt 0 ((n + one_if p) - one_if ep)
    at true e = let more = ltb-true (one_if ep) (n + one_if p) e in sym (lt-ltb 0 ((n + one_if p) - one_if ep) (omega (arith, more)))
    at false e = none (nat_lt 0 ((n + one_if p) - one_if ep)) refl (ltb-false (one_if ep) (n + one_if p) e)
      where
        none : (c : Bool) → nat_lt 0 ((n + one_if p) - one_if ep) ≡ c → n + one_if p ≤ one_if ep → false ≡ c
        none true f least = let more = ltb-true 0 ((n + one_if p) - one_if ep) f in absurd (omega (arith, least, more))
        none false f least = refl

passes_kept : (c any t f : Bool) → (c ≡ true → true ≡ t) → f ≡ (any && t) → (c || f) ≡ ((c || any) && t)
passes_kept true any t f h i = h refl
passes_kept false any t f h i = i

passes_not : (c any t f : Bool) → (c ≡ true → false ≡ t) → f ≡ (any && t) → f ≡ ((c || any) && t)
passes_not true any t f h i = i ∙ (ap (λ z. any && z) (sym (h refl)) ∙ (and_false any ∙ h refl))
passes_not false any t f h i = i

nothing : (m : Bool) → None ≡ cond {A = Option PeerAddress} m None None
nothing true = refl
nothing false = refl

skipped : {X : Type 0} (c m : Bool) (x : X) (rest l : Option X) → (c ≡ true → true ≡ m) → l ≡ cond m None rest → l ≡ cond m None (cond c (Some x) rest)
skipped true m x rest l h i = i ∙ (ap (λ z. cond z None rest) (sym (h refl)) ∙ ap (λ z. cond z None (Some x)) (h refl))
skipped false m x rest l h i = i

stayed : {X : Type 0} (c m : Bool) (x : X) (rest l : Option X) → (c ≡ true → false ≡ m) → l ≡ cond m None rest → cond c (Some x) l ≡ cond m None (cond c (Some x) rest)
stayed true m x rest l h i = ap (λ z. cond z None (Some x)) (h refl)
stayed false m x rest l h i = i

module _ {P : Type 0} {cmp : P → P → Ordering} (o : IsTotalOrder cmp) where
  -- what is found under a key, whichever of the two is compared first
  pub lookup-flip : {X : Type 0} (q : P) (es : List (P × X)) → lookup (is_at (cmp q)) es ≡ lookup (λ p. is_at (cmp p) q) es
  lookup-flip q [] = refl
  lookup-flip q (e ∷ es) = ap (λ b. cond b (Some e.1) (lookup (is_at (cmp q)) es)) ((eq_by_cmp_equiv o).symm q e.0) ∙ ap (λ r. cond (is_at (cmp e.0) q) (Some e.1) r) (lookup-flip q es)

  -- equal keys pass as one test
  pub same_test : (p q : P) → is_at (cmp p) q ≡ true → is_at (cmp p) ≡ is_at (cmp q)
  same_test p q e = λ i x. (eq_by_cmp_equiv o).congr p q x e i

  any_kept : (test : P → Bool) (b : Bool) (k q : P) (ks : List P) → (is_at (cmp q) k ≡ true → b ≡ test q) → list_any (is_at (cmp q)) (filter test ks) ≡ (list_any (is_at (cmp q)) ks && test q)
      → list_any (is_at (cmp q)) (cond b (k ∷ filter test ks) (filter test ks)) ≡ ((is_at (cmp q) k || list_any (is_at (cmp q)) ks) && test q)
  any_kept test true k q ks h i = passes_kept (is_at (cmp q) k) (list_any (is_at (cmp q)) ks) (test q) (list_any (is_at (cmp q)) (filter test ks)) h i
  any_kept test false k q ks h i = passes_not (is_at (cmp q) k) (list_any (is_at (cmp q)) ks) (test q) (list_any (is_at (cmp q)) (filter test ks)) h i

  -- a key is among those that pass where it is among all and passes
  pub any-filter : (test : P → Bool) (q : P) (ks : List P) → ((k : P) → is_at (cmp q) k ≡ true → test k ≡ test q) → list_any (is_at (cmp q)) (filter test ks) ≡ (list_any (is_at (cmp q)) ks && test q)
  any-filter test q [] h = refl
  any-filter test q (k ∷ ks) h = any_kept test (test k) k q ks (h k) (any-filter test q ks h)

  module _ (q : P) (primary : List (P × PeerAddress)) where
    only_step : (b : Bool) (e : P × PeerAddress) (rest : Option PeerAddress) (es : List (P × PeerAddress)) → (is_at (cmp e.0) q ≡ true → b ≡ is_among cmp (keys_of primary) q)
        → lookup (λ p. is_at (cmp p) q) es ≡ cond (is_among cmp (keys_of primary) q) None rest
        → lookup (λ p. is_at (cmp p) q) (cond (not b) (e ∷ es) es) ≡ cond (is_among cmp (keys_of primary) q) None (cond (is_at (cmp e.0) q) (Some e.1) rest)
    only_step true e rest es h i = skipped (is_at (cmp e.0) q) (is_among cmp (keys_of primary) q) e.1 rest (lookup (λ p. is_at (cmp p) q) es) h i
    only_step false e rest es h i = stayed (is_at (cmp e.0) q) (is_among cmp (keys_of primary) q) e.1 rest (lookup (λ p. is_at (cmp p) q) es) h i

    -- of who is secondary alone, what is found is what is found of all, unless the key is primary
    pub lookup-only_secondary : (secondary : List (P × PeerAddress))
        → lookup (λ p. is_at (cmp p) q) (only_secondary cmp primary secondary) ≡ cond (is_among cmp (keys_of primary) q) None (lookup (λ p. is_at (cmp p) q) secondary)
    lookup-only_secondary [] = nothing (is_among cmp (keys_of primary) q)
    lookup-only_secondary (e ∷ es) =
        only_step (list_any (is_at (cmp e.0)) (keys_of primary)) e (lookup (λ p. is_at (cmp p) q) es) (only_secondary cmp primary es)
        (λ h. ap (λ t. list_any t (keys_of primary)) (same_test e.0 q h) ∙ list_any-flip o q (keys_of primary)) (lookup-only_secondary es)

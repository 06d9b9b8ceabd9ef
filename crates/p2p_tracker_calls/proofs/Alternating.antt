-- Grants and releases come by turns where no call grants a key that is held.
use Rattle.std.proofs.Common.{◌≡◌, ℕ, Bool, true, false, cond, ◌&&◌, ◌||◌, not, List, [], ◌∷◌, Option, Some, None, refl, sym, ap, ◌∙◌}
use Rattle.std.proofs.lemmas.Bool.{false≢true}
use Rattle.std.proofs.lemmas.Cmp.{eq_by_cmp_equiv}
use Rattle.std.specs.Prelude.{nat_lt, is_some}
use Rattle.std.specs.Cmp.{IsTotalOrder}
use Rattle.std.specs.BTreeMap.{is_at}
use Rattle.std.specs.declared.cmp.Ordering.{Ordering}
use Rattle.p2p_address.specs.declared.ip.IpAddr.{IpAddr}
use Rattle.p2p_tracker_calls.specs.declared.call.Call.{Call}
use Rattle.p2p_tracker_calls.specs.declared.call.Call.TheVariants as call
use Rattle.p2p_tracker_calls.specs.Rules.{Rules}
use Rattle.p2p_tracker_calls.specs.Sets.{is_primary}
use Rattle.p2p_tracker_calls.specs.Grants.{Grant, grant_by, releases, held_by, is_held}
use Rattle.p2p_tracker_calls.specs.Lives.{address_of, cool, is_eligible}
use Rattle.p2p_tracker_calls.specs.Allows.{is_free, has_valid_ingress, dials_from, allows_dial, is_acceptable, allows_listen}
use Rattle.p2p_tracker_calls.specs.Turns.{may_follow, alternate, is_granted_last, turns_by, turns_of, grants_held, grants_none_held}

held_last : (grant : Option Grant) (released held : Bool) (turns : List Bool) → held ≡ is_granted_last turns
    → held_by grant released held ≡ is_granted_last (turns_by grant (released && held) turns)
held_last (Some g) released held turns h = refl
held_last None true true turns h = refl
held_last None true false turns h = h
held_last None false held turns h = h

may_grant : (turns : List Bool) → is_granted_last turns ≡ false → may_follow true turns ≡ true
may_grant [] h = refl
may_grant (turn ∷ turns) h = ap not h

may_release : (turns : List Bool) → is_granted_last turns ≡ true → may_follow false turns ≡ true
may_release [] h = absurd (false≢true h)
may_release (turn ∷ turns) h = h

pub both : (a b : Bool) → a ≡ true → b ≡ true → (a && b) ≡ true
both a b h i = ap (λ x. x && b) h ∙ i

pub first_of : (a b : Bool) → (a && b) ≡ true → a ≡ true
first_of true b h = refl
first_of false b h = h

pub last_of : (a b : Bool) → (a && b) ≡ true → b ≡ true
last_of true b h = h
last_of false b h = absurd (false≢true h)

pub not_true : (a : Bool) → not a ≡ true → a ≡ false
not_true true h = sym h
not_true false h = refl

-- one more call keeps the turns alternating, where it grants nothing that is held
alternate_step : (grant : Option Grant) (released held : Bool) (turns : List Bool) → held ≡ is_granted_last turns → (is_some grant ≡ true → held ≡ false)
    → alternate turns ≡ true → alternate (turns_by grant (released && held) turns) ≡ true
unfolding alternate
alternate_step (Some g) released held turns h k e = both (may_follow true turns) (alternate turns) (may_grant turns (sym h ∙ k refl)) e
alternate_step None true true turns h k e = both (may_follow false turns) (alternate turns) (may_release turns (sym h)) e
alternate_step None true false turns h k e = e
alternate_step None false held turns h k e = e

module _ {P : Type 0} (cmp : P → P → Ordering) where
  pub is_held-turns_of : (calls : List (Call P)) (q : P) → is_held cmp calls q ≡ is_granted_last (turns_of cmp calls q)
  unfolding is_held turns_of
  is_held-turns_of [] q = refl
  is_held-turns_of (c ∷ calls) q = held_last (grant_by cmp c q) (releases cmp c q) (is_held cmp calls q) (turns_of cmp calls q) (is_held-turns_of calls q)

module _ {P : Type 0} {cmp : P → P → Ordering} (o : IsTotalOrder cmp) where
  -- no key tells two equal ones apart
  same_key : (k p q : P) → is_at (cmp p) q ≡ true → is_at (cmp k) p ≡ is_at (cmp k) q
  same_key k p q e = (eq_by_cmp_equiv o).symm k p ∙ ((eq_by_cmp_equiv o).congr p q k e ∙ (eq_by_cmp_equiv o).symm q k)

  grant_by-same : (c : Call P) (p q : P) → is_at (cmp p) q ≡ true → grant_by cmp c p ≡ grant_by cmp c q
  grant_by-same (call.Dial k at jitter granted) p q e = ap (λ b. cond (granted && b) (Some (at, jitter)) None) (same_key k p q e)
  grant_by-same (call.Listen k at jitter granted) p q e = ap (λ b. cond (granted && b) (Some (at, jitter)) None) (same_key k p q e)
  grant_by-same (call.Track index primary secondary) p q e = refl
  grant_by-same (call.Overwrite k address) p q e = refl
  grant_by-same (call.Block k at) p q e = refl
  grant_by-same (call.UnblockExpired at) p q e = refl
  grant_by-same (call.Connect k at conn) p q e = refl
  grant_by-same (call.Release k) p q e = refl

  releases-same : (c : Call P) (p q : P) → is_at (cmp p) q ≡ true → releases cmp c p ≡ releases cmp c q
  releases-same (call.Dial k at jitter granted) p q e = refl
  releases-same (call.Listen k at jitter granted) p q e = refl
  releases-same (call.Track index primary secondary) p q e = refl
  releases-same (call.Overwrite k address) p q e = refl
  releases-same (call.Block k at) p q e = refl
  releases-same (call.UnblockExpired at) p q e = refl
  releases-same (call.Connect k at conn) p q e = refl
  releases-same (call.Release k) p q e = same_key k p q e

  -- equal keys are held together
  pub is_held-same : (calls : List (Call P)) (p q : P) → is_at (cmp p) q ≡ true → is_held cmp calls p ≡ is_held cmp calls q
  unfolding is_held
  is_held-same [] p q e = refl
  is_held-same (c ∷ calls) p q e =
      ap (λ g. held_by g (releases cmp c p) (is_held cmp calls p)) (grant_by-same c p q e)
      ∙ (ap (λ b. held_by (grant_by cmp c q) b (is_held cmp calls p)) (releases-same c p q e)
      ∙ ap (held_by (grant_by cmp c q) (releases cmp c q)) (is_held-same calls p q e))

  granted_free : (granted b held held_there : Bool) (g : Grant) → (b ≡ true → held_there ≡ held) → (granted && held_there) ≡ false → is_some (cond (granted && b) (Some g) None) ≡ true → held ≡ false
  granted_free true true held held_there g k h e = sym (k refl) ∙ h
  granted_free true false held held_there g k h e = absurd (false≢true e)
  granted_free false b held held_there g k h e = absurd (false≢true e)

  -- a call that grants nothing that is held grants no key while it is
  free_grant : (c : Call P) (calls : List (Call P)) (q : P) → grants_held cmp c calls ≡ false → is_some (grant_by cmp c q) ≡ true → is_held cmp calls q ≡ false
  free_grant (call.Dial k at jitter granted) calls q h e = granted_free granted (is_at (cmp k) q) (is_held cmp calls q) (is_held cmp calls k) (at, jitter) (is_held-same calls k q) h e
  free_grant (call.Listen k at jitter granted) calls q h e = granted_free granted (is_at (cmp k) q) (is_held cmp calls q) (is_held cmp calls k) (at, jitter) (is_held-same calls k q) h e
  free_grant (call.Track index primary secondary) calls q h e = absurd (false≢true e)
  free_grant (call.Overwrite k address) calls q h e = absurd (false≢true e)
  free_grant (call.Block k at) calls q h e = absurd (false≢true e)
  free_grant (call.UnblockExpired at) calls q h e = absurd (false≢true e)
  free_grant (call.Connect k at conn) calls q h e = absurd (false≢true e)
  free_grant (call.Release k) calls q h e = absurd (false≢true e)

  pub alternate-turns_of : (calls : List (Call P)) (q : P) → grants_none_held cmp calls ≡ true → alternate (turns_of cmp calls q) ≡ true
  unfolding alternate turns_of grants_none_held
  alternate-turns_of [] q h = refl
  alternate-turns_of (c ∷ calls) q h =
      alternate_step (grant_by cmp c q) (releases cmp c q) (is_held cmp calls q) (turns_of cmp calls q) (is_held-turns_of cmp calls q)
      (free_grant c calls q (not_true (grants_held cmp c calls) (first_of (not (grants_held cmp c calls)) (grants_none_held cmp calls) h)))
      (alternate-turns_of calls q (last_of (not (grants_held cmp c calls)) (grants_none_held cmp calls) h))

-- an answer that needs a key that isn't held grants none that is
none_twice : (granted allowed held : Bool) → granted ≡ allowed → (allowed ≡ true → not held ≡ true) → not (granted && held) ≡ true
none_twice true allowed held e k = k (sym e)
none_twice false allowed held e k = refl

module _ {P : Type 0} (cmp : P → P → Ordering) (rules : Rules P) (calls : List (Call P)) (p : P) where
  -- what is allowed is allowed of no key that is held
  pub unheld-allows_dial : (t : ℕ) → allows_dial cmp rules calls p t ≡ true → not (is_held cmp calls p) ≡ true
  unheld-allows_dial t h =
      let waited = not (nat_lt t (cool cmp rules calls p)) in
      let free = is_free cmp rules calls p t in
      last_of (is_eligible cmp rules calls p t) (not (is_held cmp calls p))
      (first_of free waited (first_of (free && waited) (is_primary cmp rules calls p)
      (first_of (free && waited && is_primary cmp rules calls p) (has_valid_ingress rules.private rules.dns (address_of cmp rules calls p)) h)))

  pub unheld-allows_listen : (source : IpAddr) (t : ℕ) → allows_listen cmp rules calls p source t ≡ true → not (is_held cmp calls p) ≡ true
  unheld-allows_listen source t h =
      last_of (is_eligible cmp rules calls p t) (not (is_held cmp calls p))
      (first_of (is_free cmp rules calls p t) (rules.bypass || dials_from source (address_of cmp rules calls p))
      (first_of (is_acceptable cmp rules calls p source t) (not (nat_lt t (cool cmp rules calls p))) h))

  pub grants_none_held-dial : (t jitter : ℕ) (granted : Bool) → granted ≡ allows_dial cmp rules calls p t → grants_none_held cmp calls ≡ true
      → grants_none_held cmp (call.Dial p t jitter granted ∷ calls) ≡ true
  unfolding grants_none_held
  grants_none_held-dial t jitter granted e h =
      both (not (granted && is_held cmp calls p)) (grants_none_held cmp calls) (none_twice granted (allows_dial cmp rules calls p t) (is_held cmp calls p) e (unheld-allows_dial t)) h

  pub grants_none_held-listen : (source : IpAddr) (t jitter : ℕ) (granted : Bool) → granted ≡ allows_listen cmp rules calls p source t → grants_none_held cmp calls ≡ true
      → grants_none_held cmp (call.Listen p t jitter granted ∷ calls) ≡ true
  unfolding grants_none_held
  grants_none_held-listen source t jitter granted e h =
      both (not (granted && is_held cmp calls p)) (grants_none_held cmp calls) (none_twice granted (allows_listen cmp rules calls p source t) (is_held cmp calls p) e (unheld-allows_listen source t)) h

-- What one call does to the tests of a directory.
use Rattle.std.proofs.Common.{◌≡◌, ℕ, Bool, true, false, cond, ◌&&◌, ◌||◌, not, List, ◌∷◌, Option, Some, None, refl, sym, ap, ◌∙◌}
use Rattle.std.proofs.lemmas.Bool.{false≢true, and_left, and_right, or_right}
use Rattle.std.proofs.lemmas.Cmp.{eq_by_cmp_equiv}
use Rattle.std.specs.Prelude.{is_some, nat_lt}
use Rattle.std.specs.Cmp.{IsTotalOrder}
use Rattle.std.specs.Map.{lookup}
use Rattle.std.specs.BTreeMap.{is_at}
use Rattle.std.specs.declared.cmp.Ordering.{Ordering}
use Rattle.p2p_address.specs.declared.ip.IpAddr.{IpAddr}
use Rattle.p2p_address.specs.declared.peer.Address.{Address as PeerAddress}
use Rattle.p2p_tracker_calls.specs.declared.call.Call.{Call as LookupCall}
use Rattle.p2p_tracker_calls.specs.declared.call.Call.TheVariants as asked
use Rattle.p2p_tracker_calls.specs.Allows as facts
use Rattle.p2p_tracker_calls.specs.Blocks.{is_local, is_blocked, is_over, block_of}
use Rattle.p2p_tracker_calls.specs.Grants.{Grant, held_by, is_held}
use Rattle.p2p_tracker_calls.specs.Lives.{is_stale, is_connected, is_eligible, cool, address_of}
use Rattle.p2p_tracker_calls.specs.Sets.{is_tracked}
use Rattle.p2p_tracker_directory.specs.Recorded.{Recorded, is_inert, is_held_or_unknown}
use Rattle.p2p_tracker_directory.specs.Stands.{Kept, StandsFor}
use Rattle.p2p_discovery_directory.specs.Tests.{is_held_in, holds, reserves, knows, is_due_in}
use Rattle.p2p_discovery_directory.proofs.Known.{held-known, reserved-known, held-by, reserved-by}

-- ---- truth values

first_of : (a b : Bool) → (a && b) ≡ true → a ≡ true
first_of true b e = refl
first_of false b e = e

second_of : (a b : Bool) → (a && b) ≡ true → b ≡ true
second_of true b e = e
second_of false b e = absurd (false≢true e)

not_so : (b : Bool) → not b ≡ true → b ≡ false
not_so true e = sym e
not_so false e = refl

and_true : (x : Bool) → (x && true) ≡ x
and_true true = refl
and_true false = refl

or_false : (x : Bool) → x ≡ (x || false)
or_false true = refl
or_false false = refl

none_of : {X : Type 0} (o : Option X) → is_some o ≡ false → o ≡ None
none_of None e = refl
none_of (Some x) e = absurd (false≢true (sym e))

granted_held : (b : Bool) (g : Grant) (h : Bool) → held_by (cond b (Some g) None) false h ≡ (h || b)
granted_held true g true = refl
granted_held true g false = refl
granted_held false g true = refl
granted_held false g false = refl

granted_waits : (b : Bool) (g : Grant) (h joined : Bool) → (held_by (cond b (Some g) None) false h && not (cond (is_some (cond b (Some g) None)) false (false || joined))) ≡ ((h && not joined) || b)
granted_waits true g h joined = sym (or_right (h && not joined) true refl)
granted_waits false g h joined = or_false (h && not joined)

of_another : (local h b : Bool) → (b ≡ true → local ≡ false) → (not local && (h || b)) ≡ ((not local && h) || b)
of_another true h true other = absurd (false≢true (sym (other refl)))
of_another true h false other = refl
of_another false h b other = refl

joined_now : (h joined at : Bool) → (h && not ((at && not false) || joined)) ≡ ((h && not joined) && not at)
joined_now false joined at = refl
joined_now true true true = refl
joined_now true true false = refl
joined_now true false true = refl
joined_now true false false = refl

connect_waits : (local h joined at stale : Bool) → (local ≡ false → stale ≡ false) → (not local && (h && not ((at && not stale) || joined))) ≡ ((not local && (h && not joined)) && not at)
connect_waits true h joined at stale fresh = refl
connect_waits false h joined at stale fresh = ap (λ z. h && not ((at && not z) || joined)) (fresh refl) ∙ joined_now h joined at

release_held : (l h at : Bool) → (l && (not at && h)) ≡ ((l && h) && not at)
release_held false h at = refl
release_held true true true = refl
release_held true true false = refl
release_held true false true = refl
release_held true false false = refl

release_waits : (l h joined at : Bool) → (l && ((not at && h) && not joined)) ≡ ((l && (h && not joined)) && not at)
release_waits false h joined at = refl
release_waits true true true true = refl
release_waits true true true false = refl
release_waits true true false true = refl
release_waits true true false false = refl
release_waits true false joined true = refl
release_waits true false joined false = refl

held_or_none : (found : Option Recorded) → (is_held_in found || not (is_some found)) ≡ true → is_held_or_unknown found ≡ true
held_or_none None e = refl
held_or_none (Some r) e = or_false (not (is_inert r.status)) ∙ e

known_both : (found : Option Recorded) → is_held_or_unknown found ≡ (is_held_in found || not (is_some found))
known_both None = refl
known_both (Some r) = or_false (not (is_inert r.status))

-- whether a release may be asked for
pub may-release-known : {P : Type 0} (cmp : P → P → Ordering) (kept : Kept P) (q : P)
    → is_held_or_unknown (lookup (is_at (cmp q)) kept.records) ≡ (holds cmp kept q || not (knows cmp kept q))
may-release-known cmp kept q = known_both (lookup (is_at (cmp q)) kept.records)

-- what a release asks for
pub may-release : {P : Type 0} (cmp : P → P → Ordering) (kept : Kept P) (q : P) → (is_held_in (lookup (is_at (cmp q)) kept.records) || not (is_some (lookup (is_at (cmp q)) kept.records))) ≡ true
    → is_held_or_unknown (lookup (is_at (cmp q)) kept.records) ≡ true
may-release cmp kept q e = held_or_none (lookup (is_at (cmp q)) kept.records) e

-- ---- answers

module _ {P : Type 0} {cmp : P → P → Ordering} {kept : Kept P} {calls : List (LookupCall P)} where
  pub due-known : (s : StandsFor cmp kept calls) (t : ℕ) → (q : P) × (is_over (block_of cmp kept.rules calls q) t ≡ true) → (q : P) × (is_due_in cmp kept q t ≡ true)
  due-known s t found = (found.0, ap (λ b. is_over b t) (s.blocks found.0) ∙ found.1)

  -- a held key is refused
  pub held-refused : {X : Type 0} (s : StandsFor cmp kept calls) (p : P) (source : IpAddr) (t : ℕ) (o : Option X) → is_some o ≡ facts.allows_listen cmp kept.rules calls p source t
      → holds cmp kept p ≡ true → o ≡ None
  held-refused s p source t o e held =
      let h : is_held cmp calls p ≡ true = second_of (not (is_local cmp kept.rules p)) (is_held cmp calls p) (sym (held-known s p) ∙ held) in
      none_of o (e ∙ and_left (facts.is_acceptable cmp kept.rules calls p source t) (not (nat_lt t (cool cmp kept.rules calls p)))
      (and_left (facts.is_free cmp kept.rules calls p t) (kept.rules.bypass || facts.dials_from source (address_of cmp kept.rules calls p))
      (and_right (is_eligible cmp kept.rules calls p t) (not (is_held cmp calls p)) (ap not h))))

module _ {P : Type 0} (cmp : P → P → Ordering) (kept : Kept P) (calls : List (LookupCall P)) where
  -- where no address is tested, who is free is acceptable
  pub acceptable-free : kept.rules.bypass ≡ true → (p : P) (source : IpAddr) (t : ℕ) → facts.is_acceptable cmp kept.rules calls p source t ≡ facts.is_free cmp kept.rules calls p t
  acceptable-free e p source t =
      ap (λ b. facts.is_free cmp kept.rules calls p t && (b || facts.dials_from source (address_of cmp kept.rules calls p))) e
      ∙ and_true (facts.is_free cmp kept.rules calls p t)

  pub listen-free : kept.rules.bypass ≡ true → (p : P) (source : IpAddr) (t : ℕ)
      → facts.allows_listen cmp kept.rules calls p source t ≡ (facts.is_free cmp kept.rules calls p t && not (nat_lt t (cool cmp kept.rules calls p)))
  listen-free e p source t = ap (λ a. a && not (nat_lt t (cool cmp kept.rules calls p))) (acceptable-free e p source t)

  -- a granted key is another's
  granted_other : (p : P) (source : IpAddr) (t : ℕ) → facts.allows_listen cmp kept.rules calls p source t ≡ true → is_local cmp kept.rules p ≡ false
  granted_other p source t e =
      let acceptable = first_of (facts.is_acceptable cmp kept.rules calls p source t) (not (nat_lt t (cool cmp kept.rules calls p))) e in
      let free = first_of (facts.is_free cmp kept.rules calls p t) (kept.rules.bypass || facts.dials_from source (address_of cmp kept.rules calls p)) acceptable in
      let eligible = first_of (is_eligible cmp kept.rules calls p t) (not (is_held cmp calls p)) free in
      let tracked = first_of (not (is_local cmp kept.rules p) && is_tracked cmp kept.rules calls p) (not (is_blocked cmp kept.rules calls p t)) eligible in
      not_so (is_local cmp kept.rules p) (first_of (not (is_local cmp kept.rules p)) (is_tracked cmp kept.rules calls p) tracked)

  granted_others : (o : IsTotalOrder cmp) (p q : P) (source : IpAddr) (t : ℕ) (granted : Bool) → granted ≡ facts.allows_listen cmp kept.rules calls p source t → (granted && is_at (cmp p) q) ≡ true
      → is_local cmp kept.rules q ≡ false
  granted_others o p q source t granted e both =
      let same : is_local cmp kept.rules p ≡ is_local cmp kept.rules q =
      (eq_by_cmp_equiv o).symm kept.rules.local p ∙ (eq_by_cmp_equiv o).congr p q kept.rules.local (second_of granted (is_at (cmp p) q) both) ∙ (eq_by_cmp_equiv o).symm q kept.rules.local in
      sym same ∙ granted_other p source t (sym e ∙ first_of granted (is_at (cmp p) q) both)

-- ---- one more call

module _ {P : Type 0} {cmp : P → P → Ordering} {kept after : Kept P} {calls : List (LookupCall P)} (s : StandsFor cmp kept calls) (e : after.rules ≡ kept.rules) where
  -- none
  pub held-same : StandsFor cmp after calls → (q : P) → holds cmp after q ≡ holds cmp kept q
  held-same t q = held-by t kept.rules q (is_held cmp calls q) e refl ∙ sym (held-known s q)

  pub reserved-same : StandsFor cmp after calls → (q : P) → reserves cmp after q ≡ reserves cmp kept q
  reserved-same t q = reserved-by t kept.rules q (is_held cmp calls q && not (is_connected cmp kept.rules calls q)) e refl ∙ sym (reserved-known s q)

  pub held-track : (index : ℕ) (primary secondary : List (P × PeerAddress)) → StandsFor cmp after (asked.Track index primary secondary ∷ calls) → (q : P) → holds cmp after q ≡ holds cmp kept q
  unfolding is_held
  held-track index primary secondary t q = held-by t kept.rules q (is_held cmp calls q) e refl ∙ sym (held-known s q)

  pub reserved-track : (index : ℕ) (primary secondary : List (P × PeerAddress)) → StandsFor cmp after (asked.Track index primary secondary ∷ calls) → (q : P) → reserves cmp after q ≡ reserves cmp kept q
  unfolding is_held is_connected
  reserved-track index primary secondary t q = reserved-by t kept.rules q (is_held cmp calls q && not (is_connected cmp kept.rules calls q)) e refl ∙ sym (reserved-known s q)

  pub held-block : (p : P) (at : ℕ) → StandsFor cmp after (asked.Block p at ∷ calls) → (q : P) → holds cmp after q ≡ holds cmp kept q
  unfolding is_held
  held-block p at t q = held-by t kept.rules q (is_held cmp calls q) e refl ∙ sym (held-known s q)

  pub reserved-block : (p : P) (at : ℕ) → StandsFor cmp after (asked.Block p at ∷ calls) → (q : P) → reserves cmp after q ≡ reserves cmp kept q
  unfolding is_held is_connected
  reserved-block p at t q = reserved-by t kept.rules q (is_held cmp calls q && not (is_connected cmp kept.rules calls q)) e refl ∙ sym (reserved-known s q)

  pub held-unblock : (at : ℕ) → StandsFor cmp after (asked.UnblockExpired at ∷ calls) → (q : P) → holds cmp after q ≡ holds cmp kept q
  unfolding is_held
  held-unblock at t q = held-by t kept.rules q (is_held cmp calls q) e refl ∙ sym (held-known s q)

  pub reserved-unblock : (at : ℕ) → StandsFor cmp after (asked.UnblockExpired at ∷ calls) → (q : P) → reserves cmp after q ≡ reserves cmp kept q
  unfolding is_held is_connected
  reserved-unblock at t q = reserved-by t kept.rules q (is_held cmp calls q && not (is_connected cmp kept.rules calls q)) e refl ∙ sym (reserved-known s q)

  pub held-listen : (o : IsTotalOrder cmp) (p : P) (source : IpAddr) (at jitter : ℕ) (granted : Bool) → granted ≡ facts.allows_listen cmp kept.rules calls p source at
      → StandsFor cmp after (asked.Listen p at jitter granted ∷ calls) → (q : P) → holds cmp after q ≡ (holds cmp kept q || (granted && is_at (cmp p) q))
  unfolding is_held
  held-listen o p source at jitter granted g t q =
      held-by t kept.rules q (is_held cmp calls q || (granted && is_at (cmp p) q)) e (granted_held (granted && is_at (cmp p) q) (at, jitter) (is_held cmp calls q))
      ∙ of_another (is_local cmp kept.rules q) (is_held cmp calls q) (granted && is_at (cmp p) q) (granted_others cmp kept calls o p q source at granted g)
      ∙ ap (λ h. h || (granted && is_at (cmp p) q)) (sym (held-known s q))

  pub reserved-listen : (o : IsTotalOrder cmp) (p : P) (source : IpAddr) (at jitter : ℕ) (granted : Bool) → granted ≡ facts.allows_listen cmp kept.rules calls p source at
      → StandsFor cmp after (asked.Listen p at jitter granted ∷ calls) → (q : P) → reserves cmp after q ≡ (reserves cmp kept q || (granted && is_at (cmp p) q))
  unfolding is_held is_connected
  reserved-listen o p source at jitter granted g t q =
      reserved-by t kept.rules q ((is_held cmp calls q && not (is_connected cmp kept.rules calls q)) || (granted && is_at (cmp p) q)) e
      (granted_waits (granted && is_at (cmp p) q) (at, jitter) (is_held cmp calls q) (is_connected cmp kept.rules calls q))
      ∙ of_another (is_local cmp kept.rules q) (is_held cmp calls q && not (is_connected cmp kept.rules calls q)) (granted && is_at (cmp p) q) (granted_others cmp kept calls o p q source at granted g)
      ∙ ap (λ h. h || (granted && is_at (cmp p) q)) (sym (reserved-known s q))

  pub held-connect : (p : P) (conn : ℕ) → StandsFor cmp after (asked.Connect p None conn ∷ calls) → (q : P) → holds cmp after q ≡ holds cmp kept q
  unfolding is_held
  held-connect p conn t q = held-by t kept.rules q (is_held cmp calls q) e refl ∙ sym (held-known s q)

  pub reserved-connect : ((q : P) → is_local cmp kept.rules q ≡ false → is_stale cmp kept.rules calls q ≡ false) → (p : P) (conn : ℕ) → StandsFor cmp after (asked.Connect p None conn ∷ calls)
      → (q : P) → reserves cmp after q ≡ (reserves cmp kept q && not (is_at (cmp p) q))
  unfolding is_held is_connected
  reserved-connect fresh p conn t q =
      reserved-by t kept.rules q (is_held cmp calls q && not ((is_at (cmp p) q && not (is_stale cmp kept.rules calls q)) || is_connected cmp kept.rules calls q)) e refl
      ∙ connect_waits (is_local cmp kept.rules q) (is_held cmp calls q) (is_connected cmp kept.rules calls q) (is_at (cmp p) q) (is_stale cmp kept.rules calls q) (fresh q)
      ∙ ap (λ w. w && not (is_at (cmp p) q)) (sym (reserved-known s q))

  pub held-release : (p : P) → StandsFor cmp after (asked.Release p ∷ calls) → (q : P) → holds cmp after q ≡ (holds cmp kept q && not (is_at (cmp p) q))
  unfolding is_held
  held-release p t q =
      held-by t kept.rules q (not (is_at (cmp p) q) && is_held cmp calls q) e refl
      ∙ release_held (not (is_local cmp kept.rules q)) (is_held cmp calls q) (is_at (cmp p) q)
      ∙ ap (λ h. h && not (is_at (cmp p) q)) (sym (held-known s q))

  pub reserved-release : (p : P) → StandsFor cmp after (asked.Release p ∷ calls) → (q : P) → reserves cmp after q ≡ (reserves cmp kept q && not (is_at (cmp p) q))
  unfolding is_held is_connected
  reserved-release p t q =
      reserved-by t kept.rules q ((not (is_at (cmp p) q) && is_held cmp calls q) && not (is_connected cmp kept.rules calls q)) e refl
      ∙ release_waits (not (is_local cmp kept.rules q)) (is_held cmp calls q) (is_connected cmp kept.rules calls q) (is_at (cmp p) q)
      ∙ ap (λ w. w && not (is_at (cmp p) q)) (sym (reserved-known s q))

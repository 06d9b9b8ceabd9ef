-- What a directory answers is what follows from its calls.
use Rattle.std.proofs.Common.{◌≡◌, ℕ, Bool, true, false, cond, ◌&&◌, not, List, ◌∷◌, Option, Some, None, refl, sym, ap, ◌∙◌, subst}
use Rattle.std.proofs.lemmas.Bool.{false≢true}
use Rattle.std.specs.Prelude.{is_some, nat_lt}
use Rattle.std.specs.Option.{option_map}
use Rattle.std.specs.Cmp.{IsTotalOrder}
use Rattle.std.specs.Map.{lookup}
use Rattle.std.specs.BTreeMap.{is_at}
use Rattle.std.specs.declared.cmp.Ordering.{Ordering}
use Rattle.p2p_address.specs.Addresses.{ingress_of}
use Rattle.p2p_address.specs.declared.ip.IpAddr.{IpAddr}
use Rattle.p2p_address.specs.declared.peer.Address.{Address as PeerAddress}
use Rattle.p2p_address.specs.declared.peer.Ingress.{Ingress}
use Rattle.p2p_tracker_calls.specs.declared.call.Call.{Call}
use Rattle.p2p_tracker_calls.specs.declared.call.Call.TheVariants as call
use Rattle.p2p_tracker_calls.specs.Sets.{primary_sets, secondary_sets}
use Rattle.p2p_tracker_calls.specs.Grants.{Grant, is_held}
use Rattle.p2p_tracker_calls.specs.Blocks.{is_local, lasts_at}
use Rattle.p2p_tracker_calls.specs.Lives.{address_of, last_grant, is_stale, is_connected, is_eligible, is_overwritten, is_other_than}
use Rattle.p2p_tracker_calls.specs.Allows as facts
use Rattle.p2p_tracker_directory.specs.Recorded.{Recorded, is_in_sets, is_inert, is_myself, has_valid_ingress, ingress_in, is_eligible_in, is_acceptable_in, is_reserved_in, is_stale_in, may_dial_in, may_listen_in, reserved_by, differs_in, found_ingress, written}
use Rattle.p2p_tracker_directory.specs.declared.record.ReserveResult.TheVariants as answer
use Rattle.p2p_tracker_directory.specs.declared.record.Address.{Address}
use Rattle.p2p_tracker_directory.specs.declared.record.Address.TheVariants as address
use Rattle.p2p_tracker_directory.specs.Stands.{Kept, StandsFor, record_of}
use Rattle.p2p_tracker_directory.proofs.Steps.{own, peer}
use Rattle.p2p_tracker_directory.proofs.Standing.{is_eligible-kept, is_acceptable-kept, allows_dial-kept, allows_listen-kept, stands-dial, stands-listen}

barred : (a : Bool) → (a && not true) ≡ false
barred true = refl
barred false = refl

free : (a : Bool) → (a && not false) ≡ a
free true = refl
free false = refl

own_address : (a : Address) → ingress_in a ≡ None → is_myself a ≡ true
own_address address.Myself e = refl
own_address (address.Known a) e = absurd (false≢true (sym (ap is_some e)))

no_ingress : (r : Option Recorded) (t : ℕ) (private dns : Bool) → found_ingress r ≡ None → may_dial_in r t private dns ≡ false
no_ingress None t private dns e = refl
no_ingress (Some r) t private dns e =
    ap (λ m. (not m && is_in_sets r) && is_inert r.status && not (nat_lt t r.cool) && nat_lt 0 r.primary && has_valid_ingress r.address private dns) (own_address r.address e)

ingress_step : (local : Bool) (cooldown n m : ℕ) (held joined stale : Bool) (g : Option Grant) (a : Option PeerAddress) (i : Ingress)
    → found_ingress (cond local (Some (own n m)) (option_map (peer cooldown held joined n m stale g) a)) ≡ Some i → option_map ingress_of a ≡ Some i
unfolding own peer
ingress_step true cooldown n m held joined stale g a i e = absurd (false≢true (ap is_some e))
ingress_step false cooldown n m held joined stale g None i e = e
ingress_step false cooldown n m held joined stale g (Some a) i e = e

stale_step : (local : Bool) (cooldown n m : ℕ) (held joined stale : Bool) (g : Option Grant) (a : Option PeerAddress)
    → is_reserved_in (cond local (Some (own n m)) (option_map (peer cooldown held joined n m stale g) a)) ≡ true
    → is_stale_in (cond local (Some (own n m)) (option_map (peer cooldown held joined n m stale g) a)) ≡ stale
unfolding own peer
stale_step true cooldown n m held joined stale g a e = absurd (false≢true e)
stale_step false cooldown n m held joined stale g None e = absurd (false≢true e)
stale_step false cooldown n m held joined stale g (Some a) e = refl

differs_step : (local : Bool) (cooldown n m : ℕ) (held joined stale : Bool) (g : Option Grant) (a : Option PeerAddress) (given : PeerAddress)
    → differs_in (cond local (Some (own n m)) (option_map (peer cooldown held joined n m stale g) a)) given ≡ (not local && is_other_than a given)
unfolding own peer
differs_step true cooldown n m held joined stale g a given = refl
differs_step false cooldown n m held joined stale g None given = refl
differs_step false cooldown n m held joined stale g (Some a) given = refl

module _ {P : Type 0} {cmp : P → P → Ordering} (o : IsTotalOrder cmp) {kept : Kept P} {calls : List (Call P)} (s : StandsFor cmp kept calls) (p : P) where
  pub eligible-barred : (t : ℕ) → lasts_at (lookup (is_at (cmp p)) kept.blocks) t ≡ true → false ≡ is_eligible cmp kept.rules calls p t
  eligible-barred t e = sym (is_eligible-kept o s p t ∙ ap (λ b. is_eligible_in (lookup (is_at (cmp p)) kept.records) && not b) e ∙ barred (is_eligible_in (lookup (is_at (cmp p)) kept.records)))

  pub eligible-free : (t : ℕ) → lasts_at (lookup (is_at (cmp p)) kept.blocks) t ≡ false → is_eligible_in (lookup (is_at (cmp p)) kept.records) ≡ is_eligible cmp kept.rules calls p t
  eligible-free t e = sym (is_eligible-kept o s p t ∙ ap (λ b. is_eligible_in (lookup (is_at (cmp p)) kept.records) && not b) e ∙ free (is_eligible_in (lookup (is_at (cmp p)) kept.records)))

  pub acceptable-barred : (source : IpAddr) (t : ℕ) → lasts_at (lookup (is_at (cmp p)) kept.blocks) t ≡ true → false ≡ facts.is_acceptable cmp kept.rules calls p source t
  acceptable-barred source t e =
      sym (is_acceptable-kept o s p source t ∙ ap (λ b. is_acceptable_in (lookup (is_at (cmp p)) kept.records) source kept.rules.bypass && not b) e
      ∙ barred (is_acceptable_in (lookup (is_at (cmp p)) kept.records) source kept.rules.bypass))

  pub acceptable-free : (source : IpAddr) (t : ℕ) → lasts_at (lookup (is_at (cmp p)) kept.blocks) t ≡ false
      → is_acceptable_in (lookup (is_at (cmp p)) kept.records) source kept.rules.bypass ≡ facts.is_acceptable cmp kept.rules calls p source t
  acceptable-free source t e =
      sym (is_acceptable-kept o s p source t ∙ ap (λ b. is_acceptable_in (lookup (is_at (cmp p)) kept.records) source kept.rules.bypass && not b) e
      ∙ free (is_acceptable_in (lookup (is_at (cmp p)) kept.records) source kept.rules.bypass))

  pub dial-barred : (t : ℕ) → lasts_at (lookup (is_at (cmp p)) kept.blocks) t ≡ true → false ≡ facts.allows_dial cmp kept.rules calls p t
  dial-barred t e =
      sym (allows_dial-kept o s p t ∙ ap (λ b. may_dial_in (lookup (is_at (cmp p)) kept.records) t kept.rules.private kept.rules.dns && not b) e
      ∙ barred (may_dial_in (lookup (is_at (cmp p)) kept.records) t kept.rules.private kept.rules.dns))

  pub dial-free : (t : ℕ) (granted result : Bool) → lasts_at (lookup (is_at (cmp p)) kept.blocks) t ≡ false → result ≡ granted
      → result ≡ may_dial_in (lookup (is_at (cmp p)) kept.records) t kept.rules.private kept.rules.dns → granted ≡ facts.allows_dial cmp kept.rules calls p t
  dial-free t granted result e r a =
      sym r ∙ a ∙ sym (allows_dial-kept o s p t ∙ ap (λ b. may_dial_in (lookup (is_at (cmp p)) kept.records) t kept.rules.private kept.rules.dns && not b) e
      ∙ free (may_dial_in (lookup (is_at (cmp p)) kept.records) t kept.rules.private kept.rules.dns))

  pub dial-unknown : (t : ℕ) → lasts_at (lookup (is_at (cmp p)) kept.blocks) t ≡ false → found_ingress (lookup (is_at (cmp p)) kept.records) ≡ None
      → false ≡ facts.allows_dial cmp kept.rules calls p t
  dial-unknown t e f = dial-free t false _ e refl (sym (no_ingress (lookup (is_at (cmp p)) kept.records) t kept.rules.private kept.rules.dns f))

  pub listen-barred : (source : IpAddr) (t : ℕ) → lasts_at (lookup (is_at (cmp p)) kept.blocks) t ≡ true → false ≡ facts.allows_listen cmp kept.rules calls p source t
  listen-barred source t e =
      sym (allows_listen-kept o s p source t ∙ ap (λ b. may_listen_in (lookup (is_at (cmp p)) kept.records) source t kept.rules.bypass && not b) e
      ∙ barred (may_listen_in (lookup (is_at (cmp p)) kept.records) source t kept.rules.bypass))

  pub listen-free : (source : IpAddr) (t : ℕ) (granted result : Bool) → lasts_at (lookup (is_at (cmp p)) kept.blocks) t ≡ false → result ≡ granted
      → result ≡ may_listen_in (lookup (is_at (cmp p)) kept.records) source t kept.rules.bypass → granted ≡ facts.allows_listen cmp kept.rules calls p source t
  listen-free source t granted result e r a =
      sym r ∙ a ∙ sym (allows_listen-kept o s p source t ∙ ap (λ b. may_listen_in (lookup (is_at (cmp p)) kept.records) source t kept.rules.bypass && not b) e
      ∙ free (may_listen_in (lookup (is_at (cmp p)) kept.records) source t kept.rules.bypass))

  pub dial-stands : (t j : ℕ) (granted result : Bool) (es : List (P × Recorded)) → result ≡ granted
      → result ≡ may_dial_in (lookup (is_at (cmp p)) kept.records) t kept.rules.private kept.rules.dns
      → es ≡ written cmp (lookup (is_at (cmp p)) kept.records) kept.records p (λ r. cond result (reserved_by answer.Reserved r t kept.rules.cooldown j) r)
      → StandsFor cmp (record kept { records = es }) (call.Dial p t j granted ∷ calls)
  dial-stands t j granted result es e a w = subst (λ b. StandsFor cmp (record kept { records = es }) (call.Dial p t j b ∷ calls)) e (stands-dial o s p t j result es a w)

  pub listen-stands : (source : IpAddr) (t j : ℕ) (granted result : Bool) (es : List (P × Recorded)) → result ≡ granted
      → result ≡ may_listen_in (lookup (is_at (cmp p)) kept.records) source t kept.rules.bypass
      → es ≡ written cmp (lookup (is_at (cmp p)) kept.records) kept.records p (λ r. cond result (reserved_by answer.Reserved r t kept.rules.cooldown j) r)
      → StandsFor cmp (record kept { records = es }) (call.Listen p t j granted ∷ calls)
  listen-stands source t j granted result es e a w = subst (λ b. StandsFor cmp (record kept { records = es }) (call.Listen p t j b ∷ calls)) e (stands-listen o s p source t j result es a w)

  pub ingress-known : (i : Ingress) → found_ingress (lookup (is_at (cmp p)) kept.records) ≡ Some i → option_map ingress_of (address_of cmp kept.rules calls p) ≡ Some i
  unfolding record_of own peer
  ingress-known i e =
      ingress_step (is_local cmp kept.rules p) kept.rules.cooldown (primary_sets cmp kept.rules calls p) (secondary_sets cmp kept.rules calls p)
      (is_held cmp calls p) (is_connected cmp kept.rules calls p) (is_stale cmp kept.rules calls p) (last_grant cmp kept.rules calls p) (address_of cmp kept.rules calls p) i
      (ap found_ingress (sym (s.records p)) ∙ e)

  pub stale-kept : is_reserved_in (lookup (is_at (cmp p)) kept.records) ≡ true → is_stale_in (lookup (is_at (cmp p)) kept.records) ≡ is_stale cmp kept.rules calls p
  unfolding record_of own peer
  stale-kept e =
      ap is_stale_in (s.records p)
      ∙ stale_step (is_local cmp kept.rules p) kept.rules.cooldown (primary_sets cmp kept.rules calls p) (secondary_sets cmp kept.rules calls p)
      (is_held cmp calls p) (is_connected cmp kept.rules calls p) (is_stale cmp kept.rules calls p) (last_grant cmp kept.rules calls p) (address_of cmp kept.rules calls p)
      (ap is_reserved_in (sym (s.records p)) ∙ e)

  pub overwritten-kept : (given : PeerAddress) → differs_in (lookup (is_at (cmp p)) kept.records) given ≡ is_overwritten cmp kept.rules calls p given
  unfolding record_of own peer
  overwritten-kept given =
      ap (λ r. differs_in r given) (s.records p)
      ∙ differs_step (is_local cmp kept.rules p) kept.rules.cooldown (primary_sets cmp kept.rules calls p) (secondary_sets cmp kept.rules calls p)
      (is_held cmp calls p) (is_connected cmp kept.rules calls p) (is_stale cmp kept.rules calls p) (last_grant cmp kept.rules calls p) (address_of cmp kept.rules calls p) given

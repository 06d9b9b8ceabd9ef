-- Whom a plain directory grants to dial, and how it stands for that.
use Rattle.std.proofs.Common.{◌≡◌, ℕ, Bool, true, false, cond, ◌&&◌, ◌||◌, not, List, [], ◌∷◌, Option, Some, None, refl, sym, ap, subst, ◌∙◌}
use Rattle.std.proofs.lemmas.Bool.{false≢true}
use Rattle.std.specs.Prelude.{is_some, nat_lt}
use Rattle.std.specs.Option.{option_map, IfSome}
use Rattle.std.specs.Cmp.{IsTotalOrder}
use Rattle.std.specs.Map.{lookup}
use Rattle.std.specs.BTreeMap.{is_at}
use Rattle.std.specs.declared.cmp.Ordering.{Ordering}
use Rattle.p2p_address.specs.Addresses.{is_valid}
use Rattle.p2p_address.specs.declared.peer.Ingress.{Ingress}
use Rattle.p2p_discovery.specs.declared.info.Info.{Info}
use Rattle.p2p_tracker_calls.specs.declared.call.Call.{Call as LookupCall}
use Rattle.p2p_tracker_calls.specs.declared.call.Call.TheVariants as asked
use Rattle.p2p_tracker_calls.specs.Allows as facts
use Rattle.p2p_tracker_calls.specs.Blocks.{is_local, is_blocked, block_of}
use Rattle.p2p_tracker_calls.specs.Grants.{is_held}
use Rattle.p2p_tracker_calls.specs.Lives.{address_of, is_stale, is_connected, last_grant, cool, next_dial}
use Rattle.p2p_tracker_calls.specs.Rules.{Rules}
use Rattle.p2p_tracker_calls.specs.Sets.{accepted_sets, kept_sets, is_tracked, is_primary, primary_sets, secondary_sets}
use Rattle.p2p_tracker_directory.specs.Stands.{Kept, StandsFor, record_of}
use Rattle.p2p_tracker_directory.specs.Waiting.{waits_from_in, next_dial_of}
use Rattle.p2p_tracker_directory.proofs.Standing.{stands-refused_dial}
use Rattle.p2p_tracker_directory.proofs.Waits.{waits-known}
use Rattle.p2p_discovery_directory.specs.declared.call.Call.{Call}
use Rattle.p2p_discovery_directory.specs.declared.call.Call.TheVariants as call
use Rattle.p2p_discovery_directory.specs.declared.metadata.Metadata.{Metadata}
use Rattle.p2p_discovery_directory.specs.declared.metadata.Metadata.TheVariants as side
use Rattle.p2p_discovery_directory.specs.Allows.{has_valid_ingress, allows_dial}
use Rattle.p2p_discovery_directory.specs.AsLookup.{lookup_calls}
use Rattle.p2p_discovery_directory.specs.Infos.{info_of}
use Rattle.p2p_discovery_directory.specs.Reserved.{peer_of}
use Rattle.p2p_discovery_directory.specs.Plain.{Plain, info_in, info_at, allowed_in, dialed_at, Represents}

-- ---- a dial is a listen of the same key

module _ {P : Type 0} {cmp : P → P → Ordering} {kept : Kept P} {calls : List (LookupCall P)} (p : P) (at jitter : ℕ) where
  as_dial : (granted : Bool) → StandsFor cmp kept (asked.Listen p at jitter granted ∷ calls) → StandsFor cmp kept (asked.Dial p at jitter granted ∷ calls)
  unfolding record_of kept_sets accepted_sets is_tracked primary_sets secondary_sets is_held is_connected is_stale address_of last_grant block_of
  as_dial granted s = record { sets = s.sets; latest = s.latest; records = s.records; blocks = s.blocks; ordered = s.ordered; addressed = s.addressed }

module _ {P : Type 0} {cmp : P → P → Ordering} {after : Kept P} (calls : List (Call P)) (p : P) (at jitter : ℕ) where
  pub as-dial : (granted : Bool) → StandsFor cmp after (asked.Listen p at jitter granted ∷ lookup_calls calls) → StandsFor cmp after (lookup_calls (call.Dial p at jitter granted ∷ calls))
  unfolding lookup_calls
  as-dial granted s = as_dial p at jitter granted s

  -- one that is refused changes nothing
  pub as-refused : (o : IsTotalOrder cmp) → StandsFor cmp after (lookup_calls calls) → StandsFor cmp after (lookup_calls (call.Dial p at jitter false ∷ calls))
  unfolding lookup_calls
  as-refused o s = stands-refused_dial o s p at jitter

-- ---- truth values

never_granted : (other tracked unblocked free cooled primary valid : Bool) → ((other && primary && free) && valid) ≡ false → false ≡ (((other && tracked && unblocked) && free) && cooled && primary && valid)
never_granted false tracked unblocked free cooled primary valid e = refl
never_granted true false unblocked free cooled primary valid e = refl
never_granted true true false free cooled primary valid e = refl
never_granted true true true false cooled primary valid e = refl
never_granted true true true true false primary valid e = refl
never_granted true true true true true false valid e = refl
never_granted true true true true true true valid e = sym e

granted_by : (free cooled other primary unheld valid : Bool) → ((other && primary && unheld) && valid) ≡ true → (free && cooled) ≡ (free && cooled && primary && valid)
granted_by false cooled other primary unheld valid e = refl
granted_by true false other primary unheld valid e = refl
granted_by true true false primary unheld valid e = absurd (false≢true e)
granted_by true true true false unheld valid e = absurd (false≢true e)
granted_by true true true true false valid e = absurd (false≢true e)
granted_by true true true true true valid e = sym e

some_if : (b : Bool) (n : ℕ) → is_some (cond b (Some n) None) ≡ b
some_if true n = refl
some_if false n = refl

some_allowed : {P : Type 0} (private dns : Bool) (o : Option (Info P)) → is_some (allowed_in private dns o) ≡ has_valid_ingress private dns o
some_allowed private dns None = refl
some_allowed private dns (Some i) = at (is_valid private dns i.ingress)
  where
    at : (b : Bool) → is_some (cond b (Some i.ingress) None) ≡ b
    at true = refl
    at false = refl

some_both : {X : Type 0} (b : Bool) (o : Option X) → is_some (cond b o None) ≡ (b && is_some o)
some_both true o = refl
some_both false o = refl

first_of : (a b : Bool) → (a && b) ≡ true → a ≡ true
first_of true b e = refl
first_of false b e = e

not_so : (b : Bool) → not b ≡ true → b ≡ false
not_so true e = sym e
not_so false e = refl

-- ---- by the calls

module _ {P : Type 0} {cmp : P → P → Ordering} {d : Plain P} {calls : List (Call P)} (s : Represents cmp d calls) (q : P) where
  other_info : is_local cmp d.peers.rules q ≡ false → info_in (lookup (is_at (cmp q)) d.places) ≡ info_of cmp d.peers.rules d.own calls q
  other_info other = ap (λ b. cond b (Some d.own) (info_in (lookup (is_at (cmp q)) d.places))) (sym other) ∙ s.infos q

  waits_by : is_some (waits_from_in (lookup (is_at (cmp q)) d.peers.records))
      ≡ (not (is_local cmp d.peers.rules q) && is_primary cmp d.peers.rules (lookup_calls calls) q && not (is_held cmp (lookup_calls calls) q))
  waits_by =
      ap is_some (waits-known s.peers q)
      ∙ some_if (not (is_local cmp d.peers.rules q) && is_primary cmp d.peers.rules (lookup_calls calls) q && not (is_held cmp (lookup_calls calls) q)) (next_dial cmp d.peers.rules (lookup_calls calls) q)

  -- another key that is primary and not held, and whose info may be dialed
  pub dialed-by : is_some (dialed_at cmp d q)
      ≡ ((not (is_local cmp d.peers.rules q) && is_primary cmp d.peers.rules (lookup_calls calls) q && not (is_held cmp (lookup_calls calls) q))
      && has_valid_ingress d.peers.rules.private d.peers.rules.dns (info_of cmp d.peers.rules d.own calls q))
  dialed-by =
      let place = info_in (lookup (is_at (cmp q)) d.places) in
      let valid = λ (x : Option (Info P)). has_valid_ingress d.peers.rules.private d.peers.rules.dns x in
      some_both (is_some (waits_from_in (lookup (is_at (cmp q)) d.peers.records))) (allowed_in d.peers.rules.private d.peers.rules.dns place)
      ∙ (ap (λ b. b && is_some (allowed_in d.peers.rules.private d.peers.rules.dns place)) waits_by
      ∙ (ap (λ v. (not (is_local cmp d.peers.rules q) && is_primary cmp d.peers.rules (lookup_calls calls) q && not (is_held cmp (lookup_calls calls) q)) && v) (some_allowed d.peers.rules.private d.peers.rules.dns place)
      ∙ at (is_local cmp d.peers.rules q) refl))
    where
      at : (local : Bool) → is_local cmp d.peers.rules q ≡ local
          → ((not (is_local cmp d.peers.rules q) && is_primary cmp d.peers.rules (lookup_calls calls) q && not (is_held cmp (lookup_calls calls) q))
          && has_valid_ingress d.peers.rules.private d.peers.rules.dns (info_in (lookup (is_at (cmp q)) d.places)))
          ≡ ((not (is_local cmp d.peers.rules q) && is_primary cmp d.peers.rules (lookup_calls calls) q && not (is_held cmp (lookup_calls calls) q))
          && has_valid_ingress d.peers.rules.private d.peers.rules.dns (info_of cmp d.peers.rules d.own calls q))
      at true local = rw local refl
      at false other =
          ap (λ x. (not (is_local cmp d.peers.rules q) && is_primary cmp d.peers.rules (lookup_calls calls) q && not (is_held cmp (lookup_calls calls) q)) && has_valid_ingress d.peers.rules.private d.peers.rules.dns x) (other_info other)

  pub dial-never : (t : ℕ) → dialed_at cmp d q ≡ None → false ≡ allows_dial cmp d.peers.rules d.own calls q t
  dial-never t none =
      never_granted (not (is_local cmp d.peers.rules q)) (is_tracked cmp d.peers.rules (lookup_calls calls) q) (not (is_blocked cmp d.peers.rules (lookup_calls calls) q t)) (not (is_held cmp (lookup_calls calls) q))
      (not (nat_lt t (cool cmp d.peers.rules (lookup_calls calls) q))) (is_primary cmp d.peers.rules (lookup_calls calls) q)
      (has_valid_ingress d.peers.rules.private d.peers.rules.dns (info_of cmp d.peers.rules d.own calls q)) (sym dialed-by ∙ ap is_some none)

  pub dial-free : (t : ℕ) (i : Ingress) → dialed_at cmp d q ≡ Some i
      → (facts.is_free cmp d.peers.rules (lookup_calls calls) q t && not (nat_lt t (cool cmp d.peers.rules (lookup_calls calls) q))) ≡ allows_dial cmp d.peers.rules d.own calls q t
  dial-free t i some =
      granted_by (facts.is_free cmp d.peers.rules (lookup_calls calls) q t) (not (nat_lt t (cool cmp d.peers.rules (lookup_calls calls) q))) (not (is_local cmp d.peers.rules q))
      (is_primary cmp d.peers.rules (lookup_calls calls) q) (not (is_held cmp (lookup_calls calls) q))
      (has_valid_ingress d.peers.rules.private d.peers.rules.dns (info_of cmp d.peers.rules d.own calls q)) (sym dialed-by ∙ ap is_some some)

  -- the reservation tells where its peer said that it is dialed
  pub dial-ingress : (i : Ingress) → dialed_at cmp d q ≡ Some i → option_map (λ x. side.Dialer q x.ingress) (info_of cmp d.peers.rules d.own calls q) ≡ Some (side.Dialer q i)
  dial-ingress i some =
      ap (option_map (λ x. side.Dialer q x.ingress)) (sym (other_info other)) ∙ at (info_in (lookup (is_at (cmp q)) d.places)) there
    where
      is_waiting : (b : Bool) (o : Option Ingress) → cond b o None ≡ Some i → b ≡ true
      is_waiting true o e = refl
      is_waiting false o e = absurd (false≢true (ap is_some e))

      from_if : (b : Bool) (o : Option Ingress) → cond b o None ≡ Some i → o ≡ Some i
      from_if true o e = e
      from_if false o e = absurd (false≢true (ap is_some e))

      there : allowed_in d.peers.rules.private d.peers.rules.dns (info_in (lookup (is_at (cmp q)) d.places)) ≡ Some i
      there = from_if (is_some (waits_from_in (lookup (is_at (cmp q)) d.peers.records))) (allowed_in d.peers.rules.private d.peers.rules.dns (info_in (lookup (is_at (cmp q)) d.places))) some

      other : is_local cmp d.peers.rules q ≡ false
      other =
          not_so (is_local cmp d.peers.rules q)
          (first_of (not (is_local cmp d.peers.rules q)) (is_primary cmp d.peers.rules (lookup_calls calls) q)
          (first_of (not (is_local cmp d.peers.rules q) && is_primary cmp d.peers.rules (lookup_calls calls) q) (not (is_held cmp (lookup_calls calls) q))
          (sym waits_by ∙ is_waiting (is_some (waits_from_in (lookup (is_at (cmp q)) d.peers.records))) (allowed_in d.peers.rules.private d.peers.rules.dns (info_in (lookup (is_at (cmp q)) d.places))) some)))

      at : (x : Option (Info P)) → allowed_in d.peers.rules.private d.peers.rules.dns x ≡ Some i → option_map (λ y. side.Dialer q y.ingress) x ≡ Some (side.Dialer q i)
      at None e = absurd (false≢true (ap is_some e))
      at (Some y) e = ap (option_map (λ z. side.Dialer q z)) (from_if (is_valid d.peers.rules.private d.peers.rules.dns y.ingress) (Some y.ingress) e)

module _ {P : Type 0} (cmp : P → P → Ordering) (d : Plain P) (q : P) (i : Ingress) where
  pub dial-told : (o : Option (Metadata P)) → dialed_at cmp d q ≡ Some i → IfSome o (λ g. g ≡ side.Dialer q i)
      → IfSome o (λ g. (calls : List (Call P)) → Represents cmp d calls → option_map (λ x. side.Dialer q x.ingress) (info_of cmp d.peers.rules d.own calls q) ≡ Some g)
  dial-told None e h = tt
  dial-told (Some g) e h = λ calls s. dial-ingress s q i e ∙ ap (λ x. Some x) (sym h)

pub peer-told : {P : Type 0} (q : P) (i : Ingress) (o : Option (Metadata P)) → IfSome o (λ g. g ≡ side.Dialer q i) → IfSome o (λ g. peer_of g ≡ q)
peer-told q i None h = tt
peer-told q i (Some g) h = ap peer_of h

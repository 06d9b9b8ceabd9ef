-- Whom a plain directory lists is what the calls tell, where equal keys are one.
use Rattle.std.proofs.Common.{◌≡◌, ℕ, Bool, true, false, cond, ◌&&◌, ◌||◌, not, List, [], ◌∷◌, Option, Some, None, refl, sym, ap, ◌∙◌}
use Rattle.std.proofs.lemmas.Bool.{false≢true}
use Rattle.std.proofs.lemmas.Cmp.{eq_by_cmp_equiv}
use Rattle.std.specs.Prelude.{is_some, nat_lt}
use Rattle.std.specs.List.{list_any, filter}
use Rattle.std.specs.List.Sorted.{IsStrictlySortedBy}
use Rattle.std.specs.Cmp.{IsTotalOrder}
use Rattle.std.specs.Map.{lookup, keys_of}
use Rattle.std.specs.BTreeMap.{is_at}
use Rattle.std.specs.declared.cmp.Ordering.{Ordering}
use Rattle.p2p_base.specs.Moments.{is_moment}
use Rattle.p2p_discovery.specs.declared.info.Info.{Info}
use Rattle.p2p_tracker_calls.specs.Blocks.{is_local, lasts_at, is_blocked, block_of}
use Rattle.p2p_tracker_calls.specs.DialList.{comes_by, earliest}
use Rattle.p2p_tracker_calls.specs.Grants.{is_held}
use Rattle.p2p_tracker_calls.specs.Lives.{is_alive, next_dial}
use Rattle.p2p_tracker_calls.specs.Named.{named_keys, all_names, EqualKeysAreOne}
use Rattle.p2p_tracker_calls.specs.Sets.{is_among, is_primary}
use Rattle.p2p_tracker_calls.proofs.Named.{among-named, keys-exact}
use Rattle.p2p_tracker_calls.proofs.Naming.{primary-named, alive-named}
use Rattle.p2p_tracker_directory.specs.Tracked.{passes}
use Rattle.p2p_tracker_directory.specs.declared.directory.dials.Dialable.{Dialable}
use Rattle.p2p_tracker_directory.specs.Waiting.{waits_from_in, next_dial_of}
use Rattle.p2p_tracker_directory.proofs.Dialing.{moment_is}
use Rattle.p2p_tracker_directory.proofs.Entries.{among-listed}
use Rattle.p2p_tracker_directory.proofs.Exact.{moments-same, if_some}
use Rattle.p2p_tracker_directory.proofs.Found.{any-entries, entries-any, sorted-filter, earliest-given, earliest-comes}
use Rattle.p2p_tracker_directory.proofs.Waits.{waits-known}
use Rattle.p2p_discovery_directory.specs.declared.call.Call.{Call}
use Rattle.p2p_discovery_directory.specs.Allows.{has_valid_ingress}
use Rattle.p2p_discovery_directory.specs.AsLookup.{lookup_calls}
use Rattle.p2p_discovery_directory.specs.DialList.{is_target, is_dialable, next_query, dialable_keys, query_again_at}
use Rattle.p2p_discovery_directory.specs.Infos.{info_of}
use Rattle.p2p_discovery_directory.specs.Listed.{has_come, to_come, waits_at, is_barred, is_listed_at, asks_at, listed_keys, asks_again}
use Rattle.p2p_discovery_directory.specs.Plain.{Plain, info_in, Represents, IsPlain}
use Rattle.p2p_discovery_directory.proofs.Forgetting.{knows-alive}
use Rattle.p2p_discovery_directory.proofs.Places.{lookup-equal}

abbrev pub dial_list : {P : Type 0} → List P → Option ℕ → Dialable P
dial_list peers next = record { peers = peers; next_query_at = next }

-- ---- truth values and moments

none_come : (barred valid : Bool) (t : ℕ) → (not barred && has_come t (cond valid None None)) ≡ false
none_come true valid t = refl
none_come false true t = refl
none_come false false t = refl

listed_as : (local primary free valid allowed barred : Bool) (n t : ℕ) → (local ≡ false → valid ≡ allowed)
    → (not barred && has_come t (cond valid (cond (not local && primary && free) (Some n) None) None)) ≡ ((not local && primary && free && allowed) && not barred && not (nat_lt t n))
listed_as true primary free valid allowed barred n t h = none_come barred valid t
listed_as false false free valid allowed barred n t h = none_come barred valid t
listed_as false true false valid allowed barred n t h = none_come barred valid t
listed_as false true true valid allowed barred n t h = ap (λ v. not barred && has_come t (cond v (Some n) None)) (h refl) ∙ at allowed barred
  where
    at : (v u : Bool) → (not u && has_come t (cond v (Some n) None)) ≡ (v && not u && not (nat_lt t n))
    at false true = refl
    at false false = refl
    at true true = refl
    at true false = refl

none_to_come : (valid : Bool) (t : ℕ) → to_come t (cond valid None None) ≡ None
none_to_come true t = refl
none_to_come false t = refl

asks_as : (local alive primary free valid allowed barred : Bool) (block : Option ℕ) (n t : ℕ) → (local ≡ false → alive ≡ true) → (local ≡ false → valid ≡ allowed)
    → cond barred (cond local None block) (to_come t (cond valid (cond (not local && primary && free) (Some n) None) None))
    ≡ cond barred (cond (not local && alive) block None) (cond ((not local && primary && free && allowed) && nat_lt t n) (Some n) None)
asks_as true alive primary free valid allowed true block n t h v = refl
asks_as false alive primary free valid allowed true block n t h v = sym (ap (λ a. cond a block None) (h refl))
asks_as true alive primary free valid allowed false block n t h v = none_to_come valid t
asks_as false alive false free valid allowed false block n t h v = none_to_come valid t
asks_as false alive true false valid allowed false block n t h v = none_to_come valid t
asks_as false alive true true valid allowed false block n t h v = ap (λ x. to_come t (cond x (Some n) None)) (v refl) ∙ at allowed
  where
    at : (x : Bool) → to_come t (cond x (Some n) None) ≡ cond (x && nat_lt t n) (Some n) None
    at false = refl
    at true = refl

-- nothing is asked of a key without a record
unasked : (local alive target barred : Bool) (block : Option ℕ) (n t : ℕ) → (local ≡ false → alive ≡ false) → target ≡ false
    → None ≡ cond barred (cond (not local && alive) block None) (cond (target && nat_lt t n) (Some n) None)
unasked true alive target true block n t h e = refl
unasked false alive target true block n t h e = sym (ap (λ a. cond a block None) (h refl))
unasked local alive target false block n t h e = sym (ap (λ x. cond (x && nat_lt t n) (Some n) None) e)

no_target : (local primary free valid : Bool) → (local ≡ false → valid ≡ false) → (not local && primary && free && valid) ≡ false
no_target true primary free valid h = refl
no_target false false free valid h = refl
no_target false true false valid h = refl
no_target false true true valid h = h refl

unlisted : (target barred : Bool) (n t : ℕ) → target ≡ false → false ≡ (target && not barred && not (nat_lt t n))
unlisted true barred n t e = absurd (false≢true (sym e))
unlisted false barred n t e = refl

-- a key that stands in a list and passes, and one that does
module _ {P : Type 0} (test : P → Bool) where
  any_among : (cmp : P → P → Ordering) → EqualKeysAreOne cmp → (ks : List P) (q : P) → is_among cmp ks q ≡ true → test q ≡ true → list_any test ks ≡ true
  any_among cmp one [] q h e = absurd (false≢true h)
  any_among cmp one (k ∷ ks) q h e = at (is_at (cmp k) q) refl h (λ i. any_among cmp one ks q i e)
    where
      first : (a b : Bool) → a ≡ true → (a || b) ≡ true
      first true b g = refl
      first false b g = absurd (false≢true g)

      last : (a b : Bool) → b ≡ true → (a || b) ≡ true
      last true b g = refl
      last false b g = g

      at : (b : Bool) → is_at (cmp k) q ≡ b → (b || is_among cmp ks q) ≡ true → (is_among cmp ks q ≡ true → list_any test ks ≡ true) → (test k || list_any test ks) ≡ true
      at true c g i = first (test k) (list_any test ks) (ap test (one k q c) ∙ e)
      at false c g i = last (test k) (list_any test ks) (i g)

  any_found : (ks : List P) → list_any test ks ≡ true → (q : P) × (test q ≡ true)
  any_found [] h = absurd (false≢true h)
  any_found (k ∷ ks) h = at (test k) refl h (any_found ks)
    where
      at : (b : Bool) → test k ≡ b → (b || list_any test ks) ≡ true → (list_any test ks ≡ true → (q : P) × (test q ≡ true)) → (q : P) × (test q ≡ true)
      at true e g i = (k, e)
      at false e g i = i g

first_of : (a b : Bool) → (a && b) ≡ true → a ≡ true
first_of true b e = refl
first_of false b e = e

last_of : (a b : Bool) → (a && b) ≡ true → b ≡ true
last_of true b e = e
last_of false b e = absurd (false≢true e)

query_from : {Q : Type 0} (blocked other alive target waits : Bool) (end : Option ℕ) (n : ℕ)
    → is_some (cond blocked (cond (other && alive) end None) (cond (target && waits) (Some n) None)) ≡ true → (alive ≡ true → Q) → (target ≡ true → Q) → Q
query_from true true true target waits end n h f g = f refl
query_from true true false target waits end n h f g = absurd (false≢true h)
query_from true false alive target waits end n h f g = absurd (false≢true h)
query_from false other alive true waits end n h f g = g refl
query_from false other alive false waits end n h f g = absurd (false≢true h)

module _ {P : Type 0} {cmp : P → P → Ordering} (o : IsTotalOrder cmp) {d : Plain P} {calls : List (Call P)} (i : IsPlain cmp d) (s : Represents cmp d calls) (t : ℕ) where
  -- equal keys are listed alike
  listed_alike : (p q : P) (x : Option (Info P)) → is_at (cmp p) q ≡ true → is_listed_at cmp d.peers t p x ≡ is_listed_at cmp d.peers t q x
  listed_alike p q x h =
      ap (λ b. not (lasts_at b t) && has_come t (waits_at cmp d.peers p x)) (lookup-equal o p q h d.peers.blocks)
      ∙ ap (λ r. not (is_barred cmp d.peers t q) && has_come t (cond (has_valid_ingress d.peers.rules.private d.peers.rules.dns x) (waits_from_in r) None)) (lookup-equal o p q h d.peers.records)

  asks_alike : (p q : P) (x : Option (Info P)) → is_at (cmp p) q ≡ true → asks_at cmp d.peers t p x ≡ asks_at cmp d.peers t q x
  asks_alike p q x h =
      ap (λ b. cond (lasts_at b t) (cond (is_local cmp d.peers.rules p) None b) (to_come t (waits_at cmp d.peers p x))) (lookup-equal o p q h d.peers.blocks)
      ∙ (ap (λ l. cond (is_barred cmp d.peers t q) (cond l None (lookup (is_at (cmp q)) d.peers.blocks)) (to_come t (waits_at cmp d.peers p x))) (same_local p q h)
      ∙ ap (λ r. cond (is_barred cmp d.peers t q) (cond (is_local cmp d.peers.rules q) None (lookup (is_at (cmp q)) d.peers.blocks)) (to_come t (cond (has_valid_ingress d.peers.rules.private d.peers.rules.dns x) (waits_from_in r) None)))
      (lookup-equal o p q h d.peers.records))
    where
      same_local : (p q : P) → is_at (cmp p) q ≡ true → is_local cmp d.peers.rules p ≡ is_local cmp d.peers.rules q
      same_local p q h =
          (eq_by_cmp_equiv o).symm d.peers.rules.local p ∙ ((eq_by_cmp_equiv o).congr p q d.peers.rules.local h ∙ (eq_by_cmp_equiv o).symm q d.peers.rules.local)

  barred_by : (q : P) → is_barred cmp d.peers t q ≡ is_blocked cmp d.peers.rules (lookup_calls calls) q t
  barred_by q = ap (λ b. lasts_at b t) (s.peers.blocks q)

  -- what is kept of another key is what is at its place
  info_at_place : (q : P) → is_local cmp d.peers.rules q ≡ false → info_in (lookup (is_at (cmp q)) d.places) ≡ info_of cmp d.peers.rules d.own calls q
  info_at_place q other = ap (λ b. cond b (Some d.own) (info_in (lookup (is_at (cmp q)) d.places))) (sym other) ∙ s.infos q

  -- another key has a place exactly where it has a record
  placed_by : (q : P) → is_local cmp d.peers.rules q ≡ false → is_some (lookup (is_at (cmp q)) d.places) ≡ is_alive cmp d.peers.rules (lookup_calls calls) q
  placed_by q other = i.placed q other ∙ (sym (knows-alive i.stands.peers q other) ∙ knows-alive s.peers q other)

  module _ (q : P) where
    waits_by : waits_from_in (lookup (is_at (cmp q)) d.peers.records)
        ≡ cond (not (is_local cmp d.peers.rules q) && is_primary cmp d.peers.rules (lookup_calls calls) q && not (is_held cmp (lookup_calls calls) q)) (Some (next_dial cmp d.peers.rules (lookup_calls calls) q)) None
    waits_by = waits-known s.peers q

    valid_by : (x : Option (Info P)) → lookup (is_at (cmp q)) d.places ≡ Some x → is_local cmp d.peers.rules q ≡ false
        → has_valid_ingress d.peers.rules.private d.peers.rules.dns x ≡ has_valid_ingress d.peers.rules.private d.peers.rules.dns (info_of cmp d.peers.rules d.own calls q)
    valid_by x e other = ap (has_valid_ingress d.peers.rules.private d.peers.rules.dns) (sym (ap info_in e) ∙ info_at_place q other)

    no_info : lookup (is_at (cmp q)) d.places ≡ None → is_local cmp d.peers.rules q ≡ false → has_valid_ingress d.peers.rules.private d.peers.rules.dns (info_of cmp d.peers.rules d.own calls q) ≡ false
    no_info e other = ap (has_valid_ingress d.peers.rules.private d.peers.rules.dns) (sym (info_at_place q other) ∙ ap info_in e)

    listed_key : (place : Option (Option (Info P))) → lookup (is_at (cmp q)) d.places ≡ place → passes (is_listed_at cmp d.peers t q) place ≡ is_dialable cmp d.peers.rules d.own calls q t
    listed_key None e =
        unlisted (is_target cmp d.peers.rules d.own calls q) (is_blocked cmp d.peers.rules (lookup_calls calls) q t) (next_dial cmp d.peers.rules (lookup_calls calls) q) t
        (no_target (is_local cmp d.peers.rules q) (is_primary cmp d.peers.rules (lookup_calls calls) q) (not (is_held cmp (lookup_calls calls) q))
        (has_valid_ingress d.peers.rules.private d.peers.rules.dns (info_of cmp d.peers.rules d.own calls q)) (no_info e))
    listed_key (Some x) e =
        ap (λ w. not (is_barred cmp d.peers t q) && has_come t (cond (has_valid_ingress d.peers.rules.private d.peers.rules.dns x) w None)) waits_by
        ∙ (ap (λ b. not b && has_come t (cond (has_valid_ingress d.peers.rules.private d.peers.rules.dns x)
        (cond (not (is_local cmp d.peers.rules q) && is_primary cmp d.peers.rules (lookup_calls calls) q && not (is_held cmp (lookup_calls calls) q)) (Some (next_dial cmp d.peers.rules (lookup_calls calls) q)) None) None)) (barred_by q)
        ∙ listed_as (is_local cmp d.peers.rules q) (is_primary cmp d.peers.rules (lookup_calls calls) q) (not (is_held cmp (lookup_calls calls) q)) (has_valid_ingress d.peers.rules.private d.peers.rules.dns x)
        (has_valid_ingress d.peers.rules.private d.peers.rules.dns (info_of cmp d.peers.rules d.own calls q)) (is_blocked cmp d.peers.rules (lookup_calls calls) q t) (next_dial cmp d.peers.rules (lookup_calls calls) q) t (valid_by x e))

    asked_key : (n : ℕ) (place : Option (Option (Info P))) → lookup (is_at (cmp q)) d.places ≡ place → passes (λ x. is_moment (asks_at cmp d.peers t q x) n) place ≡ is_moment (next_query cmp d.peers.rules d.own calls q t) n
    asked_key n None e =
        ap (λ m. is_moment m n)
        (unasked (is_local cmp d.peers.rules q) (is_alive cmp d.peers.rules (lookup_calls calls) q) (is_target cmp d.peers.rules d.own calls q) (is_blocked cmp d.peers.rules (lookup_calls calls) q t)
        (block_of cmp d.peers.rules (lookup_calls calls) q) (next_dial cmp d.peers.rules (lookup_calls calls) q) t (λ other. sym (placed_by q other) ∙ ap is_some e)
        (no_target (is_local cmp d.peers.rules q) (is_primary cmp d.peers.rules (lookup_calls calls) q) (not (is_held cmp (lookup_calls calls) q))
        (has_valid_ingress d.peers.rules.private d.peers.rules.dns (info_of cmp d.peers.rules d.own calls q)) (no_info e)))
    asked_key n (Some x) e =
        let nd = next_dial cmp d.peers.rules (lookup_calls calls) q in
        let waits = cond (not (is_local cmp d.peers.rules q) && is_primary cmp d.peers.rules (lookup_calls calls) q && not (is_held cmp (lookup_calls calls) q)) (Some nd) None in
        ap (λ m. is_moment m n)
        (ap (λ w. cond (is_barred cmp d.peers t q) (cond (is_local cmp d.peers.rules q) None (lookup (is_at (cmp q)) d.peers.blocks)) (to_come t (cond (has_valid_ingress d.peers.rules.private d.peers.rules.dns x) w None))) waits_by
        ∙ (ap (λ b. cond b (cond (is_local cmp d.peers.rules q) None (lookup (is_at (cmp q)) d.peers.blocks)) (to_come t (cond (has_valid_ingress d.peers.rules.private d.peers.rules.dns x) waits None))) (barred_by q)
        ∙ (ap (λ b. cond (is_blocked cmp d.peers.rules (lookup_calls calls) q t) (cond (is_local cmp d.peers.rules q) None b) (to_come t (cond (has_valid_ingress d.peers.rules.private d.peers.rules.dns x) waits None))) (s.peers.blocks q)
        ∙ asks_as (is_local cmp d.peers.rules q) (is_alive cmp d.peers.rules (lookup_calls calls) q) (is_primary cmp d.peers.rules (lookup_calls calls) q) (not (is_held cmp (lookup_calls calls) q))
        (has_valid_ingress d.peers.rules.private d.peers.rules.dns x) (has_valid_ingress d.peers.rules.private d.peers.rules.dns (info_of cmp d.peers.rules d.own calls q)) (is_blocked cmp d.peers.rules (lookup_calls calls) q t)
        (block_of cmp d.peers.rules (lookup_calls calls) q) nd t (λ other. sym (placed_by q other) ∙ ap is_some e) (valid_by x e))))

    -- who is listed, or asked, is named
    target_named : is_target cmp d.peers.rules d.own calls q ≡ true → is_among cmp (all_names (lookup_calls calls)) q ≡ true
    target_named h = primary-named cmp d.peers.rules q (lookup_calls calls)
        (last_of (not (is_local cmp d.peers.rules q)) (is_primary cmp d.peers.rules (lookup_calls calls) q)
        (first_of (not (is_local cmp d.peers.rules q) && is_primary cmp d.peers.rules (lookup_calls calls) q) (not (is_held cmp (lookup_calls calls) q))
        (first_of (not (is_local cmp d.peers.rules q) && is_primary cmp d.peers.rules (lookup_calls calls) q && not (is_held cmp (lookup_calls calls) q))
        (has_valid_ingress d.peers.rules.private d.peers.rules.dns (info_of cmp d.peers.rules d.own calls q)) h)))

    listed_named : is_dialable cmp d.peers.rules d.own calls q t ≡ true → is_among cmp (all_names (lookup_calls calls)) q ≡ true
    listed_named h = target_named
        (first_of (is_target cmp d.peers.rules d.own calls q) (not (is_blocked cmp d.peers.rules (lookup_calls calls) q t))
        (first_of (is_target cmp d.peers.rules d.own calls q && not (is_blocked cmp d.peers.rules (lookup_calls calls) q t)) (not (nat_lt t (next_dial cmp d.peers.rules (lookup_calls calls) q))) h))

    asked_named : is_some (next_query cmp d.peers.rules d.own calls q t) ≡ true → is_among cmp (all_names (lookup_calls calls)) q ≡ true
    asked_named h =
        query_from (is_blocked cmp d.peers.rules (lookup_calls calls) q t) (not (is_local cmp d.peers.rules q)) (is_alive cmp d.peers.rules (lookup_calls calls) q) (is_target cmp d.peers.rules d.own calls q)
        (nat_lt t (next_dial cmp d.peers.rules (lookup_calls calls) q)) (block_of cmp d.peers.rules (lookup_calls calls) q) (next_dial cmp d.peers.rules (lookup_calls calls) q) h
        (alive-named cmp d.peers.rules q (lookup_calls calls)) target_named

  module _ (one : EqualKeysAreOne cmp) (ordered : IsStrictlySortedBy cmp (keys_of d.places)) where
    pub listed-exact : listed_keys cmp d.peers t d.places ≡ dialable_keys cmp d.peers.rules d.own calls t
    listed-exact =
        keys-exact o one (λ q. is_dialable cmp d.peers.rules d.own calls q t) (lookup_calls calls) (listed_keys cmp d.peers t d.places)
        (sorted-filter cmp (λ e. is_listed_at cmp d.peers t e.0 e.1) d.places ordered)
        (λ q. among-listed o (λ p x. is_listed_at cmp d.peers t p x) q d.places (listed_keys cmp d.peers t d.places) ordered (λ p x h. listed_alike p q x h) refl ∙ listed_key q (lookup (is_at (cmp q)) d.places) refl)
        listed_named

    pub asked-exact : asks_again cmp d.peers t d.places ≡ query_again_at cmp d.peers.rules d.own calls t
    asked-exact =
        let kept = asks_again cmp d.peers t d.places in
        let told = query_again_at cmp d.peers.rules d.own calls t in
        moments-same kept told
        (if_some kept (λ n. comes_by told n ≡ true) (λ n e.
        let found = entries-any o (λ p x. is_moment (asks_at cmp d.peers t p x) n) d.places ordered (earliest-given (λ x. asks_at cmp d.peers t x.0 x.1) d.places n e) in
        let moment : is_moment (next_query cmp d.peers.rules d.own calls found.0 t) n ≡ true = sym (asked_key found.0 n (lookup (is_at (cmp found.0)) d.places) refl) ∙ found.1 in
        earliest-comes (λ q. next_query cmp d.peers.rules d.own calls q t) (named_keys cmp (lookup_calls calls)) n
        (any_among (λ q. is_moment (next_query cmp d.peers.rules d.own calls q t) n) cmp one (named_keys cmp (lookup_calls calls)) found.0
        (among-named o (lookup_calls calls) found.0 ∙ asked_named found.0 (ap is_some (moment_is (next_query cmp d.peers.rules d.own calls found.0 t) n moment))) moment)))
        (if_some told (λ n. comes_by kept n ≡ true) (λ n e.
        let found = any_found (λ q. is_moment (next_query cmp d.peers.rules d.own calls q t) n) (named_keys cmp (lookup_calls calls)) (earliest-given (λ q. next_query cmp d.peers.rules d.own calls q t) (named_keys cmp (lookup_calls calls)) n e) in
        earliest-comes (λ x. asks_at cmp d.peers t x.0 x.1) d.places n
        (any-entries cmp (λ p x. is_moment (asks_at cmp d.peers t p x) n) found.0 d.places (λ k x h. ap (λ m. is_moment m n) (asks_alike found.0 k x h))
        (asked_key found.0 n (lookup (is_at (cmp found.0)) d.places) refl ∙ found.1))))

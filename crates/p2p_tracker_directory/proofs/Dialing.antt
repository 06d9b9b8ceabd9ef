-- Whom a directory lists for a dial, when to ask it again, and where peers come from, as the calls tell.
use Rattle.std.proofs.Common.{◌≡◌, ℕ, Bool, true, false, cond, ◌&&◌, ◌||◌, not, List, Option, Some, None, refl, sym, ap, ◌∙◌, filter_map}
use Rattle.std.proofs.lemmas.Bool.{false≢true, eqb-true, eq-eqb}
use Rattle.std.specs.Prelude.{is_some, nat_lt}
use Rattle.std.specs.List.{filter}
use Rattle.std.specs.List.Sorted.{IsStrictlySortedBy}
use Rattle.std.specs.Option.{option_map, IfSome}
use Rattle.std.specs.Cmp.{IsTotalOrder}
use Rattle.std.specs.Map.{lookup, keys_of}
use Rattle.std.specs.BTreeMap.{is_at}
use Rattle.std.specs.declared.cmp.Ordering.{Ordering}
use Rattle.p2p_address.specs.Addresses.{egress_of, is_global}
use Rattle.p2p_base.specs.Moments.{is_moment}
use Rattle.p2p_address.specs.declared.ip.IpAddr.{IpAddr}
use Rattle.p2p_address.specs.declared.peer.Address.{Address as PeerAddress}
use Rattle.p2p_tracker_calls.specs.declared.call.Call.{Call}
use Rattle.p2p_tracker_calls.specs.Sets.{is_among, is_tracked, is_primary, primary_sets, secondary_sets}
use Rattle.p2p_tracker_calls.specs.Grants.{Grant, is_held}
use Rattle.p2p_tracker_calls.specs.Blocks.{is_local, lasts_at, is_blocked, block_of}
use Rattle.p2p_tracker_calls.specs.Lives.{same_ip, address_of, last_grant, is_stale, is_connected, next_after}
use Rattle.p2p_tracker_calls.specs.Allows as facts
use Rattle.p2p_tracker_calls.specs.Lists.{is_heard_at, is_dialable, next_query, is_listenable}
use Rattle.p2p_tracker_directory.specs.Recorded.{Recorded, is_inert}
use Rattle.p2p_tracker_directory.specs.Stands.{Kept, StandsFor, status_of, record_of}
use Rattle.p2p_tracker_directory.specs.Tracked.{passes}
use Rattle.p2p_tracker_directory.specs.Listed.{heard, heard_in, is_heard, after_block, outlook, outlook_in, is_now, moment_of}
use Rattle.p2p_tracker_calls.specs.DialList.{earliest, comes_by}
use Rattle.p2p_tracker_directory.specs.declared.record.DialStatus.{DialStatus}
use Rattle.p2p_tracker_directory.specs.declared.record.DialStatus.TheVariants as dial
use Rattle.p2p_tracker_directory.proofs.Counts.{is_tracked-counts, is_primary-count}
use Rattle.p2p_tracker_directory.proofs.Entries.{among-listed}
use Rattle.p2p_tracker_directory.proofs.Found.{any-entries, entries-any, is_heard-filter_map, earliest-given, earliest-comes}
use Rattle.p2p_tracker_directory.proofs.Steps.{own, peer}
use Rattle.p2p_tracker_directory.proofs.Written.{lookup_same}

and_false : (b : Bool) → (b && false) ≡ false
and_false true = refl
and_false false = refl

and_true : (b : Bool) → (b && true) ≡ b
and_true true = refl
and_true false = refl

-- nobody is dialed at once whose status is none
quiet : (l : Bool) (block : Option ℕ) → false ≡ is_now (cond l (after_block false block) dial.Unavailable)
quiet true None = refl
quiet true (Some end) = refl
quiet false block = refl

now_turned : (p held joined v l w : Bool) (block : Option ℕ) (next : ℕ)
    → ((((p && not held) && v) && not l) && not w) ≡ is_now (cond l (after_block false block) (cond ((p && is_inert (status_of held joined)) && v) (cond w (dial.After next) dial.Now) dial.Unavailable))
now_turned false held joined v l w block next = quiet l block
now_turned true true true v l w block next = quiet l block
now_turned true true false v l w block next = quiet l block
now_turned true false joined false l w block next = quiet l block
now_turned true false joined true true w None next = refl
now_turned true false joined true true w (Some end) next = refl
now_turned true false joined true false true block next = refl
now_turned true false joined true false false block next = refl

never : (l : Bool) → false ≡ is_now (cond l dial.Unavailable dial.Unavailable)
never true = refl
never false = refl

dialable_step : (local held primary : Bool) (block : Option ℕ) (cooldown n m : ℕ) (joined stale : Bool) (g : Option Grant) (a : Option PeerAddress) (now : ℕ) (private dns : Bool)
    → primary ≡ nat_lt 0 n
    → (((((not local && primary) && not held) && facts.has_valid_ingress private dns a) && not (lasts_at block now)) && not (nat_lt now (next_after cooldown g)))
    ≡ is_now (outlook_in (cond local (Some (own n m)) (option_map (peer cooldown held joined n m stale g) a)) block now private dns)
unfolding peer own
dialable_step true held primary block cooldown n m joined stale g a now private dns p = never (lasts_at block now)
dialable_step false held primary block cooldown n m joined stale g (Some a) now private dns p =
    ap (λ x. (((x && not held) && facts.has_valid_ingress private dns (Some a)) && not (lasts_at block now)) && not (nat_lt now (next_after cooldown g))) p
    ∙ now_turned (nat_lt 0 n) held joined (facts.has_valid_ingress private dns (Some a)) (lasts_at block now) (nat_lt now (next_after cooldown g)) block (next_after cooldown g)
dialable_step false held primary block cooldown n m joined stale g None now private dns p =
    ap (λ x. (x && not (lasts_at block now)) && not (nat_lt now (next_after cooldown g))) (and_false (primary && not held))

-- the moment of a key that isn't a target
waits_not : (l : Bool) (block : Option ℕ) → cond l block None ≡ moment_of (cond l (after_block false block) dial.Unavailable)
waits_not true None = refl
waits_not true (Some end) = refl
waits_not false block = refl

waits_turned : (p held joined v l w : Bool) (block : Option ℕ) (next : ℕ)
    → cond l block (cond (((p && not held) && v) && w) (Some next) None)
    ≡ moment_of (cond l (after_block false block) (cond ((p && is_inert (status_of held joined)) && v) (cond w (dial.After next) dial.Now) dial.Unavailable))
waits_turned false held joined v l w block next = waits_not l block
waits_turned true true true v l w block next = waits_not l block
waits_turned true true false v l w block next = waits_not l block
waits_turned true false joined false l w block next = waits_not l block
waits_turned true false joined true true w None next = refl
waits_turned true false joined true true w (Some end) next = refl
waits_turned true false joined true false true block next = refl
waits_turned true false joined true false false block next = refl

waits_never : (l : Bool) → cond l None None ≡ moment_of (cond l dial.Unavailable dial.Unavailable)
waits_never true = refl
waits_never false = refl

nothing : (l : Bool) → cond {A = Option ℕ} l None None ≡ None
nothing true = refl
nothing false = refl

next_step : (local alive held primary : Bool) (block : Option ℕ) (cooldown n m : ℕ) (joined stale : Bool) (g : Option Grant) (a : Option PeerAddress) (now : ℕ) (private dns : Bool)
    → primary ≡ nat_lt 0 n → (local ≡ false → alive ≡ is_some a)
    → cond (lasts_at block now) (cond (not local && alive) block None)
    (cond ((((not local && primary) && not held) && facts.has_valid_ingress private dns a) && nat_lt now (next_after cooldown g)) (Some (next_after cooldown g)) None)
    ≡ moment_of (outlook_in (cond local (Some (own n m)) (option_map (peer cooldown held joined n m stale g) a)) block now private dns)
unfolding peer own
next_step true alive held primary block cooldown n m joined stale g a now private dns p h = waits_never (lasts_at block now)
next_step false alive held primary block cooldown n m joined stale g (Some a) now private dns p h =
    ap (λ b. cond (lasts_at block now) (cond b block None)
    (cond (((primary && not held) && facts.has_valid_ingress private dns (Some a)) && nat_lt now (next_after cooldown g)) (Some (next_after cooldown g)) None)) (h refl)
    ∙ (ap (λ x. cond (lasts_at block now) block (cond (((x && not held) && facts.has_valid_ingress private dns (Some a)) && nat_lt now (next_after cooldown g)) (Some (next_after cooldown g)) None)) p
    ∙ waits_turned (nat_lt 0 n) held joined (facts.has_valid_ingress private dns (Some a)) (lasts_at block now) (nat_lt now (next_after cooldown g)) block (next_after cooldown g))
next_step false alive held primary block cooldown n m joined stale g None now private dns p h =
    ap (λ b. cond (lasts_at block now) (cond b block None)
    (cond (((primary && not held) && false) && nat_lt now (next_after cooldown g)) (Some (next_after cooldown g)) None)) (h refl)
    ∙ (ap (λ x. cond (lasts_at block now) None (cond (x && nat_lt now (next_after cooldown g)) (Some (next_after cooldown g)) None)) (and_false (primary && not held))
    ∙ nothing (lasts_at block now))

heard_turned : (x blocked allowed : Bool) (ip source : IpAddr)
    → ((x && not blocked) && (same_ip ip source && allowed)) ≡ passes (λ i. same_ip i source) (cond (blocked || not x) None (cond allowed (Some ip) None))
heard_turned true true allowed ip source = refl
heard_turned true false true ip source = and_true (same_ip ip source)
heard_turned true false false ip source = and_false (same_ip ip source)
heard_turned false true allowed ip source = refl
heard_turned false false allowed ip source = refl

unheard : (blocked : Bool) (r : Option IpAddr) (source : IpAddr) → false ≡ passes (λ i. same_ip i source) (cond (blocked || true) None r)
unheard true r source = refl
unheard false r source = refl

listenable_step : (local tracked held blocked : Bool) (cooldown n m : ℕ) (joined stale : Bool) (g : Option Grant) (a : Option PeerAddress) (source : IpAddr) (private : Bool)
    → tracked ≡ (nat_lt 0 n || nat_lt 0 m)
    → ((not local && tracked && not blocked) && is_heard_at private source a)
    ≡ passes (λ i. same_ip i source) (heard_in (cond local (Some (own n m)) (option_map (peer cooldown held joined n m stale g) a)) blocked private)
unfolding peer own
listenable_step true tracked held blocked cooldown n m joined stale g a source private t = unheard blocked None source
listenable_step false tracked held blocked cooldown n m joined stale g (Some a) source private t =
    ap (λ x. (x && not blocked) && is_heard_at private source (Some a)) t
    ∙ heard_turned (nat_lt 0 n || nat_lt 0 m) blocked (private || is_global (egress_of a)) (egress_of a) source
listenable_step false tracked held blocked cooldown n m joined stale g None source private t = and_false (tracked && not blocked)

pub moment_is : (r : Option ℕ) (t : ℕ) → is_moment r t ≡ true → r ≡ Some t
moment_is None t e = absurd (false≢true e)
moment_is (Some u) t e = ap Some (eqb-true u t e)

passes-moment : (r : Option Recorded) (block : Option ℕ) (now n : ℕ) (private dns : Bool)
    → passes (λ s. is_moment (moment_of (outlook s block now private dns)) n) r ≡ is_moment (moment_of (outlook_in r block now private dns)) n
passes-moment None block now n private dns = refl
passes-moment (Some s) block now n private dns = refl

passes-now : (r : Option Recorded) (block : Option ℕ) (now : ℕ) (private dns : Bool)
    → passes (λ s. is_now (outlook s block now private dns)) r ≡ is_now (outlook_in r block now private dns)
passes-now None block now private dns = refl
passes-now (Some s) block now private dns = refl

passes-heard : (r : Option Recorded) (blocked private : Bool) (source : IpAddr)
    → passes (λ s. passes (λ i. same_ip i source) (heard s blocked private)) r ≡ passes (λ i. same_ip i source) (heard_in r blocked private)
passes-heard None blocked private source = refl
passes-heard (Some s) blocked private source = refl

module _ {P : Type 0} {cmp : P → P → Ordering} (o : IsTotalOrder cmp) {kept : Kept P} {calls : List (Call P)} (s : StandsFor cmp kept calls) (t : ℕ) where
  abbrev block_at : P → Option ℕ
  block_at q = lookup (is_at (cmp q)) kept.blocks

  abbrev status_at : P → Recorded → DialStatus
  status_at q r = outlook r (block_at q) t kept.rules.private kept.rules.dns

  same_block : (p q : P) → is_at (cmp p) q ≡ true → block_at p ≡ block_at q
  same_block p q e = lookup_same o p q kept.blocks e

  dialable-key : (q : P) → passes (λ r. is_now (status_at q r)) (lookup (is_at (cmp q)) kept.records) ≡ is_dialable cmp kept.rules calls q t
  unfolding record_of peer own
  dialable-key q =
      passes-now (lookup (is_at (cmp q)) kept.records) (lookup (is_at (cmp q)) kept.blocks) t kept.rules.private kept.rules.dns
      ∙ (ap (λ r. is_now (outlook_in r (lookup (is_at (cmp q)) kept.blocks) t kept.rules.private kept.rules.dns)) (s.records q)
      ∙ (ap (λ b. is_now (outlook_in (record_of cmp kept.rules calls q) b t kept.rules.private kept.rules.dns)) (s.blocks q)
      ∙ sym (dialable_step (is_local cmp kept.rules q) (is_held cmp calls q) (is_primary cmp kept.rules calls q) (block_of cmp kept.rules calls q) kept.rules.cooldown
      (primary_sets cmp kept.rules calls q) (secondary_sets cmp kept.rules calls q) (is_connected cmp kept.rules calls q) (is_stale cmp kept.rules calls q)
      (last_grant cmp kept.rules calls q) (address_of cmp kept.rules calls q) t kept.rules.private kept.rules.dns (is_primary-count cmp kept.rules calls q))))

  next-key : (q : P) → moment_of (outlook_in (lookup (is_at (cmp q)) kept.records) (block_at q) t kept.rules.private kept.rules.dns) ≡ next_query cmp kept.rules calls q t
  unfolding record_of peer own
  next-key q =
      ap (λ r. moment_of (outlook_in r (lookup (is_at (cmp q)) kept.blocks) t kept.rules.private kept.rules.dns)) (s.records q)
      ∙ (ap (λ b. moment_of (outlook_in (record_of cmp kept.rules calls q) b t kept.rules.private kept.rules.dns)) (s.blocks q)
      ∙ sym (next_step (is_local cmp kept.rules q) (is_tracked cmp kept.rules calls q || is_held cmp calls q) (is_held cmp calls q) (is_primary cmp kept.rules calls q)
      (block_of cmp kept.rules calls q) kept.rules.cooldown
      (primary_sets cmp kept.rules calls q) (secondary_sets cmp kept.rules calls q) (is_connected cmp kept.rules calls q) (is_stale cmp kept.rules calls q)
      (last_grant cmp kept.rules calls q) (address_of cmp kept.rules calls q) t kept.rules.private kept.rules.dns (is_primary-count cmp kept.rules calls q) (s.addressed q)))

  heard-key : (q : P) (source : IpAddr)
      → passes (λ r. passes (λ i. same_ip i source) (heard r (lasts_at (block_at q) t) kept.rules.private)) (lookup (is_at (cmp q)) kept.records) ≡ is_listenable cmp kept.rules calls q source t
  unfolding record_of peer own
  heard-key q source =
      passes-heard (lookup (is_at (cmp q)) kept.records) (lasts_at (lookup (is_at (cmp q)) kept.blocks) t) kept.rules.private source
      ∙ (ap (λ r. passes (λ i. same_ip i source) (heard_in r (lasts_at (lookup (is_at (cmp q)) kept.blocks) t) kept.rules.private)) (s.records q)
      ∙ (ap (λ b. passes (λ i. same_ip i source) (heard_in (record_of cmp kept.rules calls q) (lasts_at b t) kept.rules.private)) (s.blocks q)
      ∙ sym (listenable_step (is_local cmp kept.rules q) (is_tracked cmp kept.rules calls q) (is_held cmp calls q) (is_blocked cmp kept.rules calls q t) kept.rules.cooldown
      (primary_sets cmp kept.rules calls q) (secondary_sets cmp kept.rules calls q) (is_connected cmp kept.rules calls q) (is_stale cmp kept.rules calls q)
      (last_grant cmp kept.rules calls q) (address_of cmp kept.rules calls q) source kept.rules.private (is_tracked-counts cmp kept.rules calls q))))

  module _ (ordered : IsStrictlySortedBy cmp (keys_of kept.records)) where
    pub dialable-kept : (k : List P) (q : P) → k ≡ keys_of (filter (λ e. is_now (outlook e.1 (lookup (is_at (cmp e.0)) kept.blocks) t kept.rules.private kept.rules.dns)) kept.records)
        → is_among cmp k q ≡ is_dialable cmp kept.rules calls q t
    dialable-kept k q e =
        among-listed o (λ p r. is_now (status_at p r)) q kept.records k ordered
        (λ p r h. ap (λ b. is_now (outlook r b t kept.rules.private kept.rules.dns)) (same_block p q h)) e
        ∙ dialable-key q

    -- the moment is one that a key has
    pub next-kept : (next : Option ℕ) → next ≡ earliest (λ e. moment_of (outlook e.1 (lookup (is_at (cmp e.0)) kept.blocks) t kept.rules.private kept.rules.dns)) kept.records
        → IfSome next (λ n. (q : P) × (next_query cmp kept.rules calls q t ≡ Some n))
    next-kept None e = tt
    next-kept (Some n) e =
        let found = entries-any o (λ p r. is_moment (moment_of (status_at p r)) n) kept.records ordered
        (earliest-given (λ x. moment_of (status_at x.0 x.1)) kept.records n (sym e)) in (
          found.0,
          sym (next-key found.0) ∙ moment_is (moment_of (outlook_in (lookup (is_at (cmp found.0)) kept.records) (block_at found.0) t kept.rules.private kept.rules.dns)) n
              (sym (passes-moment (lookup (is_at (cmp found.0)) kept.records) (block_at found.0) t n kept.rules.private kept.rules.dns) ∙ found.1),
        )

    -- an address that is heard is a key's
    pub heard_by-kept : (ips : List IpAddr) (source : IpAddr)
        → ips ≡ filter_map (λ e. heard e.1 (lasts_at (lookup (is_at (cmp e.0)) kept.blocks) t) kept.rules.private) kept.records
        → is_heard ips source ≡ true → (q : P) × (is_listenable cmp kept.rules calls q source t ≡ true)
    heard_by-kept ips source e h =
        let found = entries-any o (λ p r. passes (λ i. same_ip i source) (heard r (lasts_at (block_at p) t) kept.rules.private)) kept.records ordered
        (sym (is_heard-filter_map (λ x. heard x.1 (lasts_at (block_at x.0) t) kept.rules.private) source kept.records) ∙ (sym (ap (λ xs. is_heard xs source) e) ∙ h)) in
        (found.0, sym (heard-key found.0 source) ∙ found.1)

  -- and comes by each that a key has
  pub comes-kept : (next : Option ℕ) (q : P) → next ≡ earliest (λ e. moment_of (outlook e.1 (lookup (is_at (cmp e.0)) kept.blocks) t kept.rules.private kept.rules.dns)) kept.records
      → IfSome (next_query cmp kept.rules calls q t) (λ m. comes_by next m ≡ true)
  comes-kept next q e = at (next_query cmp kept.rules calls q t) refl
    where
      at : (r : Option ℕ) → next_query cmp kept.rules calls q t ≡ r → IfSome r (λ m. comes_by next m ≡ true)
      at None f = tt
      at (Some m) f =
          ap (λ n. comes_by n m) e
          ∙ earliest-comes (λ x. moment_of (status_at x.0 x.1)) kept.records m
          (any-entries cmp (λ p r. is_moment (moment_of (status_at p r)) m) q kept.records
          (λ p r h. ap (λ b. is_moment (moment_of (outlook r b t kept.rules.private kept.rules.dns)) m) (same_block q p h))
          (passes-moment (lookup (is_at (cmp q)) kept.records) (block_at q) t m kept.rules.private kept.rules.dns
          ∙ (ap (λ r. is_moment r m) (next-key q ∙ f) ∙ eq-eqb m m refl)))

  -- each address that a key may come from is heard
  pub heard-kept : (ips : List IpAddr) (q : P) (source : IpAddr)
      → ips ≡ filter_map (λ e. heard e.1 (lasts_at (lookup (is_at (cmp e.0)) kept.blocks) t) kept.rules.private) kept.records
      → is_listenable cmp kept.rules calls q source t ≡ true → is_heard ips source ≡ true
  heard-kept ips q source e h =
      ap (λ xs. is_heard xs source) e
      ∙ (is_heard-filter_map (λ x. heard x.1 (lasts_at (block_at x.0) t) kept.rules.private) source kept.records
      ∙ any-entries cmp (λ p r. passes (λ i. same_ip i source) (heard r (lasts_at (block_at p) t) kept.rules.private)) q kept.records
      (λ p r k. ap (λ b. passes (λ i. same_ip i source) (heard r (lasts_at b t) kept.rules.private)) (same_block q p k))
      (heard-key q source ∙ h))

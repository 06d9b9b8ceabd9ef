-- What a directory lists by what it keeps is what the calls tell, where equal keys are one.
use Rattle.std.proofs.Common.{◌≡◌, ℕ, ◌≤◌, Bool, true, false, cond, ◌&&◌, ◌||◌, not, List, [], ◌∷◌, Option, Some, None, refl, sym, ap, ◌∙◌, filter_map, arith}
use Rattle.std.proofs.lemmas.Bool.{false≢true, ltb-false, eq-eqb}
use Rattle.std.specs.Prelude.{is_some, nat_lt, Result, Ok, Err, IfOk}
use Rattle.std.specs.List.{filter, list_any}
use Rattle.std.specs.List.Sorted.{IsStrictlySortedBy}
use Rattle.std.specs.Option.{option_map, IfSome}
use Rattle.std.specs.Cmp.{IsTotalOrder}
use Rattle.std.specs.Map.{lookup, keys_of}
use Rattle.std.specs.BTreeMap.{is_at}
use Rattle.std.specs.declared.cmp.Ordering.{Ordering}
use Rattle.p2p_address.specs.Addresses.{egress_of, is_global}
use Rattle.p2p_address.specs.declared.ip.IpAddr.{IpAddr}
use Rattle.p2p_address.specs.declared.peer.Address.{Address as PeerAddress}
use Rattle.p2p_base.specs.Moments.{is_moment}
use Rattle.p2p_base.specs.Sorted.{sorted_once}
use Rattle.p2p_base.proofs.SortedLists.{sorted-sorted_once}
use Rattle.p2p_flow.specs.declared.tracked.TrackedPeers.{TrackedPeers}
use Rattle.p2p_flow.specs.declared.update.PeerSetUpdate.{PeerSetUpdate}
use Rattle.p2p_tracker_calls.specs.declared.call.Call.{Call}
use Rattle.p2p_tracker_calls.specs.BlockedKeys.{blocked_keys}
use Rattle.p2p_tracker_calls.specs.Blocks.{lasts_at, is_blocked}
use Rattle.p2p_tracker_calls.specs.DialList.{comes_by, dialable_keys, query_again_at}
use Rattle.p2p_tracker_calls.specs.Heard.{ip_cmp, if_allowed, heard_of, heard_addresses}
use Rattle.p2p_tracker_calls.specs.Kills.{is_killed, killed_keys}
use Rattle.p2p_tracker_calls.specs.Lists.{is_heard_at, is_dialable, next_query}
use Rattle.p2p_tracker_calls.specs.Lives.{same_ip, address_of, is_eligible}
use Rattle.p2p_tracker_calls.specs.Named.{named_keys, EqualKeysAreOne}
use Rattle.p2p_tracker_calls.specs.Peers.{peers_of, newest_of, all_peers, latest_update, peer_set_of}
use Rattle.p2p_tracker_calls.specs.Sets.{PeerSet, is_among, set_at, is_tracked, is_primary}
use Rattle.p2p_tracker_calls.proofs.Named.{among-named, same-keys, keys-exact}
use Rattle.p2p_tracker_calls.proofs.Naming.{tracked-named, primary-named, blocked-named, eligible-named, dialable-named, query-named, killed-named}
use Rattle.p2p_tracker_directory.specs.Listed.{has_role, heard, is_heard, outlook, is_now}
use Rattle.p2p_tracker_directory.specs.Stands.{Kept, StandsFor}
use Rattle.p2p_tracker_directory.specs.Told.{blocked_in, dialable_in, query_in, addresses_in, peer_set_in, all_in, update_in}
use Rattle.p2p_tracker_directory.specs.Tracked.{passes}
use Rattle.p2p_tracker_directory.proofs.Addresses.{ip_total, ip_one, among-sorted_once}
use Rattle.p2p_tracker_directory.proofs.Dialing.{dialable-kept, next-kept, comes-kept, heard-kept, heard_by-kept, moment_is}
use Rattle.p2p_tracker_directory.proofs.Found.{sorted-filter, is_heard-filter_map, earliest-given, earliest-comes}
use Rattle.p2p_tracker_directory.proofs.Listing.{primary-kept, secondary-kept, blocked-kept}

-- what two clauses tell of an answer together
pub both-told : {X E : Type 0} (r : Result (Option X) E) (A B C : X → Type 0) → ((x : X) → A x → B x → C x) → IfOk r (λ o. IfSome o A) → IfOk r (λ o. IfSome o B) → IfOk r (λ o. IfSome o C)
both-told (Err e) A B C f h k = tt
both-told (Ok None) A B C f h k = tt
both-told (Ok (Some x)) A B C f h k = f x h k

no_sooner : (a b : ℕ) → not (nat_lt a b) ≡ true → b ≤ a
no_sooner a b h = at (nat_lt a b) refl h
  where
    at : (c : Bool) → nat_lt a b ≡ c → not c ≡ true → b ≤ a
    at true e g = absurd (false≢true g)
    at false e g = ltb-false a b e

-- two moments each of which comes by the other are one
pub moments-same : (a b : Option ℕ) → IfSome a (λ n. comes_by b n ≡ true) → IfSome b (λ n. comes_by a n ≡ true) → a ≡ b
moments-same None None h k = refl
moments-same None (Some m) h k = absurd (false≢true k)
moments-same (Some n) None h k = absurd (false≢true h)
moments-same (Some n) (Some m) h k =
    let below = no_sooner n m h in
    let above = no_sooner m n k in
    let same : n ≡ m = omega (arith, below, above) in
    ap (λ x. Some x) same

pub if_some : (o : Option ℕ) (Q : ℕ → Type 0) → ((n : ℕ) → o ≡ Some n → Q n) → IfSome o Q
if_some None Q h = tt
if_some (Some n) Q h = h n refl

from_some : (o : Option ℕ) (Q : ℕ → Type 0) (n : ℕ) → o ≡ Some n → IfSome o Q → Q n
from_some None Q n e h = absurd (false≢true (ap is_some e))
from_some (Some m) Q n e h = let same : m ≡ n = cc in rw (← same) h

-- two parts are equal where each is
pub both-parts : {A B C : Type 0} (f : A → B → C) (a b : A) (c d : B) → a ≡ b → c ≡ d → f a c ≡ f b d
both-parts f a b c d e h = ap (λ x. f x c) e ∙ ap (λ y. f b y) h

module _ {P : Type 0} (cmp : P → P → Ordering) (one : EqualKeysAreOne cmp) (test : P → Bool) where
  -- a key that stands in a list and passes
  any-among : (ks : List P) (q : P) → is_among cmp ks q ≡ true → test q ≡ true → list_any test ks ≡ true
  any-among [] q h e = absurd (false≢true h)
  any-among (k ∷ ks) q h e = at (is_at (cmp k) q) refl h (λ i. any-among ks q i e)
    where
      first : (a b : Bool) → a ≡ true → (a || b) ≡ true
      first true b g = refl
      first false b g = absurd (false≢true g)

      last : (a b : Bool) → b ≡ true → (a || b) ≡ true
      last true b g = refl
      last false b g = g

      at : (b : Bool) → is_at (cmp k) q ≡ b → (b || is_among cmp ks q) ≡ true → (is_among cmp ks q ≡ true → list_any test ks ≡ true) → (test k || list_any test ks) ≡ true
      at true c g i = first (test k) (list_any test ks) (ap test (one k q c) ∙ e)
      at false c g i = last (test k) (list_any test ks) (i g)

module _ {P : Type 0} (test : P → Bool) where
  -- some element of a list passes
  any-found : (ks : List P) → list_any test ks ≡ true → (q : P) × (test q ≡ true)
  any-found [] h = absurd (false≢true h)
  any-found (k ∷ ks) h = at (test k) refl h (any-found ks)
    where
      at : (b : Bool) → test k ≡ b → (b || list_any test ks) ≡ true → (list_any test ks ≡ true → (q : P) × (test q ≡ true)) → (q : P) × (test q ≡ true)
      at true e g i = (k, e)
      at false e g i = i g

-- two tests of which each implies the other are one
pub both-ways : (a b : Bool) → (a ≡ true → b ≡ true) → (b ≡ true → a ≡ true) → a ≡ b
both-ways true true h k = refl
both-ways true false h k = sym (h refl)
both-ways false true h k = k refl
both-ways false false h k = refl

heard_at_step : (eligible private : Bool) (a : Option PeerAddress) (source : IpAddr)
    → passes (λ i. same_ip i source) (cond eligible (if_allowed private (option_map egress_of a)) None) ≡ (eligible && is_heard_at private source a)
heard_at_step false private a source = refl
heard_at_step true private None source = refl
heard_at_step true private (Some a) source = at (private || is_global (egress_of a))
  where
    and_true : (b : Bool) → b ≡ (b && true)
    and_true true = refl
    and_true false = refl

    and_false : (b : Bool) → false ≡ (b && false)
    and_false true = refl
    and_false false = refl

    at : (allowed : Bool) → passes (λ i. same_ip i source) (cond allowed (Some (egress_of a)) None) ≡ (same_ip (egress_of a) source && allowed)
    at true = and_true (same_ip (egress_of a) source)
    at false = and_false (same_ip (egress_of a) source)

module _ {P : Type 0} {cmp : P → P → Ordering} (o : IsTotalOrder cmp) (one : EqualKeysAreOne cmp) {kept : Kept P} {calls : List (Call P)} (s : StandsFor cmp kept calls) where
  pub blocked-exact : (t : ℕ) → blocked_in cmp kept t ≡ blocked_keys cmp kept.rules calls t
  blocked-exact t =
      keys-exact o one (λ q. is_blocked cmp kept.rules calls q t) calls (blocked_in cmp kept t) (sorted-sorted_once o (keys_of (filter (λ e. nat_lt t e.1) kept.blocks)))
      (λ q. blocked-kept o s (blocked_in cmp kept t) q t refl) (λ q. blocked-named cmp kept.rules q calls t)

  pub peer_set-exact : (index : ℕ) → peer_set_in cmp kept index ≡ peer_set_of cmp kept.rules calls index
  peer_set-exact index = ap (λ (x : List (PeerSet P)). option_map peers_of (set_at index x)) s.sets

  pub killed-exact : (index : ℕ) (primary secondary : List (P × PeerAddress)) (ks : List P) → IsStrictlySortedBy cmp ks
      → ((q : P) → is_among cmp ks q ≡ is_killed cmp kept.rules index primary secondary calls q) → ks ≡ killed_keys cmp kept.rules index primary secondary calls
  killed-exact index primary secondary ks ordered h =
      keys-exact o one (λ q. is_killed cmp kept.rules index primary secondary calls q) calls ks ordered h (λ q. killed-named cmp kept.rules q index primary secondary calls)

  module _ (ordered : IsStrictlySortedBy cmp (keys_of kept.records)) where
    pub all-exact : all_in cmp kept ≡ all_peers cmp kept.rules calls
    all-exact =
        let first : (all_in cmp kept).primary ≡ (all_peers cmp kept.rules calls).primary = keys-exact o one (λ q. is_primary cmp kept.rules calls q) calls (all_in cmp kept).primary (sorted-sorted_once o (keys_of (filter (λ e. has_role e.1 true) kept.records)))
        (λ q. primary-kept o s ordered (all_in cmp kept).primary q refl) (λ q. primary-named cmp kept.rules q calls) in
        let second : (all_in cmp kept).secondary ≡ (all_peers cmp kept.rules calls).secondary = keys-exact o one (λ q. is_tracked cmp kept.rules calls q && not (is_primary cmp kept.rules calls q)) calls (all_in cmp kept).secondary (sorted-sorted_once o (keys_of (filter (λ e. has_role e.1 false) kept.records)))
        (λ q. secondary-kept o s ordered (all_in cmp kept).secondary q refl) (λ q h. tracked-named cmp kept.rules q calls (first_of (is_tracked cmp kept.rules calls q) (not (is_primary cmp kept.rules calls q)) h)) in
        let With : List P → List P → TrackedPeers P = λ p q. record { primary = p; secondary = q } in
        both-parts With _ _ _ _ first second
      where
        first_of : (a b : Bool) → (a && b) ≡ true → a ≡ true
        first_of true b h = refl
        first_of false b h = h

    pub update-exact : update_in cmp kept ≡ latest_update cmp kept.rules calls
    update-exact =
        let With : TrackedPeers P → List (PeerSet P) → Option (PeerSetUpdate P) = λ a xs. option_map (λ x. record { index = x.index; latest = peers_of x; all = a }) (newest_of xs) in
        ap (λ (a : TrackedPeers P). With a kept.sets) all-exact ∙ ap (λ (xs : List (PeerSet P)). With (all_peers cmp kept.rules calls) xs) s.sets

    module _ (t : ℕ) where
      pub dialable-exact : dialable_in cmp kept t ≡ dialable_keys cmp kept.rules calls t
      dialable-exact =
          keys-exact o one (λ q. is_dialable cmp kept.rules calls q t) calls (dialable_in cmp kept t)
          (sorted-filter cmp (λ e. is_now (outlook e.1 (lookup (is_at (cmp e.0)) kept.blocks) t kept.rules.private kept.rules.dns)) kept.records ordered)
          (λ q. dialable-kept o s t ordered (dialable_in cmp kept t) q refl) (λ q. dialable-named cmp kept.rules q calls t)

      pub query-exact : query_in cmp kept t ≡ query_again_at cmp kept.rules calls t
      query-exact =
          let own = query_in cmp kept t in
          let told = query_again_at cmp kept.rules calls t in
          moments-same own told
          (if_some own (λ n. comes_by told n ≡ true) (λ n e.
          let found = from_some own (λ m. (q : P) × (next_query cmp kept.rules calls q t ≡ Some m)) n e (next-kept o s t ordered own refl) in
          earliest-comes (λ q. next_query cmp kept.rules calls q t) (named_keys cmp calls) n
          (any-among cmp one (λ q. is_moment (next_query cmp kept.rules calls q t) n) (named_keys cmp calls) found.0
          (among-named o calls found.0 ∙ query-named cmp kept.rules found.0 calls t (ap is_some found.1))
          (ap (λ r. is_moment r n) found.1 ∙ self_moment n))))
          (if_some told (λ n. comes_by own n ≡ true) (λ n e.
          let found = any-found (λ q. is_moment (next_query cmp kept.rules calls q t) n) (named_keys cmp calls) (earliest-given (λ q. next_query cmp kept.rules calls q t) (named_keys cmp calls) n e) in
          from_some (next_query cmp kept.rules calls found.0 t) (λ m. comes_by own m ≡ true) n (moment_is (next_query cmp kept.rules calls found.0 t) n found.1)
          (comes-kept o s t own found.0 refl)))
        where
          self_moment : (n : ℕ) → is_moment (Some n) n ≡ true
          self_moment n = eq-eqb n n refl

      pub addresses-exact : addresses_in cmp kept t ≡ heard_addresses cmp kept.rules calls t
      addresses-exact =
          let given = filter_map (λ e. heard e.1 (lasts_at (lookup (is_at (cmp e.0)) kept.blocks) t) kept.rules.private) kept.records in
          let told = filter_map (λ q. heard_of cmp kept.rules calls q t) (named_keys cmp calls) in
          same-keys ip_total ip_one (sorted_once ip_cmp given) (sorted_once ip_cmp told) (sorted-sorted_once ip_total given) (sorted-sorted_once ip_total told)
          (λ source. among-sorted_once given source
          ∙ (both-ways (is_heard given source) (is_heard told source)
          (λ h.
          let found = heard_by-kept o s t ordered given source refl h in
          is_heard-filter_map (λ q. heard_of cmp kept.rules calls q t) source (named_keys cmp calls)
          ∙ any-among cmp one (λ q. passes (λ i. same_ip i source) (heard_of cmp kept.rules calls q t)) (named_keys cmp calls) found.0
          (among-named o calls found.0 ∙ eligible-named cmp kept.rules found.0 calls t (first_of (is_eligible cmp kept.rules calls found.0 t) (is_heard_at kept.rules.private source (address_of cmp kept.rules calls found.0)) found.1))
          (heard_at_step (is_eligible cmp kept.rules calls found.0 t) kept.rules.private (address_of cmp kept.rules calls found.0) source ∙ found.1))
          (λ h.
          let found = any-found (λ q. passes (λ i. same_ip i source) (heard_of cmp kept.rules calls q t)) (named_keys cmp calls)
          (sym (is_heard-filter_map (λ q. heard_of cmp kept.rules calls q t) source (named_keys cmp calls)) ∙ h) in
          heard-kept o s t given found.0 source refl
          (sym (heard_at_step (is_eligible cmp kept.rules calls found.0 t) kept.rules.private (address_of cmp kept.rules calls found.0) source) ∙ found.1))
          ∙ sym (among-sorted_once told source)))
        where
          first_of : (a b : Bool) → (a && b) ≡ true → a ≡ true
          first_of true b h = refl
          first_of false b h = h

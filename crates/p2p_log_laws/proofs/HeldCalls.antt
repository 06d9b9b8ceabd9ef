-- By the calls of a node's tracker: which of them hold a key, and which leave it as it was.
use Rattle.std.proofs.Common.{◌≡◌, ℕ, Bool, true, false, cond, List, [], ◌∷◌, Option, Some, None, refl, ap, sym, ◌∙◌, arith, eqb-true}
use Rattle.std.specs.Prelude.{◌==◌, ◌&&◌, ◌||◌, not, nat_lt}
use Rattle.std.specs.BTreeMap.{is_at}
use Rattle.std.specs.Ordering.{nat_cmp, is_eq}
use Rattle.std.specs.Option.{option_map}
use Rattle.std.proofs.lemmas.Bool.{and_parts, false≢true}
use Rattle.std.proofs.lemmas.Bool.Decides.{nat_tests}
use Rattle.p2p_base.specs.declared.key.Key.{Key}
use Rattle.p2p_address.specs.Addresses.{ingress_of}
use Rattle.p2p_address.specs.declared.ip.IpAddr.{IpAddr}
use Rattle.p2p_address.specs.declared.peer.Address.{Address}
use Rattle.p2p_address.specs.declared.peer.Ingress.{Ingress}
use Rattle.p2p_tracker_calls.specs.declared.call.Call.{Call}
use Rattle.p2p_tracker_calls.specs.declared.call.Call.TheVariants as call
use Rattle.p2p_tracker_calls.specs.Allows.{allows_listen, dials_from, has_valid_ingress, allows_dial}
use Rattle.p2p_tracker_calls.specs.Blocks.{is_local, is_blocked}
use Rattle.p2p_tracker_calls.specs.Grants.{Grant, held_by, is_held}
use Rattle.p2p_tracker_calls.specs.Lives.{address_of, cool, is_eligible}
use Rattle.p2p_tracker_calls.specs.Overwrites.{overwritten}
use Rattle.p2p_tracker_calls.specs.Rules.{Rules}
use Rattle.p2p_tracker_calls.specs.Sets.{is_primary, is_tracked}
use Rattle.p2p_log.specs.declared.config.Config.{Config}
use Rattle.p2p_log.specs.declared.asked.Asked.TheVariants as ask
use Rattle.p2p_log.specs.declared.event.Act.{Act}
use Rattle.p2p_log.specs.declared.event.Act.TheVariants as act
use Rattle.p2p_log_rules.specs.Facts.{state_from}
use Rattle.p2p_log_rules.specs.Told.{told}
use Rattle.p2p_log_rules.specs.Tracking.{key_cmp, calls_of}
use Rattle.p2p_log_rules.proofs.Calls.{asked_calls}
use Rattle.p2p_log_rules.specs.TrackerPuts.{dial_grant}
use Rattle.p2p_log_laws.specs.Grants.{held_after}

-- before the first entry no key is held
pub held_none : (configs : List Config) (n : ℕ) (key : Key) → is_held key_cmp (calls_of configs [] n) key ≡ false
unfolding calls_of told state_from is_held
held_none configs n key = refl

-- ---- calls that leave a key as it was

pub held_overwritten : (es : List (Key × Address)) (calls : List (Call Key)) (key : Key) → is_held key_cmp (overwritten es calls) key ≡ is_held key_cmp calls key
unfolding overwritten is_held
held_overwritten [] calls key = refl
held_overwritten (e ∷ es) calls key = held_overwritten es (call.Overwrite e.0 e.1 ∷ calls) key

pub held_asked : (o : Option Act) (at : ℕ) (calls : List (Call Key)) (key : Key) → is_held key_cmp (asked_calls o at calls) key ≡ is_held key_cmp calls key
unfolding is_held
held_asked (Some (act.Ask (ask.Track index peers) n)) at calls key = refl
held_asked (Some (act.Ask (ask.Overwrite peers) n)) at calls key = held_overwritten peers calls key
held_asked (Some (act.Ask (ask.Block k) n)) at calls key = refl
held_asked _ at calls key = refl

pub held_unblocked : (at : ℕ) (calls : List (Call Key)) (key : Key) → is_held key_cmp (call.UnblockExpired at ∷ calls) key ≡ is_held key_cmp calls key
unfolding is_held
held_unblocked at calls key = refl

pub held_connected : (k : Key) (o : Option ℕ) (conn : ℕ) (calls : List (Call Key)) (key : Key) → is_held key_cmp (call.Connect k o conn ∷ calls) key ≡ is_held key_cmp calls key
unfolding is_held
held_connected k o conn calls key = refl

-- ---- dials, listens and releases

pub key_from : (k j : Key) → (k.0 == j.0) ≡ true → k ≡ j
key_from k j h = let e : k.0 ≡ j.0 = eqb-true k.0 j.0 h in ap (λ n. record { 0 = n }) e

pub at_key : (k j : Key) → is_at (key_cmp k) j ≡ (k.0 == j.0)
at_key k j = numbers k.0 j.0
  where
    numbers : (x y : ℕ) → is_eq (nat_cmp x y) ≡ (x == y)
    numbers x y = grind (arith, nat_tests)

-- a dial or a listen that is not granted
pub held_refused : (k : Key) (at jitter : ℕ) (calls : List (Call Key)) (key : Key) → is_held key_cmp (call.Dial k at jitter false ∷ calls) key ≡ is_held key_cmp calls key
unfolding is_held
held_refused k at jitter calls key = refl

pub held_unheard : (k : Key) (at jitter : ℕ) (calls : List (Call Key)) (key : Key) → is_held key_cmp (call.Listen k at jitter false ∷ calls) key ≡ is_held key_cmp calls key
unfolding is_held
held_unheard k at jitter calls key = refl

granted_turn : (t h : Bool) (g : Grant) → held_by (cond t (Some g) None) false h ≡ held_after h (cond t (true ∷ []) [])
granted_turn true h g = refl
granted_turn false h g = refl

released_turn : (t h : Bool) → held_by None t h ≡ held_after h (cond t (false ∷ []) [])
released_turn true h = refl
released_turn false h = refl

-- one that is
pub held_granted : (k : Key) (at jitter : ℕ) (calls : List (Call Key)) (key : Key)
    → is_held key_cmp (call.Dial k at jitter true ∷ calls) key ≡ held_after (is_held key_cmp calls key) (cond (k.0 == key.0) (true ∷ []) [])
unfolding is_held
held_granted k at jitter calls key =
    ap (λ t. held_by (cond t (Some (at, jitter)) None) false (is_held key_cmp calls key)) (at_key k key) ∙ granted_turn (k.0 == key.0) (is_held key_cmp calls key) (at, jitter)

pub held_heard : (k : Key) (at jitter : ℕ) (calls : List (Call Key)) (key : Key)
    → is_held key_cmp (call.Listen k at jitter true ∷ calls) key ≡ held_after (is_held key_cmp calls key) (cond (k.0 == key.0) (true ∷ []) [])
unfolding is_held
held_heard k at jitter calls key =
    ap (λ t. held_by (cond t (Some (at, jitter)) None) false (is_held key_cmp calls key)) (at_key k key) ∙ granted_turn (k.0 == key.0) (is_held key_cmp calls key) (at, jitter)

pub held_released : (k : Key) (calls : List (Call Key)) (key : Key)
    → is_held key_cmp (call.Release k ∷ calls) key ≡ held_after (is_held key_cmp calls key) (cond (k.0 == key.0) (false ∷ []) [])
unfolding is_held
held_released k calls key =
    ap (λ t. held_by None t (is_held key_cmp calls key)) (at_key k key) ∙ released_turn (k.0 == key.0) (is_held key_cmp calls key)

-- a key is granted that is not held and not the node's own, and it is the one that was asked for
not_so : (b : Bool) → not b ≡ true → b ≡ false
not_so false h = refl
not_so true h = absurd (false≢true h)

granted_by : (b : Bool) (o : Option Address) (k : Key) (g : Key × Ingress) → cond b (option_map (λ a. (k, ingress_of a)) o) None ≡ Some g → (b ≡ true) × (g.0 ≡ k)
granted_by false o k g h = absurd (cc)
granted_by true None k g h = absurd (cc)
granted_by true (Some a) k g h = let same : (k, ingress_of a) ≡ g = cc in (refl, sym (ap (λ (x : Key × Ingress). x.0) same))

eligible_others : (l t b : Bool) → ((not l && t) && not b) ≡ true → l ≡ false
eligible_others l t b all =
    let tracked = and_parts (not l && t) (not b) all in
    not_so l (and_parts (not l) t tracked.0).0

allowed_free : (e h c p v : Bool) → ((((e && not h) && c) && p) && v) ≡ true → (e ≡ true) × (h ≡ false)
allowed_free e h c p v all =
    let primary = and_parts (((e && not h) && c) && p) v all in
    let cool = and_parts ((e && not h) && c) p primary.0 in
    let free = and_parts (e && not h) c cool.0 in
    let both = and_parts e (not h) free.0 in
    (both.0, not_so h both.1)

pub dial_free : (rules : Rules Key) (n at : ℕ) (us bs : List ℕ) (calls : List (Call Key)) (k : Key) (g : Key × Ingress) → dial_grant rules n at us bs calls k ≡ Some g
    → (is_held key_cmp calls k ≡ false) × (is_local key_cmp rules k ≡ false) × (g.0 ≡ k)
dial_free rules n at us bs calls k g h =
    let found = granted_by (allows_dial key_cmp rules calls k at) (address_of key_cmp rules calls k) k g h in
    let free = allowed_free (is_eligible key_cmp rules calls k at) (is_held key_cmp calls k) (not (nat_lt at (cool key_cmp rules calls k))) (is_primary key_cmp rules calls k)
    (has_valid_ingress rules.private rules.dns (address_of key_cmp rules calls k)) found.0
    in
    (free.1, eligible_others (is_local key_cmp rules k) (is_tracked key_cmp rules calls k) (is_blocked key_cmp rules calls k at) free.0, found.1)

heard_free : (e h f c : Bool) → (((e && not h) && f) && c) ≡ true → (e ≡ true) × (h ≡ false)
heard_free e h f c all =
    let cool = and_parts ((e && not h) && f) c all in
    let free = and_parts (e && not h) f cool.0 in
    let both = and_parts e (not h) free.0 in
    (both.0, not_so h both.1)

pub listen_free : (rules : Rules Key) (at : ℕ) (calls : List (Call Key)) (k : Key) (source : IpAddr) → allows_listen key_cmp rules calls k source at ≡ true
    → (is_held key_cmp calls k ≡ false) × (is_local key_cmp rules k ≡ false)
listen_free rules at calls k source h =
    let free = heard_free (is_eligible key_cmp rules calls k at) (is_held key_cmp calls k) (rules.bypass || dials_from source (address_of key_cmp rules calls k))
    (not (nat_lt at (cool key_cmp rules calls k))) h
    in
    (free.1, eligible_others (is_local key_cmp rules k) (is_tracked key_cmp rules calls k) (is_blocked key_cmp rules calls k at) free.0)

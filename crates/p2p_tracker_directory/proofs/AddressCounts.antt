-- What the counts of addresses tell, and the blocks that are taken off them, is what the records tell.
use Rattle.std.proofs.Common.{◌≡◌, ℕ, ◌+◌, ◌-◌, Bool, true, false, cond, not, ◌&&◌, ◌||◌, List, [], ◌∷◌, length, Option, Some, None, refl, sym, ap, ◌∙◌, arith, subst, filter_map}
use Rattle.std.proofs.lemmas.Bool.{lt-ltb, le-ltb, ltb-true, ltb-false}
use Rattle.std.specs.Prelude.{nat_lt, suc}
use Rattle.std.specs.Cmp.{IsTotalOrder}
use Rattle.std.specs.List.{filter, list_any}
use Rattle.std.specs.List.Sorted.{IsStrictlySortedBy}
use Rattle.std.specs.Option.{option_map}
use Rattle.std.specs.Map.{keys_of, lookup}
use Rattle.std.specs.BTreeMap.{is_at}
use Rattle.std.specs.declared.cmp.Ordering.{Ordering}
use Rattle.p2p_address.specs.Addresses.{egress_of, is_global}
use Rattle.p2p_address.specs.contracts.ip.IpAddrOrd.TheImpl.{ghosts}
use Rattle.p2p_address.specs.declared.ip.IpAddr.{IpAddr}
use Rattle.p2p_address.specs.declared.peer.Address.{Address as PeerAddress}
use Rattle.p2p_base.specs.Sorted.{sorted_once}
use Rattle.p2p_base.proofs.SortedLists.{sorted-sorted_once}
use Rattle.p2p_tracker_calls.specs.declared.call.Call.{Call}
use Rattle.p2p_tracker_calls.specs.Blocks.{is_local, lasts_at, is_blocked}
use Rattle.p2p_tracker_calls.specs.Grants.{Grant, is_held}
use Rattle.p2p_tracker_calls.specs.Heard.{ip_cmp, if_allowed}
use Rattle.p2p_tracker_calls.specs.Lives.{same_ip, address_of, last_grant, is_stale, is_connected}
use Rattle.p2p_tracker_calls.specs.Lives as facts
use Rattle.p2p_tracker_calls.specs.Named.{EqualKeysAreOne}
use Rattle.p2p_tracker_calls.specs.Sets.{how_many, is_tracked, primary_sets, secondary_sets}
use Rattle.p2p_tracker_calls.proofs.Named.{same-keys, keys-exact}
use Rattle.p2p_tracker_calls.proofs.Naming.{eligible-named}
use Rattle.p2p_tracker_directory.specs.Recorded.{Recorded, is_eligible, egress_in}
use Rattle.p2p_tracker_directory.specs.Tracked.{one_if, passes}
use Rattle.p2p_tracker_directory.specs.Listed.{heard, is_heard}
use Rattle.p2p_tracker_directory.specs.Indexed.{source_of, source_in, is_from, positive, Tallies, count_where, is_blocked_from, count_in}
use Rattle.p2p_tracker_directory.specs.Stands.{Kept, StandsFor, record_of}
use Rattle.p2p_tracker_directory.specs.Told.{listenable_count_in, keys_from}
use Rattle.p2p_tracker_directory.proofs.Addresses.{ip_total, ip_one, ip_ties, among-sorted_once, derived-order}
use Rattle.p2p_tracker_directory.proofs.Counting.{how_many-length, how_many-split, counts-alike}
use Rattle.p2p_tracker_directory.proofs.Counts.{is_tracked-counts}
use Rattle.p2p_tracker_directory.proofs.Entries.{among-listed}
use Rattle.p2p_tracker_directory.proofs.Found.{sorted-filter, is_heard-filter_map}
use Rattle.p2p_tracker_directory.proofs.Steps.{own, peer}
use Rattle.p2p_tracker_directory.proofs.Written.{lookup_same}

and_false : (b : Bool) → (b && false) ≡ false
and_false true = refl
and_false false = refl

-- the order that is derived is the order of addresses
pub derived : ghosts.cmp ≡ ip_cmp
derived = λ i x y. derived-order x y i

pub tallies-from : (counts : List (IpAddr × ℕ)) (n : IpAddr → ℕ) → Tallies ip_cmp counts n → Tallies ghosts.cmp counts n
tallies-from counts n t = subst (λ (c : IpAddr → IpAddr → Ordering). Tallies c counts n) (sym derived) t

pub tallies-to : (counts : List (IpAddr × ℕ)) (n : IpAddr → ℕ) → Tallies ghosts.cmp counts n → Tallies ip_cmp counts n
tallies-to counts n t = subst (λ (c : IpAddr → IpAddr → Ordering). Tallies c counts n) derived t

pub sorted-to : (ks : List IpAddr) → IsStrictlySortedBy ghosts.cmp ks → IsStrictlySortedBy ip_cmp ks
sorted-to ks s = subst (λ (c : IpAddr → IpAddr → Ordering). IsStrictlySortedBy c ks) derived s

pub tied : (k ip : IpAddr) → is_at (ghosts.cmp k) ip ≡ is_at (ip_cmp k) ip
tied k ip = ap (λ (c : IpAddr → IpAddr → Ordering). is_at (c k) ip) derived

-- nothing is counted where there is no address
pub tallies-plain : (counts : List (IpAddr × ℕ)) (n m : IpAddr → ℕ) → ((ip : IpAddr) → n ip ≡ m ip) → Tallies ip_cmp counts n → Tallies ip_cmp counts m
tallies-plain counts n m h t = record { each = λ k. t.each k ∙ ap positive (h k) }

module _ {P : Type 0} {cmp : P → P → Ordering} (o : IsTotalOrder cmp) (es : List (P × Recorded)) (blocks : List (P × ℕ)) (t : ℕ)
    (s : IsStrictlySortedBy cmp (keys_of es)) (r : IsStrictlySortedBy cmp (keys_of blocks)) where
  blocked_alike : (ip : IpAddr) (x : Option Recorded) (b : Option ℕ)
      → passes (λ y. lasts_at b t && is_from ip (source_of y)) x ≡ passes (λ end. nat_lt t end && is_from ip (source_in x)) b
  blocked_alike ip None None = refl
  blocked_alike ip None (Some end) = sym (and_false (nat_lt t end))
  blocked_alike ip (Some y) None = refl
  blocked_alike ip (Some y) (Some end) = refl

  -- the blocks count who is blocked as the records do
  blocked-counted : (ip : IpAddr) → how_many (λ e. lasts_at (lookup (is_at (cmp e.0)) blocks) t && is_from ip (source_of e.1)) es ≡ how_many (is_blocked_from cmp es ip t) blocks
  blocked-counted ip =
      counts-alike o (λ k x. lasts_at (lookup (is_at (cmp k)) blocks) t && is_from ip (source_of x)) (λ k end. nat_lt t end && is_from ip (source_in (lookup (is_at (cmp k)) es)))
      (λ p q x h. ap (λ b. lasts_at b t && is_from ip (source_of x)) (lookup_same o p q blocks h))
      (λ p q end h. ap (λ x. nat_lt t end && is_from ip (source_in x)) (lookup_same o p q es h))
      es blocks s r (λ q. blocked_alike ip (lookup (is_at (cmp q)) es) (lookup (is_at (cmp q)) blocks))

  -- who dials from an address is blocked, or isn't
  parted-counts : (ip : IpAddr) → count_where (λ q. true) ip es ≡ how_many (is_blocked_from cmp es ip t) blocks + count_in cmp es blocks ip t
  parted-counts ip =
      how_many-split (λ e. lasts_at (lookup (is_at (cmp e.0)) blocks) t) (λ e. is_from ip (source_of e.1)) es
      ∙ ap (λ n. n + count_in cmp es blocks ip t) (blocked-counted ip)

  pub left-counted : (ip : IpAddr) (count : ℕ) → count ≡ count_where (λ q. true) ip es → count - how_many (is_blocked_from cmp es ip t) blocks ≡ count_in cmp es blocks ip t
  left-counted ip count c = let parts = c ∙ parted-counts ip in omega (arith, parts)

  above_blocked : (ip : IpAddr) → nat_lt (how_many (is_blocked_from cmp es ip t) blocks) (count_where (λ q. true) ip es) ≡ nat_lt 0 (count_in cmp es blocks ip t)
  above_blocked ip = at (nat_lt 0 (count_in cmp es blocks ip t)) refl
    where
      at : (b : Bool) → nat_lt 0 (count_in cmp es blocks ip t) ≡ b → nat_lt (how_many (is_blocked_from cmp es ip t) blocks) (count_where (λ q. true) ip es) ≡ b
      at true e = let parts = parted-counts ip in let more = ltb-true 0 (count_in cmp es blocks ip t) e in lt-ltb _ _ (omega (arith, parts, more))
      at false e = let parts = parted-counts ip in let most = ltb-false 0 (count_in cmp es blocks ip t) e in le-ltb _ _ (omega (arith, parts, most))

module _ {X : Type 0} (test : X → Bool) where
  -- some pass where more than none do
  any-many : (xs : List X) → nat_lt 0 (how_many test xs) ≡ list_any test xs
  unfolding how_many
  any-many [] = refl
  any-many (x ∷ xs) = at (test x) (any-many xs)
    where
      at : (b : Bool) → nat_lt 0 (how_many test xs) ≡ list_any test xs → nat_lt 0 (cond b (suc (how_many test xs)) (how_many test xs)) ≡ (b || list_any test xs)
      at true h = lt-ltb 0 (suc (how_many test xs)) (omega arith)
      at false h = h

  any-and : (c : Bool) (xs : List X) → list_any (λ x. test x && c) xs ≡ (list_any test xs && c)
  any-and c [] = refl
  any-and c (x ∷ xs) = at (test x) c (any-and c xs)
    where
      at : (b d : Bool) → list_any (λ y. test y && d) xs ≡ (list_any test xs && d) → ((b && d) || list_any (λ y. test y && d) xs) ≡ ((b || list_any test xs) && d)
      at true true h = refl
      at true false h = h ∙ and_false (list_any test xs)
      at false d h = h

any-same : {X : Type 0} (a b : X → Bool) → ((x : X) → a x ≡ b x) → (xs : List X) → list_any a xs ≡ list_any b xs
any-same a b h [] = refl
any-same a b h (x ∷ xs) = ap (λ c. c || list_any a xs) (h x) ∙ ap (λ c. b x || c) (any-same a b h xs)

-- an address is heard where an unblocked peer in a set dials from it, and it is allowed
heard_from : (blocked x : Bool) (a : Option IpAddr) (private : Bool) (source : IpAddr)
    → passes (λ i. same_ip i source) (cond (blocked || not x) None (if_allowed private a)) ≡ ((not blocked && is_from source (cond x a None)) && (private || is_global source))
heard_from true x a private source = refl
heard_from false false a private source = refl
heard_from false true None private source = refl
heard_from false true (Some i) private source = at (is_at (ip_cmp i) source) refl
  where
    turned : (b w : Bool) → same_ip i source ≡ b → b ≡ false → passes (λ j. same_ip j source) (cond w (Some i) None) ≡ false
    turned b true e f = e ∙ f
    turned b false e f = refl

    kept : (w : Bool) → same_ip i source ≡ true → passes (λ j. same_ip j source) (cond w (Some i) None) ≡ w
    kept true e = e
    kept false e = refl

    at : (b : Bool) → is_at (ip_cmp i) source ≡ b → passes (λ j. same_ip j source) (cond (private || is_global i) (Some i) None) ≡ (b && (private || is_global source))
    at true e = kept (private || is_global i) (ip_ties i source ∙ e) ∙ ap (λ j. private || is_global j) (ip_one i source e)
    at false e = turned false (private || is_global i) (ip_ties i source ∙ e) refl

passes-positive : (m n : ℕ) (allowed : Bool) → passes (λ c. nat_lt m c && allowed) (positive n) ≡ (nat_lt m n && allowed)
passes-positive m n allowed = at (nat_lt 0 n) refl
  where
    at : (b : Bool) → nat_lt 0 n ≡ b → passes (λ c. nat_lt m c && allowed) (cond b (Some n) None) ≡ (nat_lt m n && allowed)
    at true e = refl
    at false e = let none = ltb-false 0 n e in sym (ap (λ b. b && allowed) (le-ltb m n (omega (arith, none))))

module _ {P : Type 0} {cmp : P → P → Ordering} (o : IsTotalOrder cmp) (es : List (P × Recorded)) (blocks : List (P × ℕ)) (t : ℕ) (private : Bool)
    (s : IsStrictlySortedBy cmp (keys_of es)) (r : IsStrictlySortedBy cmp (keys_of blocks)) where
  heard-counted : (source : IpAddr) → is_heard (filter_map (λ e. heard e.1 (lasts_at (lookup (is_at (cmp e.0)) blocks) t) private) es) source
      ≡ (nat_lt 0 (count_in cmp es blocks source t) && (private || is_global source))
  heard-counted source =
      is_heard-filter_map (λ e. heard e.1 (lasts_at (lookup (is_at (cmp e.0)) blocks) t) private) source es
      ∙ (any-same (λ e. passes (λ i. same_ip i source) (heard e.1 (lasts_at (lookup (is_at (cmp e.0)) blocks) t) private))
      (λ e. (not (lasts_at (lookup (is_at (cmp e.0)) blocks) t) && is_from source (source_of e.1)) && (private || is_global source))
      (λ e. heard_from (lasts_at (lookup (is_at (cmp e.0)) blocks) t) (is_eligible e.1) (egress_in e.1.address) private source) es
      ∙ (any-and (λ e. not (lasts_at (lookup (is_at (cmp e.0)) blocks) t) && is_from source (source_of e.1)) (private || is_global source) es
      ∙ ap (λ b. b && (private || is_global source)) (sym (any-many (λ e. not (lasts_at (lookup (is_at (cmp e.0)) blocks) t) && is_from source (source_of e.1)) es))))

  -- the addresses that the counts list are those that the records tell
  pub counted-addresses : (counts : List (IpAddr × ℕ)) → Tallies ip_cmp counts (λ ip. count_where (λ q. true) ip es) → IsStrictlySortedBy ip_cmp (keys_of counts)
      → keys_of (filter (λ e. nat_lt (how_many (is_blocked_from cmp es e.0 t) blocks) e.1 && (private || is_global e.0)) counts)
      ≡ sorted_once ip_cmp (filter_map (λ e. heard e.1 (lasts_at (lookup (is_at (cmp e.0)) blocks) t) private) es)
  counted-addresses counts tallies by_ip =
      let given = filter_map (λ e. heard e.1 (lasts_at (lookup (is_at (cmp e.0)) blocks) t) private) es in
      same-keys ip_total ip_one (keys_of (filter (λ e. nat_lt (how_many (is_blocked_from cmp es e.0 t) blocks) e.1 && (private || is_global e.0)) counts)) (sorted_once ip_cmp given)
      (sorted-filter ip_cmp (λ e. nat_lt (how_many (is_blocked_from cmp es e.0 t) blocks) e.1 && (private || is_global e.0)) counts by_ip)
      (sorted-sorted_once ip_total given)
      (λ source. among-listed ip_total (λ ip c. nat_lt (how_many (is_blocked_from cmp es ip t) blocks) c && (private || is_global ip)) source counts
      (keys_of (filter (λ e. nat_lt (how_many (is_blocked_from cmp es e.0 t) blocks) e.1 && (private || is_global e.0)) counts)) by_ip
      (λ ip c h. ap (λ i. nat_lt (how_many (is_blocked_from cmp es i t) blocks) c && (private || is_global i)) (ip_one ip source h)) refl
      ∙ (ap (passes (λ c. nat_lt (how_many (is_blocked_from cmp es source t) blocks) c && (private || is_global source))) (tallies.each source)
      ∙ (passes-positive (how_many (is_blocked_from cmp es source t) blocks) (count_where (λ q. true) source es) (private || is_global source)
      ∙ (ap (λ b. b && (private || is_global source)) (above_blocked o es blocks t s r source)
      ∙ (sym (heard-counted source) ∙ sym (among-sorted_once given source))))))

from_step : (local tracked held blocked : Bool) (cooldown n m : ℕ) (joined stale : Bool) (g : Option Grant) (a : Option PeerAddress) (ip : IpAddr)
    → tracked ≡ (nat_lt 0 n || nat_lt 0 m)
    → passes (λ x. not blocked && is_from ip (source_of x)) (cond local (Some (own n m)) (option_map (peer cooldown held joined n m stale g) a))
    ≡ ((not local && tracked && not blocked) && is_from ip (option_map egress_of a))
unfolding own peer
from_step true tracked held blocked cooldown n m joined stale g a ip h = and_false (not blocked)
from_step false tracked held blocked cooldown n m joined stale g None ip h = sym (and_false (tracked && not blocked))
from_step false tracked held blocked cooldown n m joined stale g (Some a) ip h =
    turned (nat_lt 0 n || nat_lt 0 m) (not blocked) ∙ ap (λ b. (b && not blocked) && is_from ip (Some (egress_of a))) (sym h)
  where
    turned : (x free : Bool) → (free && is_from ip (cond x (Some (egress_of a)) None)) ≡ ((x && free) && is_from ip (Some (egress_of a)))
    turned true free = refl
    turned false free = and_false free

module _ {P : Type 0} {cmp : P → P → Ordering} (o : IsTotalOrder cmp) (one : EqualKeysAreOne cmp) {kept : Kept P} {calls : List (Call P)} (s : StandsFor cmp kept calls)
    (ordered : IsStrictlySortedBy cmp (keys_of kept.records)) (t : ℕ) (ip : IpAddr) where
  from-key : (q : P) → passes (λ x. not (lasts_at (lookup (is_at (cmp q)) kept.blocks) t) && is_from ip (source_of x)) (lookup (is_at (cmp q)) kept.records)
      ≡ (facts.is_eligible cmp kept.rules calls q t && is_from ip (option_map egress_of (address_of cmp kept.rules calls q)))
  unfolding record_of peer own
  from-key q =
      ap (λ r. passes (λ x. not (lasts_at (lookup (is_at (cmp q)) kept.blocks) t) && is_from ip (source_of x)) r) (s.records q)
      ∙ (ap (λ b. passes (λ x. not (lasts_at b t) && is_from ip (source_of x)) (record_of cmp kept.rules calls q)) (s.blocks q)
      ∙ from_step (is_local cmp kept.rules q) (is_tracked cmp kept.rules calls q) (is_held cmp calls q) (is_blocked cmp kept.rules calls q t) kept.rules.cooldown
      (primary_sets cmp kept.rules calls q) (secondary_sets cmp kept.rules calls q) (is_connected cmp kept.rules calls q) (is_stale cmp kept.rules calls q)
      (last_grant cmp kept.rules calls q) (address_of cmp kept.rules calls q) ip (is_tracked-counts cmp kept.rules calls q))

  -- the count is that of the eligible keys that dial from the address
  pub count-exact : listenable_count_in cmp kept ip t ≡ length (keys_from cmp kept.rules calls ip t)
  count-exact =
      let test : P → Recorded → Bool = λ k x. not (lasts_at (lookup (is_at (cmp k)) kept.blocks) t) && is_from ip (source_of x) in
      let ks = keys_of (filter (λ e. test e.0 e.1) kept.records) in
      how_many-length (λ e. test e.0 e.1) kept.records
      ∙ ap length (keys-exact o one (λ q. facts.is_eligible cmp kept.rules calls q t && is_from ip (option_map egress_of (address_of cmp kept.rules calls q))) calls ks
      (sorted-filter cmp (λ e. test e.0 e.1) kept.records ordered)
      (λ q. among-listed o test q kept.records ks ordered (λ p x h. ap (λ b. not (lasts_at b t) && is_from ip (source_of x)) (lookup_same o p q kept.blocks h)) refl ∙ from-key q)
      (λ q h. eligible-named cmp kept.rules q calls t (first_of (facts.is_eligible cmp kept.rules calls q t) (is_from ip (option_map egress_of (address_of cmp kept.rules calls q))) h)))
    where
      first_of : (a b : Bool) → (a && b) ≡ true → a ≡ true
      first_of true b h = refl
      first_of false b h = h

pub from-cond : (ip : IpAddr) (b : Bool) (s : Option IpAddr) → is_from ip (cond b s None) ≡ (b && is_from ip s)
from-cond ip true s = refl
from-cond ip false s = refl

module _ {X : Type 0} (test : X → Bool) where
  many-passed : (at rest : List X) (x : X) (b : Bool) → at ≡ x ∷ rest → test x ≡ b → how_many test at ≡ how_many test rest + one_if b
  unfolding how_many
  many-passed at rest x true at_is h = ap (how_many test) at_is ∙ (ap (λ c. cond c (suc (how_many test rest)) (how_many test rest)) h ∙ more (how_many test rest))
    where
      more : (n : ℕ) → suc n ≡ n + 1
      more n = omega arith
  many-passed at rest x false at_is h = ap (how_many test) at_is ∙ (ap (λ c. cond c (suc (how_many test rest)) (how_many test rest)) h ∙ same (how_many test rest))
    where
      same : (n : ℕ) → n ≡ n + 0
      same n = omega arith

  -- one is taken off a number, or none
  pub less-passed : (at rest : List X) (x : X) (left all : ℕ) → at ≡ x ∷ rest → test x ≡ true → left - how_many test at ≡ all → (left - 1) - how_many test rest ≡ all
  less-passed at rest x left all at_is h e = let one = many-passed at rest x true at_is h in omega (arith, one, e)

  pub less-passed_over : (at rest : List X) (x : X) (left all : ℕ) → at ≡ x ∷ rest → test x ≡ false → left - how_many test at ≡ all → left - how_many test rest ≡ all
  less-passed_over at rest x left all at_is h e = let none = many-passed at rest x false at_is h in omega (arith, none, e)

  pub none-left : (at : List X) (count all : ℕ) → at ≡ [] → count + how_many test at ≡ all → count ≡ all
  unfolding how_many
  none-left at count all at_is e = let none = ap (how_many test) at_is in omega (arith, none, e)

  pub none-off : (at : List X) (left all : ℕ) → at ≡ [] → left - how_many test at ≡ all → left ≡ all
  unfolding how_many
  none-off at left all at_is e = let none = ap (how_many test) at_is in omega (arith, none, e)

-- what a walk over the blocks has counted of each address
module _ {P : Type 0} (cmp : P → P → Ordering) (es : List (P × Recorded)) (t : ℕ) where
  abbrev pub Counted : List (IpAddr × ℕ) → List (P × ℕ) → List (P × ℕ) → Type 0
  Counted counts at blocks = (n : IpAddr → ℕ) × Tallies ip_cmp counts n × ((ip : IpAddr) → n ip + how_many (is_blocked_from cmp es ip t) at ≡ how_many (is_blocked_from cmp es ip t) blocks)

  pub counted-none : (counts : List (IpAddr × ℕ)) (at blocks : List (P × ℕ)) → counts ≡ [] → at ≡ blocks → Counted counts at blocks
  counted-none counts at blocks c a =
      (λ ip. 0, record { each = λ ip. ap (lookup (is_at (ip_cmp ip))) c }, λ ip. let same = ap (how_many (is_blocked_from cmp es ip t)) a in omega (arith, same))

  pub counted-one : (old new : List (IpAddr × ℕ)) (at rest blocks : List (P × ℕ)) (x : P × ℕ) (source : Option IpAddr) → at ≡ x ∷ rest
      → source ≡ cond (nat_lt t x.1) (source_in (lookup (is_at (cmp x.0)) es)) None
      → ((n m : IpAddr → ℕ) → Tallies ip_cmp old n → ((ip : IpAddr) → m ip ≡ n ip + one_if (is_from ip source)) → Tallies ip_cmp new m)
      → Counted old at blocks → Counted new rest blocks
  counted-one old new at rest blocks x source at_is source_is raised c = (
    λ ip. c.0 ip + one_if (is_from ip source),
    raised c.0 (λ ip. c.0 ip + one_if (is_from ip source)) c.1 (λ ip. refl),
    λ ip.
        let one = many-passed (is_blocked_from cmp es ip t) at rest x (is_from ip source) at_is
        (sym (ap (is_from ip) source_is ∙ from-cond ip (nat_lt t x.1) (source_in (lookup (is_at (cmp x.0)) es)))) in
        let so_far = c.2 ip in
        omega (arith, one, so_far),
  )

  pub counted-all : (counts : List (IpAddr × ℕ)) (at blocks : List (P × ℕ)) → at ≡ [] → Counted counts at blocks → Tallies ip_cmp counts (λ ip. how_many (is_blocked_from cmp es ip t) blocks)
  counted-all counts at blocks at_is c =
      tallies-plain counts c.0 (λ ip. how_many (is_blocked_from cmp es ip t) blocks) (λ ip. none-left (is_blocked_from cmp es ip t) at (c.0 ip) (how_many (is_blocked_from cmp es ip t) blocks) at_is (c.2 ip)) c.1

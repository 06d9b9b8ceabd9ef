-- From where each peer dials, and when each comes up for a dial.
use Rattle.std.specs.Prelude.{◌≡◌, ℕ, Bool, true, false, cond, not, ◌&&◌, nat_lt, is_some, List, Option, Some, None, filter_map}
use Rattle.std.specs.List.{list_any}
use Rattle.std.specs.List.Sorted.{IsStrictlySortedBy}
use Rattle.std.specs.Option.{option_map, option_cmp}
use Rattle.std.specs.Ordering.{is_eq, nat_cmp}
use Rattle.std.specs.Map.{lookup, lookup_key}
use Rattle.std.specs.BTreeMap.{is_at}
use Rattle.std.specs.declared.cmp.Ordering.{Ordering}
use Rattle.p2p_address.specs.contracts.ip.IpAddrOrd.TheImpl.{ghosts}
use Rattle.p2p_address.specs.declared.ip.IpAddr.{IpAddr}
use Rattle.p2p_tracker_calls.specs.Heard.{ip_cmp}
use Rattle.p2p_tracker_calls.specs.Sets.{how_many}
use Rattle.p2p_tracker_calls.specs.Blocks.{lasts_at}
use Rattle.p2p_tracker_directory.specs.Placed.{by_place}
use Rattle.p2p_tracker_directory.specs.Recorded.{Recorded, is_inert, is_myself, is_eligible, egress_in, has_valid_ingress}
use Rattle.p2p_tracker_directory.specs.Listed.{outlook_in, is_now}
use Rattle.p2p_tracker_directory.specs.declared.directory.index.Index.{Index}

-- the records as the rest of the directory sees them, and whether addresses that aren't global may be dialed, and names
pub record Roster (P : Type 0) : Type 0 where
  pub entries : List (P × Recorded)
  pub private : Bool
  pub dns : Bool

-- the records are kept by these rules
abbrev pub HasRules : {P : Type 0} → Bool → Bool → Roster P → Type 0
HasRules private dns records = (records.private ≡ private) × (records.dns ≡ dns)

-- the address that another peer in a set dials from
abbrev pub source_of : Recorded → Option IpAddr
source_of r = cond (is_eligible r) (egress_in r.address) None

abbrev pub source_in : Option Recorded → Option IpAddr
source_in None = None
source_in (Some r) = source_of r

-- the moment from which another peer that is primary in a set, and may be dialed at its address, is listed for a dial
abbrev pub due_of : Recorded → Bool → Bool → Option ℕ
due_of r private dns = cond (nat_lt 0 r.primary && has_valid_ingress r.address private dns) (Some r.next_dial) None

abbrev pub due_in : Option Recorded → Bool → Bool → Option ℕ
due_in None private dns = None
due_in (Some r) private dns = due_of r private dns

-- the address is this one
abbrev pub is_from : IpAddr → Option IpAddr → Bool
is_from ip None = false
is_from ip (Some source) = is_at (ip_cmp source) ip

-- a number, where it is above 0
abbrev pub positive : ℕ → Option ℕ
positive n = cond (nat_lt 0 n) (Some n) None

module _ {K : Type 0} (cmp : K → K → Ordering) where
  -- a table has the number of each key, where that is above 0
  pub record Tallies (counts : List (K × ℕ)) (n : K → ℕ) : Type 0 where
    pub each : (k : K) → lookup (is_at (cmp k)) counts ≡ positive (n k)

module _ {A K : Type 0} (place_cmp : A → A → Ordering) (key_cmp : K → K → Ordering) where
  -- the place is the key's, where that is among those that have one, or none
  abbrev pub is_placed : Option (Option A) → Option A → Bool
  is_placed None a = false
  is_placed (Some b) a = is_eq (option_cmp place_cmp b a)

module _ {A K : Type 0} (place_cmp : A → A → Ordering) (key_cmp : K → K → Ordering) where
  -- the entries in order are each key at its place, and nothing else
  pub record Placed (rows : List (Option A × K)) (place : K → Option (Option A)) : Type 0 where
    pub each : (k : K) (a : Option A) → list_any (is_at (by_place place_cmp key_cmp (a, k))) rows ≡ is_placed place_cmp key_cmp (place k) a
    pub ordered : IsStrictlySortedBy (by_place place_cmp key_cmp) rows

-- the keys that have a moment, with it
abbrev pub timed : {K : Type 0} → List (Option ℕ × K) → List (ℕ × K)
timed es = filter_map (λ e. option_map (λ t. (t, e.1)) e.0) es

-- the key of an entry that is found and has a moment, with it
abbrev pub timed_in : {K : Type 0} → Option (Option ℕ × K) → Option (ℕ × K)
timed_in None = None
timed_in (Some e) = option_map (λ t. (t, e.1)) e.0

-- what a function finds of what there is
abbrev pub found_by : {X Y : Type 0} → (X → Option Y) → Option X → Option Y
found_by f None = None
found_by f (Some x) = f x

-- how many of the keys that pass are of another peer in a set that dials from the address
abbrev pub count_where : {P : Type 0} → (P → Bool) → IpAddr → List (P × Recorded) → ℕ
count_where test ip es = how_many (λ e. test e.0 && is_from ip (source_of e.1)) es

module _ {P : Type 0} (cmp : P → P → Ordering) where
  -- an index has each key that has a record, at the address that it dials from, and at the moment at which it is listed
  pub record Indexes (index : Index P) (es : List (P × Recorded)) : Type 0 where
    pub sources : Placed ghosts.cmp cmp index.sources (λ q. option_map source_of (lookup (is_at (cmp q)) es))
    pub queue : Placed nat_cmp cmp index.queue (λ q. option_map (λ r. due_of r index.private index.dns) (lookup (is_at (cmp q)) es))

  -- the index once one key's record changed, or was left out
  abbrev pub Follows : Index P → Index P → List (P × Recorded) → P → Option IpAddr → Option ℕ → Type 0
  Follows old new es p source due = (before : List (P × Recorded))
      → source ≡ source_in (lookup (is_at (cmp p)) before) → due ≡ due_in (lookup (is_at (cmp p)) before) old.private old.dns
      → ((q : P) → is_at (cmp p) q ≡ false → lookup (is_at (cmp q)) es ≡ lookup (is_at (cmp q)) before)
      → (is_some (lookup (is_at (cmp p)) es) ≡ true → is_some (lookup (is_at (cmp p)) before) ≡ true)
      → Indexes old before → Indexes new es

  -- the index once a key is taken in that is about to have a record with no place
  abbrev pub Enters : Index P → Index P → P → Type 0
  Enters old new p = (before after : List (P × Recorded)) (r : Recorded) → lookup (is_at (cmp p)) before ≡ None
      → source_of r ≡ None → ((private dns : Bool) → due_of r private dns ≡ None)
      → ((q : P) → lookup (is_at (cmp q)) after ≡ cond (is_at (cmp p) q) (Some r) (lookup (is_at (cmp q)) before))
      → Indexes old before → Indexes new after

  -- the index of a key that has no record stays
  abbrev pub Stays : Index P → Index P → P → Type 0
  Stays old new p = (es : List (P × Recorded)) → lookup (is_at (cmp p)) es ≡ None → Indexes old es → Indexes new es

-- the key as its record has it, where it is to be dialed at the moment
abbrev pub due_key : {P : Type 0} → (P → Bool) → List (P × Recorded) → List (P × ℕ) → ℕ → Bool → Bool → Option P
due_key test es blocks t private dns = cond (is_now (outlook_in (lookup test es) (lookup test blocks) t private dns)) (lookup_key test es) None

-- the peer is neither held nor blocked at the moment
abbrev pub waits : Option Recorded → Option ℕ → ℕ → Bool
waits None block t = false
waits (Some r) block t = is_inert r.status && not (lasts_at block t)

-- another peer is found
abbrev pub is_other : Option Recorded → Bool
is_other None = false
is_other (Some r) = not (is_myself r.address)

-- the end of the block of another peer that is found, where that isn't yet
abbrev pub unblock_at : Option Recorded → ℕ → ℕ → Option ℕ
unblock_at r end t = cond (nat_lt t end) (cond (is_other r) (Some end) None) None

module _ {P : Type 0} (cmp : P → P → Ordering) where
  -- the key is blocked at the moment, and of another peer in a set that dials from the address
  abbrev pub is_blocked_from : List (P × Recorded) → IpAddr → ℕ → P × ℕ → Bool
  is_blocked_from es ip t b = nat_lt t b.1 && is_from ip (source_in (lookup (is_at (cmp b.0)) es))

  -- how many of another peer's keys in sets that aren't blocked at the moment dial from the address
  abbrev pub count_in : List (P × Recorded) → List (P × ℕ) → IpAddr → ℕ → ℕ
  count_in es blocks ip t = count_where (λ q. not (lasts_at (lookup (is_at (cmp q)) blocks) t)) ip es

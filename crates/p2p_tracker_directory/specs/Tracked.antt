-- What an accepted peer set makes of a record: first the set that is new counts, and then the one that is kept no longer.
use Rattle.std.specs.Prelude.{◌≡◌, ℕ, ◌+◌, ◌-◌, ◌^◌, ◌<◌, ◌≤◌, length, is_some, Bool, true, false, cond, not, ◌&&◌, ◌||◌, nat_lt, List, [], ◌∷◌, ◌++◌, Option, Some, None}
use Rattle.std.specs.Option.{option_map, option_or, option_to_list}
use Rattle.std.specs.List.{list_any}
use Rattle.std.specs.Map.{lookup}
use Rattle.std.specs.declared.cmp.Ordering.{Ordering}
use Rattle.p2p_address.specs.declared.ip.IpAddr.TheVariants.{V4}
use Rattle.p2p_address.specs.declared.peer.Address.{Address as PeerAddress}
use Rattle.p2p_address.specs.declared.peer.Address.TheVariants.{Symmetric}
use Rattle.p2p_tracker_calls.specs.Sets.{PeerSet, is_primary_in, is_secondary_in}
use Rattle.p2p_tracker_directory.specs.declared.record.Address.{Address}
use Rattle.p2p_tracker_directory.specs.declared.record.Address.TheVariants as address
use Rattle.p2p_tracker_directory.specs.Recorded.{Recorded, fresh, updated, is_inert, differs, is_deletable}

-- one where it holds
abbrev pub one_if : Bool → ℕ
one_if b = cond b 1 0

-- the record with the address that a set gives, if it gives one
abbrev pub told : Recorded → Option PeerAddress → Recorded
told r None = r
told r (Some given) = updated r given

-- counted once more for each role
abbrev pub counted : Recorded → Bool → Bool → Recorded
counted r primary secondary = record r { primary = r.primary + one_if primary; secondary = r.secondary + one_if secondary }

-- counted once less for each role
abbrev pub discounted : Recorded → Bool → Bool → Recorded
discounted r primary secondary = record r { primary = r.primary - one_if primary; secondary = r.secondary - one_if secondary }

-- the record once a set in which the peer has these roles is kept. A peer without a record gets one where an address is given
abbrev pub enrolled : Option Recorded → Option PeerAddress → Bool → Bool → Option Recorded
enrolled None None primary secondary = None
enrolled None (Some given) primary secondary = Some (counted (fresh (address.Known given)) primary secondary)
enrolled (Some r) given primary secondary = Some (counted (told r given) primary secondary)

-- the record without the need of it
abbrev pub if_needed : Recorded → Option Recorded
if_needed r = cond (is_deletable r) None (Some r)

-- the record once a set in which the peer has these roles is kept no longer: none where nothing needs it then
abbrev pub retired : Option Recorded → Bool → Bool → Option Recorded
retired None primary secondary = None
retired (Some r) primary secondary = cond (primary || secondary) (if_needed (discounted r primary secondary)) (Some r)

-- where a peer is of which nothing is known yet
abbrev pub nowhere : PeerAddress
nowhere = Symmetric (record { ip = V4 (0 ∷ 0 ∷ 0 ∷ 0 ∷ []); port = 0 })

-- a record for a peer that is about to be in a set, in place of none
abbrev pub blanked : Bool → Option Recorded → Option Recorded
blanked b None = cond b (Some (fresh (address.Known nowhere))) None
blanked b (Some r) = Some r

-- the record, if there is one and it is needed
abbrev pub needed : Option Recorded → Option Recorded
needed None = None
needed (Some r) = if_needed r

-- a record is found that nothing needs
abbrev pub is_unneeded_in : Option Recorded → Bool
is_unneeded_in None = false
is_unneeded_in (Some r) = is_deletable r

-- the same for the keys that are asked for
abbrev pub swept : Bool → Option Recorded → Option Recorded
swept b r = cond b (needed r) r

-- one more, but for the greatest number of its type
abbrev pub one_more : ℕ → ℕ
one_more n = cond (nat_lt n (2 ^ 64 - 1)) (n + 1) n

-- counted in one more set
abbrev pub joined : Bool → Recorded → Recorded
joined is_primary r = cond is_primary (record r { primary = one_more r.primary }) (record r { secondary = one_more r.secondary })

-- counted in one set less
abbrev pub parted : Bool → Recorded → Recorded
parted is_primary r = cond is_primary (record r { primary = r.primary - 1 }) (record r { secondary = r.secondary - 1 })

-- the record of a peer that comes into a set with this role, at the address that is given
abbrev pub enters : Bool → Option PeerAddress → Option Recorded → Option Recorded
enters is_primary None r = r
enters is_primary (Some given) r = option_map (λ s. joined is_primary (updated s given)) r

-- the record of a peer that leaves a set in which it had this role
abbrev pub leaves : Bool → Bool → Option Recorded → Option Recorded
leaves is_primary b r = cond b (needed (option_map (parted is_primary) r)) r

-- an address is given that isn't the known one
abbrev pub gets_other : Address → Option PeerAddress → Bool
gets_other a None = false
gets_other a (Some given) = differs a given

-- a count is above 0 once one set is kept and another no longer
abbrev pub is_left : ℕ → Bool → Bool → Bool
is_left n enters leaves = nat_lt (one_if leaves) (n + one_if enters)

-- a peer of the last two roles in a set that is kept no longer is stale, or in no set once one more is kept in which it has the first two
abbrev pub is_ended_by : Recorded → Bool → Bool → Bool → Bool → Bool
is_ended_by r p s ep es = (ep || es) && (r.is_stale || not (is_left r.primary p ep || is_left r.secondary s es))

-- an index is above the last one, if there was one
abbrev pub is_above_latest : ℕ → Option ℕ → Bool
is_above_latest index None = true
is_above_latest index (Some latest) = nat_lt latest index

-- the last of some sets, the first of which is this one
abbrev pub oldest_of : {X : Type 0} → X → List X → Option X
oldest_of x [] = Some x
oldest_of x (y ∷ ys) = oldest_of y ys

-- a list that holds at most `n` is what stays of the whole, and another fell out where the whole was longer
pub record Fell {X : Type 0} (n : ℕ) (whole rest : List X) (fallen : Option X) : Type 0 where
  pub parts : whole ≡ rest ++ option_to_list fallen
  pub fits : length whole ≤ n → fallen ≡ None
  pub over : n < length whole → is_some fallen ≡ true

-- the test of the value, where there is one
abbrev pub passes : {X : Type 0} → (X → Bool) → Option X → Bool
passes test None = false
passes test (Some x) = test x

-- a held peer is found that gets another address, or that a set which is kept no longer named
abbrev pub is_killed_in : Option Recorded → Option PeerAddress → Bool → Bool → Bool → Bool → Bool
is_killed_in None given p s ep es = false
is_killed_in (Some r) given p s ep es = not (is_inert r.status) && (gets_other r.address given || is_ended_by r p s ep es)

-- the same of the key that the test finds
abbrev pub is_killed_where : {P : Type 0} → (P → Bool) → List (P × Recorded) → List (P × PeerAddress) → List (P × PeerAddress) → PeerSet P → Option (PeerSet P) → Bool
is_killed_where test records primary secondary set fallen = is_killed_in (lookup test records) (option_or (lookup test primary) (lookup test secondary))
    (list_any test set.primary) (list_any test set.secondary) (passes (λ s. list_any test s.primary) fallen) (passes (λ s. list_any test s.secondary) fallen)

-- the keys of a set that comes, and of one that goes
abbrev pub candidates : {P : Type 0} → PeerSet P → Option (PeerSet P) → List P
candidates set None = set.primary ++ set.secondary
candidates set (Some fallen) = ((set.primary ++ set.secondary) ++ fallen.primary) ++ fallen.secondary

module _ {P : Type 0} (cmp : P → P → Ordering) where
  -- the key has the role in the set, if there is one
  abbrev pub is_primary_of : Option (PeerSet P) → P → Bool
  is_primary_of fallen q = passes (is_primary_in cmp q) fallen

  abbrev pub is_secondary_of : Option (PeerSet P) → P → Bool
  is_secondary_of fallen q = passes (is_secondary_in cmp q) fallen

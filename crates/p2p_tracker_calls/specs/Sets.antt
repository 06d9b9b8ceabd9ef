-- The peer sets that are kept. The calls stand newest first.
use Rattle.std.specs.Prelude.{ℕ, Bool, true, cond, not, ◌||◌, suc, nat_lt, nat_eq, List, [], ◌∷◌, take, Option, Some, None}
use Rattle.std.specs.List.{list_any, filter, find}
use Rattle.std.specs.Map.{keys_of}
use Rattle.std.specs.BTreeMap.{is_at}
use Rattle.std.specs.declared.cmp.Ordering.{Ordering}
use Rattle.p2p_address.specs.declared.peer.Address.{Address}
use Rattle.p2p_tracker_calls.specs.declared.call.Call.{Call}
use Rattle.p2p_tracker_calls.specs.declared.call.Call.TheVariants as call
use Rattle.p2p_tracker_calls.specs.Rules.{Rules}

-- a peer set: its index, and the keys of each role
pub record PeerSet (P : Type 0) : Type 0 where
  pub index : ℕ
  pub primary : List P
  pub secondary : List P

-- how many elements pass
unfoldable pub how_many : {X : Type 0} → (X → Bool) → List X → ℕ
how_many test [] = 0
how_many test (x ∷ xs) = cond (test x) (suc (how_many test xs)) (how_many test xs)

module _ {P : Type 0} where
  -- an index is above that of the newest set
  abbrev pub is_above : ℕ → List (PeerSet P) → Bool
  is_above index [] = true
  is_above index (s ∷ sets) = nat_lt s.index index

  -- the index of the newest set
  abbrev pub latest_index : List (PeerSet P) → Option ℕ
  latest_index [] = None
  latest_index (s ∷ sets) = Some s.index

  -- the set of an index
  abbrev pub set_at : ℕ → List (PeerSet P) → Option (PeerSet P)
  set_at index sets = find (λ s. nat_eq index s.index) sets

module _ {P : Type 0} (cmp : P → P → Ordering) where
  -- the key stands in the list
  abbrev pub is_among : List P → P → Bool
  is_among keys q = list_any (λ p. is_at (cmp p) q) keys

  -- the secondary peers that aren't primary too
  abbrev pub only_secondary : List (P × Address) → List (P × Address) → List (P × Address)
  only_secondary primary secondary = filter (λ e. not (list_any (is_at (cmp e.0)) (keys_of primary))) secondary

module _ {P : Type 0} (cmp : P → P → Ordering) where
  -- the set of a call: a key in both roles is primary
  abbrev pub set_of : ℕ → List (P × Address) → List (P × Address) → PeerSet P
  set_of index primary secondary = record { index = index; primary = keys_of primary; secondary = keys_of (only_secondary cmp primary secondary) }

  -- the accepted sets after a call: a set is accepted exactly where its index is above that of the accepted one before it
  abbrev pub accepted_by : Call P → List (PeerSet P) → List (PeerSet P)
  accepted_by (call.Track index primary secondary) sets = cond (is_above index sets) (set_of index primary secondary ∷ sets) sets
  accepted_by _ sets = sets

  -- the accepted sets, newest first
  unfoldable pub accepted_sets : List (Call P) → List (PeerSet P)
  accepted_sets [] = []
  accepted_sets (c ∷ calls) = accepted_by c (accepted_sets calls)

  abbrev pub is_primary_in : P → PeerSet P → Bool
  is_primary_in q s = is_among cmp s.primary q

  abbrev pub is_secondary_in : P → PeerSet P → Bool
  is_secondary_in q s = is_among cmp s.secondary q

module _ {P : Type 0} (cmp : P → P → Ordering) (rules : Rules P) where
  -- the sets that are kept: the last accepted ones, newest first
  unfoldable pub kept_sets : List (Call P) → List (PeerSet P)
  kept_sets calls = take rules.max_sets (accepted_sets cmp calls)

  -- the key is in a set that is kept
  unfoldable pub is_tracked : List (Call P) → P → Bool
  is_tracked calls q = list_any (λ s. is_primary_in cmp q s || is_secondary_in cmp q s) (kept_sets calls)

  -- the key is primary in one
  unfoldable pub is_primary : List (Call P) → P → Bool
  is_primary calls q = list_any (is_primary_in cmp q) (kept_sets calls)

  -- in how many it is primary, and secondary
  unfoldable pub primary_sets : List (Call P) → P → ℕ
  primary_sets calls q = how_many (is_primary_in cmp q) (kept_sets calls)

  unfoldable pub secondary_sets : List (Call P) → P → ℕ
  secondary_sets calls q = how_many (is_secondary_in cmp q) (kept_sets calls)

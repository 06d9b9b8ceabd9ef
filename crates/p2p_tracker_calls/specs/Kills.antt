-- Who is killed by a peer set.
use Rattle.std.specs.Prelude.{ℕ, Bool, not, ◌&&◌, ◌||◌, List, ◌∷◌, drop}
use Rattle.std.specs.List.{list_any}
use Rattle.std.specs.declared.cmp.Ordering.{Ordering}
use Rattle.p2p_address.specs.declared.peer.Address.{Address}
use Rattle.p2p_tracker_calls.specs.declared.call.Call.{Call}
use Rattle.p2p_tracker_calls.specs.declared.call.Call.TheVariants as call
use Rattle.p2p_tracker_calls.specs.Rules.{Rules}
use Rattle.p2p_tracker_calls.specs.Sets.{PeerSet, set_of, is_primary_in, is_secondary_in, kept_sets, is_tracked}
use Rattle.p2p_tracker_calls.specs.Grants.{is_held}
use Rattle.p2p_tracker_calls.specs.Blocks.{is_local}
use Rattle.p2p_tracker_calls.specs.Named.{keys_where}
use Rattle.p2p_tracker_calls.specs.Lives.{is_change, given_by, address_of, is_stale}

module _ {P : Type 0} (cmp : P → P → Ordering) (rules : Rules P) (index : ℕ) (primary secondary : List (P × Address)) where
  -- the sets that are kept no longer once this one is
  abbrev pub fallen_sets : List (Call P) → List (PeerSet P)
  fallen_sets calls = drop rules.max_sets (set_of cmp index primary secondary ∷ kept_sets cmp rules calls)

  -- the key is in one of them
  abbrev pub is_evicted : List (Call P) → P → Bool
  is_evicted calls q = list_any (λ s. is_primary_in cmp q s || is_secondary_in cmp q s) (fallen_sets calls)

  -- an accepted set kills a held peer to whom it gives another address, and one that is evicted and is then stale or in no set
  abbrev pub is_killed : List (Call P) → P → Bool
  is_killed calls q = not (is_local cmp rules q) && is_held cmp calls q && (is_change (given_by cmp (call.Track index primary secondary) calls q) (address_of cmp rules calls q)
      || (is_evicted calls q && (is_stale cmp rules (call.Track index primary secondary ∷ calls) q || not (is_tracked cmp rules (call.Track index primary secondary ∷ calls) q))))

module _ {P : Type 0} (cmp : P → P → Ordering) (rules : Rules P) (index : ℕ) (primary secondary : List (P × Address)) where
  -- the keys that it kills, in their order
  abbrev pub killed_keys : List (Call P) → List P
  killed_keys calls = keys_where cmp (λ q. is_killed cmp rules index primary secondary calls q) calls

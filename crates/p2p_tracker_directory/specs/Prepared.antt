-- A peer set that is handed in: made ready to be kept, and taken in.
use Rattle.std.specs.Prelude.{◌≡◌, ℕ, ◌∷◌, List, Option, is_some}
use Rattle.std.specs.List.Sorted.{IsStrictlySortedBy}
use Rattle.std.specs.Map.{keys_of}
use Rattle.std.specs.Option.{IfSome}
use Rattle.std.specs.declared.cmp.Ordering.{Ordering}
use Rattle.p2p_address.specs.declared.peer.Address.{Address as PeerAddress}
use Rattle.p2p_tracker_calls.specs.declared.call.Call.{Call}
use Rattle.p2p_tracker_calls.specs.declared.call.Call.TheVariants as call
use Rattle.p2p_tracker_calls.specs.Kills.{is_killed}
use Rattle.p2p_tracker_calls.specs.Sets.{set_of, only_secondary, is_above, is_among, accepted_sets}
use Rattle.p2p_tracker_directory.specs.Stands.{Kept, StandsFor}
use Rattle.p2p_tracker_directory.specs.declared.directory.newcomers.Newcomers.{Newcomers}

-- the set of what is handed in, and its peers of each role with their addresses, in order. Who is primary isn't among the secondary ones
pub record Prepared {P : Type 0} (cmp : P → P → Ordering) (index : ℕ) (first second : List (P × PeerAddress)) (n : Newcomers P) : Type 0 where
  pub set : n.set ≡ set_of cmp index first second
  pub primary : n.primary.items ≡ first
  pub secondary : n.secondary.items ≡ only_secondary cmp first second
  pub primary_ordered : IsStrictlySortedBy cmp (keys_of n.primary.items)
  pub secondary_ordered : IsStrictlySortedBy cmp (keys_of n.secondary.items)

-- what a directory kept, what it keeps once a set was handed in, and whom it tells to kill, if it accepted the set
pub record TakenIn {P : Type 0} (cmp : P → P → Ordering) (before after : Kept P) (index : ℕ) (first second : List (P × PeerAddress)) (kills : Option (List P)) : Type 0 where
  pub accepted : (calls : List (Call P)) → StandsFor cmp before calls → is_some kills ≡ is_above index (accepted_sets cmp calls)
  pub killed : IfSome kills (λ k. (calls : List (Call P)) → StandsFor cmp before calls → (q : P) → is_among cmp k q ≡ is_killed cmp before.rules index first second calls q)
  pub ordered : IfSome kills (λ k. IsStrictlySortedBy cmp k)
  pub stands : (calls : List (Call P)) → StandsFor cmp before calls → StandsFor cmp after (call.Track index first second ∷ calls)

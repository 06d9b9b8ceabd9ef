-- What peers are told of each other.
use Rattle.std.specs.Prelude.{ℕ, ◌-◌, Bool, cond, is_some, nat_eq, List, [], ◌∷◌, ◌++◌, length, map, Option, Some, None, slice_get}
use Rattle.std.specs.Option.{option_map, option_to_list}
use Rattle.std.specs.declared.cmp.Ordering.{Ordering}
use Rattle.p2p_base.specs.Sorted.{sorted_once}
use Rattle.p2p_runtime.specs.Draws.{seeded, drawn}
use Rattle.p2p_tracker_calls.specs.Rules.{Rules}
use Rattle.p2p_tracker_calls.specs.Sets.{PeerSet, set_at, kept_sets}
use Rattle.p2p_discovery.specs.declared.bit_vec.BitVec.{BitVec}
use Rattle.p2p_discovery.specs.declared.info.Info.{Info}
use Rattle.p2p_discovery_directory.specs.declared.call.Call.{Call}
use Rattle.p2p_discovery_directory.specs.AsLookup.{lookup_calls}
use Rattle.p2p_discovery_directory.specs.Infos.{info_of}

module _ {P : Type 0} (cmp : P → P → Ordering) where
  -- the keys of a set, of both roles together, in their order
  abbrev pub keys_of_set : PeerSet P → List P
  keys_of_set s = sorted_once cmp (s.primary ++ s.secondary)

-- by what is kept of each key
module _ {P : Type 0} (info : P → Option (Info P)) where
  -- a bit for each key of a set: set exactly where an info of it is kept
  abbrev pub known_by : List P → List Bool
  known_by keys = map (λ q. is_some (info q)) keys

  -- what is kept of the keys whose bit isn't set
  abbrev pub unknown_by : List Bool → List P → List (Info P)
  unknown_by [] keys = []
  unknown_by (b ∷ bits) [] = []
  unknown_by (b ∷ bits) (q ∷ keys) = cond b [] (option_to_list (info q)) ++ unknown_by bits keys

module _ {P : Type 0} (cmp : P → P → Ordering) (rules : Rules P) (own : Info P) (calls : List (Call P)) where
  abbrev pub known : List P → List Bool
  known keys = known_by (λ q. info_of cmp rules own calls q) keys

  abbrev pub unknown : List Bool → List P → List (Info P)
  unknown bits keys = unknown_by (λ q. info_of cmp rules own calls q) bits keys

module _ {P : Type 0} (cmp : P → P → Ordering) (rules : Rules P) (own : Info P) (calls : List (Call P)) where
  abbrev pub told_of : List Bool → Option (PeerSet P) → Option (List (Info P))
  told_of bits None = Some []
  told_of bits (Some s) = cond (nat_eq (length bits) (length (keys_of_set cmp s))) (Some (unknown cmp rules own calls bits (keys_of_set cmp s))) None

  -- what a peer is told that knows these of a set: nothing of a set that isn't kept, and no answer where the set has another number of keys
  abbrev pub infos_of : ℕ → List Bool → Option (List (Info P))
  infos_of index bits = told_of bits (set_at index (kept_sets cmp rules (lookup_calls calls)))

  -- the bit vector of a set
  abbrev pub bit_vec_of : PeerSet P → BitVec
  bit_vec_of s = record { index = s.index; bits = known cmp rules own calls (keys_of_set cmp s) }

  -- the set that a seed draws of some that stand newest first: the oldest one has place 0
  abbrev pub drawn_set : ℕ → List (PeerSet P) → Option (PeerSet P)
  drawn_set seed [] = None
  drawn_set seed (s ∷ sets) = slice_get (s ∷ sets) (length sets - (drawn (length sets) (seeded seed)).0)

  -- what of one of the kept sets is known, which the seed draws
  abbrev pub random_bit_vec : ℕ → Option BitVec
  random_bit_vec seed = option_map bit_vec_of (drawn_set seed (kept_sets cmp rules (lookup_calls calls)))

-- What holds of the infos that are kept.
use Rattle.std.specs.Prelude.{◌≡◌, ◌⊎◌, ℕ, ◌≤◌, true, false, List, [], ◌∷◌, Option, Some, None}
use Rattle.std.specs.List.{Contains}
use Rattle.std.specs.BTreeMap.{is_at}
use Rattle.std.specs.declared.cmp.Ordering.{Ordering}
use Rattle.p2p_tracker_calls.specs.Blocks.{is_local}
use Rattle.p2p_tracker_calls.specs.Lives.{is_alive}
use Rattle.p2p_tracker_calls.specs.Rules.{Rules}
use Rattle.p2p_tracker_calls.specs.Sets.{PeerSet, set_at, kept_sets}
use Rattle.p2p_discovery.specs.declared.info.Info.{Info}
use Rattle.p2p_discovery_directory.specs.declared.call.Call.{Call}
use Rattle.p2p_discovery_directory.specs.declared.call.Call.TheVariants as call
use Rattle.p2p_discovery_directory.specs.AsLookup.{lookup_calls}
use Rattle.p2p_discovery_directory.specs.Infos.{info_of}
use Rattle.p2p_discovery_directory.specs.Gossip.{infos_of, bit_vec_of}

-- an info of this moment or a later one is kept
abbrev pub IsKeptSince : {P : Type 0} → ℕ → Option (Info P) → Type 0
IsKeptSince {P = P} moment kept = (i : Info P) × (kept ≡ Some i) × (moment ≤ i.timestamp)

module _ {P : Type 0} (cmp : P → P → Ordering) where
  -- of each info that comes while its peer has a record, that or a newer one is kept afterwards
  abbrev pub NewestIsKept : Type 0
  NewestIsKept = (rules : Rules P) (own : Info P) (calls : List (Call P)) (infos : List (Info P)) (q : P) (i : Info P) → is_local cmp rules q ≡ false
      → is_alive cmp rules (lookup_calls (call.UpdatePeers infos ∷ calls)) q ≡ true → Contains infos i → is_at (cmp i.public_key) q ≡ true
      → IsKeptSince i.timestamp (info_of cmp rules own (call.UpdatePeers infos ∷ calls) q)

  -- what is kept of another peer once infos came was kept before, or is one of these, and of this peer
  abbrev pub OnlyWhatWasToldIsKept : Type 0
  OnlyWhatWasToldIsKept = (rules : Rules P) (own : Info P) (calls : List (Call P)) (infos : List (Info P)) (q : P) (i : Info P) → is_local cmp rules q ≡ false
      → info_of cmp rules own (call.UpdatePeers infos ∷ calls) q ≡ Some i → (info_of cmp rules own calls q ≡ Some i) ⊎ (Contains infos i × (is_at (cmp i.public_key) q ≡ true))

  -- what is kept stays, or a newer one does, while the peer has a record
  abbrev pub IsKeptWithTheRecord : Type 0
  IsKeptWithTheRecord = (rules : Rules P) (own : Info P) (calls : List (Call P)) (c : Call P) (q : P) (i : Info P) → is_alive cmp rules (lookup_calls (c ∷ calls)) q ≡ true
      → info_of cmp rules own calls q ≡ Some i → IsKeptSince i.timestamp (info_of cmp rules own (c ∷ calls) q)

  -- of another peer without a record nothing is kept
  abbrev pub IsForgottenWithTheRecord : Type 0
  IsForgottenWithTheRecord = (rules : Rules P) (own : Info P) (calls : List (Call P)) (q : P) → is_local cmp rules q ≡ false
      → is_alive cmp rules (lookup_calls calls) q ≡ false → info_of cmp rules own calls q ≡ None

  abbrev pub OwnIsKeptForGood : Type 0
  OwnIsKeptForGood = (rules : Rules P) (own : Info P) (calls : List (Call P)) (q : P) → is_local cmp rules q ≡ true → info_of cmp rules own calls q ≡ Some own

  -- who has the directory's own bits of a set that is kept is told nothing
  abbrev pub KnowsAll : Type 0
  KnowsAll = (rules : Rules P) (own : Info P) (calls : List (Call P)) (s : PeerSet P) → set_at s.index (kept_sets cmp rules (lookup_calls calls)) ≡ Some s
      → infos_of cmp rules own calls s.index (bit_vec_of cmp rules own calls s).bits ≡ Some []

-- Who is in the sets, as those who ask are told.
use Rattle.std.specs.Prelude.{ℕ, not, ◌&&◌, List, [], ◌∷◌, Option, Some, None}
use Rattle.std.specs.Option.{option_map}
use Rattle.std.specs.declared.cmp.Ordering.{Ordering}
use Rattle.p2p_flow.specs.declared.tracked.TrackedPeers.{TrackedPeers}
use Rattle.p2p_flow.specs.declared.update.PeerSetUpdate.{PeerSetUpdate}
use Rattle.p2p_tracker_calls.specs.declared.call.Call.{Call}
use Rattle.p2p_tracker_calls.specs.Rules.{Rules}
use Rattle.p2p_tracker_calls.specs.Sets.{PeerSet, set_at, kept_sets, is_tracked, is_primary}
use Rattle.p2p_tracker_calls.specs.Named.{keys_where}

-- the peers of a set
abbrev pub peers_of : {P : Type 0} → PeerSet P → TrackedPeers P
peers_of s = record { primary = s.primary; secondary = s.secondary }

-- the first of some sets, which stand newest first
abbrev pub newest_of : {X : Type 0} → List X → Option X
newest_of [] = None
newest_of (x ∷ xs) = Some x

module _ {P : Type 0} (cmp : P → P → Ordering) (rules : Rules P) where
  -- the peers of the set of an index, if one of that index is kept
  abbrev pub peer_set_of : List (Call P) → ℕ → Option (TrackedPeers P)
  peer_set_of calls index = option_map peers_of (set_at index (kept_sets cmp rules calls))

  -- the peers of all sets that are kept: who is primary in one isn't secondary
  abbrev pub all_peers : List (Call P) → TrackedPeers P
  all_peers calls = record {
    primary = keys_where cmp (λ q. is_primary cmp rules calls q) calls;
    secondary = keys_where cmp (λ q. is_tracked cmp rules calls q && not (is_primary cmp rules calls q)) calls;
  }

module _ {P : Type 0} (cmp : P → P → Ordering) (rules : Rules P) where
  -- what is told of the newest set, if one is kept
  abbrev pub latest_update : List (Call P) → Option (PeerSetUpdate P)
  latest_update calls = option_map (λ s. record { index = s.index; latest = peers_of s; all = all_peers cmp rules calls }) (newest_of (kept_sets cmp rules calls))

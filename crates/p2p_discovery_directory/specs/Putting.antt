-- What a step of the tracker puts.
use Rattle.std.specs.Prelude.{ℕ, Bool, true, false, cond, nat_lt, List, [], ◌∷◌, ◌++◌, length, take, Option, Some, None}
use Rattle.std.specs.Map.{lookup, remove_entry}
use Rattle.std.specs.BTreeMap.{is_at}
use Rattle.std.specs.declared.cmp.Ordering.{Ordering}
use Rattle.p2p_runtime.specs.Draws.{seeded, shuffled}
use Rattle.p2p_discovery.specs.declared.bit_vec.BitVec.{BitVec}
use Rattle.p2p_discovery.specs.declared.info.Info.{Info}
use Rattle.p2p_flow.specs.declared.update.PeerSetUpdate.{PeerSetUpdate}
use Rattle.p2p_discovery_directory.specs.declared.tracker.put.Put.{Put}
use Rattle.p2p_discovery_directory.specs.declared.tracker.put.Put.TheVariants as put
use Rattle.p2p_discovery_directory.specs.declared.tracker.standing.Standing.{Standing}
use Rattle.p2p_discovery_directory.specs.declared.tracker.standing.Standing.TheVariants as standing

-- what is made of the connection that is kept for a key, if one is, by whether the key is eligible
abbrev pub standing_of : Option ℕ → Bool → Standing
standing_of None eligible = standing.Unknown
standing_of (Some conn) true = standing.Kept conn
standing_of (Some conn) false = standing.Barred conn

module _ {P : Type 0} where
  -- the kill of a key, if a connection of it is kept
  abbrev pub kill_put : P → Option ℕ → List (Put P)
  kill_put k None = []
  kill_put k (Some conn) = put.Kill k conn ∷ []

  module _ (cmp : P → P → Ordering) where
    -- the kills of keys, of which these connections are kept, in their order
    abbrev pub kills_put : List (P × ℕ) → List P → List (Put P)
    kills_put controls [] = []
    kills_put controls (k ∷ ks) = kill_put k (lookup (is_at (cmp k)) controls) ++ kills_put (remove_entry (is_at (cmp k)) controls) ks

    -- the connections that are kept then
    abbrev pub without_keys : List (P × ℕ) → List P → List (P × ℕ)
    without_keys controls [] = controls
    without_keys controls (k ∷ ks) = without_keys (remove_entry (is_at (cmp k)) controls) ks

  -- the update for each of these subscriptions
  abbrev pub updates_put : List ℕ → PeerSetUpdate P → List (Put P)
  updates_put [] u = []
  updates_put (t ∷ ts) u = put.Update t u ∷ updates_put ts u

  -- the same, if there is an update
  abbrev pub told_of_sets : List ℕ → Option (PeerSetUpdate P) → List (Put P)
  told_of_sets ts None = []
  told_of_sets ts (Some u) = updates_put ts u

  -- the set of blocked keys for each of these subscriptions
  abbrev pub sets_put : List ℕ → List P → List (Put P)
  sets_put [] s = []
  sets_put (t ∷ ts) s = put.Blocked t s ∷ sets_put ts s

  -- the same, if who is blocked has changed
  abbrev pub told_of_blocks : List ℕ → Option (List P) → List (Put P)
  told_of_blocks ts None = []
  told_of_blocks ts (Some s) = sets_put ts s

  -- the bit vector that a connection is to send, if there is one
  abbrev pub bits_put : P → ℕ → Option BitVec → List (Put P)
  bits_put k conn None = []
  bits_put k conn (Some bits) = put.BitVec k conn bits ∷ []

  -- so many of these infos, which the seed draws where there are more
  abbrev pub gossip : ℕ → ℕ → List (Info P) → List (Info P)
  gossip most seed infos = cond (nat_lt most (length infos)) (take most (shuffled infos (seeded seed)).0) infos

  -- the infos that a connection is to send, if there are any
  abbrev pub peers_put : P → ℕ → List (Info P) → List (Put P)
  peers_put k conn [] = []
  peers_put k conn (i ∷ infos) = put.Peers k conn (i ∷ infos) ∷ []

  -- what a bit vector that came brings its connection: some of the infos that its peer lacks, or its end where it names no set of this many keys
  abbrev pub told_of_bits : P → ℕ → ℕ → ℕ → Option (List (Info P)) → List (Put P)
  told_of_bits k conn most seed None = put.Kill k conn ∷ []
  told_of_bits k conn most seed (Some infos) = peers_put k conn (gossip most seed infos)

-- When a key that is held at a node is given back.
use Rattle.std.specs.Prelude.{◌≡◌, ℕ, ◌≤◌, false, List, [], ◌∷◌, ◌++◌, take, count_by, Some, slice_get}
use Rattle.p2p_base.specs.declared.key.Key.{Key}
use Rattle.p2p_log.specs.declared.config.Config.{Config}
use Rattle.p2p_log.specs.declared.entry.Entry.{Entry}
use Rattle.p2p_log_rules.specs.Connections.{tells_some}
use Rattle.p2p_log_rules.specs.Facts.{stops_node}
use Rattle.p2p_log_laws.specs.NodeGrants.{puts_release, holders_of}

module _ (configs : List Config) (n : ℕ) (key : Key) (before : List Entry) (e : Entry) where
  -- something held the key at the node before the entry, and nothing does after it
  abbrev pub EndsItsHolder : Type 0
  EndsItsHolder = (holders_of n key configs before ≡ 1) × (holders_of n key configs (before ++ e ∷ []) ≡ 0)

  -- how many releases of the key the entry puts for the node's tracker
  abbrev pub releases_put : ℕ
  releases_put = count_by (puts_release n key) e.puts

-- an entry that ends what holds the key puts its one release, unless it stops the node, and no other entry puts any
pub record IsReleasedAsItEnds (configs : List Config) (n : ℕ) (key : Key) (before : List Entry) (e : Entry) : Type 0 where
  pub ended : tells_some (stops_node n) before e ≡ false → EndsItsHolder configs n key before e → releases_put configs n key before e ≡ 1
  pub alone : 1 ≤ releases_put configs n key before e → EndsItsHolder configs n key before e

-- so it is with each key, at each node, in each entry: the release of a grant stands in the entry in which its last holder ended, where that does not stop the node
abbrev pub EachIsReleasedAsItEnds : List Config → List Entry → Type 0
EachIsReleasedAsItEnds configs log =
    (k n : ℕ) (key : Key) (e : Entry) → slice_get log k ≡ Some e → IsReleasedAsItEnds configs n key (take k log) e

-- The text of peer sets.
use Rattle.std.specs.Prelude.{ℕ, List, ◌++◌, codes, Option, Some, None}
use Rattle.p2p_base.specs.declared.key.Key.{Key}
use Rattle.p2p_flow.specs.declared.tracked.TrackedPeers.{TrackedPeers}
use Rattle.p2p_flow.specs.declared.update.PeerSetUpdate.{PeerSetUpdate}
use Rattle.p2p_sim_report.specs.Text.{number_onto, key_onto, list_onto}

abbrev pub tracked_onto : List ℕ → TrackedPeers Key → List ℕ
tracked_onto out peers =
    list_onto key_onto (list_onto key_onto (out ++ codes "{\"primary\":") peers.primary ++ codes ",\"secondary\":") peers.secondary ++ codes "}"

-- the peers of a set, if it is kept
abbrev pub peer_set_onto : List ℕ → Option (TrackedPeers Key) → List ℕ
peer_set_onto out None = out ++ codes "null"
peer_set_onto out (Some peers) = tracked_onto out peers

abbrev pub update_onto : List ℕ → PeerSetUpdate Key → List ℕ
update_onto out update =
    tracked_onto (number_onto (tracked_onto (out ++ codes "{\"all\":") update.all ++ codes ",\"index\":") update.index ++ codes ",\"latest\":") update.latest
    ++ codes "}"

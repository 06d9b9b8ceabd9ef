use Rattle.std.proofs.Common.{◌≡◌, ◌++◌, drop}
use Rattle.p2p_discovery_directory.specs.Putting.{kills_put, without_keys}
use Rattle.p2p_discovery_directory.proofs.tracker.actor.controls.kill_all.Given as goal

abbrev pub invariant-loop-peer : goal.invariant-loop-peer
invariant-loop-peer g l = record {
  put : l.put.items ++ kills_put g.P.Ord.cmp l.controls.entries (drop l.peer-index l.peers) ≡ l.initial.put.items ++ kills_put g.P.Ord.cmp l.initial.controls.entries l.peers;
  controls : without_keys g.P.Ord.cmp l.controls.entries (drop l.peer-index l.peers) ≡ without_keys g.P.Ord.cmp l.initial.controls.entries l.peers;
}

use Rattle.std.proofs.Common.{◌≡◌, ◌++◌, cond, drop, take, None}
use Rattle.std.specs.Map.{lookup}
use Rattle.std.specs.BTreeMap.{is_at}
use Rattle.p2p_tracker_calls.specs.Sets.{is_among}
use Rattle.p2p_tracker.specs.Telling.{kills_put, without_keys}
use Rattle.p2p_tracker.proofs.actor.kills.kill_all.Given as goal

abbrev pub invariant-loop-peer : goal.invariant-loop-peer
invariant-loop-peer g l = record {
  put : l.put.items ++ kills_put g.C.Ord.cmp l.controls.entries (drop l.peer-index l.peers) ≡ l.initial.put.items ++ kills_put g.C.Ord.cmp l.initial.controls.entries l.peers;
  controls : without_keys g.C.Ord.cmp l.controls.entries (drop l.peer-index l.peers) ≡ without_keys g.C.Ord.cmp l.initial.controls.entries l.peers;
  each : (q : g.row.C.Denot) → lookup (is_at (g.C.Ord.cmp q)) l.controls.entries ≡ cond (is_among g.C.Ord.cmp (take l.peer-index l.peers) q) None (lookup (is_at (g.C.Ord.cmp q)) l.initial.controls.entries);
}

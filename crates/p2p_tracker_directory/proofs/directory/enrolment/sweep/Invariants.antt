use Rattle.std.proofs.Common.{◌≡◌, drop}
use Rattle.std.specs.Map.{lookup}
use Rattle.std.specs.BTreeMap.{is_at}
use Rattle.p2p_tracker_directory.specs.Tracked.{needed}
use Rattle.p2p_tracker_directory.proofs.Walks.{walked_keys}
use Rattle.p2p_tracker_directory.specs.Indexed.{HasRules}
use Rattle.p2p_tracker_directory.proofs.directory.enrolment.sweep.Given as goal

abbrev pub invariant-loop-peer : goal.invariant-loop-peer
invariant-loop-peer g l = (
    (q : g.row.C.Denot) → walked_keys g.C.Ord.cmp (needed) (drop l.peer-index l.peers) q (lookup (is_at (g.C.Ord.cmp q)) l.records.entries)
    ≡ walked_keys g.C.Ord.cmp (needed) l.peers q (lookup (is_at (g.C.Ord.cmp q)) l.initial.records.entries)
    ) × HasRules l.initial.records.private l.initial.records.dns l.records

use Rattle.std.proofs.Common.{◌≡◌, drop}
use Rattle.std.specs.Option.{option_map}
use Rattle.std.specs.Map.{lookup}
use Rattle.std.specs.BTreeMap.{is_at}
use Rattle.p2p_tracker_directory.specs.Tracked.{needed, parted}
use Rattle.p2p_tracker_directory.proofs.Walks.{walked_keys}
use Rattle.p2p_tracker_directory.specs.Indexed.{HasRules}
use Rattle.p2p_tracker_directory.proofs.directory.enrolment.retire.Given as goal

abbrev pub invariant-loop-peer : goal.invariant-loop-peer
invariant-loop-peer g l = (
    (q : g.row.C.Denot) → walked_keys g.C.Ord.cmp (λ r. needed (option_map (parted l.is_primary) r)) (drop l.peer-index l.peers) q (lookup (is_at (g.C.Ord.cmp q)) l.records.entries)
    ≡ walked_keys g.C.Ord.cmp (λ r. needed (option_map (parted l.is_primary) r)) l.peers q (lookup (is_at (g.C.Ord.cmp q)) l.initial.records.entries)
    ) × HasRules l.initial.records.private l.initial.records.dns l.records

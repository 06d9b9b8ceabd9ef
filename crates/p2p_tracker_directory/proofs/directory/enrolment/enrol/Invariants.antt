use Rattle.std.proofs.Common.{◌≡◌, Some}
use Rattle.std.specs.Map.{lookup}
use Rattle.std.specs.BTreeMap.{is_at}
use Rattle.p2p_tracker_directory.specs.Tracked.{enters}
use Rattle.p2p_tracker_directory.proofs.Walks.{walked}
use Rattle.p2p_tracker_directory.specs.Indexed.{HasRules}
use Rattle.p2p_tracker_directory.proofs.directory.enrolment.enrol.Given as goal

abbrev pub invariant-loop-peer : goal.invariant-loop-peer
invariant-loop-peer g l = (
    (q : g.row.C.Denot) → walked g.C.Ord.cmp (λ a r. enters l.is_primary (Some a) r) l.peer-iterator.rest.items q (lookup (is_at (g.C.Ord.cmp q)) l.records.entries)
    ≡ walked g.C.Ord.cmp (λ a r. enters l.is_primary (Some a) r) l.fn.peers.items q (lookup (is_at (g.C.Ord.cmp q)) l.initial.records.entries)
    ) × HasRules l.initial.records.private l.initial.records.dns l.records

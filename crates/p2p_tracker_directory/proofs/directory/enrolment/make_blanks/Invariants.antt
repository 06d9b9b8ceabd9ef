use Rattle.std.proofs.Common.{◌≡◌, drop}
use Rattle.std.specs.Map.{lookup}
use Rattle.std.specs.BTreeMap.{is_at}
use Rattle.p2p_tracker_calls.specs.Sets.{is_among}
use Rattle.p2p_tracker_directory.specs.Tracked.{blanked, swept}
use Rattle.p2p_tracker_directory.specs.Indexed.{HasRules}
use Rattle.p2p_tracker_directory.proofs.directory.enrolment.make_blanks.Given as goal

abbrev pub invariant-loop-peer : goal.invariant-loop-peer
invariant-loop-peer g l = record {
  made : (q : g.row.C.Denot) → blanked (is_among g.C.Ord.cmp (drop l.peer-index l.peers) q) (lookup (is_at (g.C.Ord.cmp q)) l.records.entries)
      ≡ blanked (is_among g.C.Ord.cmp l.peers q) (lookup (is_at (g.C.Ord.cmp q)) l.initial.records.entries);
  swept : (q : g.row.C.Denot) → swept (is_among g.C.Ord.cmp l.peers q) (lookup (is_at (g.C.Ord.cmp q)) l.records.entries)
      ≡ swept (is_among g.C.Ord.cmp l.peers q) (lookup (is_at (g.C.Ord.cmp q)) l.initial.records.entries);
  rules : HasRules l.initial.records.private l.initial.records.dns l.records;
}

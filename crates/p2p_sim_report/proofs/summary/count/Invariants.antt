-- Those that were counted, and then those that are left.
use Rattle.std.proofs.Common.{◌≡◌, ◌+◌, ◌≤◌, drop}
use Rattle.p2p_sim_report.specs.SummaryText.{count}
use Rattle.p2p_sim_report.proofs.summary.count.Given as goal

abbrev pub invariant-loop-fate : goal.invariant-loop-fate
invariant-loop-fate l = record {
  counted : l.count + count l.kind (drop l.fate-index l.fates) ≡ count l.kind l.fates;
  bounded : l.count ≤ l.fate-index;
}

-- The copies of the entries so far, each of which has fewer than 2 ^ 64.
use Rattle.std.proofs.Common.{◌≡◌, ◌+◌, ◌*◌, ◌^◌, ◌≤◌, drop}
use Rattle.p2p_sim_report.specs.ReportText.{count_copies}
use Rattle.p2p_sim_report.proofs.report.copies_in.Given as goal

abbrev pub invariant-loop-entry : goal.invariant-loop-entry
invariant-loop-entry l = record {
  counted : l.copies + count_copies (drop l.entry-index l.log) ≡ count_copies l.log;
  bounded : l.copies ≤ 2 ^ 64 * l.entry-index;
}

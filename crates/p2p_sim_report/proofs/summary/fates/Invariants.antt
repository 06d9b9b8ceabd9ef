-- The fates that were added, and then those that are left, are all of them.
use Rattle.std.proofs.Common.{◌≡◌, ◌++◌, drop}
use Rattle.p2p_sim_report.specs.SummaryText.{fates_from, all_fates}
use Rattle.p2p_sim_report.proofs.summary.fates.Given as goal

abbrev pub invariant-loop-n : goal.invariant-loop-n
invariant-loop-n l = l.fates.items ++ fates_from l.report.log l.n (drop l.n l.log) ≡ all_fates l.report.log

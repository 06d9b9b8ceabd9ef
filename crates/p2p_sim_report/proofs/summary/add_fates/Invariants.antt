-- The fates that were added, and then those that are left, are all of them.
use Rattle.std.proofs.Common.{◌≡◌, ◌++◌, drop}
use Rattle.p2p_sim_report.specs.SummaryText.{send_fates}
use Rattle.p2p_sim_report.proofs.summary.add_fates.Given as goal

abbrev pub invariant-loop-place : goal.invariant-loop-place
invariant-loop-place l =
    l.fates.items ++ send_fates l.report.log l.send l.place (drop l.place l.keys) ≡ l.fn.fates.items ++ send_fates l.report.log l.send 0 l.keys

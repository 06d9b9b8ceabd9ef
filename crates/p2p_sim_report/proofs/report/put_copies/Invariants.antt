-- What is left, written at the end of what stands, gives what all the copies give.
use Rattle.std.proofs.Common.{◌≡◌, drop}
use Rattle.std.specs.String.{string_bytes}
use Rattle.p2p_sim_report.specs.ReportText.{copies_onto}
use Rattle.p2p_sim_report.proofs.report.put_copies.Given as goal

abbrev pub invariant-loop-place : goal.invariant-loop-place
invariant-loop-place l =
    copies_onto l.report.log (string_bytes l.out) l.send l.place (drop l.place l.keys) ≡ copies_onto l.report.log (string_bytes l.fn.out) l.send 0 l.keys

-- What is left, written at the end of what stands, gives what the whole log gives.
use Rattle.std.proofs.Common.{◌≡◌, drop}
use Rattle.std.specs.String.{string_bytes}
use Rattle.p2p_sim_report.specs.ReportText.{entries_onto}
use Rattle.p2p_sim_report.proofs.report.put_entries.Given as goal

abbrev pub invariant-loop-n : goal.invariant-loop-n
invariant-loop-n l = entries_onto (string_bytes l.out) l.n (drop l.n l.log) ≡ entries_onto (string_bytes l.fn.out) 0 l.log

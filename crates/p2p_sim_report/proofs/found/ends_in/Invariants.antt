-- The ends of the entries from n on are noted.
use Rattle.std.proofs.Common.{drop}
use Rattle.p2p_sim_report.specs.Found.{HasEnds}
use Rattle.p2p_sim_report.proofs.found.ends_in.Given as goal

abbrev pub invariant-loop-n : goal.invariant-loop-n
invariant-loop-n l = HasEnds l.ended l.n (drop l.n l.log)

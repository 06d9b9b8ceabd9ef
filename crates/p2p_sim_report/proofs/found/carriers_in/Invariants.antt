-- The carriers that the entries from n on put, and the items that go by them, are noted.
use Rattle.std.proofs.Common.{drop}
use Rattle.p2p_sim_report.specs.Found.{HasCarriers, HasGone}
use Rattle.p2p_sim_report.proofs.found.carriers_in.Given as goal

abbrev pub invariant-loop-n : goal.invariant-loop-n
invariant-loop-n l = record {
  waiting : HasCarriers l.waiting l.n (drop l.n l.log);
  gone : HasGone l.gone (drop l.n l.log);
}

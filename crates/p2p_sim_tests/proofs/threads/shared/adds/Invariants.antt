use Rattle.p2p_threads.specs.Account.{IsAlike}
use Rattle.p2p_sim_tests.proofs.threads.shared.adds.Given as goal

abbrev pub invariant-loop-i : goal.invariant-loop-i
invariant-loop-i g l = IsAlike l.initial.pass l.pass

use Rattle.std.proofs.Common.{◌≡◌, ◌+◌, ◌++◌, length}
use Rattle.p2p_sim_script.specs.Generated.{events_from}
use Rattle.p2p_sim_script.proofs.generator.beginning.put_acts.Given as goal

abbrev pub invariant-loop-act : goal.invariant-loop-act
invariant-loop-act l = record {
  script : l.script.items ≡ l.initial.script.items ++ events_from l.first l.yielded;
  next : l.n ≡ l.first + length l.yielded;
}

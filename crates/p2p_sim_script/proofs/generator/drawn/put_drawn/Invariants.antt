use Rattle.std.proofs.Common.{◌≡◌, ◌≤◌, ◌-◌, ◌++◌}
use Rattle.p2p_runtime.specs.Draws.{seeded}
use Rattle.p2p_sim_script.specs.Generated.{drawn_from}
use Rattle.p2p_sim_script.proofs.generator.drawn.put_drawn.Given as goal

abbrev pub invariant-loop-n : goal.invariant-loop-n
invariant-loop-n l = record {
  script : l.script.items ++ drawn_from l.n (l.count - l.n) l.draws ≡ l.initial.script.items ++ drawn_from 96 (l.count - 96) (seeded l.seed);
  from : 96 ≤ l.n;
}

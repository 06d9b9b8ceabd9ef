use Rattle.std.proofs.Common.{◌≡◌, ◌-◌, ◌≤◌, length, IsPermutation}
use Rattle.p2p_runtime.specs.Draws.{exchanged, shuffled}
use Rattle.p2p_runtime.proofs.draws.Draws.shuffle.Given as goal

abbrev pub invariant-loop-left : goal.invariant-loop-left
invariant-loop-left g l = record {
  within : l.left ≤ length l.list;
  rest : exchanged (l.left - 1) l.list l.self ≡ shuffled l.initial.list l.initial.self;
  permutation : IsPermutation l.initial.list l.list;
}

abbrev pub decreases-loop-left : goal.decreases-loop-left
decreases-loop-left g l = l.left

use Rattle.std.proofs.Common.{◌≡◌, ◌++◌}
use Rattle.p2p_wire.specs.Varint.{spelling}
use Rattle.p2p_wire.proofs.varint.push.Given as goal

abbrev pub invariant-loop-rest : goal.invariant-loop-rest
invariant-loop-rest l = l.out.items ++ spelling l.rest ≡ l.fn.out.items ++ spelling l.number

abbrev pub decreases-loop-rest : goal.decreases-loop-rest
decreases-loop-rest l = l.rest

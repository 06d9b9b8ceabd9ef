use Rattle.std.proofs.Common.{◌≡◌, ◌++◌, length}
use Rattle.p2p_discovery.specs.Spelling.{packed}
use Rattle.p2p_discovery.proofs.writing.bits.put_bits.Given as goal

abbrev pub invariant-loop-rest : goal.invariant-loop-rest
invariant-loop-rest l = l.out.items ++ packed l.rest ≡ l.fn.out.items ++ packed l.bits

abbrev pub decreases-loop-rest : goal.decreases-loop-rest
decreases-loop-rest l = length l.rest

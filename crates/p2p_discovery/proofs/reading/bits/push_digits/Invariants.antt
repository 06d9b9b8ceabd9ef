use Rattle.std.proofs.Common.{◌≡◌, ◌++◌, ◌-◌}
use Rattle.p2p_discovery.specs.Reading.{digits}
use Rattle.p2p_discovery.proofs.reading.bits.push_digits.Given as goal

abbrev pub invariant-loop : goal.invariant-loop
invariant-loop l = l.bits.items ++ digits (l.count - l.counter) l.rest ≡ l.fn.bits.items ++ digits l.count l.byte

use Rattle.std.proofs.Common.{◌≡◌, drop}
use Rattle.p2p_discovery.specs.Reading.{unpacked}
use Rattle.p2p_discovery.proofs.Loops.{bits_behind}
use Rattle.p2p_discovery.proofs.reading.bits.unpack.Given as goal

abbrev pub invariant-loop-byte : goal.invariant-loop-byte
invariant-loop-byte l = bits_behind l.bits.items (unpacked l.left (drop l.byte-index l.bytes)) ≡ unpacked l.count l.bytes

use Rattle.std.proofs.Common.{◌≡◌, ◌-◌}
use Rattle.p2p_discovery.specs.Reading.{infos_at}
use Rattle.p2p_discovery.proofs.Loops.{behind}
use Rattle.p2p_discovery.proofs.reading.info.read_infos.Given as goal

abbrev pub invariant-loop : goal.invariant-loop
invariant-loop g l = behind l.infos (infos_at g.P.PublicKey.key_of g.P.PublicKey.SIZE (l.count - l.counter) l.rest) ≡ infos_at g.P.PublicKey.key_of g.P.PublicKey.SIZE l.count l.fn.bytes

use Rattle.std.proofs.Common.{◌≡◌, take}
use Rattle.p2p_discovery_directory.specs.Gossip.{known_by}
use Rattle.p2p_discovery_directory.specs.Plain.{info_at}
use Rattle.p2p_discovery_directory.proofs.plain.PlainDirectory.known.Given as goal

abbrev pub invariant-loop-key : goal.invariant-loop-key
invariant-loop-key g l = l.bits.items ≡ known_by (λ q. info_at g.P.Ord.cmp l.self q) (take l.key-index l.keys)

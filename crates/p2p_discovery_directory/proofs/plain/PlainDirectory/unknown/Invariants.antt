use Rattle.std.proofs.Common.{◌≡◌, ◌++◌, drop}
use Rattle.p2p_discovery_directory.specs.Gossip.{unknown_by}
use Rattle.p2p_discovery_directory.specs.Plain.{info_at}
use Rattle.p2p_discovery_directory.proofs.plain.PlainDirectory.unknown.Given as goal

abbrev pub invariant-loop-place : goal.invariant-loop-place
invariant-loop-place g l = l.told.items ++ unknown_by (λ q. info_at g.P.Ord.cmp l.self q) (drop l.place l.bits) (drop l.place l.keys) ≡ unknown_by (λ q. info_at g.P.Ord.cmp l.self q) l.bits l.keys

use Rattle.std.proofs.Common.{◌≡◌, not}
use Rattle.std.specs.List.{find}
use Rattle.std.specs.Map.{keys_of}
use Rattle.p2p_discovery_directory.specs.Tests.{knows}
use Rattle.p2p_discovery_directory.proofs.plain.places.first_gone.Given as goal

abbrev pub invariant-loop-peer : goal.invariant-loop-peer
invariant-loop-peer g l = find (λ k. not (knows g.P.Ord.cmp l.peers k)) (keys_of l.peer-iterator) ≡ find (λ k. not (knows g.P.Ord.cmp l.peers k)) (keys_of l.places.entries)

use Rattle.std.proofs.Common.{◌≡◌, take}
use Rattle.p2p_discovery_directory.specs.AsLookup.{placed}
use Rattle.p2p_discovery_directory.proofs.plain.placing.pairs_of.Given as goal

abbrev pub invariant-loop-key : goal.invariant-loop-key
invariant-loop-key g l = l.pairs.items ≡ placed (take l.key-index l.keys)

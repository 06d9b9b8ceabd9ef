use Rattle.std.proofs.Common.{◌≡◌, map, take}
use Rattle.p2p_sim_script.specs.GeneratedActs.{peer_at}
use Rattle.p2p_sim_script.proofs.generator.peers.peers.Given as goal

abbrev pub invariant-loop-node : goal.invariant-loop-node
invariant-loop-node l = l.pairs.items ≡ map peer_at (take l.node-index l.nodes)

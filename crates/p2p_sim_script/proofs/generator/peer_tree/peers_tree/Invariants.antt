use Rattle.std.proofs.Common.{◌≡◌, map, take}
use Rattle.serde_json.specs.View.{view}
use Rattle.p2p_sim_script.specs.GeneratedTree.{peer_tree}
use Rattle.p2p_sim_script.proofs.generator.peer_tree.peers_tree.Given as goal

abbrev pub invariant-loop-node : goal.invariant-loop-node
invariant-loop-node l = map view l.peers.items ≡ map peer_tree (take l.node-index l.nodes)

use Rattle.std.proofs.Common.{◌≡◌, map, take}
use Rattle.serde_json.specs.View.{view}
use Rattle.p2p_sim_script.specs.GeneratedTree.{number_tree}
use Rattle.p2p_sim_script.proofs.generator.peer_tree.bytes_tree.Given as goal

abbrev pub invariant-loop-byte : goal.invariant-loop-byte
invariant-loop-byte l = map view l.numbers.items ≡ map number_tree (take l.byte-index l.bytes)

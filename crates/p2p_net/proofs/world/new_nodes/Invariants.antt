use Rattle.std.proofs.Common.{◌≡◌, ℕ, [], length, Some}
use Rattle.std.specs.Prelude.{slice_get}
use Rattle.p2p_net_node.specs.declared.node.Node.{Node}
use Rattle.p2p_net_node.specs.Stands.{NodeStands}
use Rattle.p2p_net.proofs.world.new_nodes.Given as goal

abbrev pub invariant-loop-number : goal.invariant-loop-number
invariant-loop-number l = record {
  long : length l.nodes.items ≡ l.number;
  each : (n : ℕ) (x : Node) → slice_get l.nodes.items n ≡ Some x → NodeStands l.configs [] n x;
}

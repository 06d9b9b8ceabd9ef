use Rattle.std.proofs.Common.{ap, ◌∙◌}
use Rattle.std.specs.Prelude.{slice_get}
use Rattle.p2p_net.specs.World.{WorldView}
use Rattle.p2p_net_node.proofs.Nodes.{copied_at}
use Rattle.p2p_net.proofs.world.World.node.Goals as goal

pub returns : goal.returns
returns c =
    copied_at c.get.result c.deref.result.now c.args.number c.get.ensures.lookup.0 c.get.ensures.lookup.1
    ∙ (ap (λ l. slice_get l c.args.number) c.deref.ensures.value ∙ ap (λ (w : WorldView). slice_get w.nodes c.args.number) c.self.view_is)

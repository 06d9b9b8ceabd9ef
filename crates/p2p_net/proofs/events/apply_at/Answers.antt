use Rattle.std.proofs.Common.{◌≡◌, refl, subst, Some}
use Rattle.std.specs.Prelude.{slice_get}
use Rattle.p2p_net.specs.Acts.{NodeDoes}
use Rattle.p2p_net_node.proofs.Nodes.{found}
use Rattle.p2p_net.proofs.events.apply_at.Goals as goal

pub returns-in-Ok : goal.returns-in-Ok
returns-in-Ok c =
    let nodes = c.args.nodes.now.items in
    let x = c.index_mut.result.now in
    let n = c.args.node in
    let ev = c.args.event.now in
    let there : slice_get nodes n ≡ Some x = found nodes n x c.requires.in_range c.index_mut.ensures.value in
    let made = c.in-Ok.ensures.does in
    let number = c.requires.numbers n x there in (
      made.0,
      (
        made.1.0,
        (
          x,
          (
            c.apply_to.new.node,
            (
              there,
              (refl, subst (λ m. NodeDoes c.args.entry m ev.at ev.seed ev.act x c.apply_to.new.node c.args.links.now c.apply_to.new.links made.0) number made.1.1),
            ),
          ),
        ),
      ),
    )

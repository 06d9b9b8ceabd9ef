use Rattle.p2p_net.proofs.Applied.{applied}
use Rattle.p2p_net.proofs.applying.apply_to.Goals as goal

pub returns-in-Ok-clause-stands : goal.returns-in-Ok-clause-stands
returns-in-Ok-clause-stands c =
    applied c.args.number c.args.event.now c.args.node.now c.entry_at.new.node c.args.links.now c.entry_at.new.links c.in-Ok.entry c.in-Ok.ensures.does

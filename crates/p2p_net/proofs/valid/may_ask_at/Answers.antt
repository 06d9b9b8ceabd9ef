use Rattle.std.proofs.Common.{ap, sym, ◌∙◌}
use Rattle.std.specs.Prelude.{slice_get}
use Rattle.p2p_net_node.specs.Ready.{may_at}
use Rattle.p2p_net.proofs.Requesting.{nothing_at, unlisted}
use Rattle.p2p_net.proofs.valid.may_ask_at.Goals as goal

pub returns-in-None-get : goal.returns-in-None-get
returns-in-None-get c =
    let node = slice_get c.args.nodes.now c.args.number in
    sym (ap (λ r. may_at node r c.args.log.now c.args.act.now) (nothing_at c.args.requested.now c.args.number c.in-None-get.ensures.lookup.0) ∙ unlisted node c.args.log.now c.args.act.now)

pub returns-in-None : goal.returns-in-None
returns-in-None c =
    let listed = slice_get c.args.requested.now c.args.number in
    sym (ap (λ o. may_at o listed c.args.log.now c.args.act.now) (nothing_at c.args.nodes.now c.args.number c.in-None.ensures.lookup.0))

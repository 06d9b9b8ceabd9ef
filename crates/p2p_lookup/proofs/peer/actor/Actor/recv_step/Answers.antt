use Rattle.std.proofs.Common.{ap, ◌∙◌}
use Rattle.std.specs.Prelude.{not}
use Rattle.p2p_lookup.specs.Connection.{Connection}
use Rattle.p2p_lookup.specs.Ready.{is_idle, receives}
use Rattle.p2p_lookup.specs.Receiving.{heard_in}
use Rattle.p2p_lookup.proofs.Resting.{receive-idle}
use Rattle.p2p_lookup.proofs.peer.actor.Actor.recv_step.Goals as goal

pub returns-clause-idle : goal.returns-clause-idle
returns-clause-idle g c =
    let i = c.self.inside in
    let heard = heard_in c.in_ok-stepped.stepped (g.L.Link.waiting c.args.link.now) in
    let whole : Connection g.row.P.Denot = record { conn = i.conn; limits = i.limits; control = i.control; live = i.live; failed = i.failed } in
    ap is_idle c.in_ok-stepped.ensures.stepped
    ∙ (receive-idle whole c.args.inbounds.now c.args.now heard ∙ ap (λ (x : Connection g.row.P.Denot). not (receives x c.args.now heard)) c.self.view_is)

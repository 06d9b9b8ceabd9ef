use Rattle.std.proofs.Common.{ap, ◌∙◌}
use Rattle.std.specs.Prelude.{not}
use Rattle.p2p_lookup.specs.Connection.{Connection}
use Rattle.p2p_lookup.specs.Ready.{is_idle, sends}
use Rattle.p2p_lookup.specs.Sending.{written_in}
use Rattle.p2p_lookup.proofs.Idle.{send-idle}
use Rattle.p2p_lookup.proofs.peer.actor.Actor.send_step.Goals as goal

pub returns-clause-idle : goal.returns-clause-idle
returns-clause-idle g c =
    let i = c.self.inside in
    let r = c.args.router.now in
    let whole : Connection g.row.P.Denot = record { conn = i.conn; limits = i.limits; control = i.control; live = i.live; failed = i.failed } in
    ap is_idle c.in_ok-stepped.ensures.stepped
    ∙ (send-idle (written_in c.in_ok-stepped.stepped) c.args.now g.P.Ord.cmp whole r c.self.invariant.1
    ∙ ap (λ (x : Connection g.row.P.Denot). not (sends g.P.Ord.cmp x r c.args.now)) c.self.view_is)

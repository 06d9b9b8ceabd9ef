use Rattle.std.proofs.Common.{ap, ◌∙◌}
use Rattle.std.specs.Prelude.{not}
use Rattle.p2p_discovery_peer.specs.Connection.{Connection}
use Rattle.p2p_discovery_peer.specs.Ready.{is_idle, sends}
use Rattle.p2p_discovery_peer.specs.Sending.{written_in}
use Rattle.p2p_discovery_peer.proofs.Idle.{send-idle}
use Rattle.p2p_discovery_peer.proofs.peer.actor.Actor.send_step.Goals as goal

pub returns-clause-idle : goal.returns-clause-idle
returns-clause-idle g c =
    let i = c.self.inside in
    let r = c.args.router.now in
    let w = c.args.way.now in
    let whole : Connection g.row.P.Denot = record { conn = i.conn; limits = i.limits; control = i.control; live = i.live; failed = i.failed } in
    ap is_idle c.in_ok-stepped.ensures.stepped
    ∙ (send-idle g.P.PublicKey.bytes_of (written_in c.in_ok-stepped.stepped) c.args.now g.P.Ord.cmp whole r w c.self.invariant.1
    ∙ ap (λ (x : Connection g.row.P.Denot). not (sends g.P.Ord.cmp x r w c.args.now)) c.self.view_is)

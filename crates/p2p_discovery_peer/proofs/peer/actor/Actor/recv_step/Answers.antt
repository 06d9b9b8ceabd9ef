use Rattle.std.proofs.Common.{ap, ◌∙◌}
use Rattle.std.specs.Prelude.{not}
use Rattle.p2p_discovery.specs.Reading.{payload_of}
use Rattle.p2p_discovery_peer.specs.Connection.{Connection}
use Rattle.p2p_discovery_peer.specs.Judging.{judge}
use Rattle.p2p_discovery_peer.specs.Ready.{is_idle, receives}
use Rattle.p2p_discovery_peer.specs.Receiving.{heard_in}
use Rattle.p2p_discovery_peer.proofs.Resting.{receive-idle}
use Rattle.p2p_discovery_peer.proofs.peer.actor.Actor.recv_step.Goals as goal

pub returns-clause-idle : goal.returns-clause-idle
returns-clause-idle g c =
    let i = c.self.inside in
    let heard = heard_in c.in_ok-stepped.stepped (g.L.Link.waiting c.args.link.now) in
    let whole : Connection g.row.P.Denot = record { conn = i.conn; limits = i.limits; control = i.control; live = i.live; failed = i.failed } in
    ap is_idle c.in_ok-stepped.ensures.stepped
    ∙ (receive-idle (payload_of g.P.PublicKey.key_of g.P.PublicKey.SIZE i.limits.payload) (judge g.P.PartialEq.eq c.args.infos.now (g.V.Verifier.accepts c.args.verifier.now) c.args.now)
    whole c.args.inbounds.now c.args.way.now c.args.now heard
    ∙ ap (λ (x : Connection g.row.P.Denot). not (receives x c.args.now heard)) c.self.view_is)

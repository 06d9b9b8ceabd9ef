use Rattle.std.proofs.Common.{sym, ◌∙◌}
use Rattle.p2p_wire.specs.declared.frame.Data.{Data}
use Rattle.p2p_discovery.specs.Reading.{payload_of}
use Rattle.p2p_discovery_peer.specs.Judging.{judge}
use Rattle.p2p_discovery_peer.specs.Receiving.{heard_in}
use Rattle.p2p_discovery_peer.proofs.Taking.{none-mapped, next-taken}
use Rattle.p2p_discovery_peer.proofs.peer.live.Live.take_next.Goals as goal

pub returns-in-None-clause-stepped : goal.returns-in-None-clause-stepped
returns-in-None-clause-stepped g c =
    next-taken c.take_frame.result (λ s. heard_in s (g.L.Link.waiting c.args.link.now))
    (payload_of g.P.PublicKey.key_of g.P.PublicKey.SIZE c.args.cfg.now)
    (judge g.P.PartialEq.eq c.args.infos.now (g.V.Verifier.accepts c.args.verifier.now) c.args.now) c.args.now
    c.args.self.now c.args.inbounds.now c.args.way.now
    (none-mapped (λ (h : g.row.P.Denot × Data). h.1) c.args.self.now.inbox.held (sym c.in_ok-message.ensures ∙ c.in-None.is))
    c.take_frame.ensures.stepped

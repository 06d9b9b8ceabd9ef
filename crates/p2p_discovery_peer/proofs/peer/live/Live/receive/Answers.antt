use Rattle.std.proofs.Common.{◌≡◌, true, arith}
use Rattle.p2p_discovery.specs.Reading.{payload_of}
use Rattle.p2p_discovery_peer.specs.Judging.{judge}
use Rattle.p2p_discovery_peer.specs.Receiving.{heard_in, is_running}
use Rattle.p2p_discovery_peer.proofs.Taking.{first-taken}
use Rattle.p2p_discovery_peer.proofs.peer.live.Live.receive.Goals as goal

pub returns-in-None-clause-stepped : goal.returns-in-None-clause-stepped
returns-in-None-clause-stepped g c =
    let runs : is_running c.args.self.now.stage ≡ true = grind (arith, c.is_running.ensures, c.if-not-is_running.false) in
    first-taken c.take_next.result (λ s. heard_in s (g.L.Link.waiting c.args.link.now))
    (payload_of g.P.PublicKey.key_of g.P.PublicKey.SIZE c.args.cfg.now)
    (judge g.P.PartialEq.eq c.args.infos.now (g.V.Verifier.accepts c.args.verifier.now) c.args.now) c.args.now
    c.args.self.now c.args.inbounds.now c.args.way.now
    runs c.in-None.is c.take_next.ensures.stepped

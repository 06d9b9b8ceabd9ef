use Rattle.std.proofs.Common.{ap, ◌∙◌}
use Rattle.p2p_router.specs.Connections.{with_relay_at}
use Rattle.p2p_peer_shared.specs.Routing.{relay_closed}
use Rattle.p2p_peer_shared.proofs.routing.close_relay.Goals as goal

pub returns-in-Some : goal.returns-in-Some
returns-in-Some g c =
    let r = c.args.router.now in
    let conn = c.args.conn in
    (rw c.in-Some.is at (c.relay.follows.holds c.close.new.self))
    ∙ (ap (with_relay_at g.P.Ord.cmp r conn) c.close.ensures ∙ ap (relay_closed g.P.Ord.cmp r conn) (rw c.in-Some.is at c.relay.ensures.value))

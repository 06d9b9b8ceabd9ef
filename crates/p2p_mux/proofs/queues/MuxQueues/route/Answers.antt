use Rattle.std.proofs.Common.{rules, subst}
use Rattle.p2p_mux.proofs.KeptRoutes.{route_turned, with_routes}
use Rattle.p2p_mux.specs.Muxed.{Muxed, route_in}
use Rattle.p2p_mux.specs.MuxerSteps.{IsTurn}
use Rattle.p2p_mux.specs.MuxerTurns.{route_turn}
use Rattle.p2p_mux.proofs.queues.MuxQueues.route.Goals as goal

pub returns-in-Some : goal.returns-in-Some
returns-in-Some g c =
    let s = c.args.subchannel in
    let before : Muxed g.row.P.Denot = record {
      control = c.self.inside.control.items;
      requests = c.self.inside.requests.items;
      routes = c.self.inside.routes.entries;
      backup = c.self.inside.backup;
      ended = c.self.inside.ended;
    } in
    let after = (c.get_mut.follows.lender c.put_on.new.route).entries in
    subst (λ (q : Muxed g.row.P.Denot). IsTurn (route_turn (route_in q.routes s) s c.args.message q) q c.put_on.result (with_routes before after))
    c.self.view_is
    (route_turned before s c.args.message c.in-Some.route.now c.put_on.new.route after c.put_on.result (search rules) (search rules)
    c.put_on.ensures.answer c.put_on.ensures.after c.put_on.ensures.memory)

use Rattle.std.proofs.Common.{ℕ, true, List, Option, ap, refl, subst, sym}
use Rattle.p2p_log_rules.specs.Dropping.{LinkEnd}
use Rattle.p2p_net_router.specs.declared.router.Router.{Router}
use Rattle.p2p_net_connections.specs.declared.connections.Connection.{Connection}
use Rattle.p2p_net_node.specs.declared.node.Node.{Node}
use Rattle.p2p_net_calls.specs.Stopping.{StopsConnection, ConnectionStops}
use Rattle.p2p_net_calls.proofs.Stepping.{connection_stops}
use Rattle.p2p_net_calls.proofs.stopping.stop_connection.Goals as goal

pub returns-clause-does : goal.returns-clause-does
returns-clause-does c =
    let n = c.args.turn.node in
    let conn = c.in-Some.conn in
    let x = c.args.node.now in
    let y = c.end_half.new.node in
    let rest = c.stop_first.new.self.spawned in
    let z : Node = record y { router = c.leave.new.self; tracker = c.note_ended.new.self } in
    let l = c.args.links.now in
    let links = c.end_half.new.links in
    let row = c.args.row.now in
    let after = c.end_half.new.row in
    let half = c.in_ok-end_half.ensures in
    let gone = c.leave.ensures in
    subst (λ (cs : List (ℕ × Connection)). StopsConnection n cs x z l links row after true) (sym c.in-Some.ensures.taken) (
      refl,
      subst (λ (end : Option LinkEnd). ConnectionStops n conn end rest x z l links row after) c.half_end-end.ensures
          (connection_stops n conn c.half_end-end.result rest x y c.leave.new.self l links row after c.stop_first.new.self c.note_ended.new.self c.in-Some.ensures.rest half.drains half.ends half.rest gone.left
          (record {
            number = ap (λ (r : Router). r.number) gone.rest;
            channels = ap (λ (r : Router). r.channels) gone.rest;
            numbers = ap (λ (r : Router). r.subscriptions) gone.rest;
            taken = ap (λ (r : Router). r.actor.subscriptions) gone.rest;
            routes = gone.routes;
          })
          c.in_ok-note_ended.ensures),
    )

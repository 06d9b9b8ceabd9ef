use Rattle.std.proofs.Common.{Bool, subst}
use Rattle.p2p_net_calls.specs.Stopping.{StopsConnection}
use Rattle.p2p_net_calls.proofs.Looping.{connections_none, connections_more, connections_all}
use Rattle.p2p_net_calls.proofs.stopping.stop_connections.Goals as goal

pub loop-init : goal.loop-init
loop-init c = connections_none c.args.turn.node c.args.node.now c.args.links.now c.args.row.now

pub loop-preserved : goal.loop-preserved
loop-preserved c =
    let n = c.args.turn.node in
    let x = c.loop.node in
    let y = c.stop_connection.new.node in
    let links = c.stop_connection.new.links in
    let row = c.stop_connection.new.row in
    (connections_more n c.args.node.now x y c.args.links.now c.loop.links links c.args.row.now c.loop.row row c.loop.invariant c.in_ok-stop_connection.ensures.ordered
    (subst (λ (b : Bool). StopsConnection n x.connections.spawned x y c.loop.links links c.loop.row row b) c.if-branch.true c.in_ok-stop_connection.ensures.does)).0

pub returns-clause-rest : goal.returns-clause-rest
returns-clause-rest c =
    let n = c.args.turn.node in
    let x = c.loop.node in
    let y = c.stop_connection.new.node in
    let links = c.stop_connection.new.links in
    let row = c.stop_connection.new.row in
    (connections_all n c.args.node.now x y c.args.links.now c.loop.links links c.args.row.now c.loop.row row c.loop.invariant
    (subst (λ (b : Bool). StopsConnection n x.connections.spawned x y c.loop.links links c.loop.row row b) c.if-branch.false c.in_ok-stop_connection.ensures.does)).1.1

use Rattle.std.proofs.Common.{Bool, subst}
use Rattle.p2p_net_calls.specs.Stopping.{StopsHandshake}
use Rattle.p2p_net_calls.proofs.Looping.{handshakes_none, handshakes_more, handshakes_all}
use Rattle.p2p_net_calls.proofs.stopping.stop_handshakes.Goals as goal

pub loop-init : goal.loop-init
loop-init c = handshakes_none c.args.turn.node c.args.node.now c.args.links.now c.args.row.now

pub loop-preserved : goal.loop-preserved
loop-preserved c =
    let n = c.args.turn.node in
    let x = c.loop.node in
    let y = c.stop_handshake.new.node in
    let links = c.stop_handshake.new.links in
    let row = c.stop_handshake.new.row in
    (handshakes_more n c.args.node.now x y c.args.links.now c.loop.links links c.args.row.now c.loop.row row c.loop.invariant c.requires c.in_ok-stop_handshake.ensures.ordered
    (subst (λ (b : Bool). StopsHandshake n x.listening.handshakes x y c.loop.links links c.loop.row row b) c.if-branch.true c.in_ok-stop_handshake.ensures.does)).0

pub returns-clause-rest : goal.returns-clause-rest
returns-clause-rest c =
    let n = c.args.turn.node in
    let x = c.loop.node in
    let y = c.stop_handshake.new.node in
    let links = c.stop_handshake.new.links in
    let row = c.stop_handshake.new.row in
    (handshakes_all n c.args.node.now x y c.args.links.now c.loop.links links c.args.row.now c.loop.row row c.loop.invariant
    (subst (λ (b : Bool). StopsHandshake n x.listening.handshakes x y c.loop.links links c.loop.row row b) c.if-branch.false c.in_ok-stop_handshake.ensures.does)).1.1

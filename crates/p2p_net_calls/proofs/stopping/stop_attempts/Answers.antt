use Rattle.std.proofs.Common.{Bool, subst}
use Rattle.p2p_net_calls.specs.Stopping.{StopsAttempt}
use Rattle.p2p_net_calls.proofs.Looping.{attempts_none, attempts_more, attempts_all}
use Rattle.p2p_net_calls.proofs.stopping.stop_attempts.Goals as goal

pub loop-init : goal.loop-init
loop-init c = attempts_none c.args.turn.node c.args.node.now c.args.links.now c.args.row.now

pub loop-preserved : goal.loop-preserved
loop-preserved c =
    let x = c.loop.node in
    let y = c.stop_attempt.new.node in
    let links = c.stop_attempt.new.links in
    let row = c.stop_attempt.new.row in
    (attempts_more c.args.turn.node c.args.node.now x y c.args.links.now c.loop.links links c.args.row.now c.loop.row row c.loop.invariant c.in_ok-stop_attempt.ensures.ordered
    (subst (λ (b : Bool). StopsAttempt x.dialing.attempts x y c.loop.links links c.loop.row row b) c.if-branch.true c.in_ok-stop_attempt.ensures.does)).0

pub returns-clause-rest : goal.returns-clause-rest
returns-clause-rest c =
    let x = c.loop.node in
    let y = c.stop_attempt.new.node in
    let links = c.stop_attempt.new.links in
    let row = c.stop_attempt.new.row in
    (attempts_all c.args.turn.node c.args.node.now x y c.args.links.now c.loop.links links c.args.row.now c.loop.row row c.loop.invariant
    (subst (λ (b : Bool). StopsAttempt x.dialing.attempts x y c.loop.links links c.loop.row row b) c.if-branch.false c.in_ok-stop_attempt.ensures.does)).1.1

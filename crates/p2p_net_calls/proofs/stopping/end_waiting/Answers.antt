use Rattle.std.proofs.Common.{ap}
use Rattle.p2p_net_router.specs.declared.router.Router.{Router}
use Rattle.p2p_net_tracker.specs.declared.tracker.Tracker.{Tracker}
use Rattle.p2p_net_node.specs.declared.node.Node.{Node}
use Rattle.p2p_net_calls.proofs.Stepping.{waiting_drains}
use Rattle.p2p_net_calls.proofs.stopping.end_waiting.Goals as goal

pub returns-clause-drains : goal.returns-clause-drains
returns-clause-drains c =
    let x : Node = c.args.node.now in
    let high = c.end_lane.new.self in
    let low = c.end_lane-2.new.self in
    let kept = c.drop_held.new.self in
    let y : Node = record x { router = low; connections = kept; tracker = c.end_queue.new.self } in
    let first = c.in_ok-end_lane.ensures in
    let second = c.in_ok-end_lane-2.ensures in
    let told = c.in_ok-end_queue.ensures in
    λ l.
    waiting_drains c.args.turn.node c.args.conn x y high low kept c.drop_answers.new.self c.args.row.now c.end_lane.new.row c.end_lane-2.new.row c.drop_held.new.row c.end_queue.new.row c.drop_answers.new.row
    (record { ends = first.row; holds = first.left; number = ap (λ (r : Router). r.number) first.rest })
    (record { ends = second.row; holds = second.left; number = ap (λ (r : Router). r.number) second.rest })
    c.in_ok-drop_held.ensures.row c.in_ok-drop_held.ensures.after
    (record { ends = told.row; told = told.told; rest = ap (λ (t : Tracker). record x { router = low; connections = kept; tracker = t }) told.rest })
    c.in_ok-drop_answers.ensures.row c.in_ok-drop_answers.ensures.after l

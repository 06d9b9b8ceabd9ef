use Rattle.std.proofs.Common.{◌≡◌, ◌++◌, [], cond, sym, ap, subst, ◌∙◌, append-nil, Option}
use Rattle.std.specs.declared.alloc.Global.{Global}
use Rattle.std.specs.declared.collections.VecDeque.{VecDeque}
use Rattle.p2p_log.specs.declared.queue.Queue.{Queue}
use Rattle.p2p_log.specs.QueueCode.{same_queue}
use Rattle.p2p_net_queues.specs.Board.{held, items_in}
use Rattle.p2p_net_router.specs.declared.name.Name.{Name}
use Rattle.p2p_net_router.proofs.Leaving.{lane_ended, left_lane}
use Rattle.p2p_net_router.proofs.router.Router.end_lane.Goals as goal

pub returns-in-None-clause-row : goal.returns-in-None-clause-row
returns-in-None-clause-row c =
    λ items h apart.
    let r = c.args.self.now in
    let row = c.args.row.now in
    ap (λ l. record row { ends = l }) (sym (append-nil row.ends))
    ∙ ap (λ l. record row { ends = row.ends ++ l })
    (lane_ended r items c.args.conn c.args.priority [] h
    (ap (λ (o : Option (VecDeque Name Global)). items_in o) (sym c.in-None.is) ∙ (c.take_all.ensures.all ∙ ap (held r.names) c.lane.ensures)))

pub returns-in-None-clause-left : goal.returns-in-None-clause-left
returns-in-None-clause-left c =
    λ items h apart.
    let r = c.args.self.now in
    left_lane r c.take_all.new.self items c.args.conn c.args.priority h apart
    (subst (λ (p : Queue). (q : Queue) → held c.take_all.new.self q ≡ cond (same_queue p q) [] (held r.names q)) c.lane.ensures c.take_all.ensures.rest)

pub returns-in_ok-end_frames-in-Some-clause-row : goal.returns-in_ok-end_frames-in-Some-clause-row
returns-in_ok-end_frames-in-Some-clause-row c =
    λ items h apart.
    let r = c.args.self.now in
    let row = c.args.row.now in
    c.in_ok-end_frames-in-Some.ensures
    ∙ ap (λ l. record row { ends = row.ends ++ l })
    (lane_ended r items c.args.conn c.args.priority c.in-Some.names.items h
    (ap (λ (o : Option (VecDeque Name Global)). items_in o) (sym c.in-Some.is) ∙ (c.take_all.ensures.all ∙ ap (held r.names) c.lane.ensures)))

pub returns-in_ok-end_frames-in-Some-clause-left : goal.returns-in_ok-end_frames-in-Some-clause-left
returns-in_ok-end_frames-in-Some-clause-left c =
    λ items h apart.
    let r = c.args.self.now in
    left_lane r c.take_all.new.self items c.args.conn c.args.priority h apart
    (subst (λ (p : Queue). (q : Queue) → held c.take_all.new.self q ≡ cond (same_queue p q) [] (held r.names q)) c.lane.ensures c.take_all.ensures.rest)

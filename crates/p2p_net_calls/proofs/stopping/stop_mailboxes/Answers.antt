use Rattle.std.proofs.Common.{ap, subst, sym, ◌∷◌, []}
use Rattle.p2p_log.specs.declared.queue.Queue.TheVariants as queue
use Rattle.p2p_net_router.specs.declared.router.Router.{Router}
use Rattle.p2p_net_tracker.specs.declared.tracker.Tracker.{Tracker}
use Rattle.p2p_net_node.specs.declared.node.Node.{Node}
use Rattle.p2p_net_calls.specs.Stopping.{Drains}
use Rattle.p2p_net_calls.proofs.Stepping.{mailboxes_drain}
use Rattle.p2p_net_calls.proofs.stopping.stop_mailboxes.Goals as goal

pub returns-clause-drains : goal.returns-clause-drains
returns-clause-drains c =
    let n = c.args.turn.node in
    let x : Node = c.args.node.now in
    let r = c.end_mailbox.new.self in
    let first = c.in_ok-end_mailbox.ensures in
    let second = c.in_ok-end_mailbox-2.ensures in
    λ l.
    subst (λ (t : Tracker). Drains n (queue.Router n ∷ queue.Tracker n ∷ []) x (record x { router = r; tracker = t }) l l c.args.row.now c.end_mailbox-2.new.row) (sym second.after)
    (mailboxes_drain n x r c.args.row.now c.end_mailbox.new.row c.end_mailbox-2.new.row (record { ends = first.row; holds = first.left; number = ap (λ (s : Router). s.number) first.rest }) second.row l)

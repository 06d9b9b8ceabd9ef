use Rattle.std.proofs.Common.{ap, ◌∙◌}
use Rattle.std.specs.BTreeMap.{get}
use Rattle.p2p_log.specs.QueueOrder.{queue_cmp}
use Rattle.p2p_log.proofs.Queues.{is_eq-queue_cmp}
use Rattle.p2p_net_queues.specs.Board.{items_in}
use Rattle.p2p_net_queues.proofs.Kept.{none_there}
use Rattle.p2p_net_queues.proofs.board.Board.take_all.Goals as goal

pub returns-clause-rest : goal.returns-clause-rest
returns-clause-rest g c = λ q.
    let old = get queue_cmp c.args.self.now.lines q in
    ap items_in (c.remove.ensures.updates.0 q) ∙ none_there old (is_eq-queue_cmp c.args.queue q)

use Rattle.std.proofs.Common.{◌≡◌, None, ◌∷◌, [], ap, sym, ◌∙◌, rules}
use Rattle.std.specs.BTreeMap.{get}
use Rattle.std.specs.Option.{option_copied_mut}
use Rattle.p2p_log.specs.QueueOrder.{queue_cmp}
use Rattle.p2p_net_queues.proofs.Kept.{held-new_line}
use Rattle.p2p_net_queues.proofs.board.Board.push.Goals as goal

pub returns-in_ok-insert-in-None : goal.returns-in_ok-insert-in-None
returns-in_ok-insert-in-None g c =
    let absent : get queue_cmp c.args.self.now.lines c.args.queue ≡ None =
    sym c.get_mut.ensures.value ∙ ap option_copied_mut c.in-None.is
    in
    let one : c.push_back-in-None.new.self.items ≡ c.args.x ∷ [] = search rules in
    λ q.
    held-new_line c.get_mut.follows.lender-at-none c.args.self.now.lines c.insert.new.self c.args.queue q c.push_back-in-None.new.self c.args.x
    c.get_mut.follows.holds-at-none (c.in_ok-insert-in-None.ensures.updates.0 q) absent one

use Rattle.std.proofs.Common.{◌++◌, List, ap, sym, append-nil, ◌∙◌}
use Rattle.p2p_log.specs.declared.queue.Queue.{Queue}
use Rattle.p2p_log.specs.declared.item.Item.{Item}
use Rattle.p2p_net_router.specs.Stepped.{answers_put}
use Rattle.p2p_net_router.proofs.step.put_answer.Goals as goal

pub returns-in-None : goal.returns-in-None
returns-in-None c =
    let r = c.args.row.now in
    ap (λ (l : List (Queue × Item)). record r { puts = l }) (sym (append-nil r.puts)) ∙ ap (λ o. record r { puts = r.puts ++ answers_put c.args.turn.node o }) (sym c.in-None.is)

pub returns-in_ok-push-in-Some : goal.returns-in_ok-push-in-Some
returns-in_ok-push-in-Some c =
    let r = c.args.row.now in
    ap (λ (l : List (Queue × Item)). record r { puts = l }) c.in_ok-push-in-Some.ensures.ok ∙ ap (λ o. record r { puts = r.puts ++ answers_put c.args.turn.node o }) (sym c.in-Some.is)

use Rattle.std.proofs.Common.{Some, sym, ap, ◌∙◌}
use Rattle.std.proofs.lemmas.Result.{err_from_is_err_and}
use Rattle.p2p_sim_script.proofs.Lists.{each-more, each-refused, each-end}
use Rattle.p2p_sim_script.proofs.Refusals.{Gives-passed_on}
use Rattle.p2p_sim_script.proofs.list.read_each.Goals as goal

pub loop-item-preserved : goal.loop-item-preserved
loop-item-preserved g c =
    let l = c.loop-item in
    let more = each-more g.T.FromTree.form l.list.items c.args.items.now l.item-index c.item-item.result c.in_ok-from_tree.field-0 c.loop-item-test.true c.item-item.is c.in_ok-from_tree.ensures in
    rw c.in_ok-push.ensures.items (sym more ∙ l.invariant)

pub returns-in_err-from_tree : goal.returns-in_err-from_tree
returns-in_err-from_tree g c =
    let l = c.loop-item in
    let p = err_from_is_err_and c.from_residual.result c.from_residual.ensures.1 in
    rw (p.1, p.2)
    (Gives-passed_on c.in_err-from_tree.field-0.0 _ _
    (λ e. sym l.invariant ∙ each-refused g.T.FromTree.form l.list.items c.args.items.now l.item-index c.item-item.result c.loop-item-test.true c.item-item.is e)
    c.in_err-from_tree.ensures)

pub returns : goal.returns
returns g c = sym c.loop-item.invariant ∙ each-end g.T.FromTree.form c.loop-item.list.items c.args.items.now c.loop-item.item-index c.loop-item-test.false ∙ ap Some (sym c.new.ensures)

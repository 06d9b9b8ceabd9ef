use Rattle.std.proofs.Common.{rules, ap, ◌∙◌}
use Rattle.p2p_threads.proofs.Moves.{joins}
use Rattle.p2p_threads.proofs.Hands.{same_some, same_view, learned}
use Rattle.p2p_threads.proofs.steps.learn.Goals as goal

pub join_seat-requires : goal.join_seat-requires
join_seat-requires g c =
    let k = c.requires.cell.seat in
    let e = c.into_seat.ensures in
    let here = same_some _ _ _ k.table c.requires.knows in
    let out = ap (λ v. v.inside) (same_view _ _ _ e.2 k.view) ∙ k.outside in
    (c.requires.seat.0, e.0 ∙ here, e.3, search rules, joins g.T.Served.reply g.T.Served.next c.args.table.now.key.value _ _ _ _ out)

pub returns-clause-view : goal.returns-clause-view
returns-clause-view g c =
    let i = c.requires.cell in
    learned c.args.seat.now.me c.join_seat.new.seat.me c.into_seat.result.me.0 c.args.cell.history.items c.args.cell.seat i.seat i.begins c.into_seat.ensures.2 c.join_seat.ensures.2

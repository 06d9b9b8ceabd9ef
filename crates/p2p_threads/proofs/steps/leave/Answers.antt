use Rattle.std.proofs.Common.{rules, ap, ◌∙◌}
use Rattle.atomic_table.specs.Table.{rest}
use Rattle.p2p_threads.specs.Turns.{leaving}
use Rattle.p2p_threads.proofs.Moves.{leaves}
use Rattle.p2p_threads.proofs.steps.leave.Goals as goal

pub store-requires : goal.store-requires
store-requires g c = (c.requires.seat.0, search rules, leaves g.T.Served.reply g.T.Served.next c.args.table.now.key.value _ _ c.args.seat.now.me c.requires.cell)

pub returns-clause-view : goal.returns-clause-view
returns-clause-view g c = c.store.ensures.2 ∙ ap (λ l. (leaving c.args.seat.now.me.0, rest l)) c.requires.cell.hand

use Rattle.std.proofs.Common.{rules, ap, ◌∙◌}
use Rattle.p2p_threads.specs.Turns.{entering}
use Rattle.p2p_threads.proofs.Moves.{enters}
use Rattle.p2p_threads.proofs.steps.enter.Goals as goal

pub compare_exchange-requires : goal.compare_exchange-requires
compare_exchange-requires g c =
    let i = c.loop.invariant in
    let out = ap (λ m. m.0.inside) i.2 ∙ c.requires.outside.0 in
    let named = ap (λ m. m.0.table) i.2 ∙ c.requires.knows in
    (i.0 ∙ c.requires.seat.0, search rules, enters g.T.Served.reply g.T.Served.next c.args.table.now.key.value _ _ c.loop.seat.me c.args.table.now.table_id out named)

pub returns-then-compare_exchange-eq0-clause-view : goal.returns-then-compare_exchange-eq0-clause-view
returns-then-compare_exchange-eq0-clause-view g c = c.compare_exchange.ensures.2.0 (search rules) ∙ ap (λ m. (entering m.0, m.1)) c.loop.invariant.2

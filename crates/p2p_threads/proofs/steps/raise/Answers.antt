use Rattle.std.proofs.Common.{rules, refl, ap, ◌∙◌, None, Some, [], ◌∷◌}
use Rattle.atomic_table.specs.Table.{rest}
use Rattle.p2p_threads.proofs.Moves.{raises}
use Rattle.p2p_threads.proofs.Hands.{in_front, same_slot, same_some, same_raise, put_in, recorded}
use Rattle.p2p_threads.proofs.steps.raise.Goals as goal

pub fetch_add-requires : goal.fetch_add-requires
fetch_add-requires g c =
    let put = put_in c.args.seat.now.me c.args.seat.now.me c.exchange.new.seat.me c.args.cell c.requires.hand refl c.exchange.ensures.3 in
    let named = ap (λ m. m.0.table) put ∙ c.requires.knows in
    let can = same_raise g.T.Served.reply g.T.Served.next c.args.seat.now.me c.exchange.new.seat.me ((0, Some c.args.cell) ∷ []) c.args.cell (c.args.call, c.args.reply) put c.requires.call in
    (c.exchange.ensures.0 ∙ c.requires.seat.0, search rules, raises g.T.Served.reply g.T.Served.next c.args.table.now.key.value _ _ c.exchange.new.seat.me c.args.cell (c.args.call, c.args.reply) c.args.table.now.table_id named (ap (λ m. m.1) put) can)

pub exchange-requires-2 : goal.exchange-requires-2
exchange-requires-2 g c =
    let put = put_in c.args.seat.now.me c.args.seat.now.me c.exchange.new.seat.me c.args.cell c.requires.hand refl c.exchange.ensures.3 in
    let w = recorded c.args.seat.now.me c.exchange.new.seat.me c.fetch_add.new.seat.me c.args.cell (c.args.call, c.args.reply) put c.fetch_add.ensures.2 c.requires.call.history in
    (c.fetch_add.ensures.0 ∙ c.exchange.ensures.0 ∙ c.requires.seat.0, (Some c.args.cell, in_front _ _ _ (ap (λ m. m.1) w)))

pub unreachable-requires : goal.unreachable-requires
unreachable-requires g c =
    let put = put_in c.args.seat.now.me c.args.seat.now.me c.exchange.new.seat.me c.args.cell c.requires.hand refl c.exchange.ensures.3 in
    let w = recorded c.args.seat.now.me c.exchange.new.seat.me c.fetch_add.new.seat.me c.args.cell (c.args.call, c.args.reply) put c.fetch_add.ensures.2 c.requires.call.history in
    c.in_default.not-Some c.args.cell (same_slot c.fetch_add.new.seat.me.1 _ _ c.exchange-2.result (Some c.args.cell) c.exchange-2.ensures.2 (ap (λ m. m.1) w))

pub returns-clause-view : goal.returns-clause-view
returns-clause-view g c =
    let put = put_in c.args.seat.now.me c.args.seat.now.me c.exchange.new.seat.me c.args.cell c.requires.hand refl c.exchange.ensures.3 in
    let w = recorded c.args.seat.now.me c.exchange.new.seat.me c.fetch_add.new.seat.me c.args.cell (c.args.call, c.args.reply) put c.fetch_add.ensures.2 c.requires.call.history in
    c.exchange-2.ensures.3 ∙ ap (λ m. (m.0, (0, None) ∷ rest m.1)) w

pub returns-clause-same : goal.returns-clause-same
returns-clause-same g c =
    let put = put_in c.args.seat.now.me c.args.seat.now.me c.exchange.new.seat.me c.args.cell c.requires.hand refl c.exchange.ensures.3 in
    let w = recorded c.args.seat.now.me c.exchange.new.seat.me c.fetch_add.new.seat.me c.args.cell (c.args.call, c.args.reply) put c.fetch_add.ensures.2 c.requires.call.history in
    let found = same_slot c.fetch_add.new.seat.me.1 _ _ c.exchange-2.result (Some c.args.cell) c.exchange-2.ensures.2 (ap (λ m. m.1) w) in
    same_some c.exchange-2.result c.in-Some.cell c.args.cell c.in-Some.is found

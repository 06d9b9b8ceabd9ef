use Rattle.std.proofs.Common.{rules, refl, ap, ◌∙◌, None, []}
use Rattle.p2p_threads.specs.Turns.{leaving}
use Rattle.p2p_threads.proofs.Moves.{splits, names}
use Rattle.p2p_threads.proofs.Hands.{in_front, named, filled, filled_leaves}
use Rattle.p2p_threads.proofs.steps.open.Goals as goal

pub split_seat-requires : goal.split_seat-requires
split_seat-requires g c = (c.requires.seat.0, search rules, splits g.T.Served.reply g.T.Served.next c.args.table.now.key.value _ _)

pub compare_exchange_with-requires : goal.compare_exchange_with-requires
compare_exchange_with-requires g c =
    let first = c.split_seat.ensures.2 ∙ ap (λ m. (m.0, m.1)) c.requires.first in
    (c.split_seat.ensures.0 ∙ c.requires.seat.0, search rules, names g.T.Served.reply g.T.Served.next c.args.table.now.key.value _ _ c.split_seat.new.seat.me _ (ap (λ m. m.0.inside) first) (ap (λ m. m.0.table) first))

pub exchange-requires : goal.exchange-requires
exchange-requires g c =
    let s = c.split_seat.ensures in
    let at = c.into_badge-other.ensures.0 ∙ s.3 ∙ c.requires.seat.0 in
    let p = named c.args.seat.now.me c.split_seat.new.seat.me c.compare_exchange_with.new.seat.me c.args.object _ c.args.table.now.table_id c.requires.first s.2 c.compare_exchange_with.ensures.2 at in
    (c.compare_exchange_with.ensures.0 ∙ s.0 ∙ c.requires.seat.0, (None, in_front _ _ _ (ap (λ m. m.1) p)))

pub leave-requires-clause-cell : goal.leave-requires-clause-cell
leave-requires-clause-cell g c κs within =
    let s = c.split_seat.ensures in
    let b = c.into_badge-other.ensures in
    let at = b.0 ∙ s.3 ∙ c.requires.seat.0 in
    filled_leaves g.T.Served.reply g.T.Served.next c.args.seat.now.me c.split_seat.new.seat.me c.compare_exchange_with.new.seat.me c.exchange.new.seat.me c.split_seat.result.me c.args.object _ c.args.table.now.table_id c.requires.first s.2 c.compare_exchange_with.ensures.2 at c.exchange.ensures.3 refl c.new.ensures.items b.2 s.4

pub returns-clause-view : goal.returns-clause-view
returns-clause-view g c =
    let s = c.split_seat.ensures in
    let at = c.into_badge-other.ensures.0 ∙ s.3 ∙ c.requires.seat.0 in
    let q = filled c.args.seat.now.me c.split_seat.new.seat.me c.compare_exchange_with.new.seat.me c.exchange.new.seat.me c.args.object _ c.args.table.now.table_id c.requires.first s.2 c.compare_exchange_with.ensures.2 at c.exchange.ensures.3 in
    c.leave.ensures.view ∙ ap (λ m. (leaving m.0, [])) q

use Rattle.std.proofs.Common.{rules, refl, ap, ◌∙◌, []}
use Rattle.p2p_threads.specs.Turns.{leaving}
use Rattle.p2p_threads.proofs.Moves.{splits}
use Rattle.p2p_threads.proofs.Hands.{put_in, given_leaves}
use Rattle.p2p_threads.proofs.steps.give_back.Goals as goal

pub split_seat-requires : goal.split_seat-requires
split_seat-requires g c = (c.requires.seat.0, search rules, splits g.T.Served.reply g.T.Served.next c.args.table.now.key.value _ _)

pub leave-requires-clause-cell : goal.leave-requires-clause-cell
leave-requires-clause-cell g c κs within =
    let s = c.split_seat.ensures in
    let b = c.into_badge-other.ensures in
    given_leaves g.T.Served.reply g.T.Served.next c.args.seat.now.me c.split_seat.new.seat.me c.exchange.new.seat.me c.split_seat.result.me c.args.cell _ c.args.table.now.table_id c.requires.cell c.requires.knows c.requires.hand s.2 c.exchange.ensures.3 refl refl (b.0 ∙ s.3 ∙ c.requires.seat.0) b.2 s.4

pub returns-clause-view : goal.returns-clause-view
returns-clause-view g c =
    c.leave.ensures.view ∙ ap (λ m. (leaving m.0, [])) (put_in c.args.seat.now.me c.split_seat.new.seat.me c.exchange.new.seat.me _ c.requires.hand c.split_seat.ensures.2 c.exchange.ensures.3)

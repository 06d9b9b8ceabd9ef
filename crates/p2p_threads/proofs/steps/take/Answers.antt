use Rattle.std.proofs.Common.{Some, ap}
use Rattle.p2p_threads.proofs.Hands.{in_front, emptied}
use Rattle.p2p_threads.proofs.steps.take.Goals as goal

pub exchange-requires : goal.exchange-requires
exchange-requires g c =
    let t = c.measure-length.ensures.taken in
    (c.measure-length.ensures.seat.0.0, (Some t.0, in_front _ _ _ (ap (λ m. m.1) t.1.0)))

pub returns-clause-view : goal.returns-clause-view
returns-clause-view g c =
    let t = c.measure-length.ensures.taken in
    (emptied g.T.Served.reply g.T.Served.next c.args.seat.now.me c.enter.new.seat.me c.measure-length.new.seat.me c.exchange.new.seat.me t.0 c.in-Some.cell c.exchange.result c.measure-length.result c.enter.ensures.view c.requires.outside.1 t.1 c.exchange.ensures.2 c.in-Some.is c.exchange.ensures.3).0

pub returns-clause-length : goal.returns-clause-length
returns-clause-length g c =
    let t = c.measure-length.ensures.taken in
    (emptied g.T.Served.reply g.T.Served.next c.args.seat.now.me c.enter.new.seat.me c.measure-length.new.seat.me c.exchange.new.seat.me t.0 c.in-Some.cell c.exchange.result c.measure-length.result c.enter.ensures.view c.requires.outside.1 t.1 c.exchange.ensures.2 c.in-Some.is c.exchange.ensures.3).1

pub returns-clause-inside : goal.returns-clause-inside
returns-clause-inside g c =
    let t = c.measure-length.ensures.taken in
    (emptied g.T.Served.reply g.T.Served.next c.args.seat.now.me c.enter.new.seat.me c.measure-length.new.seat.me c.exchange.new.seat.me t.0 c.in-Some.cell c.exchange.result c.measure-length.result c.enter.ensures.view c.requires.outside.1 t.1 c.exchange.ensures.2 c.in-Some.is c.exchange.ensures.3).2

use Rattle.std.proofs.Common.{◌∙◌, ap, [], ◌∷◌, ◌++◌}
use Rattle.p2p_threads.proofs.Hands.{serving, served_raises, raised_gives, refused_gives, refused_back, refused_watched, served_back, served_called}
use Rattle.p2p_threads.proofs.steps.turn.Goals as goal

pub give_back-requires-clause-cell : goal.give_back-requires-clause-cell
give_back-requires-clause-cell g c κs within =
    let t = c.take-place.ensures in
    let is = serving g.T.Served.reply g.T.Served.next c.args.seat.now.me c.take-place.new.seat.me c.learn-cell.new.seat.me _ _ t.view c.learn-cell.ensures.view in
    let first = c.requires.first in
    let same = c.learn-cell.ensures.same in
    let refused = c.in_default.ensures.refused in
    refused_gives g.T.Served.reply g.T.Served.next c.args.seat.now.me c.learn-cell.new.seat.me c.take-place.result.1 c.serve-served.new.self c.take-place.result.0 first.0 first.1 t.inside t.length is (refused.0 ∙ same.0) (refused.1 ∙ same.1)

pub returns-in_default-clause-back : goal.returns-in_default-clause-back
returns-in_default-clause-back g c =
    let t = c.take-place.ensures in
    let is = serving g.T.Served.reply g.T.Served.next c.args.seat.now.me c.take-place.new.seat.me c.learn-cell.new.seat.me _ _ t.view c.learn-cell.ensures.view in
    refused_back g.T.Served.reply g.T.Served.next c.args.seat.now.me c.learn-cell.new.seat.me c.give_back.new.seat.me c.take-place.result.1 c.take-place.result.0 t.inside is c.give_back.ensures.view

pub returns-in_default-clause-refused : goal.returns-in_default-clause-refused
returns-in_default-clause-refused g c =
    let t = c.take-place.ensures in
    let is = serving g.T.Served.reply g.T.Served.next c.args.seat.now.me c.take-place.new.seat.me c.learn-cell.new.seat.me _ _ t.view c.learn-cell.ensures.view in
    refused_watched g.T.Served.reply g.T.Served.next c.args.seat.now.me c.learn-cell.new.seat.me c.give_back.new.seat.me c.take-place.result.1 c.take-place.result.0 t.inside is c.give_back.ensures.view

pub raise-cell-requires-clause-call : goal.raise-cell-requires-clause-call
raise-cell-requires-clause-call g c κs within =
    let t = c.take-place.ensures in
    let is = serving g.T.Served.reply g.T.Served.next c.args.seat.now.me c.take-place.new.seat.me c.learn-cell.new.seat.me _ _ t.view c.learn-cell.ensures.view in
    let first = c.requires.first in
    let same = c.learn-cell.ensures.same in
    let served = c.in-Ok.ensures in
    let e : g.row.T-Call.Denot × g.row.T-Reply.Denot = (c.args.call, c.in-Ok.reply) in
    served_raises g.T.Served.reply g.T.Served.next c.args.seat.now.me c.learn-cell.new.seat.me c.take-place.result.1 c.serve-served.new.self c.take-place.result.0 first.0 e first.1 t.inside t.length is (served.object ∙ ap (λ o. g.T.Served.next o c.args.call) same.0) (served.history ∙ ap (λ l. l ++ e ∷ []) same.1) (served.reply ∙ ap (λ o. g.T.Served.reply o c.args.call) same.0) served.fits

pub give_back-requires-2-clause-cell : goal.give_back-requires-2-clause-cell
give_back-requires-2-clause-cell g c κs within =
    let t = c.take-place.ensures in
    let is = serving g.T.Served.reply g.T.Served.next c.args.seat.now.me c.take-place.new.seat.me c.learn-cell.new.seat.me _ _ t.view c.learn-cell.ensures.view in
    let first = c.requires.first in
    let same = c.learn-cell.ensures.same in
    let served = c.in-Ok.ensures in
    let e : g.row.T-Call.Denot × g.row.T-Reply.Denot = (c.args.call, c.in-Ok.reply) in
    let raises = served_raises g.T.Served.reply g.T.Served.next c.args.seat.now.me c.learn-cell.new.seat.me c.take-place.result.1 c.serve-served.new.self c.take-place.result.0 first.0 e first.1 t.inside t.length is (served.object ∙ ap (λ o. g.T.Served.next o c.args.call) same.0) (served.history ∙ ap (λ l. l ++ e ∷ []) same.1) (served.reply ∙ ap (λ o. g.T.Served.reply o c.args.call) same.0) served.fits in
    raised_gives g.T.Served.reply g.T.Served.next c.learn-cell.new.seat.me c.raise-cell.new.seat.me c.serve-served.new.self c.raise-cell.result e raises c.raise-cell.ensures.same c.raise-cell.ensures.view

pub returns-clause-back : goal.returns-clause-back
returns-clause-back g c =
    let t = c.take-place.ensures in
    let is = serving g.T.Served.reply g.T.Served.next c.args.seat.now.me c.take-place.new.seat.me c.learn-cell.new.seat.me _ _ t.view c.learn-cell.ensures.view in
    let replied = c.in-Ok.ensures.reply ∙ ap (λ o. g.T.Served.reply o c.args.call) c.learn-cell.ensures.same.0 in
    served_back g.T.Served.reply g.T.Served.next c.args.seat.now.me c.learn-cell.new.seat.me c.raise-cell.new.seat.me c.give_back-2.new.seat.me c.take-place.result.1 c.take-place.result.0 (c.args.call, c.in-Ok.reply) t.inside is replied c.raise-cell.ensures.view c.give_back-2.ensures.view

pub returns-clause-called : goal.returns-clause-called
returns-clause-called g c =
    let t = c.take-place.ensures in
    let is = serving g.T.Served.reply g.T.Served.next c.args.seat.now.me c.take-place.new.seat.me c.learn-cell.new.seat.me _ _ t.view c.learn-cell.ensures.view in
    let served = c.in-Ok.ensures in
    let e : g.row.T-Call.Denot × g.row.T-Reply.Denot = (c.args.call, c.in-Ok.reply) in
    served_called g.T.Served.reply g.T.Served.next c.args.seat.now.me c.learn-cell.new.seat.me c.raise-cell.new.seat.me c.give_back-2.new.seat.me c.take-place.result.1 c.serve-served.new.self c.take-place.result.0 e t.inside t.length is (served.history ∙ ap (λ l. l ++ e ∷ []) c.learn-cell.ensures.same.1) served.fits c.raise-cell.ensures.view c.give_back-2.ensures.view

use Rattle.std.proofs.Common.{rules, ◌≡◌, ◌≤◌, length, ap, sym, ◌∙◌, arith, refl, subst, []}
use mathlib.Core.List.{IsPrefix}
use Rattle.p2p_threads.specs.History.{entry_at, Replays}
use Rattle.p2p_threads.specs.Turns.{leaving}
use Rattle.p2p_threads.proofs.Hands.{serving, refused_gives}
use Rattle.p2p_threads.proofs.Passes.{returned_pass, closed_made}
use Rattle.p2p_threads.proofs.shared.Shared.close.Goals as goal

pub give_back-requires-clause-cell : goal.give_back-requires-clause-cell
give_back-requires-clause-cell g c κs within =
    let t = c.take-length.ensures in
    let l = c.learn-cell.ensures in
    let from = ap (λ a. a.first) c.pass.view_is ∙ c.requires.own.1 in
    let is = serving g.T.Served.reply g.T.Served.next c.pass.inside.seat.me c.take-length.new.seat.me c.learn-cell.new.seat.me _ _ t.view l.view in
    refused_gives g.T.Served.reply g.T.Served.next c.pass.inside.seat.me c.learn-cell.new.seat.me c.take-length.result.1 c.learn-cell.result c.take-length.result.0 c.args.self.first from t.inside t.length is l.same.0 l.same.1

pub invariant_of-result : goal.invariant_of-result
invariant_of-result g c =
    let t = c.take-length.ensures in
    let is = serving g.T.Served.reply g.T.Served.next c.pass.inside.seat.me c.take-length.new.seat.me c.learn-cell.new.seat.me _ _ t.view c.learn-cell.ensures.view in
    let same : c.pass.inside.seat.table_id ≡ c.give_back.new.seat.table_id = search rules in
    returned_pass g.T.Served.reply g.T.Served.next _ _ same c.pass.inside.seat.me c.learn-cell.new.seat.me c.give_back.new.seat.me c.take-length.result.1 c.pass.inside.calls c.take-length.result.0 c.pass.invariant t.inside is c.give_back.ensures.view

pub returns-clause-made : goal.returns-clause-made
returns-clause-made g c p =
    let t = c.take-length.ensures in
    let length_is = t.length in
    let few = c.if-calls-length.false in
    let le : length c.take-length.result.1.history.items ≤ c.pass.inside.calls = omega arith in
    ap (λ a. entry_at a.made p) (sym c.pass.view_is) ∙ closed_made g.T.Served.reply g.T.Served.next _ c.pass.inside.seat.me c.take-length.result.1 c.pass.inside.calls c.pass.invariant t.inside le p

pub returns-then-calls-length-clause-same : goal.returns-then-calls-length-clause-same
returns-then-calls-length-clause-same g c =
    let t = c.take-length.ensures in
    let is = serving g.T.Served.reply g.T.Served.next c.pass.inside.seat.me c.take-length.new.seat.me c.learn-cell.new.seat.me _ _ t.view c.learn-cell.ensures.view in
    let whole = c.give_back.ensures.view ∙ ap (λ y. (leaving y.0, [])) is in (
      refl,
      (c.give_back.ensures.seat.0.0 ∙ ap (λ s. s.table) c.self.view_is ∙ sym c.requires.own.0, ap (λ x. x.0.first) whole ∙ ap (λ a. a.first) c.pass.view_is),
      ap (λ x. x.0.made) whole ∙ ap (λ a. a.made) c.pass.view_is,
    )

pub returns-then-calls-length-clause-history : goal.returns-then-calls-length-clause-history
returns-then-calls-length-clause-history g c =
    let t = c.take-length.ensures in
    let is = serving g.T.Served.reply g.T.Served.next c.pass.inside.seat.me c.take-length.new.seat.me c.learn-cell.new.seat.me _ _ t.view c.learn-cell.ensures.view in
    let whole = c.give_back.ensures.view ∙ ap (λ y. (leaving y.0, [])) is in
    let from = ap (λ a. a.first) c.pass.view_is ∙ c.requires.own.1 in
    let seen = ap (λ x. x.0.seen) whole in
    let begins = subst (λ a. IsPrefix a.seen c.take-length.result.1.history.items) c.pass.view_is t.inside.begins in (
      subst (λ l. IsPrefix c.args.pass.seen l) (sym seen) begins,
      subst (λ l. Replays g.T.Served.reply g.T.Served.next c.args.self.first l) (sym seen) (t.inside.replays c.args.self.first from),
    )

pub returns-clause-object : goal.returns-clause-object
returns-clause-object g c = c.take-length.ensures.inside.object c.args.self.first (ap (λ a. a.first) c.pass.view_is ∙ c.requires.own.1)

pub returns-clause-replays : goal.returns-clause-replays
returns-clause-replays g c = c.take-length.ensures.inside.replays c.args.self.first (ap (λ a. a.first) c.pass.view_is ∙ c.requires.own.1)

pub returns-clause-seen : goal.returns-clause-seen
returns-clause-seen g c = subst (λ a. IsPrefix a.seen c.take-length.result.1.history.items) c.pass.view_is c.take-length.ensures.inside.begins

use Rattle.std.proofs.Common.{rules, ◌≡◌, ◌≤◌, List, length, ap, subst}
use mathlib.Core.List.{IsPrefix}
use Rattle.p2p_threads.proofs.Passes.{called_begins, called_stands, called_place, called_room, called_pass, watched_pass}
use Rattle.p2p_threads.proofs.shared.Shared.call.Goals as goal

pub invariant_of-pass : goal.invariant_of-pass
invariant_of-pass g c =
    let same : c.pass.inside.seat.table_id ≡ c.turn.new.seat.table_id = search rules in
    watched_pass g.T.Served.reply g.T.Served.next _ _ same _ _ _ c.pass.invariant c.in_err-place.ensures.back c.in_err-place.ensures.refused

pub overflow_add-pass : goal.overflow_add-pass
overflow_add-pass g c = let room = called_room _ _ _ _ _ _ c.pass.invariant c.in_ok-place.ensures.called in search rules

pub invariant_of-pass-2 : goal.invariant_of-pass-2
invariant_of-pass-2 g c =
    let same : c.pass.inside.seat.table_id ≡ c.turn.new.seat.table_id = search rules in
    called_pass g.T.Served.reply g.T.Served.next _ _ same _ _ _ _ _ c.pass.invariant c.in_ok-place.ensures.back c.in_ok-place.ensures.called

pub returns-clause-begins : goal.returns-clause-begins
returns-clause-begins g c =
    subst (λ (l : List (g.row.T-Call.Denot × g.row.T-Reply.Denot)). IsPrefix l c.turn.new.seat.me.0.seen) (ap (λ a. a.seen) c.pass.view_is) (called_begins _ _ _ _ c.in_ok-place.ensures.called)

pub returns-clause-stands : goal.returns-clause-stands
returns-clause-stands g c = called_stands _ _ _ _ c.in_ok-place.ensures.called

pub returns-clause-place : goal.returns-clause-place
returns-clause-place g c =
    let p = called_place _ _ _ _ c.in_ok-place.ensures.called in
    (subst (λ (l : List (g.row.T-Call.Denot × g.row.T-Reply.Denot)). length l ≤ c.in_ok-place.place) (ap (λ a. a.seen) c.pass.view_is) p.0, p.1)

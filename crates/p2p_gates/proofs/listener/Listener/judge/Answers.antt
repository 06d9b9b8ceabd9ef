use Rattle.std.proofs.Common.{◌≡◌, max, IfOk, OnOk, Option, refl, sym, ap, subst, ◌∙◌}
use Rattle.p2p_tracker_calls.specs.Gates.{first_told, unless_refused, limited_reply, charged_by}
use Rattle.p2p_tracker_calls.specs.Quotas.{verdict}
use Rattle.p2p_tracker_calls.specs.declared.gates.Reply.{Reply}
use Rattle.p2p_gates.specs.Gates.{has_place, rules_of}
use Rattle.p2p_gates.specs.Listening.{StandsFor}
use Rattle.p2p_gates.specs.Quotas.{rates_of}
use Rattle.p2p_gates.specs.Counting.{CountsUnless}
use Rattle.p2p_gates.proofs.listener.Listener.judge.Goals as goal

pub returns-in-Some-clause-reply : goal.returns-in-Some-clause-reply
returns-in-Some-clause-reply g c = λ k s.
    ap (λ (o : Option Reply). first_told o
    (limited_reply (verdict (rates_of c.args.self.now.quotas) k.passed c.args.ip.now (max k.latest c.args.now)) (has_place c.args.self.now.places)))
    (sym c.in-Some.is ∙ c.turn_away.ensures.first k s)

pub returns-in-None-clause-reply : goal.returns-in-None-clause-reply
returns-in-None-clause-reply g c = λ k s.
    subst (λ (o : Option Reply). IfOk c.limit.result (λ r. r ≡ first_told o
    (limited_reply (verdict (rates_of c.args.self.now.quotas) k.passed c.args.ip.now (max k.latest c.args.now)) (has_place c.args.self.now.places))))
    (sym c.in-None.is ∙ c.turn_away.ensures.first k s) (c.limit.ensures.reply k s)

pub returns-in-Some-clause-stands : goal.returns-in-Some-clause-stands
returns-in-Some-clause-stands g c = λ k s.
    subst (λ (o : Option Reply). StandsFor c.args.self.now (unless_refused o k (charged_by (rules_of c.args.self.now) k c.args.ip.now c.args.now)))
    (sym c.in-Some.is ∙ c.turn_away.ensures.first k s) s

pub returns-in-None-clause-stands : goal.returns-in-None-clause-stands
returns-in-None-clause-stands g c = λ k s.
    subst (λ (o : Option Reply). OnOk c.limit.result (StandsFor c.limit.new.self (unless_refused o k (charged_by (rules_of c.args.self.now) k c.args.ip.now c.args.now))))
    (sym c.in-None.is ∙ c.turn_away.ensures.first k s) (c.limit.ensures.stands k s)

pub returns-in-Some-clause-quotas : goal.returns-in-Some-clause-quotas
returns-in-Some-clause-quotas g c =
    subst (λ (o : Option Reply). CountsUnless c.args.self.now c.args.self.now.quotas o c.args.ip.now)
    (sym c.in-Some.is ∙ c.turn_away.ensures.now) refl

pub returns-in-None-clause-quotas : goal.returns-in-None-clause-quotas
returns-in-None-clause-quotas g c =
    subst (λ (o : Option Reply). OnOk c.limit.result (CountsUnless c.args.self.now c.limit.new.self.quotas o c.args.ip.now))
    (sym c.in-None.is ∙ c.turn_away.ensures.now) c.limit.ensures.quotas

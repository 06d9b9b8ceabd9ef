use Rattle.std.proofs.Common.{max, sym, ◌∙◌}
use Rattle.p2p_gates.proofs.Charged.{negated, to-kept, charged-stands}
use Rattle.p2p_gates.proofs.Counted.{check_others}
use Rattle.p2p_gates.proofs.listener.quotas.refuses.Goals as goal

pub returns-clause-answer : goal.returns-clause-answer
returns-clause-answer c = λ past latest s.
    negated c.is_err.result _ (sym (c.in_ok-answer.ensures.law past latest
    (to-kept c.args.limiter.now past latest s)) ∙ c.is_err.ensures.negation)

pub returns-clause-stands : goal.returns-clause-stands
returns-clause-stands c = λ past latest s.
    let kept = to-kept c.args.limiter.now past latest s in
    charged-stands c.check_key.new.self c.args.limiter.now.rate past c.args.ip.now
    (max latest c.args.now) c.in_ok-answer.answer
    (c.in_ok-answer.ensures.law past latest kept) (c.in_ok-answer.ensures.admitted past latest kept)
    (c.in_ok-answer.ensures.refused past latest kept)

pub returns-clause-others : goal.returns-clause-others
returns-clause-others c = check_others c.args.limiter.now c.check_key.new.self c.args.ip.now c.args.now c.in_ok-answer.ensures.after

use Rattle.std.proofs.Common.{◌≡◌, ◌++◌, Result, OnOk, ap, ◌∙◌}
use Rattle.p2p_threads.proofs.Histories.{begins_length}
use Rattle.p2p_threads.specs.Sending.{Knows}
use Rattle.p2p_threads.proofs.Parts.{lent_sent, lent_begun, when_ok}
use Rattle.p2p_threads.proofs.sending.senders.Goals as goal

pub returns-clause-sent : goal.returns-clause-sent
returns-clause-sent g c =
    let split = c.in-Ok.ensures in
    let back = c.send_from-own.result.0 in
    when_ok c.send_from-own.result.1 c.send_from-own.ensures.sent
    (λ sent.
    lent_sent 0 _ c.args.pass.now c.in-Ok.own back c.join.new.into sent split.blank.0 split.blank.1
    (c.join.ensures.made ∙ ap (λ (p : Knows). p.made ++ back.made) split.same) (begins_length _ _ c.join.ensures.begins.1))

pub returns-clause-begun : goal.returns-clause-begun
returns-clause-begun g c =
    let split = c.in-Ok.ensures in
    let back = c.send_from-own.result.0 in
    lent_begun 0 c.args.n c.args.m c.args.pass.now c.in-Ok.own back c.join.new.into c.send_from-own.ensures.begun split.blank.0 split.blank.1
    (c.join.ensures.made ∙ ap (λ (p : Knows). p.made ++ back.made) split.same) (begins_length _ _ c.join.ensures.begins.1)

use Rattle.std.proofs.Common.{◌≡◌, ◌+◌, ◌-◌, ◌≤◌, ◌/◌, replicate, subst, arith}
use Rattle.p2p_threads.proofs.Histories.{begins_length}
use Rattle.p2p_threads.specs.Sending.{HaveSent, HaveBegun}
use Rattle.p2p_threads.proofs.Parts.{both_sent_all, both_begun, both_ok}
use Rattle.p2p_threads.proofs.sending.+fn-send_from-join+arg2+fn-send_from-join+arg3+send_from.Goals as goal

pub returns-clause-sent : goal.returns-clause-sent
returns-clause-sent g t c =
    let half = c.args.count / 2 in
    let one = c.join-one.ensures.first in
    let two = c.join-one.ensures.second in
    let split = c.in-Ok.ensures in
    both_ok _ _ c.and.result c.and.ensures one.1.1.0 two.1.1.0
    (λ x y.
    both_sent_all c.args.first half c.args.count c.args.m c.args.pass c.join-one.result.0.0 c.in-Ok.other c.join-one.result.1.0 c.join.new.into (omega arith)
    (subst (λ p. HaveSent c.args.first (replicate half c.args.m) p c.join-one.result.0.0) split.same x) y split.blank.0 split.blank.1 c.join.ensures.made (begins_length _ _ c.join.ensures.begins.0) (begins_length _ _ c.join.ensures.begins.1))

pub returns-clause-begun : goal.returns-clause-begun
returns-clause-begun g t c =
    let half = c.args.count / 2 in
    let one = c.join-one.ensures.first in
    let two = c.join-one.ensures.second in
    let split = c.in-Ok.ensures in
    both_begun c.args.first half c.args.count c.args.m c.args.pass c.join-one.result.0.0 c.in-Ok.other c.join-one.result.1.0 c.join.new.into (omega arith)
    (subst (λ p. HaveBegun c.args.first half c.args.m p c.join-one.result.0.0) split.same one.1.1.1) two.1.1.1 split.blank.0 split.blank.1 c.join.ensures.made (begins_length _ _ c.join.ensures.begins.0) (begins_length _ _ c.join.ensures.begins.1)

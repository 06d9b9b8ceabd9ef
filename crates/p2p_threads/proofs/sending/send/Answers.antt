use Rattle.std.proofs.Common.{◌≡◌, [], refl, ◌∙◌, arith}
use Rattle.std.proofs.lemmas.List.{append-nil}
use Rattle.p2p_threads.proofs.Histories.{begins_length, begins_more}
use Rattle.p2p_threads.proofs.Parts.{none_sent, one_more, same_sent, one_begun}
use Rattle.p2p_threads.proofs.sending.send.Goals as goal

pub loop-number-init : goal.loop-number-init
loop-number-init g c = record {
  own = c.requires.own;
  alike = (refl, refl);
  seen = ([], append-nil c.args.pass.now.seen);
  within = omega arith;
  sent = none_sent c.args.sender c.args.pass.now;
}

pub returns-in_err-call-clause-begun : goal.returns-in_err-call-clause-begun
returns-in_err-call-clause-begun g c =
    one_begun c.args.sender c.loop-number.number c.args.m c.args.pass.now c.call.new.pass c.loop-number.invariant.within
    (same_sent c.args.sender _ c.args.pass.now c.loop-number.pass c.call.new.pass c.loop-number.invariant.sent c.in_err-call.ensures.refused (begins_length _ _ c.in_err-call.ensures.begins))

pub loop-number-preserved : goal.loop-number-preserved
loop-number-preserved g c =
    let told = c.in_ok-call.ensures in
    let kept = c.loop-number.invariant in
    record {
      own = (told.own.0 ∙ kept.own.0, told.own.1 ∙ kept.own.1);
      alike = (told.own.0 ∙ kept.alike.0, told.own.1 ∙ kept.alike.1);
      seen = begins_more _ _ _ kept.seen told.begins;
      within = omega arith;
      sent = one_more c.args.sender c.loop-number.number c.args.pass.now c.loop-number.pass c.call.new.pass c.in_ok-call.field-0.0 c.in_ok-call.field-0.1 kept.sent told.place.0 told.place.1 told.made;
    }

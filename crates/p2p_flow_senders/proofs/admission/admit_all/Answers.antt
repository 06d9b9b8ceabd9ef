use Rattle.std.proofs.Common.{List, sym, subst, ◌∙◌, arith}
use Rattle.p2p_flow_senders.proofs.Admitting.{IsUnderWay, begins, one_more, at_end, on_err}
use Rattle.p2p_flow_senders.proofs.Known.{known-next, known-keeps}
use Rattle.p2p_flow_senders.proofs.admission.admit_all.Goals as goal

pub returns-in_err-reserve_all-clause-memory : goal.returns-in_err-reserve_all-clause-memory
returns-in_err-reserve_all-clause-memory g c = λ past latest stands. on_err _ (c.in_err-reserve_all.ensures.same past latest stands)

pub returns-in_err-admitted-clause-memory : goal.returns-in_err-admitted-clause-memory
returns-in_err-admitted-clause-memory g c = λ past latest stands. on_err _ (c.in_ok-reserve_all.ensures.same past latest stands)

pub loop-key-init : goal.loop-key-init
loop-key-init g c = record {
  rate = c.in_ok-reserve_all.ensures.rate;
  known = c.in_ok-reserve_all.ensures.known;
  room = omega (arith, c.in_ok-admitted.ensures.len);
  capacity = omega (arith, c.in_ok-admitted.ensures.capacity);
  under_way = λ past latest stands.
      subst (λ (l : List g.row.K.Denot). IsUnderWay g.K.Ord.cmp c.reserve_all.new.limiter c.args.limiter.now.rate l 0 c.args.keys.now c.args.now c.args.keys.now past latest) (sym c.in_ok-admitted.ensures.items)
      (begins g.K.Ord.cmp c.reserve_all.new.limiter c.args.limiter.now.rate c.args.now c.args.keys.now past latest c.in_ok-reserve_all.ensures.rate (c.in_ok-reserve_all.ensures.same past latest stands));
}

pub loop-key-preserved : goal.loop-key-preserved
loop-key-preserved g c =
    let i = c.loop-key.key-index in
    let keys = c.args.keys.now in
    let within = c.loop-key-test.true in
    let next = known-next g.K.Ord.cmp c.loop-key.limiter keys i c.key-item.result within c.key-item.is c.loop-key.invariant.known in
    record {
      rate = c.in_ok-answer.ensures.rate ∙ c.loop-key.invariant.rate;
      known = known-keeps g.K.Ord.cmp c.loop-key.limiter c.check_key.new.self _ c.in_ok-answer.ensures.keeps next.1;
      room = omega (arith, c.loop-key.invariant.room, c.note.ensures.len);
      capacity = omega (arith, c.loop-key.invariant.capacity, c.note.ensures.capacity);
      under_way = λ past latest stands.
          one_more g.K.Ord.cmp c.loop-key.limiter c.check_key.new.self c.args.limiter.now.rate c.loop-key.admitted.items c.note.new.admitted.items c.loop-key.retry c.note.new.retry keys i c.key-item.result c.args.now c.in_ok-answer.answer past latest
          within c.key-item.is c.in_ok-answer.ensures.rate
          (λ p l s. record {
            law = c.in_ok-answer.ensures.law p l s;
            retried = c.in_ok-answer.ensures.retry p l s;
            passed = c.in_ok-answer.ensures.admitted p l s;
            refused = c.in_ok-answer.ensures.refused p l s;
          })
          c.note.ensures.items c.note.ensures.retry (c.loop-key.invariant.under_way past latest stands);
    }

pub returns-clause-law : goal.returns-clause-law
returns-clause-law g c = λ past latest stands.
    c.answer_of.ensures
    ∙ (at_end g.K.Ord.cmp c.loop-key.limiter c.args.limiter.now.rate c.loop-key.admitted.items c.loop-key.retry c.args.now c.args.keys.now c.loop-key.key-index past latest c.loop-key-test.false
    (c.loop-key.invariant.under_way past latest stands)).0

pub returns-clause-stands : goal.returns-clause-stands
returns-clause-stands g c = λ past latest stands.
    (at_end g.K.Ord.cmp c.loop-key.limiter c.args.limiter.now.rate c.loop-key.admitted.items c.loop-key.retry c.args.now c.args.keys.now c.loop-key.key-index past latest c.loop-key-test.false
    (c.loop-key.invariant.under_way past latest stands)).1

use Rattle.std.proofs.Common.{◌∙◌}
use Rattle.p2p_flow_senders.proofs.Known.{known-more, known-all}
use Rattle.p2p_flow_senders.proofs.admission.reserve_all.Goals as goal

pub loop-key-preserved : goal.loop-key-preserved
loop-key-preserved g c = record {
  rate = c.in_ok-reserve_key.ensures.rate ∙ c.loop-key.invariant.rate;
  same = λ past latest stands. c.in_ok-reserve_key.ensures.same past latest (c.loop-key.invariant.same past latest stands);
  known =
      known-more g.K.Ord.cmp c.loop-key.limiter c.reserve_key.new.self c.args.keys.now c.loop-key.key-index c.key-item.result c.loop-key-test.true c.key-item.is
      c.in_ok-reserve_key.ensures.keeps c.in_ok-reserve_key.ensures.known c.loop-key.invariant.known;
}

pub returns-clause-known : goal.returns-clause-known
returns-clause-known g c = known-all g.K.Ord.cmp c.loop-key.limiter c.args.keys.now c.loop-key.key-index c.loop-key-test.false c.loop-key.invariant.known

pub returns-in_err-reserve_key-clause-same : goal.returns-in_err-reserve_key-clause-same
returns-in_err-reserve_key-clause-same g c = λ past latest stands. c.in_err-reserve_key.ensures.same past latest (c.loop-key.invariant.same past latest stands)

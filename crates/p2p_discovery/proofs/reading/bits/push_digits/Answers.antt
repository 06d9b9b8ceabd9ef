use Rattle.std.proofs.Common.{◌++◌}
use Rattle.p2p_discovery.specs.Reading.{digits}
use Rattle.p2p_discovery.proofs.Loops.{digits-more, digits-end}
use Rattle.p2p_discovery.proofs.reading.bits.push_digits.Goals as goal

pub loop-preserved : goal.loop-preserved
loop-preserved c =
    digits-more c.loop.bits.items c.push.new.self.items (c.args.bits.now.items ++ digits c.args.count c.args.byte) c.args.count c.loop.counter c.loop.rest c.loop-test.true c.in_ok-push.ensures.items c.loop.invariant

pub returns : goal.returns
returns c = digits-end c.loop.bits.items (c.args.bits.now.items ++ digits c.args.count c.args.byte) c.args.count c.loop.counter c.loop.rest c.loop-test.false c.loop.invariant

use Rattle.std.proofs.Common.{◌++◌}
use Rattle.p2p_wire.specs.Varint.{spelling}
use Rattle.p2p_wire.proofs.Spellings.{push_more, push_last}
use Rattle.p2p_wire.proofs.varint.push.Goals as goal

pub loop-rest-preserved : goal.loop-rest-preserved
loop-rest-preserved c = push_more c.loop-rest.out.items c.push.new.self.items (c.args.out.now.items ++ spelling c.args.number) c.loop-rest.rest c.in_ok-push.ensures.items c.loop-rest-test.true c.loop-rest.invariant

pub returns : goal.returns
returns c = push_last c.loop-rest.out.items c.push-2.new.self.items (c.args.out.now.items ++ spelling c.args.number) c.loop-rest.rest c.in_ok-push-2.ensures.items c.loop-rest-test.false c.loop-rest.invariant

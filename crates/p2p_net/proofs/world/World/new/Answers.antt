use Rattle.p2p_net.proofs.Records.{stands_new, kept_new}
use Rattle.p2p_net.proofs.world.World.new.Goals as goal

pub invariant_of-result : goal.invariant_of-result
invariant_of-result c = λ _.
    kept_new c.args.configs.now c.in_ok-kept.kept c.empty.result c.in_ok-nodes.nodes.items c.in_ok-requested.requested.items c.new.result c.in_ok-kept.ensures c.empty.ensures
    (stands_new c.args.configs.now c.in_ok-kept.kept c.empty.result c.in_ok-nodes.nodes.items c.new.result c.in_ok-kept.ensures c.empty.ensures c.new.ensures c.in_ok-nodes.ensures) c.in_ok-requested.ensures

pub returns-clause-stands : goal.returns-clause-stands
returns-clause-stands c =
    stands_new c.args.configs.now c.in_ok-kept.kept c.empty.result c.in_ok-nodes.nodes.items c.new.result c.in_ok-kept.ensures c.empty.ensures c.new.ensures c.in_ok-nodes.ensures

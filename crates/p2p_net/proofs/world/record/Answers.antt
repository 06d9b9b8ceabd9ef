use Rattle.std.proofs.Common.{subst, ap, ◌∙◌}
use Rattle.p2p_net_node.specs.Places.{node_of}
use Rattle.p2p_net.specs.Events.{WorldRecords}
use Rattle.p2p_net.proofs.Records.{recorded}
use Rattle.p2p_net.proofs.world.record.Goals as goal

pub returns-clause-ok : goal.returns-clause-ok
returns-clause-ok c = λ configs s lawful valid late.
    recorded configs c.args.report.now.log c.push.new.self c.args.event.now c.len-entry.result c.args.nodes.now.items c.perform.new.nodes.items c.args.links.now c.perform.new.links c.in_ok-perform.field-0
    s lawful valid late c.len-entry.ensures (subst (λ n. WorldRecords c.len-entry.result n c.args.event.now c.args.nodes.now.items c.perform.new.nodes.items c.args.links.now c.perform.new.links c.in_ok-perform.field-0) (c.node_of-node.ensures ∙ ap (λ l. node_of l c.args.event.now.act) c.as_slice.ensures) c.in_ok-perform.ensures) c.in_ok-push.ensures.ok

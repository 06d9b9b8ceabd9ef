use Rattle.std.proofs.Common.{sym, ◌∙◌}
use Rattle.p2p_net_node.specs.declared.node.Node.{Node}
use Rattle.p2p_net_dialing.proofs.Finished.{not_told, was_told}
use Rattle.p2p_net_node.proofs.Nodes.{found}
use Rattle.p2p_net_dialing.proofs.finishing.finish_over.Goals as goal

pub returns-in-None : goal.returns-in-None
returns-in-None c =
    let nodes = c.args.nodes.now.items in
    let o = c.args.opening in
    let x : Node = c.index.result.now in
    let y : Node = c.index-second.result.now in
    not_told c.args.entry c.args.link c.args.ok o nodes x y c.args.links.now c.is_cut.result c.dialed_key-dialed.result c.end_of-end.result c.only.result
    (found nodes o.node x c.requires.first_in_range c.index.ensures) (found nodes o.to y c.requires.second_in_range c.index-second.ensures)
    c.is_cut.ensures c.dialed_key-dialed.ensures c.end_of-end.ensures (sym c.verdict_at.ensures ∙ c.in-None.is) c.only.ensures

pub returns-in_ok-tell_both-in-Some : goal.returns-in_ok-tell_both-in-Some
returns-in_ok-tell_both-in-Some c =
    let nodes = c.args.nodes.now.items in
    let o = c.args.opening in
    let x : Node = c.index.result.now in
    let y : Node = c.index-second.result.now in
    was_told c.args.entry c.args.link c.args.ok o nodes x y c.args.links.now c.is_cut.result c.dialed_key-dialed.result c.end_of-end.result c.in_ok-tell_both-in-Some.field-0
    (found nodes o.node x c.requires.first_in_range c.index.ensures) (found nodes o.to y c.requires.second_in_range c.index-second.ensures)
    c.is_cut.ensures c.dialed_key-dialed.ensures c.end_of-end.ensures c.in-Some.agree c.tell_both.new.nodes.items c.finish.new.self (sym c.verdict_at.ensures ∙ c.in-Some.is)
    c.in_ok-tell_both-in-Some.ensures (c.finish.ensures.openings, c.finish.ensures.rest)

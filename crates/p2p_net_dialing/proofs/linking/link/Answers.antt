use Rattle.std.proofs.Common.{◌≡◌, ◌<◌, refl, sym, subst, Some}
use Rattle.std.specs.Prelude.{slice_get, slice_set}
use Rattle.std.proofs.lemmas.List.{length-set}
use Rattle.p2p_net_gates.specs.declared.listening.Listening.{Listening}
use Rattle.p2p_net_dialing.specs.Linking.{IsLinked}
use Rattle.p2p_net_node.specs.declared.node.Node.{Node}
use Rattle.p2p_net_dialing.proofs.Linked.{linked_to_none, linked_to}
use Rattle.p2p_net_node.proofs.Nodes.{found}
use Rattle.p2p_net_dialing.proofs.linking.link.Goals as goal

pub returns-then-not-arrives : goal.returns-then-not-arrives
returns-then-not-arrives c =
    let nodes = c.args.nodes.now.items in
    let x = c.index_mut-first.result.now in
    let y = c.index.result.now in
    let after : Node = record x { dialing = c.answer_dial.new.self } in
    linked_to_none c.args.entry c.args.attempt c.args.ends.dials c.args.ends.listens c.args.from nodes x y after c.is_up-runs.result c.in_ok-row.row
    (found nodes c.args.ends.dials x c.requires.in_range.0 c.index_mut-first.ensures.value)
    (found nodes c.args.ends.listens y c.requires.in_range.1 c.index.ensures)
    c.is_up-runs.ensures (c.in_ok-row.ensures.answers, (c.in_ok-row.ensures.actor, refl)) c.arrives.result c.arrives.ensures c.args.links.now c.if-not-arrives.true

pub returns : goal.returns
returns c =
    let nodes = c.args.nodes.now.items in
    let x = c.index_mut-first.result.now in
    let y = c.index.result.now in
    let z = c.index_mut-second.result.now in
    let after : Node = record x { dialing = c.answer_dial.new.self } in
    let mid = slice_set nodes c.args.ends.dials after in
    let there : slice_get mid c.args.ends.listens ≡ Some z =
    found mid c.args.ends.listens z (subst (λ i. c.args.ends.listens < i) (sym (length-set nodes c.args.ends.dials after)) c.requires.in_range.1) c.index_mut-second.ensures.value
    in
    subst (λ (l : Listening). IsLinked c.args.entry c.args.attempt c.args.ends.dials c.args.ends.listens c.args.from nodes (slice_set mid c.args.ends.listens (record z { listening = l })) c.args.links.now c.«open».new.self c.arrive.new.row)
    (sym c.in_ok-arrive.ensures.after)
    (linked_to c.args.entry c.args.attempt c.args.ends.dials c.args.ends.listens c.args.from nodes x y after c.is_up-runs.result c.in_ok-row.row
    (found nodes c.args.ends.dials x c.requires.in_range.0 c.index_mut-first.ensures.value)
    (found nodes c.args.ends.listens y c.requires.in_range.1 c.index.ensures)
    c.is_up-runs.ensures (c.in_ok-row.ensures.answers, (c.in_ok-row.ensures.actor, refl)) c.arrives.result c.arrives.ensures c.args.links.now z c.«open».new.self c.arrive.new.row c.if-not-arrives.false there c.in_ok-arrive.ensures.row c.in_ok-open.ensures)

use Rattle.std.proofs.Common.{◌≡◌, ap, subst, ◌∙◌}
use Rattle.std.specs.Prelude.{slice_set, slice_index_or}
use Rattle.p2p_net_node.specs.Places.{node_of}
use Rattle.p2p_net_node.proofs.Nodes.{found}
use Rattle.p2p_net.proofs.asking.note.Goals as goal

pub note-requires : goal.note-requires
note-requires c =
    let nodes = c.args.nodes.now in
    let items = c.args.requested.now.items in
    let n = node_of c.args.log.now c.args.event.now.act in
    let x = c.index-nodes-number.result in
    let r = c.index_mut.result.now in
    c.requires.notes x r (found nodes n x c.requires.there (subst (λ k. x ≡ slice_index_or nodes k x) c.node_of-number.ensures c.index-nodes-number.is))
    (found items n r c.requires.listed (subst (λ k. r ≡ slice_index_or items k r) c.node_of-number.ensures c.index_mut.ensures.value))

pub returns : goal.returns
returns c =
    let nodes = c.args.nodes.now in
    let items = c.args.requested.now.items in
    let n = node_of c.args.log.now c.args.event.now.act in
    let x = c.index-nodes-number.result in
    let r = c.index_mut.result.now in (
      x,
      (
        r,
        (
          found nodes n x c.requires.there (subst (λ k. x ≡ slice_index_or nodes k x) c.node_of-number.ensures c.index-nodes-number.is),
          (
            found items n r c.requires.listed (subst (λ k. r ≡ slice_index_or items k r) c.node_of-number.ensures c.index_mut.ensures.value),
            ap (λ k. slice_set items k c.note.new.self) c.node_of-number.ensures ∙ ap (λ z. slice_set items n z) c.in_ok-note.ensures,
          ),
        ),
      ),
    )

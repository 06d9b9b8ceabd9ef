use Rattle.std.proofs.Common.{◌++◌, ◌∷◌, sym, ap, ◌∙◌, arith}
use Rattle.p2p_tracker_directory.specs.Linked.{listed}
use Rattle.p2p_tracker_directory.proofs.Parts.{len-parts, join-before, join-behind, room-before, room-behind}
use Rattle.p2p_tracker_directory.proofs.places.node.+join.Goals as goal

pub overflow_add-node : goal.overflow_add-node
overflow_add-node g t c =
    let room = room-before (listed c.args.first) (listed c.args.second) (listed c.join.result) (listed c.node.inside.left) (listed c.node.inside.right) c.node.inside.item
    (c.join.ensures ∙ (ap (λ x. listed x ++ listed c.take.result) (sym c.in-Some.is) ∙ ap (λ x. listed c.args.first ++ listed x) c.take.ensures.value))
    (ap listed c.in-Some-second.is ∙ sym (c.node.view_is ∙ c.deref_mut-node.ensures.value)) c.requires in
    omega (arith, room, c.count.ensures)

pub overflow_add-node-then-deref : goal.overflow_add-node-then-deref
overflow_add-node-then-deref g t c =
    let room = room-before (listed c.args.first) (listed c.args.second) (listed c.join.result) (listed c.node.inside.left) (listed c.node.inside.right) c.node.inside.item
    (c.join.ensures ∙ (ap (λ x. listed x ++ listed c.take.result) (sym c.in-Some.is) ∙ ap (λ x. listed c.args.first ++ listed x) c.take.ensures.value))
    (ap listed c.in-Some-second.is ∙ sym (c.node.view_is ∙ c.deref_mut-node.ensures.value)) c.requires in
    omega (arith, room, c.count.ensures, c.count-then-deref.ensures)

pub invariant_of-node : goal.invariant_of-node
invariant_of-node g t c =
    len-parts (listed c.join.result) (listed c.node.inside.right) c.node.inside.item c.count.result c.count-then-deref.result c.count.ensures c.count-then-deref.ensures

pub returns-then-deref : goal.returns-then-deref
returns-then-deref g t c =
    join-before (listed c.args.first) (listed c.args.second) (listed c.join.result) (listed c.node.inside.left) (c.node.inside.item ∷ listed c.node.inside.right)
    (c.join.ensures ∙ (ap (λ x. listed x ++ listed c.take.result) (sym c.in-Some.is) ∙ ap (λ x. listed c.args.first ++ listed x) c.take.ensures.value))
    (ap listed c.in-Some-second.is ∙ sym (c.node.view_is ∙ c.deref_mut-node.ensures.value))

pub overflow_add-node-else-deref : goal.overflow_add-node-else-deref
overflow_add-node-else-deref g t c =
    let room = room-behind (listed c.args.first) (listed c.args.second) (listed c.join-else-deref.result) (listed c.node-else-deref.inside.left) (listed c.node-else-deref.inside.right) c.node-else-deref.inside.item
    (c.join-else-deref.ensures ∙ (ap (λ x. listed c.take-else-deref.result ++ listed x) (sym c.in-Some-second.is) ∙ ap (λ x. listed x ++ listed c.args.second) c.take-else-deref.ensures.value))
    (ap listed c.in-Some.is ∙ sym (c.node-else-deref.view_is ∙ c.deref_mut-node-else-deref.ensures.value)) c.requires in
    omega (arith, room, c.count-else-deref.ensures)

pub overflow_add-node-else-deref-2 : goal.overflow_add-node-else-deref-2
overflow_add-node-else-deref-2 g t c =
    let room = room-behind (listed c.args.first) (listed c.args.second) (listed c.join-else-deref.result) (listed c.node-else-deref.inside.left) (listed c.node-else-deref.inside.right) c.node-else-deref.inside.item
    (c.join-else-deref.ensures ∙ (ap (λ x. listed c.take-else-deref.result ++ listed x) (sym c.in-Some-second.is) ∙ ap (λ x. listed x ++ listed c.args.second) c.take-else-deref.ensures.value))
    (ap listed c.in-Some.is ∙ sym (c.node-else-deref.view_is ∙ c.deref_mut-node-else-deref.ensures.value)) c.requires in
    omega (arith, room, c.count-else-deref.ensures, c.count-else-deref-2.ensures)

pub invariant_of-node-else-deref : goal.invariant_of-node-else-deref
invariant_of-node-else-deref g t c =
    len-parts (listed c.node-else-deref.inside.left) (listed c.join-else-deref.result) c.node-else-deref.inside.item c.count-else-deref.result c.count-else-deref-2.result c.count-else-deref.ensures c.count-else-deref-2.ensures

pub returns-else-deref : goal.returns-else-deref
returns-else-deref g t c =
    join-behind (listed c.args.first) (listed c.args.second) (listed c.join-else-deref.result) (listed c.node-else-deref.inside.left) (listed c.node-else-deref.inside.right) c.node-else-deref.inside.item
    (c.join-else-deref.ensures ∙ (ap (λ x. listed c.take-else-deref.result ++ listed x) (sym c.in-Some-second.is) ∙ ap (λ x. listed x ++ listed c.args.second) c.take-else-deref.ensures.value))
    (ap listed c.in-Some.is ∙ sym (c.node-else-deref.view_is ∙ c.deref_mut-node-else-deref.ensures.value))

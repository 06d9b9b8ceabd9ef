use Rattle.std.proofs.Common.{◌-◌, ◌++◌, ◌∷◌, take, drop, sym, ap, ◌∙◌, arith}
use Rattle.std.proofs.lemmas.List.{take-append-le, drop-append-le}
use Rattle.p2p_tracker_directory.specs.Linked.{listed}
use Rattle.p2p_tracker_directory.proofs.Parts.{take-past, drop-past, len-parts}
use Rattle.p2p_tracker_directory.proofs.places.node.+cut.Goals as goal

pub invariant_of-node : goal.invariant_of-node
invariant_of-node g t c =
    len-parts (listed c.cut-first.result.1) (listed c.node.inside.right) c.node.inside.item c.count.result c.count-then-at-before.result c.count.ensures c.count-then-at-before.ensures

pub invariant_of-node-else-at-before : goal.invariant_of-node-else-at-before
invariant_of-node-else-at-before g t c =
    len-parts (listed c.node.inside.left) (listed c.cut-first-else-at-before.result.0) c.node.inside.item c.count-else-at-before.result c.count-else-at-before-2.result
    c.count-else-at-before.ensures c.count-else-at-before-2.ensures

pub returns-then-at-before-clause-first : goal.returns-then-at-before-clause-first
returns-then-at-before-clause-first g t c =
    let l = listed c.node.inside.left in
    let whole = ap listed c.in-Some.is ∙ sym (c.node.view_is ∙ c.deref_mut-node.ensures.value) in
    c.cut-first.ensures.first ∙ (ap (λ x. take c.args.at (listed x)) c.take.ensures.value
    ∙ (sym (take-append-le c.args.at l (c.node.inside.item ∷ listed c.node.inside.right) (omega (arith, c.count-before.ensures, c.if-at-before.true))) ∙ ap (take c.args.at) (sym whole)))

pub returns-then-at-before-clause-others : goal.returns-then-at-before-clause-others
returns-then-at-before-clause-others g t c =
    let l = listed c.node.inside.left in
    let rest = c.node.inside.item ∷ listed c.node.inside.right in
    let whole = ap listed c.in-Some.is ∙ sym (c.node.view_is ∙ c.deref_mut-node.ensures.value) in
    ap (λ xs. xs ++ rest) (c.cut-first.ensures.others ∙ ap (λ x. drop c.args.at (listed x)) c.take.ensures.value)
    ∙ (sym (drop-append-le c.args.at l rest (omega (arith, c.count-before.ensures, c.if-at-before.true))) ∙ ap (drop c.args.at) (sym whole))

pub returns-else-at-before-clause-first : goal.returns-else-at-before-clause-first
returns-else-at-before-clause-first g t c =
    let l = listed c.node.inside.left in
    let r = listed c.node.inside.right in
    let whole = ap listed c.in-Some.is ∙ sym (c.node.view_is ∙ c.deref_mut-node.ensures.value) in
    let part = c.cut-first-else-at-before.ensures.first ∙ ap (λ x. take (c.args.at - c.count-before.result - 1) (listed x)) c.take-else-at-before.ensures.value in
    ap (λ ys. l ++ c.node.inside.item ∷ ys) part
    ∙ (sym (take-past c.node.inside.item l r c.args.at (c.args.at - c.count-before.result - 1) (omega (arith, c.count-before.ensures, c.if-at-before.false))) ∙ ap (take c.args.at) (sym whole))

pub returns-else-at-before-clause-others : goal.returns-else-at-before-clause-others
returns-else-at-before-clause-others g t c =
    let l = listed c.node.inside.left in
    let r = listed c.node.inside.right in
    let whole = ap listed c.in-Some.is ∙ sym (c.node.view_is ∙ c.deref_mut-node.ensures.value) in
    c.cut-first-else-at-before.ensures.others ∙ (ap (λ x. drop (c.args.at - c.count-before.result - 1) (listed x)) c.take-else-at-before.ensures.value
    ∙ (sym (drop-past c.node.inside.item l r c.args.at (c.args.at - c.count-before.result - 1) (omega (arith, c.count-before.ensures, c.if-at-before.false))) ∙ ap (drop c.args.at) (sym whole)))

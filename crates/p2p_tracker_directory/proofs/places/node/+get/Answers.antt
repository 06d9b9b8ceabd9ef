use Rattle.std.proofs.Common.{◌-◌, ◌∷◌, sym, ap, ◌∙◌, arith}
use Rattle.std.specs.List.{slice_get}
use Rattle.p2p_tracker_directory.specs.Linked.{listed}
use Rattle.p2p_tracker_directory.proofs.Parts.{get-before, get-at, get-past}
use Rattle.p2p_tracker_directory.proofs.places.node.+get.Goals as goal

pub returns-then-at-before : goal.returns-then-at-before
returns-then-at-before g t c =
    let whole = ap listed c.in-Some.is ∙ sym (c.node.view_is ∙ c.deref-node.ensures) in
    c.get.ensures ∙ (sym (get-before (listed c.node.inside.left) (c.node.inside.item ∷ listed c.node.inside.right) c.args.at (omega (arith, c.if-at-before.true, c.count-before.ensures)))
    ∙ ap (λ xs. slice_get xs c.args.at) (sym whole))

pub returns-then-at-before-2 : goal.returns-then-at-before-2
returns-then-at-before-2 g t c =
    let whole = ap listed c.in-Some.is ∙ sym (c.node.view_is ∙ c.deref-node.ensures) in
    sym (get-at c.node.inside.item (listed c.node.inside.left) (listed c.node.inside.right) c.args.at (c.if-at-before-2.true ∙ c.count-before.ensures))
    ∙ ap (λ xs. slice_get xs c.args.at) (sym whole)

pub returns : goal.returns
returns g t c =
    let whole = ap listed c.in-Some.is ∙ sym (c.node.view_is ∙ c.deref-node.ensures) in
    c.get-2.ensures ∙ (sym (get-past c.node.inside.item (listed c.node.inside.left) (listed c.node.inside.right) c.args.at (c.args.at - c.count-before.result - 1)
    (omega (arith, c.count-before.ensures, c.if-at-before.false, c.if-at-before-2.false))) ∙ ap (λ xs. slice_get xs c.args.at) (sym whole))

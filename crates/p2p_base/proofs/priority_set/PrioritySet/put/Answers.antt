use Rattle.std.proofs.Common.{Some, sym, ◌∙◌, ap}
use Rattle.p2p_base.proofs.MomentSteps.{Mirrors-fresh, Mirrors-again, Mirrors-moved, Mirrors-undone}
use Rattle.p2p_base.proofs.priority_set.PrioritySet.put.Goals as goal

pub invariant_of-self-then-before-at : goal.invariant_of-self-then-before-at
invariant_of-self-then-before-at g c =
    let had = rw c.in-Ok-Some.field-0-is at c.in-Ok-Some.ensures.old in
    Mirrors-moved g.met.P.Ord.total c.self.inside.queue c.self.inside.moments c.self.invariant c.args.key c.insert.new.self c.insert-2.new.self
    c.in-Ok-Some.ensures.ordered c.remove.new.self c.in-Ok-Some.before c.args.at c.in_ok-insert.ensures.updates c.remove.ensures.updates c.in-Ok-Some.ensures.updates
    (sym had) c.if-before-at.true

pub invariant_of-self-else-before-at : goal.invariant_of-self-else-before-at
invariant_of-self-else-before-at g c =
    let had = rw c.in-Ok-Some.field-0-is at c.in-Ok-Some.ensures.old in
    Mirrors-again g.met.P.Ord.total c.self.inside.queue c.self.inside.moments c.self.invariant c.args.key c.insert.new.self c.insert-2.new.self
    c.in-Ok-Some.ensures.ordered c.args.at c.in_ok-insert.ensures.updates c.in-Ok-Some.ensures.updates
    (sym had ∙ ap Some c.if-before-at.false)

pub invariant_of-self-in-Ok-None : goal.invariant_of-self-in-Ok-None
invariant_of-self-in-Ok-None g c =
    let had = rw c.in-Ok-None.field-0-is at c.in-Ok-None.ensures.old in
    Mirrors-fresh g.met.P.Ord.total c.self.inside.queue c.self.inside.moments c.self.invariant c.args.key c.insert.new.self c.insert-2.new.self
    c.in-Ok-None.ensures.ordered c.args.at c.in_ok-insert.ensures.updates c.in-Ok-None.ensures.updates (sym had)

pub invariant_of-self-in-Err : goal.invariant_of-self-in-Err
invariant_of-self-in-Err g c =
    Mirrors-undone g.met.P.Ord.total c.self.inside.queue c.self.inside.moments c.self.invariant c.args.key c.insert.new.self c.insert-2.new.self
    c.in-Err.ensures.ordered c.remove-in-Err.new.self c.args.at c.in_ok-insert.ensures.updates c.remove-in-Err.ensures.updates c.in-Err.ensures.err c.in-Err.ensures.absent

use Rattle.std.proofs.Common.{◌≡◌, Bor, Bool, false, Option, Some, None, refl, ap, sym, subst, ◌∙◌}
use Rattle.std.specs.Prelude.{is_some}
use Rattle.std.specs.Option.{option_copied}
use Rattle.p2p_log_rules.specs.declared.row.Half.{Half}
use Rattle.p2p_net_connections.specs.declared.connections.Stage.{Stage}
use Rattle.p2p_net_connecting.specs.Receiving.{StepsBy, StepsAt, StepsOn, RecvStepsBy}
use Rattle.p2p_net_connecting.proofs.receiving.recv_step.Goals as goal

-- a connection that runs, and holds nothing, reads its link
nothing_copied : {X : Type 0} (o : Option (Bor X)) → is_some o ≡ false → option_copied o ≡ None
nothing_copied None h = refl
nothing_copied (Some b) h = cc

pub returns-in_ok-receive-in-Some-Running-clause-does : goal.returns-in_ok-receive-in-Some-Running-clause-does
returns-in_ok-receive-in-Some-Running-clause-does c =
    let k = c.args.turn.entry in
    let n = c.args.turn.node in
    let x = c.args.node.now in
    let y = c.receive.new.node in
    let l = c.args.links.now in
    let m = c.receive.new.links in
    let r = c.in_ok-receive-in-Some-Running.field-0 in
    let none = nothing_copied c.held.result (sym c.is_some.ensures ∙ c.if-is_some.false) in
    subst (λ (b : Bool). RecvStepsBy b k n c.args.conn c.args.at x y l m r) c.if-not-is_up.ensures
    (subst (λ (o : Option Half). StepsOn o k n c.args.conn c.args.at x y l m r) c.in-Some.ensures
    (subst (λ (o : Option Stage). StepsAt o k n c.args.conn c.args.at c.in-Some.half x y l m r) (sym (ap Some c.in-Some-Running.field-0-is) ∙ c.in-Some-Running.ensures)
    (subst (λ o. StepsBy o k n c.args.conn c.args.at c.in-Some.half x y l m r) (sym none ∙ c.held.ensures) c.in_ok-receive-in-Some-Running.ensures.does)))

use Rattle.std.proofs.Common.{rules}
use Rattle.p2p_net.specs.Refusals.{RunRefused}
use Rattle.p2p_net_node.proofs.Nodes.{found}
use Rattle.p2p_net.proofs.Running.{RanFirst-none, RanFirst-step, lawful_run, only_run, accounted_run, stands_run, no_fault, refused_run}
use Rattle.p2p_net.proofs.world.World.run.Goals as goal

pub returns-in_err-apply-clause-err : goal.returns-in_err-apply-clause-err
returns-in_err-apply-clause-err c =
    let told : RunRefused c.args.configs.now c.args.script.now c.in_err-apply.field-0.0 =
    refused_run c.args.configs.now c.args.script.now c.loop-event.event-index c.loop-event.world c.apply.new.self c.event-item.result c.in_err-apply.field-0.0
    c.in_ok-world.ensures.valid c.loop-event.invariant
    (found c.args.script.now c.loop-event.event-index c.event-item.result c.loop-event-test.true c.event-item.is) c.in_err-apply.ensures.err
    in
    search rules

pub loop-event-init : goal.loop-event-init
loop-event-init c = RanFirst-none c.args.configs.now c.args.script.now c.in_ok-world.world c.in_ok-world.ensures.configs c.in_ok-world.ensures.log c.in_ok-world.ensures.works c.in_ok-world.ensures.stands

pub loop-event-preserved : goal.loop-event-preserved
loop-event-preserved c =
    RanFirst-step c.args.configs.now c.args.script.now c.loop-event.event-index c.loop-event.world c.apply.new.self c.event-item.result c.loop-event.invariant
    (found c.args.script.now c.loop-event.event-index c.event-item.result c.loop-event-test.true c.event-item.is)
    c.in_ok-apply.ensures.configs c.in_ok-apply.ensures.ok c.in_ok-apply.ensures.works c.in_ok-apply.ensures.stands c.in_ok-apply.ensures.valid

pub returns-clause-lawful : goal.returns-clause-lawful
returns-clause-lawful c = lawful_run c.args.configs.now c.args.script.now c.loop-event.event-index c.loop-event.world c.loop-event.invariant c.loop-event-test.false

pub returns-clause-only : goal.returns-clause-only
returns-clause-only c = only_run c.args.configs.now c.args.script.now c.loop-event.event-index c.loop-event.world c.loop-event.invariant c.loop-event-test.false

pub returns-clause-stands : goal.returns-clause-stands
returns-clause-stands c = stands_run c.args.configs.now c.args.script.now c.loop-event.event-index c.loop-event.world c.loop-event.invariant

pub returns-clause-allowed : goal.returns-clause-allowed
returns-clause-allowed c = no_fault c.args.configs.now c.args.script.now c.loop-event.event-index c.loop-event.world c.loop-event.invariant c.loop-event-test.false

pub returns-clause-accounted : goal.returns-clause-accounted
returns-clause-accounted c = accounted_run c.args.configs.now c.args.script.now c.loop-event.event-index c.loop-event.world c.loop-event.invariant c.loop-event-test.false

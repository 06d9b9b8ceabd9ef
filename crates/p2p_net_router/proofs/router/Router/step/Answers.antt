use Rattle.std.proofs.lemmas.Result.{IfOk-weaker}
use Rattle.p2p_net_router.specs.Stepped.{IsNoted}
use Rattle.p2p_net_router.proofs.Stepping.{each_step}
use Rattle.p2p_net_router.proofs.router.Router.step.Goals as goal

pub returns-clause-row : goal.returns-clause-row
returns-clause-row c =
    IfOk-weaker c.note_step.result (IsNoted c.args.self.now.number c.args.turn.entry c.as_slice.result.now c.args.self.now.names c.note_step.new.names c.in_ok-stepped.stepped) _
    (λ row noted configs log s.
    (each_step configs log c.args.turn.entry c.args.self.now c.step.new.messenger c.step.new.self c.note_step.new.names row c.as_slice.result.now c.in_ok-stepped.stepped s c.as_slice.ensures.value
    c.in_ok-stepped.ensures.stepped c.in_ok-stepped.ensures.actor c.in_ok-stepped.ensures.messenger c.in_ok-stepped.ensures.indexed noted).row_is)
    c.note_step.ensures

pub returns-clause-others : goal.returns-clause-others
returns-clause-others c =
    IfOk-weaker c.note_step.result (IsNoted c.args.self.now.number c.args.turn.entry c.as_slice.result.now c.args.self.now.names c.note_step.new.names c.in_ok-stepped.stepped) _
    (λ row noted configs log q s other.
    (each_step configs log c.args.turn.entry c.args.self.now c.step.new.messenger c.step.new.self c.note_step.new.names row c.as_slice.result.now c.in_ok-stepped.stepped s c.as_slice.ensures.value
    c.in_ok-stepped.ensures.stepped c.in_ok-stepped.ensures.actor c.in_ok-stepped.ensures.messenger c.in_ok-stepped.ensures.indexed noted).adds q other)
    c.note_step.ensures

pub returns-clause-stands : goal.returns-clause-stands
returns-clause-stands c =
    IfOk-weaker c.note_step.result (IsNoted c.args.self.now.number c.args.turn.entry c.as_slice.result.now c.args.self.now.names c.note_step.new.names c.in_ok-stepped.stepped) _
    (λ row noted configs log event s at is.
    (each_step configs log c.args.turn.entry c.args.self.now c.step.new.messenger c.step.new.self c.note_step.new.names row c.as_slice.result.now c.in_ok-stepped.stepped s c.as_slice.ensures.value
    c.in_ok-stepped.ensures.stepped c.in_ok-stepped.ensures.actor c.in_ok-stepped.ensures.messenger c.in_ok-stepped.ensures.indexed noted).stands event at is)
    c.note_step.ensures

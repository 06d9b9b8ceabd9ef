use Rattle.std.proofs.Common.{sym, subst}
use Rattle.p2p_mux.specs.Built.{Wrapping}
use Rattle.p2p_mux.specs.Passing.{TakesMessage}
use Rattle.p2p_mux.proofs.PassedMessages.{step-passes}
use Rattle.p2p_mux.proofs.muxer.Muxer.step.Goals as goal

pub returns-in-Ok-clause-passed : goal.returns-in-Ok-clause-passed
returns-in-Ok-clause-passed g c = λ m h.
    step-passes (g.R.Receiver.places c.self.inside.receiver) c.args.queues.now c.args.way.now
    (g.R.Receiver.received c.self.inside.receiver c.args.way.now)
    (g.R.Receiver.after_recv c.self.inside.receiver c.args.way.now)
    c.in-Ok.stepped c.work.new.queues c.in-Ok.ensures.step.answer c.in-Ok.ensures.step.queues_then m
    (subst (λ (v : Wrapping g.row.S.Denot g.row.R.Denot). TakesMessage c.args.queues.now (g.R.Receiver.received v.receiver c.args.way.now) m)
    (sym c.self.view_is) h)

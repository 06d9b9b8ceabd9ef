use Rattle.std.proofs.Common.{sym, ap, ◌∙◌}
use Rattle.p2p_gates.specs.Handshaking.{Handshaking}
use Rattle.p2p_gates.specs.Stepping.{Turn}
use Rattle.p2p_gates.proofs.Turning.{handshake-waits}
use Rattle.p2p_gates.proofs.handshake.Handshake.work.Goals as goal

pub returns-in-None-clause-answer : goal.returns-in-None-clause-answer
returns-in-None-clause-answer g c =
    c.wait.ensures.answer ∙ ap (λ (t : Turn (Handshaking g.row.P.Denot) g.row.P.Denot). t.stepped)
    (handshake-waits c.args.self.now c.args.way.now c.args.now c.self.inside.name c.take.new.self
    (ap (λ (h : Handshaking g.row.P.Denot). h.name) c.self.view_is)
    (ap (λ (h : Handshaking g.row.P.Denot). h.has_ended) (sym c.self.view_is) ∙ c.if-self.false)
    (sym c.take.ensures.value ∙ c.in-None.is) c.take.ensures.after)

pub returns-in-None-clause-way : goal.returns-in-None-clause-way
returns-in-None-clause-way g c =
    c.wait.ensures.way ∙ ap (λ (t : Turn (Handshaking g.row.P.Denot) g.row.P.Denot). t.way)
    (handshake-waits c.args.self.now c.args.way.now c.args.now c.self.inside.name c.take.new.self
    (ap (λ (h : Handshaking g.row.P.Denot). h.name) c.self.view_is)
    (ap (λ (h : Handshaking g.row.P.Denot). h.has_ended) (sym c.self.view_is) ∙ c.if-self.false)
    (sym c.take.ensures.value ∙ c.in-None.is) c.take.ensures.after)

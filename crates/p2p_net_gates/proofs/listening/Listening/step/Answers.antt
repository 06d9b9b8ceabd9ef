use Rattle.p2p_net_gates.proofs.ListenerSteps.{noted}
use Rattle.p2p_net_gates.proofs.listening.Listening.step.Goals as goal

pub returns : goal.returns
returns c =
    noted c.args.name c.args.at c.args.self.now c.note.new.self c.args.way.now c.step.new.way c.in_ok-stepped.stepped c.step.new.self c.in_ok-note.field-0
    c.in_ok-stepped.ensures.step c.in_ok-note.ensures.took c.in_ok-note.ensures.names c.in_ok-note.ensures.handshakes c.in_ok-note.ensures.ends c.in_ok-note.ensures.actor

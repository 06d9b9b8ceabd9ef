use Rattle.std.proofs.Common.{ap, sym, ◌∙◌}
use Rattle.p2p_log_rules.specs.declared.row.ListeningEnd.TheVariants as listening
use Rattle.p2p_net_queues.specs.Tables as table
use Rattle.p2p_net_queues.proofs.Tables.{at-inserted}
use Rattle.p2p_net_gates.specs.Listening.{changed_ends}
use Rattle.p2p_net_gates.specs.declared.listening.Listening.{Listening}
use Rattle.p2p_net_gates.proofs.listening.Listening.begin.Goals as goal

pub returns-in_ok-admit-in-Admitted-clause-ends : goal.returns-in_ok-admit-in-Admitted-clause-ends
returns-in_ok-admit-in-Admitted-clause-ends c k =
    let old = c.args.self.now in
    let name = c.args.name in
    ap (λ (l : Listening). table.at l.ends k) c.in_ok-admit-in-Admitted.ensures
    ∙ (at-inserted c.in-Admitted.handshake.arrival.link k (listening.Handshake name) old.ends
    ∙ ap (λ o. changed_ends o name (table.at old.ends) k) (sym c.in-Admitted.is))

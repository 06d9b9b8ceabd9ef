use Rattle.std.proofs.Common.{◌≡◌, sym, subst, ◌∙◌, Some}
use Rattle.p2p_net_queues.specs.Tables as table
use Rattle.p2p_net_queues.specs.Tables.{AreBut}
use Rattle.p2p_net_queues.proofs.Tables.{AreBut-inserted}
use Rattle.p2p_net_gates.specs.Attempts.{Finishes}
use Rattle.p2p_net_gates.proofs.dialing.Dialing.finish.Goals as goal

pub returns-clause-finishes : goal.returns-clause-finishes
returns-clause-finishes c =
    let old = c.args.self.now.attempts in
    let name = c.args.attempt in
    let there : table.at old name ≡ Some c.in-Some.running = sym c.remove.ensures.value ∙ c.in-Some.is in
    let but = AreBut-inserted name c.tell.new.self old c.remove.new.self c.insert.new.self c.remove.ensures.rest c.in_ok-insert.ensures in
    subst (λ o. Finishes o c.args.turn.entry c.args.turn.node name c.args.ok old c.insert.new.self c.args.row.now c.tell.new.row) (sym there) (
      c.in_ok-tell.ensures.row,
      subst (λ a. AreBut name (Some a) old c.insert.new.self) c.in_ok-tell.ensures.after but,
    )

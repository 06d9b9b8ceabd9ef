use Rattle.std.proofs.Common.{◌≡◌, sym, subst, ◌∙◌, Some}
use Rattle.p2p_net_queues.specs.Tables as table
use Rattle.p2p_net_queues.specs.Tables.{AreBut}
use Rattle.p2p_net_queues.proofs.Tables.{AreBut-inserted}
use Rattle.p2p_net_gates.specs.Attempts.{AnswersDial}
use Rattle.p2p_net_gates.proofs.dialing.Dialing.answer_dial.Goals as goal

pub returns-clause-answers : goal.returns-clause-answers
returns-clause-answers c =
    let old = c.args.self.now.attempts in
    let name = c.args.name in
    let there : table.at old name ≡ Some c.in-Some.running = sym c.remove.ensures.value ∙ c.in-Some.is in
    let but = AreBut-inserted name c.answer_dial.new.self old c.remove.new.self c.insert.new.self c.remove.ensures.rest c.in_ok-insert.ensures in
    subst (λ o. AnswersDial o c.args.turn.entry c.args.turn.node name c.args.links old c.insert.new.self c.in_ok-row.row) (sym there) (
      c.in_ok-row.ensures.row,
      subst (λ a. AreBut name (Some a) old c.insert.new.self) c.in_ok-row.ensures.after but,
    )

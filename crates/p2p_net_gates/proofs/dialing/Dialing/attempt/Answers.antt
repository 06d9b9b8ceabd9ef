use Rattle.std.proofs.Common.{◌≡◌, ap, sym, subst, ◌∙◌, Some}
use Rattle.p2p_net_queues.specs.Tables as table
use Rattle.p2p_net_queues.specs.Tables.{AreBut}
use Rattle.p2p_net_queues.proofs.Tables.{AreBut-kept}
use Rattle.p2p_net_gates.specs.Attempts.{has_ended, unless_ended, Tries}
use Rattle.p2p_net_gates.specs.declared.dialing.Dialing.{Dialing}
use Rattle.p2p_net_gates.proofs.dialing.Dialing.attempt.Goals as goal

pub returns-clause-tries : goal.returns-clause-tries
returns-clause-tries c =
    let old = c.args.self.now.attempts in
    let name = c.args.name in
    let there : table.at old name ≡ Some c.in-Some.running = sym c.remove.ensures.value ∙ c.in-Some.is in
    let kept = AreBut-kept (has_ended c.step.new.self.actor) name c.step.new.self old c.remove.new.self c.keep.new.self.attempts c.remove.ensures.rest (ap (λ (d : Dialing). d.attempts) c.in_ok-keep.ensures) in
    subst (λ o. Tries o name c.args.at c.args.seed old c.keep.new.self.attempts c.args.way.now c.step.new.way c.in_ok-tried.tried) (sym there) (
      c.in_ok-tried.ensures.tried,
      (subst (λ a. AreBut name (unless_ended a) old c.keep.new.self.attempts) c.in_ok-tried.ensures.after kept, c.in_ok-tried.ensures.way),
    )

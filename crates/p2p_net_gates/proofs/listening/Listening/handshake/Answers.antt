use Rattle.std.proofs.Common.{◌≡◌, ap, sym, subst, ◌∙◌, Some}
use Rattle.p2p_base.specs.declared.key.Key.{Key}
use Rattle.p2p_gates.specs.HandshakeTurns.{handshake_turn}
use Rattle.p2p_gates.specs.declared.arrival.Arrival.{Arrival}
use Rattle.p2p_net_queues.specs.Tables as table
use Rattle.p2p_net_queues.specs.Tables.{AreBut}
use Rattle.p2p_net_queues.proofs.Tables.{AreBut-kept}
use Rattle.p2p_net_gates.specs.Handshaking.{served_by, freed_if, unless_ended, ends_left, StepsHandshake}
use Rattle.p2p_net_gates.specs.Listening.{EndsAre}
use Rattle.p2p_net_gates.proofs.listening.Listening.handshake.Goals as goal

pub returns : goal.returns
returns c =
    let old = c.args.self.now in
    let new = c.keep.new.self in
    let name = c.args.name in
    let turn = handshake_turn c.in-Some.handshake c.args.way.now c.args.at in
    let there : table.at old.handshakes name ≡ Some c.in-Some.handshake = sym c.remove.ensures.value ∙ c.in-Some.is in
    let kept = AreBut-kept c.step.new.self.has_ended name c.step.new.self old.handshakes c.remove.new.self new.handshakes c.remove.ensures.rest c.in_ok-keep.ensures.handshakes in
    subst (λ o. StepsHandshake o name c.args.at old new c.args.way.now c.step.new.way c.served-step.result) (sym there) (record {
      did = c.served-step.ensures
          ∙ (ap (λ (a : Arrival Key). served_by c.in_ok-stepped.stepped a.link c.has_ended.result) c.arrival.ensures
          ∙ (ap (served_by c.in_ok-stepped.stepped c.step.new.self.arrival.link) c.has_ended.ensures
          ∙ (ap (λ s. served_by s c.step.new.self.arrival.link c.step.new.self.has_ended) c.in_ok-stepped.ensures.answer
          ∙ ap (λ a. served_by turn.stepped a.arrival.link a.has_ended) c.in_ok-stepped.ensures.after)));
      rest = subst (λ a. new ≡ record old { actor = freed_if a.has_ended old.actor; handshakes = new.handshakes; ends = new.ends }) c.in_ok-stepped.ensures.after c.in_ok-keep.ensures.rest;
      others = subst (λ a. AreBut name (unless_ended a) old.handshakes new.handshakes) c.in_ok-stepped.ensures.after kept;
      ends = subst (λ a. EndsAre (ends_left a.has_ended a.arrival.link (table.at old.ends)) new.ends) c.in_ok-stepped.ensures.after c.in_ok-keep.ensures.ends;
      mailbox = c.in_ok-stepped.ensures.way;
    })

-- A step of the listener of a node is that of its actor, which is noted.
use Rattle.std.proofs.Common.{◌≡◌, ℕ, Option, subst, sym, ap, ◌∙◌}
use Rattle.std.specs.Prelude.{slice_get}
use Rattle.p2p_base.specs.declared.key.Key.{Key}
use Rattle.p2p_tracker_mailbox.specs.declared.mailbox.Mailbox.{Mailbox}
use Rattle.p2p_gates.specs.Listening.{Listening as Actor, StandsFor, with_rest}
use Rattle.p2p_gates.specs.ListenerSteps.{IsStepOf}
use Rattle.p2p_gates.specs.ListenerTurns.{listener_turn}
use Rattle.p2p_gates.specs.Quotas.{KeepsRates}
use Rattle.p2p_gates.specs.declared.stepped.Stepped.{Stepped}
use Rattle.p2p_net_queues.specs.Tables as table
use Rattle.p2p_net_gates.specs.Listening.{took_by, names_after, handshakes_after, EndsAre, ends_after, Steps}
use Rattle.p2p_net_gates.specs.declared.listening.Listening.{Listening}
use Rattle.p2p_net_gates.specs.declared.listening.Took.{Took}

pub noted : (name at : ℕ) (old new : Listening) (way after : Mailbox Key) (s : Stepped Key) (actor : Actor Key) (o : Option Took)
    → IsStepOf old.actor way name at s actor after → o ≡ took_by s (slice_get old.names 0) → new.names ≡ names_after s old.names
    → new.handshakes ≡ handshakes_after s name old.handshakes → EndsAre (ends_after s name (table.at old.ends)) new.ends
    → new.actor ≡ actor → Steps name at old new way after o
noted name at old new way after s actor o step took names handshakes ends same = record {
  took = λ k st. took ∙ ap (λ x. took_by x (slice_get old.names 0)) (step.turned k st).answer;
  names = λ k st. names ∙ ap (λ x. names_after x old.names) (step.turned k st).answer;
  handshakes = λ k st. handshakes ∙ ap (λ x. handshakes_after x name old.handshakes) (step.turned k st).answer;
  ends = λ k st j. ends j ∙ ap (λ x. ends_after x name (table.at old.ends) j) (step.turned k st).answer;
  stands = λ k st. subst (λ a. StandsFor a (listener_turn old.actor k way name at).known) (sym same) (step.turned k st).stands;
  arrivals = λ k st. ap (λ (a : Actor Key). a.arrivals) same ∙ (step.turned k st).arrivals;
  places = λ k st. ap (λ (a : Actor Key). a.places) same ∙ (step.turned k st).places;
  mailbox = λ k st. (step.turned k st).way;
  rest = subst (λ a. a ≡ with_rest old.actor a) (sym same) step.rest;
  rates = subst (λ (a : Actor Key). KeepsRates old.actor.quotas a.quotas) (sym same) step.rates;
}

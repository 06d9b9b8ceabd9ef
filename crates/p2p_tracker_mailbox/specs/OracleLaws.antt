-- The law of `Provider` and `Blocker` at `Oracle`.
use Rattle.std.specs.Prelude.{◌≡◌, ◌↔◌, Bool, true, false, if◌then◌else◌, IsTrue, refl}
use Rattle.p2p_base.specs.Queue.{has_room}
use Rattle.p2p_base.specs.declared.outcome.Feedback.TheVariants as feedback
use Rattle.p2p_tracker_mailbox.specs.Desk.{DeskOf, told_of}

told_closed : (closed room : Bool) → ((if closed then feedback.Closed else (if room then feedback.Ok else feedback.Backoff)) ≡ feedback.Closed) ↔ IsTrue closed
told_closed true room = (λ _. refl, λ _. refl)
told_closed false true = (λ e. cc, λ h. cc)
told_closed false false = (λ e. cc, λ h. cc)

-- a message is told `Closed` exactly where the tracker has ended
pub closed_once_ended : {P M : Type 0} → (d : DeskOf P M) → (told_of d ≡ feedback.Closed) ↔ IsTrue d.messages.closed
closed_once_ended d = told_closed d.messages.closed (has_room d.messages)

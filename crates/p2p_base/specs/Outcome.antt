-- What the answers of queues say.
use Rattle.std.specs.Prelude.{Bool, true, false}
use Rattle.p2p_base.specs.declared.outcome.Feedback.TheVariants as feedback
use Rattle.p2p_base.specs.declared.outcome.Unreliable.{Unreliable}
use Rattle.p2p_base.specs.declared.outcome.Unreliable.TheVariants.{Outcome, Rejected}
use Rattle.p2p_base.specs.declared.outcome.Sent.{Sent}
use Rattle.p2p_base.specs.declared.outcome.Sent.TheVariants as sent

-- the message was kept
abbrev pub is_accepted : Unreliable → Bool
is_accepted (Outcome feedback.Ok) = true
is_accepted (Outcome feedback.Backoff) = true
is_accepted (Outcome feedback.Closed) = false
is_accepted Rejected = false

-- the answer without the message
abbrev pub outcome_of : {T : Type 0} → Sent T → Unreliable
outcome_of sent.Ok = Outcome feedback.Ok
outcome_of sent.Backoff = Outcome feedback.Backoff
outcome_of (sent.Rejected message) = Rejected
outcome_of (sent.Closed message) = Outcome feedback.Closed

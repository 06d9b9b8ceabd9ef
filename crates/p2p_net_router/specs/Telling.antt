-- What the reply to a message says.
use Rattle.std.specs.Prelude.{ℕ, List, []}
use Rattle.p2p_base.specs.declared.key.Key.{Key}
use Rattle.p2p_base.specs.declared.outcome.Feedback.TheVariants as feedback
use Rattle.p2p_base.specs.declared.outcome.Unreliable.TheVariants.{Outcome, Rejected}
use Rattle.p2p_log.specs.declared.entry.Reply.{Reply}
use Rattle.p2p_log.specs.declared.entry.Reply.TheVariants as reply
use Rattle.p2p_net_router.specs.declared.telling.Telling.{Telling}
use Rattle.p2p_net_router.specs.declared.telling.Telling.TheVariants as telling

-- to one that is accepted for these keys, at a node and on a channel
abbrev pub accepted_reply : Telling → ℕ → ℕ → List Key → Reply
accepted_reply telling.Sent n c keys = reply.Sent keys
accepted_reply telling.Outcome n c keys = reply.Outcome (Outcome feedback.Ok) n c keys

-- to one that is refused
abbrev pub refused_reply : Telling → ℕ → ℕ → List Key → Reply
refused_reply telling.Sent n c keys = reply.Sent []
refused_reply telling.Outcome n c keys = reply.Outcome Rejected n c keys

-- to one at a node that has stopped
abbrev pub closed_reply : Telling → ℕ → ℕ → List Key → Reply
closed_reply telling.Sent n c keys = reply.Sent []
closed_reply telling.Outcome n c keys = reply.Outcome (Outcome feedback.Closed) n c keys

-- The router's mailbox, and what its calls answer and leave.
use Rattle.std.specs.Prelude.{ℕ, List, [], ◌∷◌, ◌++◌, map, if◌then◌else◌}
use Rattle.p2p_base.specs.Queue.{Queue, has_room, with_items}
use Rattle.p2p_base.specs.declared.policy.Keep.{Keep}
use Rattle.p2p_base.specs.declared.policy.Keep.TheVariants.{Refuse, Append}
use Rattle.p2p_base.specs.declared.outcome.Feedback.{Feedback}
use Rattle.p2p_base.specs.declared.outcome.Feedback.TheVariants as feedback
use Rattle.p2p_base.specs.declared.outcome.Unreliable.{Unreliable}
use Rattle.p2p_base.specs.declared.outcome.Unreliable.TheVariants.{Outcome, Rejected}
use Rattle.p2p_router.specs.declared.message.Message.{Message}
use Rattle.p2p_router.specs.declared.message.Message.TheVariants as message

module _ {P : Type 0} where
  -- content is refused where the mailbox is full, and the other messages overflow
  abbrev pub keep_of_message : Message P → Keep
  keep_of_message (message.Ready peer relay conn) = Append
  keep_of_message (message.Release peer) = Append
  keep_of_message (message.Content recipients encoded priority) = Refuse
  keep_of_message (message.SubscribePeers subscription) = Append

  -- the mailbox with a message last
  abbrev pub appended : Queue (Message P) → Message P → Queue (Message P)
  appended q m = with_items q (q.items ++ m ∷ [])

  -- what a message that is never refused is told
  abbrev pub feedback_of : Queue (Message P) → Feedback
  feedback_of q = if has_room q then feedback.Ok else feedback.Backoff

  -- what content is told
  abbrev pub content_told : Queue (Message P) → Unreliable
  content_told q = if has_room q then Outcome feedback.Ok else Rejected

  -- the mailbox after content was handed in
  abbrev pub with_content : Queue (Message P) → Message P → Queue (Message P)
  with_content q m = if has_room q then appended q m else q

  -- the mailbox with one message for each of these subscriptions last, in order
  abbrev pub with_subscriptions : Queue (Message P) → List ℕ → Queue (Message P)
  with_subscriptions q ns = with_items q (q.items ++ map message.SubscribePeers ns)

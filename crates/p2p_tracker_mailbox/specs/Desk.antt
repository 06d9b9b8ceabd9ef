-- The desk of a tracker's mailbox as contracts see it, over messages of any kind, and what its calls answer and leave.
use Rattle.std.specs.Prelude.{ℕ, List, [], ◌∷◌, ◌++◌, drop, length, Option, None, Some, slice_index_or, slice_set, if◌then◌else◌}
use Rattle.p2p_base.specs.Queue.{Queue, empty_queue, has_room, enqueued, oldest, without_oldest, closed_queue}
use Rattle.p2p_base.specs.declared.policy.Keep.TheVariants.{Append}
use Rattle.p2p_base.specs.declared.outcome.Feedback.{Feedback}
use Rattle.p2p_base.specs.declared.outcome.Feedback.TheVariants as feedback
use Rattle.p2p_flow.specs.Blocking.{Blocking}
use Rattle.p2p_flow.specs.Provided.{Provided, Question, unanswered, answered, given, question_after}
use Rattle.p2p_flow.specs.declared.tracked.TrackedPeers.{TrackedPeers}
use Rattle.p2p_flow.specs.declared.update.PeerSetUpdate.{PeerSetUpdate}
use Rattle.p2p_tracker_mailbox.specs.declared.message.Message.{Message}
use Rattle.p2p_tracker_mailbox.specs.declared.message.Message.TheVariants as message

-- the messages that wait for the tracker, which has ended once they are closed; the peer sets that were asked for; for each
-- subscription the updates that wait, the oldest first; and for each subscription to the blocked keys the set that waits, if one does
pub record DeskOf (P M : Type 0) : Type 0 where
  pub messages : Queue M
  pub questions : List (Question (Option (TrackedPeers P)))
  pub updates : List (List (PeerSetUpdate P))
  pub sets : List (Option (List P))

-- the desk of a tracker of lookup
abbrev pub Desk : Type 0 → Type 0
Desk P = DeskOf P (Message P)

module _ {T : Type 0} where
  -- a question once it is answered: the first answer stays
  abbrev pub with_answer : Question T → T → Question T
  with_answer unanswered a = answered a
  with_answer (answered b) a = answered b
  with_answer given a = given

  -- what a queue tells of a message that it may keep in its overflow
  abbrev pub told_by : Queue T → Feedback
  told_by q = if q.closed then feedback.Closed else (if has_room q then feedback.Ok else feedback.Backoff)

module _ {P M : Type 0} where
  abbrev pub new_desk : ℕ → DeskOf P M
  new_desk size = record { messages = empty_queue size; questions = []; updates = []; sets = [] }

  -- what is told of one more message
  abbrev pub told_of : DeskOf P M → Feedback
  told_of d = told_by d.messages

  -- after a message was put last; a mailbox that is closed drops it
  abbrev pub with_message : DeskOf P M → M → DeskOf P M
  with_message d m = record { messages = enqueued Append d.messages m; questions = d.questions; updates = d.updates; sets = d.sets }

  -- the oldest message
  abbrev pub next_message : DeskOf P M → Option M
  next_message d = oldest d.messages

  abbrev pub without_message : DeskOf P M → DeskOf P M
  without_message d = record { messages = without_oldest d.messages; questions = d.questions; updates = d.updates; sets = d.sets }

  -- once the tracker has ended: no message waits, and what waits for those who asked stays
  abbrev pub ended : DeskOf P M → DeskOf P M
  ended d = record { messages = closed_queue d.messages; questions = d.questions; updates = d.updates; sets = d.sets }

  -- what those who ask for peer sets see
  abbrev pub provided_by : DeskOf P M → Provided P
  provided_by d = record { has_ended = d.messages.closed; questions = d.questions; updates = d.updates }

  -- what those who ask which keys are blocked see
  abbrev pub blocking_by : DeskOf P M → Blocking P
  blocking_by d = record { has_ended = d.messages.closed; sets = d.sets }

  -- the question of a number; one that was never asked has no answer to give
  abbrev pub question_at : DeskOf P M → ℕ → Question (Option (TrackedPeers P))
  question_at d n = slice_index_or d.questions n given

  abbrev pub with_question_at : DeskOf P M → ℕ → Question (Option (TrackedPeers P)) → DeskOf P M
  with_question_at d n q = record { messages = d.messages; questions = slice_set d.questions n q; updates = d.updates; sets = d.sets }

  -- after the peers of the set with this index were asked for, by the message that says so
  abbrev pub asked_by : (ℕ → ℕ → M) → DeskOf P M → ℕ → DeskOf P M
  asked_by asks d index = record {
    messages = enqueued Append d.messages (asks index (length d.questions));
    questions = d.questions ++ unanswered ∷ [];
    updates = d.updates;
    sets = d.sets;
  }

  -- after a question was answered
  abbrev pub answered_at : DeskOf P M → ℕ → Option (TrackedPeers P) → DeskOf P M
  answered_at d n peers = with_question_at d n (with_answer (question_at d n) peers)

  -- after its answer was asked for
  abbrev pub answer_taken : DeskOf P M → ℕ → DeskOf P M
  answer_taken d n = with_question_at d n (question_after d.messages.closed (question_at d n))

  -- the updates that wait for the subscription of a number
  abbrev pub updates_at : DeskOf P M → ℕ → List (PeerSetUpdate P)
  updates_at d n = slice_index_or d.updates n []

  abbrev pub with_updates_at : DeskOf P M → ℕ → List (PeerSetUpdate P) → DeskOf P M
  with_updates_at d n us = record { messages = d.messages; questions = d.questions; updates = slice_set d.updates n us; sets = d.sets }

  -- after one more subscription to peer sets
  abbrev pub subscribed_by : (ℕ → M) → DeskOf P M → DeskOf P M
  subscribed_by subscribes d = record {
    messages = enqueued Append d.messages (subscribes (length d.updates));
    questions = d.questions;
    updates = d.updates ++ [] ∷ [];
    sets = d.sets;
  }

  -- after an update was put for a subscription
  abbrev pub with_update : DeskOf P M → ℕ → PeerSetUpdate P → DeskOf P M
  with_update d n u = with_updates_at d n (updates_at d n ++ u ∷ [])

  -- after the oldest update of a subscription was asked for
  abbrev pub update_taken : DeskOf P M → ℕ → DeskOf P M
  update_taken d n = with_updates_at d n (drop 1 (updates_at d n))

  -- the set that waits for the subscription of a number
  abbrev pub set_of : DeskOf P M → ℕ → Option (List P)
  set_of d n = slice_index_or d.sets n None

  abbrev pub with_set_at : DeskOf P M → ℕ → Option (List P) → DeskOf P M
  with_set_at d n s = record { messages = d.messages; questions = d.questions; updates = d.updates; sets = slice_set d.sets n s }

  -- after one more subscription to the blocked keys
  abbrev pub blocked_subscribed_by : (ℕ → M) → DeskOf P M → DeskOf P M
  blocked_subscribed_by subscribes d = record {
    messages = enqueued Append d.messages (subscribes (length d.sets));
    questions = d.questions;
    updates = d.updates;
    sets = d.sets ++ None ∷ [];
  }

  -- after a set was put for a subscription: one that waited makes way for it
  abbrev pub with_set : DeskOf P M → ℕ → List P → DeskOf P M
  with_set d n s = with_set_at d n (Some s)

  -- after the set of a subscription was asked for
  abbrev pub set_taken : DeskOf P M → ℕ → DeskOf P M
  set_taken d n = with_set_at d n None

-- the same over the messages of a tracker of lookup
module _ {P : Type 0} where
  abbrev pub asked : Desk P → ℕ → Desk P
  asked d index = asked_by message.PeerSet d index

  abbrev pub subscribed : Desk P → Desk P
  subscribed d = subscribed_by message.Subscribe d

  abbrev pub blocked_subscribed : Desk P → Desk P
  blocked_subscribed d = blocked_subscribed_by message.SubscribeBlocked d

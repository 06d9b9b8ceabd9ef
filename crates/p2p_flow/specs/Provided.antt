-- What those who ask for peer sets see, and what their calls answer and leave.
use Rattle.std.specs.Prelude.{ℕ, Bool, true, false, List, [], ◌∷◌, ◌++◌, drop, Option, None, slice_get, slice_index_or, slice_set, Result}
use Rattle.p2p_flow.specs.Subscribed.{next_item}
use Rattle.p2p_flow.specs.declared.ended.Ended.{Ended}
use Rattle.p2p_flow.specs.declared.plain.Polled.{Polled}
use Rattle.p2p_flow.specs.declared.plain.Polled.TheVariants as polled
use Rattle.p2p_flow.specs.declared.tracked.TrackedPeers.{TrackedPeers}
use Rattle.p2p_flow.specs.declared.update.PeerSetUpdate.{PeerSetUpdate}

-- a question that has one answer: it waits for the answer, has it, or gave it out
pub data Question (T : Type 0) : Type 0 where
  unanswered : Question T
  answered : T → Question T
  given : Question T

module _ {T : Type 0} where
  -- the answer wasn't given out
  abbrev pub is_open : Question T → Bool
  is_open unanswered = true
  is_open (answered a) = true
  is_open given = false

  -- what asking for the answer gives: `None` where nobody will answer any more
  abbrev pub answer_of : Bool → Question (Option T) → Polled (Option T)
  answer_of has_ended (answered a) = polled.Ready a
  answer_of true unanswered = polled.Ready None
  answer_of false unanswered = polled.Pending
  answer_of has_ended given = polled.Pending

  -- the question once its answer was asked for
  abbrev pub question_after : Bool → Question T → Question T
  question_after has_ended (answered a) = given
  question_after true unanswered = given
  question_after false unanswered = unanswered
  question_after has_ended given = given

-- whether the tracker has ended; the peer sets that were asked for; and for each subscription the updates that wait, the oldest first.
-- Questions and subscriptions stand in order, so that each is found at its number
pub record Provided (P : Type 0) : Type 0 where
  pub has_ended : Bool
  pub questions : List (Question (Option (TrackedPeers P)))
  pub updates : List (List (PeerSetUpdate P))

module _ {P : Type 0} where
  -- the question of a number; one that was never asked has no answer to give
  abbrev pub question_at : Provided P → ℕ → Question (Option (TrackedPeers P))
  question_at p n = slice_index_or p.questions n given

  -- the updates that wait for the subscription of a number
  abbrev pub updates_at : Provided P → ℕ → List (PeerSetUpdate P)
  updates_at p n = slice_index_or p.updates n []

  -- after one more question
  abbrev pub with_question : Provided P → Provided P
  with_question p = record p { questions = p.questions ++ unanswered ∷ [] }

  -- after one more subscription
  abbrev pub with_subscription : Provided P → Provided P
  with_subscription p = record p { updates = p.updates ++ [] ∷ [] }

  -- what asking for the answer to a question gives
  abbrev pub answer_at : Provided P → ℕ → Polled (Option (TrackedPeers P))
  answer_at p n = answer_of p.has_ended (question_at p n)

  -- after that
  abbrev pub without_answer : Provided P → ℕ → Provided P
  without_answer p n = record p { questions = slice_set p.questions n (question_after p.has_ended (question_at p n)) }

  -- what asking a subscription for its next update gives
  abbrev pub update_at : Provided P → ℕ → Result (Polled (PeerSetUpdate P)) Ended
  update_at p n = next_item p.has_ended (slice_get (updates_at p n) 0)

  -- after that
  abbrev pub without_update : Provided P → ℕ → Provided P
  without_update p n = record p { updates = slice_set p.updates n (drop 1 (updates_at p n)) }

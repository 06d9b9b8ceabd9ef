-- A queue as contracts see it, and what its calls answer and leave.
use Rattle.std.specs.Prelude.{ℕ, Bool, true, false, ◌&&◌, not, List, [], ◌∷◌, ◌++◌, length, take, drop, Option, slice_get, slice_index_or, nat_lt, if◌then◌else◌, refl}
use Rattle.std.specs.Coded.{Coded, code_by, coded×, coded_list, coded_ℕ, coded_bool}
use Rattle.p2p_base.specs.declared.policy.Keep.{Keep}
use Rattle.p2p_base.specs.declared.policy.Keep.TheVariants.{Refuse, Append, Replace}
use Rattle.p2p_base.specs.declared.outcome.Sent.{Sent}
use Rattle.p2p_base.specs.declared.outcome.Sent.TheVariants as sent
use Rattle.p2p_base.specs.declared.outcome.Pushed.{Pushed}
use Rattle.p2p_base.specs.declared.outcome.Pushed.TheVariants as pushed

-- what waits, the oldest first; how many ready places there are; whether it is closed
pub record Queue (T : Type 0) : Type 0 where
  pub items : List T
  pub capacity : ℕ
  pub closed : Bool

module _ {T : Type 0} where
  abbrev pub queue_code : Coded T → Coded (Queue T)
  queue_code c = code_by (List T × (ℕ × Bool)) (coded× (coded_list c) (coded× coded_ℕ coded_bool)) (λ q. (q.items, (q.capacity, q.closed))) (λ p. record { items = p.0; capacity = p.1.0; closed = p.1.1 }) (λ _. refl)

  abbrev pub empty_queue : ℕ → Queue T
  empty_queue n = record { items = []; capacity = n; closed = false }

  -- a ready place is free
  abbrev pub has_room : Queue T → Bool
  has_room q = nat_lt (length q.items) q.capacity

  abbrev pub with_items : Queue T → List T → Queue T
  with_items q xs = record { items = xs; capacity = q.capacity; closed = q.closed }

  -- what a full mailbox answers
  abbrev pub overflow_answer : Keep → T → Sent T
  overflow_answer Refuse message = sent.Rejected message
  overflow_answer Append message = sent.Backoff
  overflow_answer Replace message = sent.Backoff

  -- what a full mailbox then holds
  abbrev pub overflow_items : Keep → Queue T → T → List T
  overflow_items Refuse q message = q.items
  overflow_items Append q message = q.items ++ message ∷ []
  overflow_items Replace q message = take q.capacity q.items ++ message ∷ []

  -- what `enqueue` answers to a message
  abbrev pub enqueue_answer : Keep → Queue T → T → Sent T
  enqueue_answer keep q message =
      if q.closed then sent.Closed message
      else (if has_room q then sent.Ok else overflow_answer keep message)

  -- the mailbox after `enqueue` of a message
  abbrev pub enqueued : Keep → Queue T → T → Queue T
  enqueued keep q message =
      with_items q
      (if q.closed then q.items
      else (if has_room q then q.items ++ message ∷ [] else overflow_items keep q message))

  -- the mailbox after `append` of messages
  abbrev pub appended_to : Queue T → List T → Queue T
  appended_to q messages = with_items q (if q.closed then q.items else q.items ++ messages)

  -- `enqueue` keeps a message
  abbrev pub keeps : Keep → Queue T → Bool
  keeps Refuse q = not q.closed && has_room q
  keeps Append q = not q.closed
  keeps Replace q = not q.closed

  -- the oldest item, if there is one
  abbrev pub oldest : Queue T → Option T
  oldest q = slice_get q.items 0

  -- the queue without its oldest item
  abbrev pub without_oldest : Queue T → Queue T
  without_oldest q = with_items q (drop 1 q.items)

  -- the queue once it is closed: it holds nothing
  abbrev pub closed_queue : Queue T → Queue T
  closed_queue q = record { items = []; capacity = q.capacity; closed = true }

  -- what `send_lossy` answers to an item
  abbrev pub push_answer : Queue T → T → Pushed T
  push_answer q item =
      if q.closed then pushed.Closed item
      else (if has_room q then pushed.Kept else pushed.Replaced (slice_index_or q.items 0 item))

  -- the ring after `send_lossy` of an item
  abbrev pub pushed_on : Queue T → T → Queue T
  pushed_on q item =
      with_items q
      (if q.closed then q.items
      else (if has_room q then q.items ++ item ∷ [] else drop 1 q.items ++ item ∷ []))

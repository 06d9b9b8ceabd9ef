-- A messenger as contracts see it, and what its calls answer and leave.
use Rattle.std.specs.Prelude.{ℕ, Bool, true, false, not, List, [], ◌∷◌, ◌++◌, length, Option, Some, None, slice_get, slice_index_or, slice_set, if◌then◌else◌}
use Rattle.p2p_base.specs.Queue.{Queue, empty_queue, oldest, without_oldest, closed_queue, pushed_on}
use Rattle.p2p_base.specs.declared.outcome.Feedback.TheVariants as feedback
use Rattle.p2p_base.specs.declared.outcome.Unreliable.{Unreliable}
use Rattle.p2p_base.specs.declared.outcome.Unreliable.TheVariants.{Outcome}
use Rattle.p2p_wire.specs.Frame.{frame}
use Rattle.p2p_wire.specs.declared.encoded.EncodedData.{EncodedData}
use Rattle.p2p_wire.specs.declared.frame.Message.TheVariants as wire
use Rattle.p2p_flow.specs.declared.plain.Recipients.{Recipients}
use Rattle.p2p_router.specs.Mailbox.{appended, content_told, with_content, with_subscriptions}
use Rattle.p2p_router.specs.declared.message.Message.{Message}
use Rattle.p2p_router.specs.declared.message.Message.TheVariants as message
use Rattle.p2p_router.specs.declared.messenger.Binding.{Binding}
use Rattle.p2p_router.specs.declared.messenger.Binding.TheVariants.{Unbound, Bound, Closed}

-- the router's mailbox, while it is bound to one; the subscriptions that wait for one; and for each subscription the lists that
-- wait, at most one
pub record Desk (P : Type 0) : Type 0 where
  pub binding : Binding P
  pub waiting : List ℕ
  pub lists : List (Queue (List P))

-- the frame of a message on a channel
abbrev pub encoded_of : ℕ → List ℕ → EncodedData
encoded_of channel message =
    record { channel = channel; payload = frame (wire.Data (record { channel = channel; message = message })) }

module _ {X : Type 0} where
  -- there is such a queue, and it isn't closed
  abbrev pub is_open : Option (Queue X) → Bool
  is_open None = false
  is_open (Some q) = not q.closed

module _ {P : Type 0} where
  abbrev pub is_unbound : Binding P → Bool
  is_unbound Unbound = true
  is_unbound (Bound q) = false
  is_unbound Closed = false

  abbrev pub is_bound : Binding P → Bool
  is_bound Unbound = false
  is_bound (Bound q) = true
  is_bound Closed = false

  abbrev pub is_closed : Binding P → Bool
  is_closed Unbound = false
  is_closed (Bound q) = false
  is_closed Closed = true

  -- the mailbox, where it is bound to one
  abbrev pub mailbox_of : Binding P → Option (Queue (Message P))
  mailbox_of Unbound = None
  mailbox_of (Bound q) = Some q
  mailbox_of Closed = None

  -- the oldest message, where there is one
  abbrev pub oldest_in : Binding P → Option (Message P)
  oldest_in Unbound = None
  oldest_in (Bound q) = oldest q
  oldest_in Closed = None

  -- the mailbox changed by f, where it is bound to one
  abbrev pub in_mailbox : (Queue (Message P) → Queue (Message P)) → Binding P → Binding P
  in_mailbox f Unbound = Unbound
  in_mailbox f (Bound q) = Bound (f q)
  in_mailbox f Closed = Closed

  abbrev pub new_desk : Desk P
  new_desk = record { binding = Unbound; waiting = []; lists = [] }

  -- bound to a mailbox, which takes in what waited
  abbrev pub bound_to : Desk P → Queue (Message P) → Desk P
  bound_to d q = record { binding = Bound (with_subscriptions q d.waiting); waiting = []; lists = d.lists }

  -- closed: no mailbox is left, and no subscription waits for one
  abbrev pub shut : Desk P → Desk P
  shut d = record { binding = Closed; waiting = []; lists = d.lists }

  -- the oldest message of the mailbox
  abbrev pub message_waiting : Desk P → Option (Message P)
  message_waiting d = oldest_in d.binding

  abbrev pub message_taken : Desk P → Desk P
  message_taken d = record { binding = in_mailbox without_oldest d.binding; waiting = d.waiting; lists = d.lists }

  -- after one more subscription
  abbrev pub subscribed : Desk P → Desk P
  subscribed d = record {
    binding = in_mailbox (λ q. appended q (message.SubscribePeers (length d.lists))) d.binding;
    waiting = if is_unbound d.binding then d.waiting ++ length d.lists ∷ [] else d.waiting;
    lists = d.lists ++ empty_queue 1 ∷ [];
  }

  -- the lists that wait for a subscription
  abbrev pub lists_of : Desk P → ℕ → Queue (List P)
  lists_of d n = slice_index_or d.lists n (empty_queue 1)

  abbrev pub with_lists_of : Desk P → ℕ → Queue (List P) → Desk P
  with_lists_of d n q = record { binding = d.binding; waiting = d.waiting; lists = slice_set d.lists n q }

  abbrev pub list_waiting : Desk P → ℕ → Option (List P)
  list_waiting d n = oldest (lists_of d n)

  abbrev pub list_taken : Desk P → ℕ → Desk P
  list_taken d n = with_lists_of d n (without_oldest (lists_of d n))

  -- once the receiver of a subscription was dropped
  abbrev pub receiver_dropped : Desk P → ℕ → Desk P
  receiver_dropped d n = with_lists_of d n (closed_queue (lists_of d n))

  -- the receiver of a subscription is there
  abbrev pub is_heard : List (Queue (List P)) → ℕ → Bool
  is_heard lists n = is_open (slice_get lists n)

  -- after a list was put for a subscription
  abbrev pub told_one : Desk P → List P → ℕ → Desk P
  told_one d peers n = with_lists_of d n (pushed_on (lists_of d n) peers)

  -- after a list was put for each of these subscriptions, in order
  unfoldable pub told_all : Desk P → List P → List ℕ → Desk P
  told_all d peers [] = d
  told_all d peers (n ∷ ns) = told_all (told_one d peers n) peers ns

  -- what content is told: `Ok` while it is unbound, and is dropped then
  abbrev pub content_answered : Binding P → Unreliable
  content_answered Unbound = Outcome feedback.Ok
  content_answered (Bound q) = content_told q
  content_answered Closed = Outcome feedback.Closed

  -- after content was handed in
  abbrev pub content_taken : Desk P → Recipients P → ℕ → List ℕ → Bool → Desk P
  content_taken d to channel bytes priority = record {
    binding = in_mailbox (λ q. with_content q (message.Content to (encoded_of channel bytes) priority)) d.binding;
    waiting = d.waiting;
    lists = d.lists;
  }

-- The messages that arrived for the channels of a node, as contracts see them, and what their calls answer and leave.
use Rattle.std.specs.Prelude.{ℕ, Bool, false, not, List, [], Option, Some, None}
use Rattle.std.specs.BTreeMap.{is_at, insert_entry}
use Rattle.std.specs.Map.{lookup, set_value, remove_entry}
use Rattle.std.specs.Ordering.{nat_cmp}
use Rattle.p2p_base.specs.Queue.{Queue, empty_queue, enqueue_answer, enqueued, oldest, without_oldest, closed_queue}
use Rattle.p2p_base.specs.declared.policy.Keep.TheVariants.{Refuse}
use Rattle.p2p_base.specs.declared.outcome.Sent.{Sent}
use Rattle.p2p_base.specs.declared.outcome.Sent.TheVariants as sent

-- the mailbox of each channel, by the number of the channel, with the senders and their messages; and whether the node ended
pub record Arrived (P : Type 0) : Type 0 where
  pub mailboxes : List (ℕ × Queue (P × List ℕ))
  pub ended : Bool

module _ {P : Type 0} where
  abbrev pub nothing_arrived : Arrived P
  nothing_arrived = record { mailboxes = []; ended = false }

  -- the mailbox of a channel, if it is registered
  abbrev pub mailbox_in : List (ℕ × Queue (P × List ℕ)) → ℕ → Option (Queue (P × List ℕ))
  mailbox_in mailboxes channel = lookup (is_at (nat_cmp channel)) mailboxes

  abbrev pub mailbox_of : Arrived P → ℕ → Option (Queue (P × List ℕ))
  mailbox_of a channel = mailbox_in a.mailboxes channel

  -- there is a mailbox, and it wasn't closed
  abbrev pub is_open_in : Option (Queue (P × List ℕ)) → Bool
  is_open_in None = false
  is_open_in (Some q) = not q.closed

  -- a channel takes messages: it is registered, and its mailbox wasn't closed
  abbrev pub is_open : Arrived P → ℕ → Bool
  is_open a channel = is_open_in (mailbox_of a channel)

  -- after the registration of a channel with so many places
  abbrev pub with_channel : Arrived P → ℕ → ℕ → Arrived P
  with_channel a channel places = record { mailboxes = insert_entry nat_cmp a.mailboxes channel (empty_queue places); ended = a.ended }

  -- after that was taken back
  abbrev pub without_channel : Arrived P → ℕ → Arrived P
  without_channel a channel = record { mailboxes = remove_entry (is_at (nat_cmp channel)) a.mailboxes; ended = a.ended }

  -- after its mailbox, if there is one, was changed
  abbrev pub changed : (Queue (P × List ℕ) → Queue (P × List ℕ)) → Option (Queue (P × List ℕ)) → List (ℕ × Queue (P × List ℕ)) → ℕ → List (ℕ × Queue (P × List ℕ))
  changed f None mailboxes channel = mailboxes
  changed f (Some q) mailboxes channel = set_value (is_at (nat_cmp channel)) mailboxes (f q)

  abbrev pub changed_at : (Queue (P × List ℕ) → Queue (P × List ℕ)) → List (ℕ × Queue (P × List ℕ)) → ℕ → List (ℕ × Queue (P × List ℕ))
  changed_at f mailboxes channel = changed f (mailbox_in mailboxes channel) mailboxes channel

  abbrev pub with_changed : (Queue (P × List ℕ) → Queue (P × List ℕ)) → Arrived P → ℕ → Arrived P
  with_changed f a channel = record { mailboxes = changed_at f a.mailboxes channel; ended = a.ended }

  -- what a mailbox answers to a message; where there is none, as a closed one
  abbrev pub answered_by : Option (Queue (P × List ℕ)) → P × List ℕ → Sent (P × List ℕ)
  answered_by None message = sent.Closed message
  answered_by (Some q) message = enqueue_answer Refuse q message

  -- what a channel answers to a message: a full mailbox refuses it
  abbrev pub arrival_answer : Arrived P → ℕ → P × List ℕ → Sent (P × List ℕ)
  arrival_answer a channel message = answered_by (mailbox_of a channel) message

  -- after a message arrived
  abbrev pub with_arrival : Arrived P → ℕ → P × List ℕ → Arrived P
  with_arrival a channel message = with_changed (λ q. enqueued Refuse q message) a channel

  abbrev pub oldest_of : Option (Queue (P × List ℕ)) → Option (P × List ℕ)
  oldest_of None = None
  oldest_of (Some q) = oldest q

  -- the oldest message of a channel, if one waits
  abbrev pub arrival_waiting : Arrived P → ℕ → Option (P × List ℕ)
  arrival_waiting a channel = oldest_of (mailbox_of a channel)

  -- after it was taken
  abbrev pub without_arrival : Arrived P → ℕ → Arrived P
  without_arrival a channel = with_changed without_oldest a channel

  -- after the mailbox of a channel was closed
  abbrev pub without_receiver : Arrived P → ℕ → Arrived P
  without_receiver a channel = with_changed closed_queue a channel

-- The channels of a node as values: what each call makes of them.
use Rattle.std.specs.Prelude.{ℕ, ◌+◌, Bool, true, false, cond, not, List, [], ◌∷◌, Option, Some, None}
use Rattle.std.specs.BTreeMap.{insert_entry}
use Rattle.std.specs.Ordering.{nat_cmp}
use Rattle.p2p_base.specs.Queue.{Queue, has_room}
use Rattle.p2p_base.specs.declared.key.Key.{Key}
use Rattle.p2p_base.specs.declared.outcome.Sent.{Sent}
use Rattle.p2p_base.specs.declared.outcome.Sent.TheVariants as sent
use Rattle.p2p_flow_connection.specs.Arriving.{Arrived as Mailboxes, nothing_arrived, mailbox_of, is_open, with_channel, with_arrival, arrival_waiting, without_arrival, without_receiver}
use Rattle.p2p_log.specs.declared.queue.Queue.TheVariants as queue
use Rattle.p2p_log.specs.declared.end.End.TheVariants as end
use Rattle.p2p_log.specs.declared.end.Outcome.TheVariants as outcome
use Rattle.p2p_log.specs.declared.end.Cause.{Cause}
use Rattle.p2p_log.specs.declared.end.Cause.TheVariants as cause
use Rattle.p2p_log.specs.declared.entry.Reply.{Reply}
use Rattle.p2p_log.specs.declared.entry.Reply.TheVariants as reply
use Rattle.p2p_log.specs.Drained.{all_end}
use Rattle.p2p_log.specs.Lines.{name_of}
use Rattle.p2p_log.specs.declared.item.Item.{Item}
use Rattle.p2p_log.specs.declared.item.Item.TheVariants as item
use Rattle.p2p_log.specs.declared.item.Envelope.{Envelope}
use Rattle.p2p_log_rules.specs.declared.row.Row.{Row}
use Rattle.p2p_log_rules.specs.Closing.{refused_by}
use Rattle.p2p_log_rules.specs.Effect.{only}
use Rattle.p2p_runtime.specs.QuotaLaw.{Rate as Quota}
use Rattle.p2p_net_queues.specs.Meters.{fresh, passes_at, checked_at}
use Rattle.p2p_net_queues.specs.Tables.{pushed_at, popped_at, cleared_at}
use Rattle.p2p_net_channels.specs.declared.arrival.Arrived.{Arrived}
use Rattle.p2p_net_channels.specs.declared.channels.Channels.{Channels}

abbrev pub no_channels : Channels
no_channels = record { inbounds = nothing_arrived; total = 0; waiting = []; quotas = []; senders = []; checks = [] }

abbrev pub places_in : Option (Queue (Key × List ℕ)) → Option ℕ
places_in None = None
places_in (Some q) = Some q.capacity

-- how many messages a mailbox holds at most, where the channel is registered
abbrev pub places_of : Mailboxes Key → ℕ → Option ℕ
places_of a c = places_in (mailbox_of a c)

-- the capacity of a channel, where it is registered
abbrev pub capacity_at : Channels → ℕ → Option ℕ
capacity_at ch c = places_of ch.inbounds c

abbrev pub registered_with : Channels → ℕ → ℕ → Quota → Channels
registered_with ch c k quota = record {
  inbounds = with_channel ch.inbounds c k;
  total = ch.total + k;
  waiting = ch.waiting;
  quotas = insert_entry nat_cmp ch.quotas c (fresh quota);
  senders = insert_entry nat_cmp ch.senders c (fresh quota);
  checks = ch.checks;
}

-- whether the quota of a channel admits one more of a connection at a moment
abbrev pub may_admit : Channels → ℕ → ℕ → ℕ → Bool
may_admit ch c conn now = passes_at nat_cmp ch.quotas c conn now

-- the channels once that was asked
abbrev pub metered : ℕ → ℕ → ℕ → Channels → Channels
metered c conn now ch = record ch { quotas = checked_at nat_cmp ch.quotas c conn now }

-- ---- readers

abbrev pub is_closed_in : Option (Queue (Key × List ℕ)) → Bool
is_closed_in None = false
is_closed_in (Some q) = q.closed

-- whether the reader of a channel was dropped
abbrev pub is_closed : Channels → ℕ → Bool
is_closed ch c = is_closed_in (mailbox_of ch.inbounds c)

-- whether a channel has a reader
abbrev pub has_reader : Channels → ℕ → Bool
has_reader ch c = is_open ch.inbounds c

-- ---- messages that come

-- why a mailbox did not take a message, by its answer
abbrev pub refusal_told : Sent (Key × List ℕ) → Option Cause
refusal_told sent.Ok = None
refusal_told sent.Backoff = None
refusal_told (sent.Rejected message) = Some cause.MailboxFull
refusal_told (sent.Closed message) = Some cause.ReceiverClosed

-- why it will not take one: there is none, or it is closed, or it is full
abbrev pub refusal_in : Option (Queue (Key × List ℕ)) → Option Cause
refusal_in None = Some cause.ReceiverClosed
refusal_in (Some q) = refused_by q.closed (not (has_room q))

-- why a message does not enter its channel
abbrev pub refusal : Channels → ℕ → Option Cause
refusal ch c = refusal_in (mailbox_of ch.inbounds c)

-- the channels once a mailbox was given a message
abbrev pub enqueued_in : ℕ → Key → List ℕ → Channels → Channels
enqueued_in c from bytes ch = record ch { inbounds = with_arrival ch.inbounds c (from, bytes) }

-- the message as the put of this entry at this place
abbrev pub message_put : ℕ → ℕ → ℕ → Key → Arrived → Envelope
message_put entry place n from m = record { entry = entry; place = place; queue = queue.Channel n m.channel; item = item.Message m.bytes m.copy from }

-- the items of the mailboxes once a message came, by what keeps it out of its own
abbrev pub named_with : Option Cause → ℕ → Envelope → List (ℕ × List Envelope) → List (ℕ × List Envelope)
named_with (Some why) c x w = w
named_with None c x w = pushed_at w c x

-- the channels once a message came
abbrev pub delivered_to : ℕ → ℕ → ℕ → Key → Arrived → Channels → Channels
delivered_to entry place n from m ch = record ch {
  inbounds = with_arrival ch.inbounds m.channel (from, m.bytes);
  waiting = named_with (refusal ch m.channel) m.channel (message_put entry place n from m) ch.waiting;
}

-- ---- messages that are read

-- the row of a reader that took a message, which stood in its mailbox as this item
abbrev pub told_as : Key × List ℕ → ℕ × ℕ → Item → Row
told_as message name (item.Message bytes copy from) = record { reply = reply.Message message.1 message.0; takes = name ∷ []; puts = []; ends = end.Copy copy.0 copy.1 outcome.Delivered ∷ [] }
told_as message name _ = only reply.Pending

abbrev pub told_row : Key × List ℕ → Envelope → Row
told_row message x = told_as message (name_of x) x.item

-- what a reader is told where no message waits, by whether the node has stopped
abbrev pub none_told : Bool → Reply
none_told stopped = cond stopped reply.NetworkClosed reply.Pending

-- the row of a reader, by the oldest message of its mailbox and the item as which that stands there
abbrev pub read_told : Reply → Option (Key × List ℕ) → Option Envelope → Row
read_told empty (Some message) (Some x) = told_row message x
read_told empty _ _ = only empty

-- the items of the mailboxes once this message of one was taken
abbrev pub named_after : Option (Key × List ℕ) → ℕ → List (ℕ × List Envelope) → List (ℕ × List Envelope)
named_after None c w = w
named_after (Some message) c w = popped_at w c

-- the channels once the oldest message of one was taken, where there is one
abbrev pub read_from : ℕ → Channels → Channels
read_from c ch = record ch { inbounds = without_arrival ch.inbounds c; waiting = named_after (arrival_waiting ch.inbounds c) c ch.waiting }

-- the channels once their node has stopped
abbrev pub with_end : Channels → Channels
with_end ch = record ch { inbounds = record ch.inbounds { ended = true } }

-- ---- readers that are dropped

-- the row once the reader of a channel in which these wait is dropped
abbrev pub closed_row : List Envelope → Row
closed_row xs = record { reply = reply.Ok; takes = []; puts = []; ends = all_end cause.ReceiverClosed xs }

-- the channels then
abbrev pub closed_with : ℕ → Channels → Channels
closed_with c ch = record ch { inbounds = without_receiver ch.inbounds c; waiting = cleared_at ch.waiting c }

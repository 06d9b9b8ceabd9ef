-- When the channels of a node stand for a log.
use Rattle.std.specs.Prelude.{◌≡◌, ℕ, ◌+◌, ◌^◌, ◌<◌, List, [], ◌∷◌, ◌++◌, map, Option, Some, None}
use Rattle.std.specs.Ordering.{nat_cmp}
use Rattle.p2p_base.specs.Queue.{Queue}
use Rattle.p2p_base.specs.declared.key.Key.{Key}
use Rattle.p2p_flow_connection.specs.Arriving.{Arrived as Mailboxes, mailbox_of}
use Rattle.p2p_log.specs.declared.config.Config.{Config}
use Rattle.p2p_log.specs.declared.queue.Queue.TheVariants as queue
use Rattle.p2p_log.specs.declared.item.Envelope.{Envelope}
use Rattle.p2p_log.specs.declared.item.Item.{Item}
use Rattle.p2p_log.specs.declared.item.Item.TheVariants as item
use Rattle.p2p_log.specs.declared.entry.Entry.{Entry}
use Rattle.p2p_log.specs.Lines.{line}
use Rattle.p2p_log.specs.declared.event.Rate.{Rate}
use Rattle.p2p_log_rules.specs.Admitting.{rate_at, sent_moments}
use Rattle.p2p_log_rules.specs.Checking.{checked_at}
use Rattle.p2p_log_rules.specs.Closing as closing
use Rattle.p2p_log_rules.specs.Tracking.{key_cmp}
use Rattle.p2p_log_rules.specs.Facts.{is_stopped, channels, registers_at, capacity_in, rates, rate_in, sum_capacities}
use Rattle.p2p_log_rules.specs.Listening.{quota_of}
use Rattle.p2p_log_rules.specs.Metering.{messages, limit_at, admitted_by, admitted}
use Rattle.p2p_log_rules.specs.Effect.{mailbox_size_at}
use Rattle.p2p_runtime.specs.QuotaKeys.{KeptByKey}
use Rattle.p2p_net_queues.specs.Lines.{HoldsLines}
use Rattle.p2p_net_queues.specs.Meters.{Meters}
use Rattle.p2p_net_queues.specs.Tables.{at, waiting}
use Rattle.p2p_net_channels.specs.Channels.{capacity_at, is_closed}
use Rattle.p2p_net_channels.specs.declared.channels.Channels.{Channels}

-- what is kept for a channel of this rate, on each connection: nothing where it is not registered, and nothing was admitted there
abbrev pub QuotaStands : List Config → List Entry → ℕ → ℕ → Option Rate → Option (KeptByKey ℕ) → Type 0
QuotaStands configs log n c None None = (conn : ℕ) → admitted configs log n conn (messages c) ≡ []
QuotaStands configs log n c (Some rate) (Some kept) = Meters nat_cmp log (quota_of rate) (λ conn. admitted configs log n conn (messages c)) kept
QuotaStands configs log n c _ _ = ⊥

-- what is kept for a channel of this rate, on each key that the node sends to: nothing where it is not registered, and nothing was admitted there
abbrev pub SenderStands : List Entry → ℕ → ℕ → Option Rate → Option (KeptByKey Key) → Type 0
SenderStands log n c None None = (k : Key) → sent_moments log n c k ≡ []
SenderStands log n c (Some rate) (Some kept) = Meters key_cmp log (quota_of rate) (sent_moments log n c) kept
SenderStands log n c _ _ = ⊥

-- the message of an item that stands for one
abbrev pub received : Item → Option (Key × List ℕ)
received (item.Message bytes copy from) = Some (from, bytes)
received _ = None

-- these items are the messages of a mailbox, in order; where there is none, there are no items
abbrev pub AreNamed : Option (Queue (Key × List ℕ)) → List Envelope → Type 0
AreNamed None items = items ≡ []
AreNamed (Some q) items = map Some q.items ≡ map (λ x. received x.item) items

-- what waits in the mailboxes of channels has these items
abbrev pub NameMailboxes : Mailboxes Key → List (ℕ × List Envelope) → Type 0
NameMailboxes a w = (c : ℕ) → AreNamed (mailbox_of a c) (waiting w c)

pub record ChannelsStand (configs : List Config) (log : List Entry) (n : ℕ) (ch : Channels) : Type 0 where
  pub capacities : (c : ℕ) → capacity_at ch c ≡ capacity_in (channels configs log n) c
  pub total : ch.total ≡ sum_capacities (channels configs log n)
  -- the router's mailbox can be counted
  pub room : mailbox_size_at configs n + ch.total < 2 ^ 64
  pub waits : HoldsLines (queue.Channel n) log ch.waiting
  pub named : NameMailboxes ch.inbounds ch.waiting
  -- each channel's quota counts what each connection admitted there
  pub quotas : (c : ℕ) → QuotaStands configs log n c (rate_in (rates log n) c) (at ch.quotas c)
  -- and what the node sent there to each key
  pub senders : (c : ℕ) → SenderStands log n c (rate_at log n c) (at ch.senders c)
  -- what the node's checks admitted that waits for a message
  pub checks : (name : ℕ) → at ch.checks name ≡ checked_at log n name
  -- whose readers were dropped
  pub closed : (c : ℕ) → is_closed ch c ≡ closing.is_closed log n c
  -- no more comes once the node has stopped
  pub ended : ch.inbounds.ended ≡ is_stopped log n

-- an entry in which no connection admits a message
abbrev pub AdmitsNone : List Config → List Entry → Entry → ℕ → Type 0
AdmitsNone configs log e n = (conn c : ℕ) → admitted_by (limit_at configs n) n conn (messages c) log e ≡ []

-- an entry in which the quota of no channel admits what the node sends, and that leaves alone what its checks admitted
pub record SendsNone (log : List Entry) (e : Entry) (n : ℕ) : Type 0 where
  pub moments : (c : ℕ) (k : Key) → sent_moments (log ++ e ∷ []) n c k ≡ sent_moments log n c k
  pub checks : (name : ℕ) → checked_at (log ++ e ∷ []) n name ≡ checked_at log n name

-- an entry that drops no reader of the node, and does not stop it
pub record ClosesNone (log : List Entry) (e : Entry) (n : ℕ) : Type 0 where
  pub readers : (c : ℕ) → closing.is_closed (log ++ e ∷ []) n c ≡ closing.is_closed log n c
  pub goes_on : is_stopped (log ++ e ∷ []) n ≡ is_stopped log n

-- an entry that leaves them alone
pub record LeavesChannels (configs : List Config) (log : List Entry) (e : Entry) (n : ℕ) : Type 0 where
  pub registers : registers_at configs n e.event.act ≡ []
  pub lines : (c : ℕ) → line (log ++ e ∷ []) (queue.Channel n c) ≡ line log (queue.Channel n c)
  pub admits : AdmitsNone configs log e n
  pub sends : SendsNone log e n
  pub closes : ClosesNone log e n

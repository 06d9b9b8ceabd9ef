-- Whose copy a message is that a reader takes.
use Rattle.std.specs.Prelude.{◌≡◌, ℕ, Bool, true, List, [], ◌∷◌, take, Some, slice_get}
use Rattle.p2p_base.specs.declared.key.Key.{Key}
use Rattle.p2p_log.specs.declared.config.Config.{Config}
use Rattle.p2p_log.specs.declared.queue.Queue.{Queue}
use Rattle.p2p_log.specs.declared.queue.Queue.TheVariants as queue
use Rattle.p2p_log.specs.declared.item.Envelope.{Envelope}
use Rattle.p2p_log.specs.declared.end.End.{End}
use Rattle.p2p_log.specs.declared.end.End.TheVariants as end
use Rattle.p2p_log.specs.declared.end.Outcome.TheVariants as outcome
use Rattle.p2p_log.specs.declared.entry.Entry.{Entry}
use Rattle.p2p_log.specs.declared.entry.Reply.TheVariants as reply
use Rattle.p2p_log_rules.specs.declared.row.Half.{Half}
use Rattle.p2p_log.specs.QueueCode.{owner_of}
use Rattle.p2p_log.specs.Lines.{name_of, line}
use Rattle.p2p_log.specs.Copies.{copies_of}
use Rattle.p2p_log_rules.specs.Connections.{half_at}
use Rattle.p2p_log_rules.specs.Facts.{key_at}
use Rattle.p2p_log_rules.specs.Reading.{reading_of, given, told_of_reading, is_read}
use Rattle.p2p_log.specs.Sending.{Sender, sending_at}
use Rattle.p2p_log.specs.Sending.Sender.{Node, Raw}

-- the copy is of an accepted send: of these bytes, on this channel, by this sender, and for this key
pub record IsCopyOf (log : List Entry) (copy : ℕ × ℕ) (sender : Sender) (channel : ℕ) (bytes : List ℕ) (key : Key) : Type 0 where
  pub priority : Bool
  pub keys : List Key
  pub sends : sending_at log copy.0 ≡ Some (record { by = sender; channel = channel; priority = priority; bytes = bytes; keys = keys })
  pub for_key : slice_get keys copy.1 ≡ Some key

-- the key is the node's, or that of the peer of a half over the link
abbrev pub HasKey : List Config → List Entry → Sender → Key → Type 0
HasKey configs log (Node n) key = key ≡ key_at configs n
HasKey configs log (Raw link) key =
    (n : ℕ) × (conn : ℕ) × (half : Half) × (half_at log n conn ≡ Some half) × (half.link ≡ link) × (half.peer ≡ key)

-- the queue is of messages on this channel; no other is read
abbrev pub IsOn : Queue → ℕ → Type 0
IsOn (queue.Channel n c) channel = channel ≡ c
IsOn _ channel = ⊥

-- of all copies one ends, as delivered: one that the sender of the key `from` sent to the node that has this queue, on its
-- channel, with bytes of which these are given to its reader
pub record IsDelivery (configs : List Config) (log : List Entry) (ends : List End) (q : Queue) (bytes : List ℕ) (from : Key) : Type 0 where
  pub copy : ℕ × ℕ
  pub ended : ends ≡ end.Copy copy.0 copy.1 outcome.Delivered ∷ []
  pub sender : Sender
  pub key : HasKey configs log sender from
  pub channel : ℕ
  pub on : IsOn q channel
  pub whole : List ℕ
  pub gives : bytes ≡ given q whole
  pub sent : IsCopyOf log copy sender channel whole (key_at configs (owner_of q))

-- each message that a reader takes is a copy of an accepted send, for the reader, from the one who sent it
abbrev pub EachIsDelivery : List Config → List Entry → Type 0
EachIsDelivery configs log =
    (n : ℕ) (e : Entry) (q : Queue) (bytes : List ℕ) (from : Key)
    → slice_get log n ≡ Some e → reading_of configs (take n log) e.event.act ≡ Some q → e.reply ≡ reply.Message bytes from
    → IsDelivery configs log e.ends q bytes from

-- the entry is of an act that reads this queue; it takes the oldest item there, which carries this copy alone, replies what a
-- reader is told of it, and ends nothing else
pub record IsRead (configs : List Config) (before : List Entry) (e : Entry) (copy : ℕ × ℕ) : Type 0 where
  pub queue : Queue
  pub reads : reading_of configs before e.event.act ≡ Some queue
  pub oldest : Envelope
  pub later : List Envelope
  pub stood : line before queue ≡ oldest ∷ later
  pub takes : e.takes ≡ name_of oldest ∷ []
  pub carried : copies_of oldest.item ≡ copy ∷ []
  pub tells : e.reply ≡ told_of_reading queue oldest.item
  pub says : is_read e.reply ≡ true
  pub ended : e.ends ≡ end.Copy copy.0 copy.1 outcome.Delivered ∷ []

-- each entry that ends a copy as delivered reads it
abbrev pub EachDeliveredIsRead : List Config → List Entry → Type 0
EachDeliveredIsRead configs log =
    (n : ℕ) (e : Entry) (i : ℕ) (copy : ℕ × ℕ)
    → slice_get log n ≡ Some e → slice_get e.ends i ≡ Some (end.Copy copy.0 copy.1 outcome.Delivered)
    → IsRead configs (take n log) e copy

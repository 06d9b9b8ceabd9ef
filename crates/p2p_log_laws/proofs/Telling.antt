-- What the items in queues tell of sends and connections is true.
use Rattle.p2p_log.proofs.Sending.{get_longer, sending_at-longer}
use Rattle.p2p_log.specs.Sending.{Sender, sending_at}
use Rattle.p2p_log.specs.Sending.Sender.{Node, Raw}
use Rattle.p2p_log.specs.declared.queue.Side.{Side}
use Rattle.p2p_log_rules.specs.Effect.{other_side}
use Rattle.p2p_log.specs.QueueCode.{owner_of}
use Rattle.p2p_log_laws.proofs.Fitting.{fits, is_idle}
use Rattle.std.specs.Prelude.{true}
use Rattle.std.proofs.Common.{◌≡◌, ℕ, Bool, true, false, List, ◌++◌, Some, ◌⊎◌, inl, inr, refl}
use Rattle.std.specs.Prelude.{slice_get}
use Rattle.p2p_base.specs.declared.key.Key.{Key}
use Rattle.p2p_log.specs.declared.config.Config.{Config}
use Rattle.p2p_log.specs.declared.queue.Queue.{Queue}
use Rattle.p2p_log.specs.declared.queue.Queue.TheVariants as queue
use Rattle.p2p_log.specs.declared.item.Item.{Item}
use Rattle.p2p_log.specs.declared.item.Item.TheVariants as item
use Rattle.p2p_log.specs.declared.item.Envelope.{Envelope}
use Rattle.p2p_log.specs.declared.entry.Entry.{Entry}
use Rattle.p2p_log_rules.specs.declared.row.Half.{Half}
use Rattle.p2p_log_rules.specs.Connections.{half_at}
use Rattle.p2p_log_rules.specs.Facts.{key_at}
use Rattle.p2p_log_rules.specs.Frames.{frame_of}
use Rattle.p2p_log_rules.proofs.Connections.{half_at-longer}
use Rattle.p2p_log_laws.specs.Delivered.{IsCopyOf, HasKey, IsOn}
use Rattle.p2p_log_laws.specs.Order.{WentOver, Writes, ComesTo}

-- ---- a longer log

pub IsCopyOf-longer : (log more : List Entry) (copy : ℕ × ℕ) (sender : Sender) (channel : ℕ) (bytes : List ℕ) (key : Key)
    → IsCopyOf log copy sender channel bytes key → IsCopyOf (log ++ more) copy sender channel bytes key
IsCopyOf-longer log more copy sender channel bytes key h =
    record { priority = h.priority; keys = h.keys; sends = sending_at-longer log more copy.0 _ h.sends; for_key = h.for_key }

-- ---- what an item tells

-- the entry sends this, at this node, for these keys
pub record IsSend (log : List Entry) (send node channel : ℕ) (bytes : List ℕ) (keys : List Key) : Type 0 where
  pub priority : Bool
  pub sends : sending_at log send ≡ Some (record { by = Node node; channel = channel; priority = priority; bytes = bytes; keys = keys })

pub IsSend-longer : (log more : List Entry) (send node channel : ℕ) (bytes : List ℕ) (keys : List Key)
    → IsSend log send node channel bytes keys → IsSend (log ++ more) send node channel bytes keys
IsSend-longer log more send node channel bytes keys h = record { priority = h.priority; sends = sending_at-longer log more send _ h.sends }

pub copy_of_send : (log : List Entry) (send node channel : ℕ) (bytes : List ℕ) (keys : List Key) (p : ℕ) (key : Key)
    → IsSend log send node channel bytes keys → slice_get keys p ≡ Some key → IsCopyOf log (send, p) (Node node) channel bytes key
copy_of_send log send node channel bytes keys p key h at = record { priority = h.priority; keys = keys; sends = h.sends; for_key = at }

-- the frame is of a copy that this node sent to the peer of its half
pub record IsAddressed (configs : List Config) (log : List Entry) (node conn : ℕ) (half : Half) (copy : ℕ × ℕ) (frame : List ℕ) : Type 0 where
  pub at : half_at log node conn ≡ Some half
  pub channel : ℕ
  pub bytes : List ℕ
  pub is : frame ≡ frame_of channel bytes
  pub sent : IsCopyOf log copy (Node node) channel bytes half.peer

pub IsAddressed-longer : (configs : List Config) (log more : List Entry) (node conn : ℕ) (half : Half) (copy : ℕ × ℕ) (frame : List ℕ)
    → IsAddressed configs log node conn half copy frame → IsAddressed configs (log ++ more) node conn half copy frame
IsAddressed-longer configs log more node conn half copy frame h = record {
  at = half_at-longer log more node conn half h.at;
  channel = h.channel;
  bytes = h.bytes;
  is = h.is;
  sent = IsCopyOf-longer log more copy (Node node) h.channel h.bytes half.peer h.sent;
}

-- the frame is of what the raw peer of this link sent, for the node at the other end
pub record IsRawFrame (configs : List Config) (log : List Entry) (link : ℕ) (side : Side) (copy : ℕ × ℕ) (frame : List ℕ) : Type 0 where
  pub node : ℕ
  pub conn : ℕ
  pub far : Half
  pub at : half_at log node conn ≡ Some far
  pub over : far.link ≡ link
  pub ends : side ≡ other_side far.writes
  pub channel : ℕ
  pub bytes : List ℕ
  pub is : frame ≡ frame_of channel bytes
  pub sent : IsCopyOf log copy (Raw link) channel bytes (key_at configs node)

pub IsRawFrame-longer : (configs : List Config) (log more : List Entry) (link : ℕ) (side : Side) (copy : ℕ × ℕ) (frame : List ℕ)
    → IsRawFrame configs log link side copy frame → IsRawFrame configs (log ++ more) link side copy frame
IsRawFrame-longer configs log more link side copy frame h = record {
  node = h.node;
  conn = h.conn;
  far = h.far;
  at = half_at-longer log more h.node h.conn h.far h.at;
  over = h.over;
  ends = h.ends;
  channel = h.channel;
  bytes = h.bytes;
  is = h.is;
  sent = IsCopyOf-longer log more copy (Raw link) h.channel h.bytes (key_at configs h.node) h.sent;
}

pub WentOver-longer : (log more : List Entry) (copy : ℕ × ℕ) (link : ℕ) (side : Side) → WentOver log copy link side → WentOver (log ++ more) copy link side
WentOver-longer log more copy link side h =
    record { n = h.n; entry = h.entry; at = get_longer log more h.n h.entry h.at; place = h.place; frame = h.frame; put = h.put }

pub HasKey-longer : (configs : List Config) (log more : List Entry) (sender : Sender) (key : Key) → HasKey configs log sender key → HasKey configs (log ++ more) sender key
HasKey-longer configs log more (Node n) key h = h
HasKey-longer configs log more (Raw link) key h = (h.0, h.1, h.2, half_at-longer log more h.0 h.1 h.2 h.3, h.4, h.5)

pub Writes-longer : (configs : List Config) (log more : List Entry) (sender : Sender) (link : ℕ) (side : Side) → Writes configs log sender link side → Writes configs (log ++ more) sender link side
Writes-longer configs log more (Node n) link side h = (h.0, h.1, half_at-longer log more n h.0 h.1 h.2, h.3, h.4)
Writes-longer configs log more (Raw e) link side h = h

pub ComesTo-longer : (configs : List Config) (log more : List Entry) (q : Queue) (link : ℕ) (side : Side) → ComesTo configs log q link side → ComesTo configs (log ++ more) q link side
ComesTo-longer configs log more (queue.Link e s) link side h = h
ComesTo-longer configs log more q link side h = (h.0, h.1, half_at-longer log more (owner_of q) h.0 h.1 h.2, h.3, h.4)

-- the message is of a copy for this node, and came over a link from the one of this key, who sent it
pub record IsArrived (configs : List Config) (log : List Entry) (bytes : List ℕ) (copy : ℕ × ℕ) (from : Key) (node channel : ℕ) : Type 0 where
  pub sender : Sender
  pub key : HasKey configs log sender from
  pub sent : IsCopyOf log copy sender channel bytes (key_at configs node)
  pub link : ℕ
  pub side : Side
  pub over : WentOver log copy link side
  pub begins : Writes configs log sender link side
  pub conn : ℕ
  pub far : Half
  pub far_at : half_at log node conn ≡ Some far
  pub far_over : far.link ≡ link
  pub ends : side ≡ other_side far.writes

pub IsArrived-longer : (configs : List Config) (log more : List Entry) (bytes : List ℕ) (copy : ℕ × ℕ) (from : Key) (node channel : ℕ)
    → IsArrived configs log bytes copy from node channel → IsArrived configs (log ++ more) bytes copy from node channel
IsArrived-longer configs log more bytes copy from node channel h = record {
  sender = h.sender;
  key = HasKey-longer configs log more h.sender from h.key;
  sent = IsCopyOf-longer log more copy h.sender channel bytes (key_at configs node) h.sent;
  link = h.link;
  side = h.side;
  over = WentOver-longer log more copy h.link h.side h.over;
  begins = Writes-longer configs log more h.sender h.link h.side h.begins;
  conn = h.conn;
  far = h.far;
  far_at = half_at-longer log more node h.conn h.far h.far_at;
  far_over = h.far_over;
  ends = h.ends;
}

-- the message is of what the one at the other end of the half's link sent to this node
pub record Arrives (configs : List Config) (log : List Entry) (n : ℕ) (half : Half) (copy : ℕ × ℕ) (message : ℕ × List ℕ) : Type 0 where
  pub sender : Sender
  pub begins : Writes configs log sender half.link (other_side half.writes)
  pub key : HasKey configs log sender half.peer
  pub sent : IsCopyOf log copy sender message.0 message.1 (key_at configs n)

pub Arrives-longer : (configs : List Config) (log more : List Entry) (n : ℕ) (half : Half) (copy : ℕ × ℕ) (message : ℕ × List ℕ)
    → Arrives configs log n half copy message → Arrives configs (log ++ more) n half copy message
Arrives-longer configs log more n half copy message h = record {
  sender = h.sender;
  begins = Writes-longer configs log more h.sender half.link (other_side half.writes) h.begins;
  key = HasKey-longer configs log more h.sender half.peer h.key;
  sent = IsCopyOf-longer log more copy h.sender message.0 message.1 (key_at configs n) h.sent;
}

-- the message is of a copy for this node, and came over the link of this connection, from its peer
pub record IsHeld (configs : List Config) (log : List Entry) (node conn channel : ℕ) (bytes : List ℕ) (copy : ℕ × ℕ) : Type 0 where
  pub half : Half
  pub at : half_at log node conn ≡ Some half
  pub over : WentOver log copy half.link (other_side half.writes)
  pub arrives : Arrives configs log node half copy (channel, bytes)

pub IsHeld-longer : (configs : List Config) (log more : List Entry) (node conn channel : ℕ) (bytes : List ℕ) (copy : ℕ × ℕ)
    → IsHeld configs log node conn channel bytes copy → IsHeld configs (log ++ more) node conn channel bytes copy
IsHeld-longer configs log more node conn channel bytes copy h = record {
  half = h.half;
  at = half_at-longer log more node conn h.half h.at;
  over = WentOver-longer log more copy h.half.link (other_side h.half.writes) h.over;
  arrives = Arrives-longer configs log more node h.half copy (channel, bytes) h.arrives;
}

-- the copy is for the peer of a half that writes here, or a raw peer's
abbrev pub IsOnLink : List Config → List Entry → ℕ → Side → ℕ × ℕ → List ℕ → Type 0
IsOnLink configs log link side copy frame =
    ((n : ℕ) × (conn : ℕ) × (half : Half) × (half.link ≡ link) × (half.writes ≡ side) × IsAddressed configs log n conn half copy frame) ⊎ IsRawFrame configs log link side copy frame

pub IsOnLink-longer : (configs : List Config) (log more : List Entry) (link : ℕ) (side : Side) (copy : ℕ × ℕ) (frame : List ℕ)
    → IsOnLink configs log link side copy frame → IsOnLink configs (log ++ more) link side copy frame
IsOnLink-longer configs log more link side copy frame h = elim h [
  | inl of ↦ inl (of.0, of.1, of.2, of.3, of.4, IsAddressed-longer configs log more of.0 of.1 of.2 copy frame of.5)
  | inr raw ↦ inr (IsRawFrame-longer configs log more link side copy frame raw)
]

-- the connection is one of this node, with this peer
abbrev pub IsConnection : List Entry → ℕ → ℕ → Key → Type 0
IsConnection log n conn key = (half : Half) × (half_at log n conn ≡ Some half) × (half.peer ≡ key)

pub IsConnection-longer : (log more : List Entry) (n conn : ℕ) (key : Key) → IsConnection log n conn key → IsConnection (log ++ more) n conn key
IsConnection-longer log more n conn key h = (h.0, half_at-longer log more n conn h.0 h.1, h.2)

-- what is true of an item in its queue
abbrev pub Tells : List Config → List Entry → Item → Queue → Type 0
Tells configs log (item.Ready conn key) (queue.Router n) = IsConnection log n conn key
Tells configs log (item.Connect conn key) (queue.Tracker n) = IsConnection log n conn key
-- the frame is of what the node sent to these
Tells configs log (item.Content c frame priority send to) (queue.Router n) = (bytes : List ℕ) × (frame ≡ frame_of c bytes) × IsSend log send n c bytes to
-- the copy is for the peer of this half
Tells configs log (item.Frame (Some copy) frame) (queue.High n conn) = (half : Half) × IsAddressed configs log n conn half copy frame
Tells configs log (item.Frame (Some copy) frame) (queue.Low n conn) = (half : Half) × IsAddressed configs log n conn half copy frame
Tells configs log (item.Frame (Some copy) frame) (queue.Link link side) = IsOnLink configs log link side copy frame
-- the copy came over this connection
Tells configs log (item.Held c bytes copy) (queue.Held n conn) = IsHeld configs log n conn c bytes copy
-- the copy arrived here
Tells configs log (item.Message bytes copy from) (queue.Channel n c) = IsArrived configs log bytes copy from n c
-- what is idle tells nothing, and the others stand in no other queue
Tells configs log i q = elim (is_idle i) [ true ↦ Unit {0} | false ↦ ⊥ ]

-- what is true stays so
pub Tells-longer : (configs : List Config) (log more : List Entry) (i : Item) (q : Queue) → Tells configs log i q → Tells configs (log ++ more) i q
Tells-longer configs log more (item.Ready conn key) (queue.Router n) h = IsConnection-longer log more n conn key h
Tells-longer configs log more (item.Connect conn key) (queue.Tracker n) h = IsConnection-longer log more n conn key h
Tells-longer configs log more (item.Content c frame priority send to) (queue.Router n) h = (h.0, h.1, IsSend-longer log more send n c h.0 to h.2)
Tells-longer configs log more (item.Frame (Some copy) frame) (queue.High n conn) h = (h.0, IsAddressed-longer configs log more n conn h.0 copy frame h.1)
Tells-longer configs log more (item.Frame (Some copy) frame) (queue.Low n conn) h = (h.0, IsAddressed-longer configs log more n conn h.0 copy frame h.1)
Tells-longer configs log more (item.Frame (Some copy) frame) (queue.Link link side) h = IsOnLink-longer configs log more link side copy frame h
Tells-longer configs log more (item.Held c bytes copy) (queue.Held n conn) h = IsHeld-longer configs log more n conn c bytes copy h
Tells-longer configs log more (item.Message bytes copy from) (queue.Channel n c) h = IsArrived-longer configs log more bytes copy from n c h
Tells-longer configs log more _ _ h = h

abbrev pub PutTells : List Config → List Entry → Queue × Item → Type 0
PutTells configs log x = Tells configs log x.1 x.0

abbrev pub StandTells : List Config → List Entry → Envelope → Type 0
StandTells configs log x = Tells configs log x.item x.queue

-- what a message tells, whichever queue of messages it is in
pub message_told : (configs : List Config) (log : List Entry) (q : Queue) (bytes : List ℕ) (copy : ℕ × ℕ) (from : Key) → fits q (item.Message bytes copy from) ≡ true
    → Tells configs log (item.Message bytes copy from) q → (c : ℕ) × IsOn q c × IsArrived configs log bytes copy from (owner_of q) c
message_told configs log (queue.Channel n c) bytes copy from fit h = (c, refl, h)
message_told configs log _ bytes copy from fit h = absurd (cc)

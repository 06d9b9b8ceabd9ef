-- What the log shows of the cause for which a copy was dropped.
use Rattle.p2p_log.specs.Sending.{Sender, Sending, sending_of}
use Rattle.p2p_log.specs.Copies.{accepted, carries}
use Rattle.p2p_log.specs.Sending.Sender.{Node}
use Rattle.std.specs.Prelude.{◌≡◌, ◌⊎◌, ℕ, ◌+◌, ◌<◌, ◌≤◌, Bool, true, false, ◌==◌, ◌&&◌, nat_lt, List, [], ◌∷◌, length, take, count_by, Some, None, slice_get}
use Rattle.p2p_base.specs.declared.key.Key.{Key}
use Rattle.p2p_log.specs.declared.config.Config.{Config}
use Rattle.p2p_log.specs.declared.queue.Queue.{Queue}
use Rattle.p2p_log.specs.declared.queue.Queue.TheVariants as queue
use Rattle.p2p_log.specs.declared.item.Item.{Item}
use Rattle.p2p_log.specs.declared.item.Item.TheVariants as item
use Rattle.p2p_log.specs.declared.item.Envelope.{Envelope}
use Rattle.p2p_log.specs.declared.end.End.TheVariants as end
use Rattle.p2p_log.specs.declared.end.Outcome.TheVariants as outcome
use Rattle.p2p_log.specs.declared.end.Cause.{Cause}
use Rattle.p2p_log.specs.declared.end.Cause.TheVariants as cause
use Rattle.p2p_log.specs.declared.entry.Entry.{Entry}
use Rattle.p2p_log.specs.declared.entry.Reply.TheVariants as reply
use Rattle.p2p_log.specs.declared.event.Act.{Act}
use Rattle.p2p_log.specs.declared.event.Act.TheVariants as act
use Rattle.p2p_log_rules.specs.declared.row.Half.{Half}
use Rattle.p2p_log.specs.Lines.{name_of, line}
use Rattle.p2p_log_rules.specs.Closing.{is_closed}
use Rattle.p2p_log_rules.specs.Connections.{half_at, live_half, ends_connection, is_ended}
use Rattle.p2p_log_rules.specs.Cutting.{queues_over}
use Rattle.p2p_log_rules.specs.Stopping.{emptied_at}
use Rattle.p2p_log_rules.specs.Dropping.{LinkEnd, drops_of, frames_towards}
use Rattle.p2p_log_rules.specs.Ending.{queues_with}
use Rattle.p2p_log_rules.specs.Facts.{is_started, is_stopped, channels, capacity_in, key_at, taken, routes, route_to}
use Rattle.p2p_log_rules.specs.Frames.{message_in, is_ping_in}
use Rattle.p2p_log_rules.specs.Effect.{goes_to, relay_queue, mailbox_size_at, limit_at, other_side}
use Rattle.p2p_log_laws.specs.Delivered.{IsCopyOf}
use Rattle.p2p_log_laws.specs.Grants.{IsAmong}

-- ---- unbound

-- the entry is the copy's send, at a node that had neither started nor stopped
pub record IsUnbound (configs : List Config) (before : List Entry) (e : Entry) (copy : ℕ × ℕ) : Type 0 where
  pub sending : Sending
  pub sends : sending_of e.event.act e.reply ≡ Some sending
  pub here : copy.0 ≡ length before
  pub has_copy : copy.1 < length sending.keys
  pub node : ℕ
  pub by : sending.by ≡ Node node
  pub not_started : is_started before node ≡ false
  pub not_stopped : is_stopped before node ≡ false

-- ---- no connection

-- the entry is a step of the node's router, which takes the message of the copy's send, the oldest in its mailbox; the
-- copy is for this key
pub record IsRouted (configs : List Config) (before : List Entry) (e : Entry) (copy : ℕ × ℕ) (node : ℕ) (priority : Bool) (key : Key) : Type 0 where
  pub steps : e.event.act ≡ act.Router node
  pub oldest : Envelope
  pub later : List Envelope
  pub stood : line before (queue.Router node) ≡ oldest ∷ later
  pub takes : e.takes ≡ name_of oldest ∷ []
  pub channel : ℕ
  pub frame : List ℕ
  pub to : List Key
  pub is : oldest.item ≡ item.Content channel frame priority copy.0 to
  pub recipients : accepted before copy.0 ≡ to
  pub for_key : slice_get to copy.1 ≡ Some key

-- the router has no connection to the copy's key
pub record HasNoConnection (configs : List Config) (before : List Entry) (e : Entry) (copy : ℕ × ℕ) : Type 0 where
  pub node : ℕ
  pub priority : Bool
  pub key : Key
  pub routed : IsRouted configs before e copy node priority key
  pub not_connected : route_to (routes before node) key ≡ None

-- ---- connection ended

-- the entry ends the connection with which the copy stood: its item waited there, or was taken from there
pub record IsEndedWith (before : List Entry) (e : Entry) (copy : ℕ × ℕ) : Type 0 where
  pub node : ℕ
  pub conn : ℕ
  pub half : Half
  pub lived : live_half before node conn ≡ Some half
  pub ends : ends_connection node conn before e ≡ true
  pub from : Queue
  pub with : IsAmong (queues_with node conn half) from
  pub place : ℕ
  pub left : Envelope
  pub stood : slice_get (line before from) place ≡ Some left
  pub carried : carries copy left ≡ true

-- an act is a step of a gate: of a listener, of an attempt or of a handshake
abbrev pub StepsGate : Act → Type 0
StepsGate a = (node : ℕ) × ((a ≡ act.Listener node) ⊎ ((name : ℕ) × ((a ≡ act.Attempt name node) ⊎ (a ≡ act.Handshake name node))))

-- the entry is such a step, which drops an end of a link: the copy's frame was in flight towards it
pub record IsCutOff (configs : List Config) (before : List Entry) (e : Entry) (copy : ℕ × ℕ) : Type 0 where
  pub steps : StepsGate e.event.act
  pub cut : LinkEnd
  pub drops : IsAmong (drops_of before e) cut
  pub place : ℕ
  pub left : Envelope
  pub stood : slice_get (frames_towards before cut) place ≡ Some left
  pub carried : carries copy left ≡ true

-- the router's connection to the copy's key has ended
pub record HasEndedConnection (configs : List Config) (before : List Entry) (e : Entry) (copy : ℕ × ℕ) : Type 0 where
  pub node : ℕ
  pub priority : Bool
  pub key : Key
  pub routed : IsRouted configs before e copy node priority key
  pub conn : ℕ
  pub connected : route_to (routes before node) key ≡ Some conn
  pub ended : is_ended before node conn ≡ true

-- its connection ends here, or the end that it was to come to is dropped here, or its connection had ended
abbrev pub ConnectionIsEnded : List Config → List Entry → Entry → ℕ × ℕ → Type 0
ConnectionIsEnded configs before e copy = IsEndedWith before e copy ⊎ (IsCutOff configs before e copy ⊎ HasEndedConnection configs before e copy)

-- ---- frame refused, and channel unregistered

-- the entry is a step of a receiving half of this node, which takes this frame, the oldest in its link; it is the copy's
pub record TakesFrame (before : List Entry) (e : Entry) (copy : ℕ × ℕ) (node : ℕ) (frame : List ℕ) : Type 0 where
  pub conn : ℕ
  pub steps : e.event.act ≡ act.RecvStep conn node
  pub half : Half
  pub lived : live_half before node conn ≡ Some half
  pub oldest : Envelope
  pub later : List Envelope
  pub stood : line before (queue.Link half.link (other_side half.writes)) ≡ oldest ∷ later
  pub takes : e.takes ≡ name_of oldest ∷ []
  pub is : oldest.item ≡ item.Frame (Some copy) frame

-- it is neither a message nor a ping within the node's limit
pub record FrameIsRefused (configs : List Config) (before : List Entry) (e : Entry) (copy : ℕ × ℕ) : Type 0 where
  pub node : ℕ
  pub frame : List ℕ
  pub taken : TakesFrame before e copy node frame
  pub no_message : message_in frame (limit_at configs node) ≡ None
  pub no_ping : is_ping_in frame (limit_at configs node) ≡ false

-- the copy, sent on this channel, is for a node at which the channel is not registered
pub record ChannelIsUnregistered (configs : List Config) (before : List Entry) (e : Entry) (copy : ℕ × ℕ) : Type 0 where
  pub node : ℕ
  pub frame : List ℕ
  pub taken : TakesFrame before e copy node frame
  pub sender : Sender
  pub channel : ℕ
  pub bytes : List ℕ
  pub sent : IsCopyOf before copy sender channel bytes (key_at configs node)
  pub unregistered : capacity_in (channels configs before node) channel ≡ None

-- ---- relay full

-- whether an item is a frame of a copy of the same send, with a lower place
abbrev pub is_lower : ℕ × ℕ → Item → Bool
is_lower copy (item.Frame (Some other) frame) = (other.0 == copy.0) && nat_lt other.1 copy.1
is_lower copy _ = false

abbrev pub enters_before : Queue → ℕ × ℕ → Queue × Item → Bool
enters_before q copy x = goes_to q x && is_lower copy x.1

-- how many frames the queue holds when the copy's turn comes: those that stood there, and those that the entry put there
-- for the send's copies with lower places
abbrev pub held_before : List Entry → Entry → Queue → ℕ × ℕ → ℕ
held_before before e q copy = length (line before q) + count_by (enters_before q copy) e.puts

-- the queue of the connection to the copy's key, by the message's priority, then holds its size
pub record RelayIsFull (configs : List Config) (before : List Entry) (e : Entry) (copy : ℕ × ℕ) : Type 0 where
  pub node : ℕ
  pub priority : Bool
  pub key : Key
  pub routed : IsRouted configs before e copy node priority key
  pub conn : ℕ
  pub connected : route_to (routes before node) key ≡ Some conn
  pub full : mailbox_size_at configs node ≤ held_before before e (relay_queue priority node conn) copy

-- ---- mailbox full

-- of a copy a half takes its frame, from the link that it reads, or its message, where this waits for a quota of its connection
abbrev pub BringsCopy : ℕ → ℕ → Half → ℕ × ℕ → ℕ → List ℕ → Queue → Item → Type 0
BringsCopy node conn half copy channel bytes q i =
    ((q ≡ queue.Link half.link (other_side half.writes)) × ((frame : List ℕ) × (i ≡ item.Frame (Some copy) frame)))
    ⊎ ((q ≡ queue.Held node conn) × (i ≡ item.Held channel bytes copy))

-- the entry is a step of a receiving half of this node, which takes what brings it the copy, the oldest where it stands; the copy
-- is for this node, and was sent on this channel, which is registered there with this capacity
pub record IsComing (configs : List Config) (before : List Entry) (e : Entry) (copy : ℕ × ℕ) (node channel capacity : ℕ) : Type 0 where
  pub conn : ℕ
  pub steps : e.event.act ≡ act.RecvStep conn node
  pub half : Half
  pub at : half_at before node conn ≡ Some half
  pub from : Queue
  pub oldest : Envelope
  pub later : List Envelope
  pub stood : line before from ≡ oldest ∷ later
  pub takes : e.takes ≡ name_of oldest ∷ []
  pub sender : Sender
  pub bytes : List ℕ
  pub brings : BringsCopy node conn half copy channel bytes from oldest.item
  pub sent : IsCopyOf before copy sender channel bytes (key_at configs node)
  pub registered : capacity_in (channels configs before node) channel ≡ Some capacity

-- the queue of the channel on which it was sent holds its capacity
pub record MailboxIsFull (configs : List Config) (before : List Entry) (e : Entry) (copy : ℕ × ℕ) : Type 0 where
  pub node : ℕ
  pub channel : ℕ
  pub capacity : ℕ
  pub coming : IsComing configs before e copy node channel capacity
  pub full : capacity ≤ length (line before (queue.Channel node channel))

-- ---- receiver closed

-- the entry drops the reader of a channel, in which the copy's message waits; the copy is for the channel's node, and was sent on
-- this channel
pub record IsLeft (configs : List Config) (before : List Entry) (e : Entry) (copy : ℕ × ℕ) : Type 0 where
  pub node : ℕ
  pub channel : ℕ
  pub closes : e.event.act ≡ act.Close channel node
  pub done : e.reply ≡ reply.Ok
  pub place : ℕ
  pub left : Envelope
  pub stood : slice_get (line before (queue.Channel node channel)) place ≡ Some left
  pub bytes : List ℕ
  pub from : Key
  pub is : left.item ≡ item.Message bytes copy from
  pub sender : Sender
  pub sent : IsCopyOf before copy sender channel bytes (key_at configs node)

-- the reader of the channel on which it was sent had been dropped
pub record IsLate (configs : List Config) (before : List Entry) (e : Entry) (copy : ℕ × ℕ) : Type 0 where
  pub node : ℕ
  pub channel : ℕ
  pub capacity : ℕ
  pub coming : IsComing configs before e copy node channel capacity
  pub closed : is_closed before node channel ≡ true

-- the reader of its channel closes here, or had closed
abbrev pub ReceiverIsClosed : List Config → List Entry → Entry → ℕ × ℕ → Type 0
ReceiverIsClosed configs before e copy = IsLeft configs before e copy ⊎ IsLate configs before e copy

-- ---- link cut

-- the entry cuts a link, over which the copy's frame was in flight
pub record IsInFlightAtCut (before : List Entry) (e : Entry) (copy : ℕ × ℕ) : Type 0 where
  pub link : ℕ
  pub cuts : e.event.act ≡ act.Cut link
  pub done : e.reply ≡ reply.Ok
  pub from : Queue
  pub over : IsAmong (queues_over link) from
  pub place : ℕ
  pub left : Envelope
  pub stood : slice_get (line before from) place ≡ Some left
  pub carried : carries copy left ≡ true

-- ---- node stopped

-- the entry stops a node, with which the copy stood: its item waited there, or was in flight towards it
pub record IsStoppedWith (before : List Entry) (e : Entry) (copy : ℕ × ℕ) : Type 0 where
  pub node : ℕ
  pub by_start : Bool
  pub stops : e.event.act ≡ act.Stop by_start node
  pub done : e.reply ≡ reply.Ok
  pub from : Queue
  pub with : IsAmong (emptied_at before node) from
  pub place : ℕ
  pub left : Envelope
  pub stood : slice_get (line before from) place ≡ Some left
  pub carried : carries copy left ≡ true

-- ---- all causes

-- what an entry that drops the copy for this cause shows, given the entries before it
abbrev pub Shows : List Config → List Entry → Entry → ℕ × ℕ → Cause → Type 0
Shows configs before e copy cause.Unbound = IsUnbound configs before e copy
Shows configs before e copy cause.NoConnection = HasNoConnection configs before e copy
Shows configs before e copy cause.RelayFull = RelayIsFull configs before e copy
Shows configs before e copy cause.ConnectionEnded = ConnectionIsEnded configs before e copy
Shows configs before e copy cause.FrameRefused = FrameIsRefused configs before e copy
Shows configs before e copy cause.ChannelUnregistered = ChannelIsUnregistered configs before e copy
Shows configs before e copy cause.MailboxFull = MailboxIsFull configs before e copy
Shows configs before e copy cause.ReceiverClosed = ReceiverIsClosed configs before e copy
Shows configs before e copy cause.LinkCut = IsInFlightAtCut before e copy
Shows configs before e copy cause.NodeStopped = IsStoppedWith before e copy

-- each entry that drops a copy shows the cause
abbrev pub EachDropShowsItsCause : List Config → List Entry → Type 0
EachDropShowsItsCause configs log =
    (n : ℕ) (e : Entry) (i : ℕ) (copy : ℕ × ℕ) (c : Cause)
    → slice_get log n ≡ Some e → slice_get e.ends i ≡ Some (end.Copy copy.0 copy.1 (outcome.Dropped c))
    → Shows configs (take n log) e copy c

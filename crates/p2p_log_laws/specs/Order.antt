-- The order in which copies are delivered.
use Rattle.std.specs.Prelude.{◌≡◌, ℕ, ◌<◌, Bool, true, ◌==◌, ◌&&◌, ◌||◌, nat_lt, List, take, Some, slice_get}
use Rattle.p2p_base.specs.declared.key.Key.{Key}
use Rattle.p2p_log.specs.declared.config.Config.{Config}
use Rattle.p2p_log.specs.declared.queue.Queue.{Queue}
use Rattle.p2p_log.specs.declared.queue.Queue.TheVariants as queue
use Rattle.p2p_log.specs.declared.queue.Side.{Side}
use Rattle.p2p_log.specs.declared.item.Item.TheVariants as item
use Rattle.p2p_log.specs.declared.end.End.TheVariants as end
use Rattle.p2p_log.specs.declared.end.Outcome.TheVariants as outcome
use Rattle.p2p_log.specs.declared.entry.Entry.{Entry}
use Rattle.p2p_log_rules.specs.declared.row.Half.{Half}
use Rattle.p2p_log.specs.QueueCode.{owner_of}
use Rattle.p2p_log_rules.specs.Connections.{half_at}
use Rattle.p2p_log_rules.specs.Effect.{other_side}
use Rattle.p2p_log_rules.specs.Reading.{reading_of}
use Rattle.p2p_log.specs.Sending.{Sender, sending_at}
use Rattle.p2p_log.specs.Sending.Sender.{Node, Raw}

-- copies are accepted in order of their names: by send, and by place among the copies of one send
abbrev pub is_before : ℕ × ℕ → ℕ × ℕ → Bool
is_before a b = nat_lt a.0 b.0 || ((a.0 == b.0) && nat_lt a.1 b.1)

-- the copy was sent by this sender on this channel, with this priority, and the entry n read it from the queue
pub record IsDelivered (configs : List Config) (log : List Entry) (copy : ℕ × ℕ) (sender : Sender) (channel : ℕ) (priority : Bool) (q : Queue) (n : ℕ) : Type 0 where
  pub bytes : List ℕ
  pub keys : List Key
  pub sends : sending_at log copy.0 ≡ Some (record { by = sender; channel = channel; priority = priority; bytes = bytes; keys = keys })
  pub read : Entry
  pub read_at : slice_get log n ≡ Some read
  pub reads : reading_of configs (take n log) read.event.act ≡ Some q
  pub place : ℕ
  pub ended : slice_get read.ends place ≡ Some (end.Copy copy.0 copy.1 outcome.Delivered)

-- the copy's frame was put in the link, in this direction
pub record WentOver (log : List Entry) (copy : ℕ × ℕ) (link : ℕ) (side : Side) : Type 0 where
  pub n : ℕ
  pub entry : Entry
  pub at : slice_get log n ≡ Some entry
  pub place : ℕ
  pub frame : List ℕ
  pub put : slice_get entry.puts place ≡ Some (queue.Link link side, item.Frame (Some copy) frame)

-- the sender writes in this direction of the link: a node by a connection that it has over the link
abbrev pub Writes : List Config → List Entry → Sender → ℕ → Side → Type 0
Writes configs log (Node n) link side =
    (conn : ℕ) × (near : Half) × (half_at log n conn ≡ Some near) × (near.link ≡ link) × (near.writes ≡ side)
Writes configs log (Raw e) link side = e ≡ link

-- what comes in this direction of the link comes to the node that has this queue, by a connection that it has over the link;
-- or this is the queue of the link
abbrev pub ComesTo : List Config → List Entry → Queue → ℕ → Side → Type 0
ComesTo configs log (queue.Link e s) link side = (e ≡ link) × (s ≡ side)
ComesTo configs log q link side =
    (conn : ℕ) × (far : Half) × (half_at log (owner_of q) conn ≡ Some far) × (far.link ≡ link) × (side ≡ other_side far.writes)

-- the copy came by this connection of the node that has the queue: it went over the link of the connection, in the direction
-- from which that node reads
pub record CameBy (configs : List Config) (log : List Entry) (copy : ℕ × ℕ) (q : Queue) (conn : ℕ) : Type 0 where
  pub half : Half
  pub at : half_at log (owner_of q) conn ≡ Some half
  pub over : WentOver log copy half.link (other_side half.writes)

-- of two copies of one sender, on one channel with one priority, that went over one link in one direction and were read from one
-- queue, the one accepted first is delivered first
abbrev pub AreDeliveredInOrderOverOne : List Config → List Entry → Type 0
AreDeliveredInOrderOverOne configs log =
    (sender : Sender) (channel : ℕ) (priority : Bool) (link : ℕ) (side : Side) (q : Queue) (first second : ℕ × ℕ) (m n : ℕ)
    → IsDelivered configs log first sender channel priority q m → IsDelivered configs log second sender channel priority q n
    → is_before first second ≡ true
    → WentOver log first link side → WentOver log second link side → m < n

-- of two copies of one sender that were read from one queue, and that came by two connections, the one that came by the older
-- connection is delivered first, whatever their priorities are; connections are named by the events that made them
abbrev pub AreDeliveredInOrderOfConnections : List Config → List Entry → Type 0
AreDeliveredInOrderOfConnections configs log =
    (sender : Sender) (channel : ℕ) (p r : Bool) (q : Queue) (first second : ℕ × ℕ) (older newer : ℕ) (m n : ℕ)
    → IsDelivered configs log first sender channel p q m → IsDelivered configs log second sender channel r q n
    → CameBy configs log first q older → CameBy configs log second q newer
    → older < newer → m < n

-- what is delivered went over a link from its sender to the node that has the queue
abbrev pub EachWentOver : List Config → List Entry → Type 0
EachWentOver configs log =
    (sender : Sender) (channel : ℕ) (priority : Bool) (q : Queue) (copy : ℕ × ℕ) (n : ℕ)
    → IsDelivered configs log copy sender channel priority q n
    → (link : ℕ) × (side : Side) × WentOver log copy link side × Writes configs log sender link side × ComesTo configs log q link side

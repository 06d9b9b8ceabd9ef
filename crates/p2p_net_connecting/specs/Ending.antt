-- What the end of a connection comes to at its node, and what it makes of its node and of the links. No log.
use Rattle.std.specs.Prelude.{◌≡◌, ℕ, List, [], ◌∷◌, ◌++◌, drop, length, Option, Some, None, slice_get, if◌then◌else◌}
use Rattle.p2p_base.specs.declared.key.Key.{Key}
use Rattle.p2p_tracker_directory.specs.Reserved.{peer_of}
use Rattle.p2p_log.specs.declared.queue.Queue.{Queue}
use Rattle.p2p_log.specs.declared.queue.Queue.TheVariants as queue
use Rattle.p2p_log.specs.declared.item.Item.{Item}
use Rattle.p2p_log.specs.declared.item.Item.TheVariants as item
use Rattle.p2p_log.specs.declared.item.Envelope.{Envelope}
use Rattle.p2p_log.specs.declared.end.Cause.{Cause}
use Rattle.p2p_log.specs.declared.end.Cause.TheVariants as cause
use Rattle.p2p_log.specs.declared.entry.Ended.{Ended}
use Rattle.p2p_log.specs.declared.entry.Ended.TheVariants as ended
use Rattle.p2p_log.specs.declared.entry.Reply.TheVariants as reply
use Rattle.p2p_log.specs.QueueCode.{same_queue}
use Rattle.p2p_log.specs.Lines.{named}
use Rattle.p2p_log_rules.specs.declared.row.Half.{Half}
use Rattle.p2p_log_rules.specs.declared.row.Row.{Row}
use Rattle.p2p_log_rules.specs.Effect.{only, other_side}
use Rattle.p2p_net_queues.specs.Board.{held}
use Rattle.p2p_net_queues.specs.Rows.{named_end, taken_dropped, all_dropped}
use Rattle.p2p_net_queues.specs.Tables as table
use Rattle.p2p_net_queues.specs.Tables.{AreBut, waiting, cleared_at, popped_at}
use Rattle.p2p_net_connections.specs.declared.connections.Connection.{Connection}
use Rattle.p2p_net_links.specs.declared.links.Links.{Links}
use Rattle.p2p_net_links.specs.Links.{way_of, with_way}
use Rattle.p2p_net_links.specs.Dropping.{end_dropped}
use Rattle.p2p_net_tracker.specs.Ending.{dropped_row, released_by, releasing_row}
use Rattle.p2p_net_node.specs.Routing as routing
use Rattle.p2p_net_node.specs.declared.node.Node.{Node}

-- these end too, with their connection
abbrev pub ending_too : List Envelope → Row → Row
ending_too xs r = dropped_row xs r

-- the frames of these names end too
abbrev pub named_too : List ((ℕ × ℕ) × Item) → Row → Row
named_too fs r = record r { ends = r.ends ++ named_end cause.ConnectionEnded fs }

-- all that waits for a connection ends: what it has yet to write, what it holds, what it is told, its router's answers, and the
-- frames in flight towards it, whose end of the link is dropped
pub record DropsWaiting (n conn : ℕ) (half : Half) (old new : Node) (l links : Links) (row after : Row) : Type 0 where
  pub frames : List ((ℕ × ℕ) × Item)
  pub router : routing.TakesAll conn old.router new.router frames
  pub told : (q : Queue) → held new.tracker.told q ≡ (if same_queue (queue.Control n conn) q then [] else held old.tracker.told q)
  pub tracker : new.tracker ≡ record old.tracker { told = new.tracker.told }
  pub connections : new.connections ≡ record old.connections { answers = cleared_at old.connections.answers conn; held = cleared_at old.connections.held conn }
  pub rest : new ≡ record old { router = new.router; tracker = new.tracker; connections = new.connections }
  pub links_are : links ≡ end_dropped half.link half.writes l
  pub row_is : after
      ≡ ending_too (waiting (way_of l (other_side half.writes)) half.link)
      (ending_too (waiting old.connections.answers conn)
      (ending_too (held old.tracker.told (queue.Control n conn))
      (ending_too (waiting old.connections.held conn) (named_too frames row))))

-- the router is told that the peer of a connection is free, and then the tracker is, which gets its reservation back
pub record Frees (k n conn : ℕ) (key : Key) (connection : Connection) (old new : Node) (row after : Row) : Type 0 where
  pub router : routing.Releases k (length row.puts) conn key old.router new.router
  pub tracker : new.tracker ≡ released_by k (length (row.puts ++ (queue.Router n, item.Release key) ∷ [])) conn connection.reservation old.tracker
  pub rest : new ≡ record old { router = new.router; tracker = new.tracker }
  pub row_is : after ≡ releasing_row n (peer_of connection.reservation) (record row { puts = row.puts ++ (queue.Router n, item.Release key) ∷ [] })

-- a connection that is kept ends: it is kept no longer, what waits for it ends, and its peer is free
pub record EndsKept (k n conn : ℕ) (half : Half) (connection : Connection) (old new : Node) (l links : Links) (row after : Row) : Type 0 where
  -- the node once it keeps the connection no longer, and once nothing waits for that
  pub without : Node
  pub left : Node
  pub emptied : Row
  pub others : AreBut conn None old.connections.spawned without.connections.spawned
  pub kept : without ≡ record old { connections = record old.connections { spawned = without.connections.spawned } }
  pub drops : DropsWaiting n conn half without left l links row emptied
  pub frees : Frees k n conn half.peer connection left new emptied after

-- no connection of this name is kept, and nothing changes
pub record EndsNone (conn : ℕ) (old new : Node) (l links : Links) (row after : Row) : Type 0 where
  pub others : AreBut conn None old.connections.spawned new.connections.spawned
  pub kept : new ≡ record old { connections = record old.connections { spawned = new.connections.spawned } }
  pub links_are : links ≡ l
  pub row_is : after ≡ row

abbrev pub EndsBy : Option Connection → ℕ → ℕ → ℕ → Half → Node → Node → Links → Links → Row → Row → Type 0
EndsBy None k n conn half old new l links row after = EndsNone conn old new l links row after
EndsBy (Some connection) k n conn half old new l links row after = EndsKept k n conn half connection old new l links row after

-- by the connection that is kept under this name
abbrev pub Ends : ℕ → ℕ → ℕ → Half → Node → Node → Links → Links → Row → Row → Type 0
Ends k n conn half old new l links row after = EndsBy (table.at old.connections.spawned conn) k n conn half old new l links row after

-- ---- for a reason

-- the row of an end that took nothing yet
abbrev pub ending : Ended → Row
ending why = only (reply.Ended why)

-- the row that takes this too, where there is something, and drops its copies for this cause
abbrev pub took_first : Cause → Option Envelope → Row → Row
took_first c None r = r
took_first c (Some x) r = taken_dropped c (named x) r

-- the row of one that took this, whose copies are dropped for this cause
abbrev pub ending_for : Ended → Cause → Option Envelope → Row
ending_for why c None = ending why
ending_for why c (Some x) = taken_dropped c (named x) (ending why)

-- the oldest that it was told is taken, and it ends
pub record EndsKilled (k n conn : ℕ) (half : Half) (old new : Node) (l links : Links) (r : Row) : Type 0 where
  pub told_less : Node
  pub told : (q : Queue) → held told_less.tracker.told q
      ≡ (if same_queue (queue.Control n conn) q then drop 1 (held old.tracker.told q) else held old.tracker.told q)
  pub tracker : told_less.tracker ≡ record old.tracker { told = told_less.tracker.told }
  pub rest : told_less ≡ record old { tracker = told_less.tracker }
  pub ends : Ends k n conn half told_less new l links (ending_for ended.Killed cause.ConnectionEnded (slice_get (held old.tracker.told (queue.Control n conn)) 0)) r

-- its batch was taken, and it ends
abbrev pub EndsUnwritten : ℕ → ℕ → ℕ → Half → List ((ℕ × ℕ) × Item) → Node → Node → Links → Links → Row → Type 0
EndsUnwritten k n conn half frames old new l links r =
    Ends k n conn half old new l links (all_dropped cause.ConnectionEnded frames (ending ended.SendFailed)) r

-- nothing is taken, and it ends
abbrev pub EndsUnread : ℕ → ℕ → ℕ → Half → Node → Node → Links → Links → Row → Type 0
EndsUnread k n conn half old new l links r = Ends k n conn half old new l links (ending ended.ReceiveFailed) r

-- the first frame in flight towards it is taken, and it ends
abbrev pub EndsRefused : ℕ → ℕ → ℕ → Half → Ended → Cause → Node → Node → Links → Links → Row → Type 0
EndsRefused k n conn half why c old new l links r =
    Ends k n conn half old new (with_way l (other_side half.writes) (popped_at (way_of l (other_side half.writes)) half.link)) links
    (ending_for why c (slice_get (waiting (way_of l (other_side half.writes)) half.link) 0)) r

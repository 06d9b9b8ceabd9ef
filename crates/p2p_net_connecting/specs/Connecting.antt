-- What a step of the sending half of a connection comes to at its node. No log: of the router's calls the log is a matter of its own.
use Rattle.std.specs.Prelude.{◌≡◌, ℕ, Bool, true, false, ◌&&◌, nat_lt, List, [], Option, Some, None, is_some, slice_get}
use Rattle.std.specs.Option.{option_map}
use Rattle.p2p_base.specs.declared.key.Key.{Key}
use Rattle.p2p_log.specs.declared.queue.Queue.TheVariants as queue
use Rattle.p2p_log.specs.declared.item.Item.{Item}
use Rattle.p2p_log.specs.declared.entry.Reply.TheVariants as reply
use Rattle.p2p_log_rules.specs.declared.row.Half.{Half}
use Rattle.p2p_log_rules.specs.declared.row.Row.{Row}
use Rattle.p2p_log_rules.specs.Connections.{half_over}
use Rattle.p2p_log_rules.specs.Effect.{only, takes_oldest, begin_row, beside_ping, other_side}
use Rattle.p2p_log_rules.specs.Pings.{is_past}
use Rattle.p2p_log_rules.specs.Spawning.{Spawned}
use Rattle.p2p_net_queues.specs.Board.{held}
use Rattle.p2p_net_queues.specs.Tables as table
use Rattle.p2p_net_queues.specs.Tables.{waiting}
use Rattle.p2p_net_connections.specs.Connections.{spawned_on, begun_with, without_answer, pinged_with}
use Rattle.p2p_net_connections.specs.declared.connections.Connections.{Connections}
use Rattle.p2p_net_connections.specs.declared.connections.Stage.{Stage}
use Rattle.p2p_net_connections.specs.declared.connections.Stage.TheVariants as stage
use Rattle.p2p_net_links.specs.declared.links.Links.{Links}
use Rattle.p2p_net_links.specs.Cutting.{is_broken_at}
use Rattle.p2p_net_links.specs.Links.{way_of, with_way, batch_way, write_frames_row}
use Rattle.p2p_net_tracker.specs.Connecting.{connected_by}
use Rattle.p2p_net_connecting.specs.Ending.{EndsKilled, EndsUnwritten}
use Rattle.p2p_net_node.specs.Ready.{is_node_up}
use Rattle.p2p_net_node.specs.Routing as routing
use Rattle.p2p_net_node.specs.declared.node.Node.{Node}
use Rattle.p2p_net_node.specs.Staying.{Stays}

abbrev pub half_in : ℕ → Links → Option Spawned → Option Half
half_in n l None = None
half_in n l (Some c) = option_map (half_over n c) (table.at l.dialers c.link)

-- the half of a connection of the node n
abbrev pub half_by : ℕ → Connections → Links → ℕ → Option Half
half_by n cs l conn = half_in n l (spawned_on (table.at cs.spawned conn))

-- it begins: the tracker and the router are told whom it is with
abbrev pub Begins : ℕ → ℕ → ℕ → Key → Node → Node → Row → Type 0
Begins k n conn peer old new r =
    (r ≡ begin_row n conn peer)
    × ((new ≡ record old { tracker = connected_by k conn peer old.tracker; router = new.router; connections = begun_with conn old.connections })
    × routing.Readies k 1 conn old.config.mailbox_size peer old.router new.router)

-- it takes its router's answer at a moment, and runs from then on
abbrev pub Runs : ℕ → ℕ → Node → Node → Row → Type 0
Runs conn at old new r = (r ≡ takes_oldest (waiting old.connections.answers conn)) × (new ≡ record old { connections = without_answer conn at old.connections })

-- a batch is written to the link, with a ping before it where one is due
pub record WritesFrames (k conn at : ℕ) (half : Half) (due : Bool) (frames : List ((ℕ × ℕ) × Item)) (batched new : Node) (l links : Links) (r : Row) : Type 0 where
  pub rest : new ≡ record batched { connections = pinged_with due conn at batched.connections }
  pub row_is : r ≡ write_frames_row half.link half.writes due frames
  pub links_are : links ≡ with_way l half.writes (batch_way due k half.link half.writes frames (way_of l half.writes))

-- whether something is to be written
abbrev pub has_more : Bool → List ((ℕ × ℕ) × Item) → Bool
has_more false [] = false
has_more due frames = true

-- by whether there is something to write to a link whose other end was dropped
abbrev pub WritesTo : Bool → ℕ → ℕ → ℕ → ℕ → Half → Bool → List ((ℕ × ℕ) × Item) → Node → Node → Links → Links → Row → Type 0
WritesTo false k n conn at half due frames batched new l links r = WritesFrames k conn at half due frames batched new l links r
WritesTo true k n conn at half due frames batched new l links r = EndsUnwritten k n conn half frames batched new l links r

-- a batch is taken, and written where it can be
pub record Writes (k n conn at : ℕ) (half : Half) (due : Bool) (old new : Node) (l links : Links) (r : Row) : Type 0 where
  pub frames : List ((ℕ × ℕ) × Item)
  pub batched : Node
  pub batches : routing.Batches conn (beside_ping due old.config.send_batch_size) old.router batched.router frames
  pub kept : batched ≡ record old { router = batched.router }
  pub writes : WritesTo (has_more due frames && is_broken_at l (other_side half.writes) half.link) k n conn at half due frames batched new l links r

-- by whether it is told to end, and its batch has room for that
abbrev pub WorksBy : Bool → ℕ → ℕ → ℕ → ℕ → Half → Bool → Node → Node → Links → Links → Row → Type 0
WorksBy true k n conn at half due old new l links r = EndsKilled k n conn half old new l links r
WorksBy false k n conn at half due old new l links r = Writes k n conn at half due old new l links r

abbrev pub Works : ℕ → ℕ → ℕ → ℕ → Half → Bool → Node → Node → Links → Links → Row → Type 0
Works k n conn at half due old new l links r =
    WorksBy
    (nat_lt 0 (beside_ping due old.config.send_batch_size) && is_some (slice_get (held old.tracker.told (queue.Control n conn)) 0))
    k n conn at half due old new l links r

-- by how far it is
abbrev pub StepsAt : Option Stage → ℕ → ℕ → ℕ → ℕ → Half → Node → Node → Links → Links → Row → Type 0
StepsAt None k n conn at half old new l links r = Begins k n conn half.peer old new r × (links ≡ l)
StepsAt (Some stage.Begun) k n conn at half old new l links r = Runs conn at old new r × (links ≡ l)
StepsAt (Some (stage.Running pinged)) k n conn at half old new l links r =
    Works k n conn at half (is_past old.config.ping_frequency at (Some pinged)) old new l links r

abbrev pub StepsHalf : Option Half → ℕ → ℕ → ℕ → ℕ → Node → Node → Links → Links → Row → Type 0
StepsHalf None k n conn at old new l links r = Stays old new r (only reply.Gone) × (links ≡ l)
StepsHalf (Some half) k n conn at old new l links r = StepsAt (table.at old.connections.stages conn) k n conn at half old new l links r

abbrev pub SendStepsBy : Bool → ℕ → ℕ → ℕ → ℕ → Node → Node → Links → Links → Row → Type 0
SendStepsBy false k n conn at old new l links r = Stays old new r (only reply.Gone) × (links ≡ l)
SendStepsBy true k n conn at old new l links r = StepsHalf (half_by n old.connections l conn) k n conn at old new l links r

abbrev pub SendSteps : ℕ → ℕ → ℕ → ℕ → Node → Node → Links → Links → Row → Type 0
SendSteps k n conn at old new l links r = SendStepsBy (is_node_up old) k n conn at old new l links r

-- What a step of the receiving half of a connection comes to, and what it makes of its node and of the links. No log.
use Rattle.std.specs.Prelude.{◌≡◌, ℕ, Bool, true, false, Option, Some, None, slice_get}
use Rattle.std.specs.Option.{option_map}
use Rattle.p2p_base.specs.declared.key.Key.{Key}
use Rattle.p2p_log.specs.declared.queue.Side.{Side}
use Rattle.p2p_log.specs.declared.item.Envelope.{Envelope}
use Rattle.p2p_log.specs.declared.end.Cause.TheVariants as cause
use Rattle.p2p_log.specs.declared.entry.Ended.TheVariants as ended
use Rattle.p2p_log.specs.declared.entry.Reply.TheVariants as reply
use Rattle.p2p_log.specs.Lines.{name_of}
use Rattle.p2p_log_rules.specs.declared.row.Half.{Half}
use Rattle.p2p_log_rules.specs.declared.row.Row.{Row}
use Rattle.p2p_log_rules.specs.Effect.{only, hold_row, other_side}
use Rattle.p2p_log_rules.specs.Rows.{taken_row}
use Rattle.p2p_net_queues.specs.Tables as table
use Rattle.p2p_net_queues.specs.Tables.{waiting, popped_at}
use Rattle.p2p_net_channels.specs.declared.arrival.Arriving.{Arriving}
use Rattle.p2p_net_channels.specs.declared.arrival.Arriving.TheVariants as arriving
use Rattle.p2p_net_channels.specs.declared.channels.Channels.{Channels}
use Rattle.p2p_net_channels.specs.Arrivals.{arrival_in, held_arrival, held_item, delivered}
use Rattle.p2p_net_channels.specs.Channels.{capacity_at, refusal, delivered_to, may_admit, metered}
use Rattle.p2p_net_connections.specs.declared.connections.Connections.{Connections}
use Rattle.p2p_net_connections.specs.declared.connections.Stage.{Stage}
use Rattle.p2p_net_connections.specs.declared.connections.Stage.TheVariants as stage
use Rattle.p2p_net_connections.specs.Connections.{held_with, without_held, may_ping, ping_metered}
use Rattle.p2p_net_links.specs.declared.links.Links.{Links}
use Rattle.p2p_net_links.specs.Cutting.{is_broken_at}
use Rattle.p2p_net_links.specs.Links.{way_of, with_way}
use Rattle.p2p_net_node.specs.Staying.{Stays}
use Rattle.p2p_net_connecting.specs.Connecting.{half_by}
use Rattle.p2p_net_connecting.specs.Ending.{EndsUnread, EndsRefused}
use Rattle.p2p_net_node.specs.Ready.{is_node_up}
use Rattle.p2p_net_node.specs.declared.node.Node.{Node}
use Rattle.p2p_net_connecting.specs.declared.receiving.Arrival.{Arrival}

-- ---- what came

abbrev pub named_as : Envelope → Arriving → Arrival
named_as x a = record { name = name_of x; arriving = a }

-- what is in the first frame, within the limit
abbrev pub frame_in : ℕ → Option Envelope → Option Arrival
frame_in limit None = None
frame_in limit (Some x) = option_map (named_as x) (arrival_in limit x.item)

-- the first frame in one direction of a link
abbrev pub first_in : Links → ℕ → Side → Option Envelope
first_in l link s = slice_get (waiting (way_of l s) link) 0

-- what is held
abbrev pub kept_in : Option Envelope → Option Arrival
kept_in None = None
kept_in (Some x) = option_map (named_as x) (held_arrival x.item)

-- what a connection has held longest
abbrev pub held_first : Connections → ℕ → Option Envelope
held_first cs conn = slice_get (waiting cs.held conn) 0

-- ---- its quota

abbrev pub verdict_by : Option ℕ → Bool → Option Bool
verdict_by None admits = None
verdict_by (Some capacity) admits = Some admits

-- whether its quota admits it, where it has one
abbrev pub verdict : ℕ → ℕ → Arriving → Node → Option Bool
verdict conn at arriving.Ping x = Some (may_ping x.connections conn at)
verdict conn at (arriving.Message m) x = verdict_by (capacity_at x.channels m.channel) (may_admit x.channels m.channel conn at)

abbrev pub metered_on : Option ℕ → ℕ → ℕ → ℕ → Node → Node
metered_on None c conn at x = x
metered_on (Some capacity) c conn at x = record x { channels = metered c conn at x.channels }

-- the node once its quota was asked
abbrev pub asked_of : ℕ → ℕ → Arriving → Node → Node
asked_of conn at arriving.Ping x = record x { connections = ping_metered conn at x.connections }
asked_of conn at (arriving.Message m) x = metered_on (capacity_at x.channels m.channel) m.channel conn at x

-- ---- what becomes of it

-- the row of what was admitted
abbrev pub passed_row : ℕ → Key → ℕ × ℕ → Arriving → Channels → Row
passed_row n from name arriving.Ping ch = taken_row name
passed_row n from name (arriving.Message m) ch = delivered (refusal ch m.channel) n from m (taken_row name)

-- the node once it was admitted
abbrev pub passed_into : ℕ → ℕ → Key → Arriving → Node → Node
passed_into k n from arriving.Ping x = x
passed_into k n from (arriving.Message m) x = record x { channels = delivered_to k 0 n from m x.channels }

-- the node once it is held
abbrev pub held_into : ℕ → ℕ → ℕ → Arriving → Node → Node
held_into k n conn a x = record x { connections = held_with k 0 n conn (held_item a) x.connections }

-- ---- off the link

abbrev pub without_first : Links → ℕ → Side → Links
without_first l link s = with_way l s (popped_at (way_of l s) link)

-- by what its quota says: where it has none, the connection ends
abbrev pub TakesAs : Option Bool → ℕ → ℕ → ℕ → Half → Arrival → Node → Node → Links → Links → Row → Type 0
TakesAs None k n conn half a asked new l links r = EndsRefused k n conn half ended.InvalidChannel cause.ChannelUnregistered asked new l links r
TakesAs (Some true) k n conn half a asked new l links r =
    (r ≡ passed_row n half.peer a.name a.arriving asked.channels)
    × ((new ≡ passed_into k n half.peer a.arriving asked) × (links ≡ without_first l half.link (other_side half.writes)))
TakesAs (Some false) k n conn half a asked new l links r =
    (r ≡ hold_row n conn a.name (held_item a.arriving)) × ((new ≡ held_into k n conn a.arriving asked) × (links ≡ without_first l half.link (other_side half.writes)))

-- what came in the first frame is delivered, or held, or the connection ends
abbrev pub Takes : ℕ → ℕ → ℕ → ℕ → Half → Arrival → Node → Node → Links → Links → Row → Type 0
Takes k n conn at half a old new l links r = TakesAs (verdict conn at a.arriving old) k n conn half a (asked_of conn at a.arriving old) new l links r

-- by what is in the first frame, where that can be read
abbrev pub ReadsFrame : Option Arrival → ℕ → ℕ → ℕ → ℕ → Half → Node → Node → Links → Links → Row → Type 0
ReadsFrame None k n conn at half old new l links r = EndsRefused k n conn half ended.DecodeFailed cause.FrameRefused old new l links r
ReadsFrame (Some a) k n conn at half old new l links r = Takes k n conn at half a old new l links r

-- where no frame is in flight, by whether the other end was dropped
abbrev pub ReadsNone : Bool → ℕ → ℕ → ℕ → Half → Node → Node → Links → Links → Row → Type 0
ReadsNone false k n conn half old new l links r = Stays old new r (only reply.Idle) × (links ≡ l)
ReadsNone true k n conn half old new l links r = EndsUnread k n conn half old new l links r

abbrev pub ReceivesBy : Option Envelope → ℕ → ℕ → ℕ → ℕ → Half → Node → Node → Links → Links → Row → Type 0
ReceivesBy None k n conn at half old new l links r = ReadsNone (is_broken_at l (other_side half.writes) half.link) k n conn half old new l links r
ReceivesBy (Some x) k n conn at half old new l links r = ReadsFrame (frame_in old.config.max_message_size (Some x)) k n conn at half old new l links r

-- the first frame is delivered, or held, or the connection ends
abbrev pub Receives : ℕ → ℕ → ℕ → ℕ → Half → Node → Node → Links → Links → Row → Type 0
Receives k n conn at half old new l links r = ReceivesBy (first_in l half.link (other_side half.writes)) k n conn at half old new l links r

-- ---- what is held

abbrev pub unheld : ℕ → Node → Node
unheld conn x = record x { connections = without_held conn x.connections }

abbrev pub RetriesAs : Option Bool → ℕ → ℕ → ℕ → ℕ → Key → Arrival → Node → Node → Row → Type 0
RetriesAs (Some true) k n conn at from a old new r =
    (r ≡ passed_row n from a.name a.arriving (asked_of conn at a.arriving old).channels)
    × (new ≡ passed_into k n from a.arriving (unheld conn (asked_of conn at a.arriving old)))
RetriesAs _ k n conn at from a old new r = Stays (asked_of conn at a.arriving old) new r (only reply.Idle)

abbrev pub RetriesBy : Option Arrival → ℕ → ℕ → ℕ → ℕ → Key → Node → Node → Row → Type 0
RetriesBy None k n conn at from old new r = Stays old new r (only reply.Idle)
RetriesBy (Some a) k n conn at from old new r = RetriesAs (verdict conn at a.arriving old) k n conn at from a old new r

-- what it has held longest is delivered, or held on
abbrev pub Retries : ℕ → ℕ → ℕ → ℕ → Key → Node → Node → Row → Type 0
Retries k n conn at from old new r = RetriesBy (kept_in (held_first old.connections conn)) k n conn at from old new r

-- ---- a step

-- by what is held
abbrev pub StepsBy : Option Envelope → ℕ → ℕ → ℕ → ℕ → Half → Node → Node → Links → Links → Row → Type 0
StepsBy None k n conn at half old new l links r = Receives k n conn at half old new l links r
StepsBy (Some x) k n conn at half old new l links r = Retries k n conn at half.peer old new r × (links ≡ l)

-- by how far the connection is
abbrev pub StepsAt : Option Stage → ℕ → ℕ → ℕ → ℕ → Half → Node → Node → Links → Links → Row → Type 0
StepsAt (Some (stage.Running pinged)) k n conn at half old new l links r = StepsBy (held_first old.connections conn) k n conn at half old new l links r
StepsAt _ k n conn at half old new l links r = Stays old new r (only reply.Idle) × (links ≡ l)

abbrev pub StepsOn : Option Half → ℕ → ℕ → ℕ → ℕ → Node → Node → Links → Links → Row → Type 0
StepsOn None k n conn at old new l links r = Stays old new r (only reply.Gone) × (links ≡ l)
StepsOn (Some half) k n conn at old new l links r = StepsAt (table.at old.connections.stages conn) k n conn at half old new l links r

abbrev pub RecvStepsBy : Bool → ℕ → ℕ → ℕ → ℕ → Node → Node → Links → Links → Row → Type 0
RecvStepsBy false k n conn at old new l links r = Stays old new r (only reply.Gone) × (links ≡ l)
RecvStepsBy true k n conn at old new l links r = StepsOn (half_by n old.connections l conn) k n conn at old new l links r

abbrev pub RecvSteps : ℕ → ℕ → ℕ → ℕ → Node → Node → Links → Links → Row → Type 0
RecvSteps k n conn at old new l links r = RecvStepsBy (is_node_up old) k n conn at old new l links r

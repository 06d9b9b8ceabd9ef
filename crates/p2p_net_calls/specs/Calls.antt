-- What each call of a node comes to, and what it makes of the node. No log: of the router's calls the log is a matter of its own.
use Rattle.std.specs.Prelude.{◌≡◌, ℕ, ◌+◌, Bool, true, false, slice_get}
use Rattle.p2p_log.specs.declared.entry.Reply.TheVariants as reply
use Rattle.p2p_log.specs.declared.event.Rate.{Rate}
use Rattle.p2p_log_rules.specs.declared.row.Row.{Row}
use Rattle.p2p_log_rules.specs.Effect.{only}
use Rattle.p2p_log_rules.specs.Listening.{quota_of}
use Rattle.p2p_flow_connection.specs.Arriving.{arrival_waiting}
use Rattle.p2p_net_queues.specs.Tables.{waiting}
use Rattle.p2p_net_channels.specs.Channels.{registered_with, has_reader, none_told, read_told, read_from, closed_row, closed_with}
use Rattle.p2p_net_gates.specs.Dialing.{started}
use Rattle.p2p_net_node.specs.Staying.{Stays}
use Rattle.p2p_net_node.specs.Requested.{capacity_by}
use Rattle.p2p_net_node.specs.Routing as routing
use Rattle.p2p_net_node.specs.declared.node.Node.{Node}

-- by whether the node has stopped
abbrev pub RegistersBy : Bool → ℕ → Rate → Node → Node → Row → Type 0
RegistersBy true c rate old new r = Stays old new r (only reply.Gone)
RegistersBy false c rate old new r =
    (r ≡ only (reply.Capacity (capacity_by old rate)))
    × ((new ≡ record old { router = new.router; channels = registered_with old.channels c (capacity_by old rate) (quota_of rate) }) × routing.Subscribes c old.router new.router)

abbrev pub Registers : ℕ → Rate → Node → Node → Row → Type 0
Registers c rate old new r = RegistersBy old.stopped c rate old new r

abbrev pub StartsBy : Bool → ℕ → ℕ → Node → Node → Row → Type 0
StartsBy true k at old new r = Stays old new r (only reply.Gone)
StartsBy false k at old new r =
    (new ≡ record old { router = new.router; dialing = started old.config at old.dialing }) × routing.Starts k (old.config.mailbox_size + old.channels.total) old.router new.router r

abbrev pub Starts : ℕ → ℕ → Node → Node → Row → Type 0
Starts k at old new r = StartsBy old.stopped k at old new r

-- by whether the channel has a reader, which hears where none will come
abbrev pub ReadsOn : Bool → ℕ → Node → Node → Row → Type 0
ReadsOn false c old new r = Stays old new r (only reply.Gone)
ReadsOn true c old new r =
    (r ≡ read_told (none_told old.channels.inbounds.ended) (arrival_waiting old.channels.inbounds c) (slice_get (waiting old.channels.waiting c) 0))
    × (new ≡ record old { channels = read_from c old.channels })

abbrev pub Reads : ℕ → Node → Node → Row → Type 0
Reads c old new r = ReadsOn (has_reader old.channels c) c old new r

abbrev pub ClosesOn : Bool → ℕ → Node → Node → Row → Type 0
ClosesOn false c old new r = Stays old new r (only reply.Gone)
ClosesOn true c old new r = (r ≡ closed_row (waiting old.channels.waiting c)) × (new ≡ record old { channels = closed_with c old.channels })

abbrev pub Closes : ℕ → Node → Node → Row → Type 0
Closes c old new r = ClosesOn (has_reader old.channels c) c old new r

-- What each step of the router, of the tracker and of the spawner comes to, and what it makes of the node. No log: of the router's calls
-- the log is a matter of its own.
use Rattle.std.specs.Prelude.{◌≡◌, ℕ, Bool, true, false, Option, Some, None, slice_get}
use Rattle.p2p_log.specs.declared.entry.Reply.TheVariants as reply
use Rattle.p2p_log_rules.specs.declared.row.Row.{Row}
use Rattle.p2p_log_rules.specs.Effect.{only}
use Rattle.p2p_log_rules.specs.Rows.{taken_row}
use Rattle.p2p_net_connections.specs.Connections.{answered, spawned_with}
use Rattle.p2p_net_tracker.specs.Stepping as tracking
use Rattle.p2p_base.specs.Queue.{oldest}
use Rattle.p2p_net_connections.specs.Spawner.{taken_by, without_first}
use Rattle.p2p_net_connections.specs.declared.spawner.Taken.{Taken}
use Rattle.p2p_net_node.specs.Staying.{Stays, Tracks}
use Rattle.p2p_net_node.specs.Ready.{is_node_up}
use Rattle.p2p_net_node.specs.Routing as routing
use Rattle.p2p_net_node.specs.declared.node.Node.{Node}

-- ---- the router's step

abbrev pub RoutesBy : Bool → ℕ → ℕ → Node → Node → Row → Type 0
RoutesBy false k n old new r = Stays old new r (only reply.Gone)
RoutesBy true k n old new r =
    (new ≡ record old { router = new.router; connections = record old.connections { answers = answered k n 0 r.puts old.connections.answers } })
    × routing.Steps k old.router new.router r

abbrev pub Routes : ℕ → ℕ → Node → Node → Row → Type 0
Routes k n old new r = RoutesBy (is_node_up old) k n old new r

-- ---- the tracker

abbrev pub TrackerStepsBy : Bool → ℕ → ℕ → ℕ → ℕ → Node → Node → Row → Type 0
TrackerStepsBy false k n at seed old new r = Stays old new r (only reply.Gone)
TrackerStepsBy true k n at seed old new r = tracking.Steps k n at seed old.tracker new.tracker r × Tracks new.tracker old new

-- ---- the spawner

-- by the message that it takes
abbrev pub SpawnsBy : Option Taken → ℕ → Node → Node → Row → Type 0
SpawnsBy None k old new r = (r ≡ only reply.Idle) × (new ≡ record old { spawning = without_first old.spawning })
SpawnsBy (Some t) k old new r =
    (r ≡ taken_row t.name)
    × (new ≡ record old { spawning = without_first old.spawning; connections = spawned_with k t.link t.reservation old.config.ping_frequency old.connections })

abbrev pub SpawnerStepsBy : Bool → ℕ → Node → Node → Row → Type 0
SpawnerStepsBy false k old new r = Stays old new r (only reply.Gone)
SpawnerStepsBy true k old new r = SpawnsBy (taken_by (slice_get old.spawning.names 0) (oldest old.spawning.mailbox)) k old new r

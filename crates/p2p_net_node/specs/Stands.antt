-- When the nodes and the links of a world stand for a log.
use Rattle.std.specs.Prelude.{◌≡◌, ℕ, ◌*◌, Bool, true, false, List, length, Option, Some, None, slice_get}
use Rattle.std.specs.Ordering.{nat_cmp}
use Rattle.std.specs.BTreeMap as tree
use Rattle.std.specs.BTreeMap.{BTreeMap}
use Rattle.p2p_base.specs.declared.key.Key.{Key}
use Rattle.p2p_log.specs.declared.config.Config.{Config}
use Rattle.p2p_log.specs.declared.entry.Entry.{Entry}
use Rattle.p2p_log_rules.specs.Connections.{is_begun, live_connection}
use Rattle.p2p_log_rules.specs.Facts.{is_stopped}
use Rattle.p2p_log_rules.specs.Spawning.{Spawned}
use Rattle.p2p_log_rules.specs.Valid.{config_fault}
use Rattle.p2p_net_router.specs.Resting.{RouterRests}
use Rattle.p2p_net_router.specs.Stands.{StandsFor}
use Rattle.p2p_net_router.specs.declared.router.Router.{Router}
use Rattle.p2p_net_channels.specs.Stands.{ChannelsStand}
use Rattle.p2p_net_connections.specs.Stands.{ConnectionsStand}
use Rattle.p2p_net_tracker.specs.Stands.{TrackerStands}
use Rattle.p2p_net_gates.specs.DialerStands.{DialerStands}
use Rattle.p2p_net_gates.specs.ListenerStands.{ListenerStands}
use Rattle.p2p_net_connections.specs.SpawnerStands.{SpawnerStands}
use Rattle.p2p_net_links.specs.Stands.{LinksStand}
use Rattle.p2p_net_links.specs.declared.links.Links.{Links}
use Rattle.p2p_net_node.specs.Places.{Part, router, channels, connections, tracker, dialer, listener, spawner}
use Rattle.p2p_net_node.specs.declared.node.Node.{Node}

-- the key with which a router knows a connection, by whether that has begun, while it has not ended
abbrev pub key_heard : Bool → Option Spawned → Option Key
key_heard true (Some c) = Some c.key
key_heard _ _ = None

-- a node's router knows those connections that have begun and have not ended, each with its key, and no other
abbrev pub HearsOfBegun : List Entry → ℕ → BTreeMap ℕ Key → Type 0
HearsOfBegun log n peers = (conn : ℕ) → tree.get nat_cmp peers conn ≡ key_heard (is_begun log n conn) (live_connection log n conn)

-- the router of a node, against the log
pub record RouterStands (configs : List Config) (log : List Entry) (n : ℕ) (r : Router) : Type 0 where
  pub number : r.number ≡ n
  pub stands : StandsFor configs log r
  pub hears : HearsOfBegun log n r.peers

-- the same by its life: once it has stopped, only its lists of peers stand for the log
pub record RouterLives (configs : List Config) (log : List Entry) (n : ℕ) (r : Router) : Type 0 where
  pub number : r.number ≡ n
  pub runs : is_stopped log n ≡ false → RouterStands configs log n r
  pub rests : is_stopped log n ≡ true → RouterRests configs log n r

-- a part of a node, against the log
abbrev pub PartStands : Part → List Config → List Entry → ℕ → Node → Type 0
PartStands router configs log n x = RouterLives configs log n x.router
PartStands channels configs log n x = ChannelsStand configs log n x.channels
PartStands connections configs log n x = ConnectionsStand configs log n x.connections
PartStands tracker configs log n x = TrackerStands configs log n x.tracker
PartStands dialer configs log n x = DialerStands configs log n x.dialing
PartStands listener configs log n x = ListenerStands configs log n x.listening
PartStands spawner configs log n x = SpawnerStands configs log n x.spawning

-- what a node has beside its parts: the sizes of its configuration, and it has found memory so far
pub record OwnStands (configs : List Config) (n : ℕ) (x : Node) : Type 0 where
  pub config : slice_get configs n ≡ Some x.config
  pub retained : x.retained ≡ x.config.max_peers_per_set * x.config.tracked_peer_sets
  pub works : x.failed ≡ false

-- a node knows whether it has stopped, and each part of it stands for the log
pub record NodeStands (configs : List Config) (log : List Entry) (n : ℕ) (x : Node) : Type 0 where
  pub own : OwnStands configs n x
  pub life : x.stopped ≡ is_stopped log n
  pub each : (p : Part) → PartStands p configs log n x

-- each node of valid configurations stands for the log, and so do the links: every queue holds its line
pub record WorldStands (configs : List Config) (log : List Entry) (nodes : List Node) (links : Links) : Type 0 where
  pub valid : config_fault configs ≡ None
  pub long : length nodes ≡ length configs
  pub each : (n : ℕ) (x : Node) → slice_get nodes n ≡ Some x → NodeStands configs log n x
  pub linked : LinksStand configs log links

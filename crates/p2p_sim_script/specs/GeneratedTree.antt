-- The JSON tree of a made script: the configurations of its nodes, and its events.
use Rattle.std.specs.Prelude.{ℕ, ◌+◌, ◌==◌, Bool, List, [], ◌∷◌, map, codes, if◌then◌else◌}
use Rattle.hex.specs.Hex.{encode_lower}
use Rattle.serde_json.specs.Data.{Data, null, boolean, number, unsigned, string, array, object, no_items, item, no_members, member, put}
use Rattle.serde_json.specs.View.{items_of}
use Rattle.p2p_address.specs.declared.ip.IpAddr.{IpAddr}
use Rattle.p2p_address.specs.declared.ip.IpAddr.TheVariants as ip
use Rattle.p2p_address.specs.declared.ip.SocketAddr.{SocketAddr}
use Rattle.p2p_log.specs.declared.event.Rate.{Rate}
use Rattle.p2p_log.specs.declared.event.Act.{Act}
use Rattle.p2p_log.specs.declared.event.Act.TheVariants as act
use Rattle.p2p_log.specs.declared.event.Event.{Event}
use Rattle.p2p_sim_script.specs.GeneratedActs.{socket_at}

abbrev pub number_tree : ℕ → Data
number_tree n = number (unsigned n)

abbrev pub numbers_tree : List ℕ → Data
numbers_tree ns = array (items_of (map number_tree ns))

-- ---- peers

abbrev pub ip_tree : IpAddr → Data
ip_tree (ip.V4 bytes) = numbers_tree bytes
ip_tree (ip.V6 bytes) = numbers_tree bytes

abbrev pub socket_tree : SocketAddr → Data
socket_tree s = object (member (codes "ip") (ip_tree s.ip) (member (codes "port") (number_tree s.port) no_members))

-- node i as a peer: its key, and where it is dialed and dials from
abbrev pub peer_tree : ℕ → Data
peer_tree i =
    array (item (number_tree (i + 1)) (item (object (member (codes "symmetric") (socket_tree (socket_at i 3000)) no_members)) no_items))

abbrev pub peers_tree : List ℕ → Data
peers_tree nodes = array (items_of (map peer_tree nodes))

-- ---- acts, at a moment

-- one that names its node alone
abbrev pub node_tree : ℕ → List ℕ → ℕ → Data
node_tree at word node = object (member (codes "at") (number_tree at) (member (codes "do") (string word) (member (codes "node") (number_tree node) no_members)))

-- one that names a number beside it
abbrev pub numbered_tree : ℕ → List ℕ → List ℕ → ℕ → ℕ → Data
numbered_tree at word name n node =
    object (put name (number_tree n) (member (codes "at") (number_tree at) (member (codes "do") (string word) (member (codes "node") (number_tree node) no_members))))

abbrev pub rate_tree : Rate → Data
rate_tree r = object (member (codes "burst") (number_tree r.burst) (member (codes "period") (number_tree r.period) no_members))

abbrev pub register_tree : ℕ → ℕ → ℕ → Rate → Data
register_tree at channel node quota =
    object (member (codes "at") (number_tree at) (member (codes "channel") (number_tree channel) (member (codes "do") (string (codes "register"))
    (member (codes "node") (number_tree node) (member (codes "quota") (rate_tree quota) no_members)))))

-- a node tracks these peers
abbrev pub tracking_tree : ℕ → Data → Data → ℕ → Data
tracking_tree at primary secondary node =
    object (member (codes "at") (number_tree at) (member (codes "do") (string (codes "track")) (member (codes "index") (number_tree 0)
    (member (codes "node") (number_tree node) (member (codes "primary") primary (member (codes "secondary") secondary no_members))))))

-- node 0 of a made script tracks the others, as secondary peers, and each of these node 0
abbrev pub track_tree : ℕ → ℕ → Data
track_tree at node =
    if node == 0 then tracking_tree at (peers_tree []) (peers_tree (1 ∷ 2 ∷ 3 ∷ [])) node
    else tracking_tree at (peers_tree (0 ∷ [])) (peers_tree []) node

abbrev pub connect_tree : ℕ → ℕ → SocketAddr → ℕ → ℕ → Data
connect_tree at attempt from node to =
    object (member (codes "at") (number_tree at) (member (codes "attempt") (number_tree attempt) (member (codes "do") (string (codes "connect"))
    (member (codes "from") (socket_tree from) (member (codes "node") (number_tree node) (member (codes "to") (number_tree to) no_members))))))

abbrev pub finish_tree : ℕ → ℕ → Bool → Data
finish_tree at link ok =
    object (member (codes "at") (number_tree at) (member (codes "do") (string (codes "finish")) (member (codes "link") (number_tree link)
    (member (codes "ok") (boolean ok) no_members))))

-- a send to all
abbrev pub send_tree : ℕ → List ℕ → ℕ → ℕ → Bool → Data
send_tree at bytes channel node priority =
    object (member (codes "at") (number_tree at) (member (codes "bytes") (string (encode_lower bytes)) (member (codes "channel") (number_tree channel)
    (member (codes "do") (string (codes "send")) (member (codes "node") (number_tree node) (member (codes "priority") (boolean priority)
    (member (codes "to") (string (codes "all")) no_members)))))))

-- an act of those by which nodes get their connections. There is nothing of an act that stands in no made script
abbrev pub begun_tree : ℕ → Act → Data
begun_tree at (act.Register channel node quota) = register_tree at channel node quota
begun_tree at (act.Start node) = node_tree at (codes "start") node
begun_tree at (act.Ask asked node) = track_tree at node
begun_tree at (act.Dialer node) = node_tree at (codes "dialer") node
begun_tree at (act.Listener node) = node_tree at (codes "listener") node
begun_tree at (act.Spawner node) = node_tree at (codes "spawner") node
begun_tree at (act.Attempt attempt node) = numbered_tree at (codes "attempt") (codes "attempt") attempt node
begun_tree at (act.Handshake handshake node) = numbered_tree at (codes "handshake") (codes "handshake") handshake node
begun_tree at (act.Connect attempt from node to) = connect_tree at attempt from node to
begun_tree at (act.Finish link ok) = finish_tree at link ok
begun_tree at _ = null

-- an act of a made script
abbrev pub act_tree : ℕ → Act → Data
act_tree at (act.Send bytes channel node priority to) = send_tree at bytes channel node priority
act_tree at (act.Router node) = node_tree at (codes "router") node
act_tree at (act.SendStep conn node) = numbered_tree at (codes "send_step") (codes "conn") conn node
act_tree at (act.RecvStep conn node) = numbered_tree at (codes "recv_step") (codes "conn") conn node
act_tree at (act.Recv channel node) = numbered_tree at (codes "recv") (codes "channel") channel node
act_tree at (act.Tracker node) = node_tree at (codes "tracker") node
act_tree at a = begun_tree at a

abbrev pub event_tree : Event → Data
event_tree e = act_tree e.at e.act

-- ---- the script

-- node i, as its configuration says it
abbrev pub config_tree : ℕ → Data
config_tree i =
    object (member (codes "key") (number_tree (i + 1)) (member (codes "mailbox_size") (number_tree 64) (member (codes "max_message_size") (number_tree 1024)
    (member (codes "max_peers_per_set") (number_tree 4) (member (codes "preset") (string (codes "local")) no_members)))))

abbrev pub configs_tree : Data
configs_tree = array (item (config_tree 0) (item (config_tree 1) (item (config_tree 2) (item (config_tree 3) no_items))))

-- the configurations of the four nodes, and these events
abbrev pub script_tree : List Event → Data
script_tree events = object (member (codes "configs") configs_tree (member (codes "script") (array (items_of (map event_tree events))) no_members))

-- The acts of a generated script: those of its beginning, and those that are drawn.
use Rattle.std.specs.Prelude.{ℕ, zero, suc, ◌+◌, ◌%◌, ◌==◌, Bool, true, false, List, [], ◌∷◌, ◌++◌, if◌then◌else◌}
use Rattle.std.specs.Int.{w32, to_be_bytes}
use Rattle.p2p_base.specs.declared.key.Key.{Key}
use Rattle.p2p_address.specs.declared.ip.IpAddr.TheVariants as ip
use Rattle.p2p_address.specs.declared.ip.SocketAddr.{SocketAddr}
use Rattle.p2p_address.specs.declared.peer.Address.{Address}
use Rattle.p2p_address.specs.declared.peer.Address.TheVariants as address
use Rattle.p2p_flow.specs.declared.addressable.AddressableTrackedPeers.{AddressableTrackedPeers}
use Rattle.p2p_log.specs.declared.asked.Asked.TheVariants as ask
use Rattle.p2p_log.specs.declared.event.Act.{Act}
use Rattle.p2p_log.specs.declared.event.Act.TheVariants as act
use Rattle.p2p_log.specs.declared.event.Recipients.TheVariants as recipients

-- ---- nodes

-- the key of node i
abbrev pub key_at : ℕ → Key
key_at i = record { 0 = i + 1 }

-- a port of node i
abbrev pub socket_at : ℕ → ℕ → SocketAddr
socket_at i port = record { ip = ip.V4 (10 ∷ 0 ∷ 0 ∷ (i + 1) ∷ []); port = port }

-- node i as a peer: its key, and where it is dialed and dials from
abbrev pub peer_at : ℕ → Key × Address
peer_at i = (key_at i, address.Symmetric (socket_at i 3000))

-- whom node i tracks: node 0 the others, as secondary peers, and each of these node 0
abbrev pub tracked_at : ℕ → AddressableTrackedPeers Key
tracked_at i =
    if i == 0 then record { primary = []; secondary = peer_at 1 ∷ peer_at 2 ∷ peer_at 3 ∷ [] }
    else record { primary = peer_at 0 ∷ []; secondary = [] }

-- ---- the beginning

-- node i gets a channel, starts and tracks its peers
abbrev pub starting : ℕ → List Act
starting i =
    act.Register 0 i (record { burst = 64; period = 15625000 })
    ∷ act.Start i
    ∷ act.Ask (ask.Track 0 (tracked_at i)) i
    ∷ act.Tracker i
    ∷ []

-- node i dials node 0, they exchange keys, and each has a connection with the other; the first act is that of the event b
abbrev pub connecting : ℕ → ℕ → List Act
connecting i b =
    act.Dialer i
    ∷ act.Tracker i
    ∷ act.Dialer i
    ∷ act.Tracker i
    ∷ act.Dialer i
    ∷ act.Connect (b + 4) (socket_at i 40000) i 0
    ∷ act.Attempt (b + 4) i
    ∷ act.Listener 0
    ∷ act.Tracker 0
    ∷ act.Handshake (b + 7) 0
    ∷ act.Finish (b + 5) true
    ∷ act.Attempt (b + 4) i
    ∷ act.Handshake (b + 7) 0
    ∷ act.Tracker 0
    ∷ act.Handshake (b + 7) 0
    ∷ act.Spawner i
    ∷ act.Spawner 0
    ∷ act.SendStep (b + 15) i
    ∷ act.SendStep (b + 16) 0
    ∷ act.Router i
    ∷ act.Router i
    ∷ act.Router 0
    ∷ act.SendStep (b + 15) i
    ∷ act.SendStep (b + 16) 0
    ∷ act.Tracker i
    ∷ act.Tracker 0
    ∷ []

-- node 0 listens
abbrev pub listening : List Act
listening = act.Listener 0 ∷ act.Router 0 ∷ []

-- the acts of the events 0 to 95
abbrev pub beginning : List Act
beginning =
    starting 0 ++ starting 1 ++ starting 2 ++ starting 3
    ++ listening
    ++ connecting 1 18 ++ connecting 2 44 ++ connecting 3 70

-- ---- what is drawn

-- the half c of the three connections: its node, and the event that made it
abbrev pub half_at : ℕ → ℕ × ℕ
half_at c =
    if c == 0 then (1, 33)
    else if c == 1 then (0, 34)
    else if c == 2 then (2, 59)
    else if c == 3 then (0, 60)
    else if c == 4 then (3, 85)
    else (0, 86)

-- a send to all of the number of its event
abbrev pub number_sent : ℕ → ℕ → Bool → Act
number_sent n node priority = act.Send (to_be_bytes w32 n) 0 node priority recipients.All

-- the act of the event n for which a and c were drawn: a says what is done, and c where
abbrev pub drawn_act : ℕ → ℕ → ℕ → Act
drawn_act n a c =
    if a == 0 then number_sent n (c % 4) false
    else if a == 1 then number_sent n (c % 4) true
    else if a == 2 then act.Router (c % 4)
    else if a == 3 then act.Router (c % 4)
    else if a == 4 then act.SendStep (half_at c).1 (half_at c).0
    else if a == 5 then act.RecvStep (half_at c).1 (half_at c).0
    else if a == 6 then act.Recv 0 (c % 4)
    else act.Tracker (c % 4)

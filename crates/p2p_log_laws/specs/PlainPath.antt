-- The plain path of a message from one node to another, written out by hand: both track each other, one dials the other, a
-- connection begins at both, and what the first sends is read by the second. All is at one moment.
use Rattle.std.specs.Prelude.{ℕ, true, false, List, [], ◌∷◌, ◌++◌, Some, None}
use Rattle.p2p_address.specs.declared.ip.IpAddr.{IpAddr}
use Rattle.p2p_address.specs.declared.ip.IpAddr.TheVariants.{V4}
use Rattle.p2p_address.specs.declared.ip.SocketAddr.{SocketAddr}
use Rattle.p2p_address.specs.declared.peer.Address.TheVariants.{Symmetric}
use Rattle.p2p_address.specs.declared.peer.Ingress.TheVariants.{Socket}
use Rattle.p2p_base.specs.declared.outcome.Feedback.TheVariants as feedback
use Rattle.p2p_tracker_calls.specs.declared.gates.Reply.TheVariants as gates
use Rattle.p2p_log.specs.declared.asked.Asked.TheVariants as ask
use Rattle.p2p_log.specs.declared.config.Config.{Config}
use Rattle.p2p_log.specs.declared.queue.Queue.{Queue}
use Rattle.p2p_log.specs.declared.queue.Queue.TheVariants as queue
use Rattle.p2p_log.specs.declared.queue.Side.TheVariants as side
use Rattle.p2p_log.specs.declared.item.Item.{Item}
use Rattle.p2p_log.specs.declared.item.Item.TheVariants as item
use Rattle.p2p_log.specs.declared.end.End.TheVariants as end
use Rattle.p2p_log.specs.declared.end.Outcome.TheVariants as outcome
use Rattle.p2p_log.specs.declared.entry.Entry.{Entry}
use Rattle.p2p_log.specs.declared.entry.Reply.TheVariants as reply
use Rattle.p2p_log.specs.declared.event.Act.{Act}
use Rattle.p2p_log.specs.declared.event.Act.TheVariants as act
use Rattle.p2p_log_laws.specs.Worked.{key, node_of, entry, register, hello, hello_frame, send_hello}

abbrev pub two_nodes : List Config
two_nodes = node_of 1 ∷ node_of 2 ∷ []

-- 10.0.0.1 and 10.0.0.2, and a port of each
abbrev pub ip : ℕ → IpAddr
ip k = V4 (10 ∷ 0 ∷ 0 ∷ k ∷ [])

abbrev pub socket : ℕ → ℕ → SocketAddr
socket k port = record { ip = ip k; port = port }

-- both keys are to be tracked, each at its address, as a node's first set
abbrev pub track : ℕ → Act
track n = act.Ask (ask.Track 0 (record { primary = (key 1, Symmetric (socket 1 3000)) ∷ (key 2, Symmetric (socket 2 3000)) ∷ []; secondary = [] })) n

-- an entry that answers Ok and ends nothing
abbrev pub done : Act → List (ℕ × ℕ) → List (Queue × Item) → Entry
done a takes puts = entry a reply.Ok takes puts []

-- the entry of this number asks the node's tracker for that
abbrev pub asked : ℕ → ℕ → Entry
asked n number = entry (track n) (reply.Feedback feedback.Ok) [] ((queue.Tracker n, item.Call number) ∷ []) []

-- entries 0 to 7: both start, and their trackers take the set
abbrev pub nodes_start : List Entry
nodes_start =
    entry (register 0) (reply.Capacity 8) [] [] []
    ∷ entry (register 1) (reply.Capacity 8) [] [] []
    ∷ done (act.Start 0) [] ((queue.Router 0, item.Subscribe 7) ∷ [])
    ∷ done (act.Start 1) [] ((queue.Router 1, item.Subscribe 7) ∷ [])
    ∷ asked 0 4
    ∷ asked 1 5
    ∷ done (act.Tracker 0) ((4, 0) ∷ []) ((queue.Addresses 0, item.Addresses (ip 2 ∷ [])) ∷ [])
    ∷ done (act.Tracker 1) ((5, 0) ∷ []) ((queue.Addresses 1, item.Addresses (ip 1 ∷ [])) ∷ [])
    ∷ []

-- entries 8 and 9: the first node's dialer asks whom to dial
abbrev pub dialer_asks : List Entry
dialer_asks =
    done (act.Dialer 0) [] ((queue.Tracker 0, item.AskDialable) ∷ [])
    ∷ done (act.Tracker 0) ((8, 0) ∷ []) ((queue.Dialer 0, item.Dialable None (key 2 ∷ [])) ∷ [])
    ∷ []

-- entry 10: it takes the keys in an order that is drawn, and asks for the one that there is
abbrev pub dial_drawn : Entry
dial_drawn = done (act.Dialer 0) ((9, 0) ∷ []) ((queue.Tracker 0, item.AskDial (key 2)) ∷ [])

-- entries 11 to 15: it is granted, an attempt gets a link, and the second node's listener takes the addresses
abbrev pub link_made : List Entry
link_made =
    done (act.Tracker 0) ((10, 0) ∷ []) ((queue.Dialer 0, item.Dial (Some (key 2, Socket (socket 2 3000)))) ∷ [])
    ∷ done (act.Dialer 0) ((11, 0) ∷ []) []
    ∷ done (act.Connect 12 (socket 1 40000) 0 1) [] ((queue.Attempt 0 12, item.Linked) ∷ (queue.Arrivals 1, item.Arrival (socket 1 40000) (key 1) 13) ∷ [])
    ∷ done (act.Attempt 12 0) ((13, 0) ∷ []) []
    ∷ done (act.Listener 1) ((7, 0) ∷ []) []
    ∷ []

-- entry 16: the listener admits the arrival, which both quotas let pass
abbrev pub arrival_admitted : Entry
arrival_admitted = entry (act.Listener 1) (reply.Gates gates.Admitted) ((13, 1) ∷ []) ((queue.Tracker 1, item.AskAcceptable 16 (key 1)) ∷ []) []

-- entries 17 to 23: keys are exchanged, and both ends ask for a connection
abbrev pub keys_exchanged : List Entry
keys_exchanged =
    done (act.Tracker 1) ((16, 0) ∷ []) ((queue.Handshake 1 16, item.Acceptable true) ∷ [])
    ∷ done (act.Handshake 16 1) ((17, 0) ∷ []) []
    ∷ done (act.Finish 13 true) [] ((queue.Attempt 0 12, item.Finished true) ∷ (queue.Handshake 1 16, item.Finished true) ∷ [])
    ∷ done (act.Attempt 12 0) ((19, 0) ∷ []) ((queue.Spawner 0, item.Spawn (key 2) 13) ∷ [])
    ∷ done (act.Handshake 16 1) ((19, 1) ∷ []) ((queue.Tracker 1, item.AskListen 16 (key 1)) ∷ [])
    ∷ done (act.Tracker 1) ((21, 0) ∷ []) ((queue.Handshake 1 16, item.Listen (Some (key 1))) ∷ [])
    ∷ done (act.Handshake 16 1) ((22, 0) ∷ []) ((queue.Spawner 1, item.Spawn (key 1) 13) ∷ [])
    ∷ []

-- entries 24 to 28: the spawners make the connections, both begin, and the first router hears of its channel
abbrev pub connections_begin : List Entry
connections_begin =
    done (act.Spawner 0) ((20, 0) ∷ []) []
    ∷ done (act.Spawner 1) ((23, 0) ∷ []) []
    ∷ done (act.SendStep 24 0) [] ((queue.Tracker 0, item.Connect 24 (key 2)) ∷ (queue.Router 0, item.Ready 24 (key 2)) ∷ [])
    ∷ done (act.SendStep 25 1) [] ((queue.Tracker 1, item.Connect 25 (key 1)) ∷ (queue.Router 1, item.Ready 25 (key 1)) ∷ [])
    ∷ done (act.Router 0) ((2, 0) ∷ []) ((queue.Peers 0 7, item.Peers []) ∷ [])
    ∷ []

-- entry 29: the router hears of the connection, and the channel's list of peers, which nobody has read, is overwritten
abbrev pub list_overwritten : Entry
list_overwritten =
    entry (act.Router 0) reply.Ok ((26, 1) ∷ []) ((queue.RouterAnswer 0 24, item.RouterAnswer) ∷ (queue.Peers 0 7, item.Peers (key 2 ∷ [])) ∷ []) (end.Item 28 0 ∷ [])

-- entries 30 to 35: the second router does so too, both connections take their routers' answers, and both trackers hear of them
abbrev pub connections_run : List Entry
connections_run =
    done (act.Router 1) ((3, 0) ∷ []) ((queue.Peers 1 7, item.Peers []) ∷ [])
    ∷ entry (act.Router 1) reply.Ok ((27, 1) ∷ []) ((queue.RouterAnswer 1 25, item.RouterAnswer) ∷ (queue.Peers 1 7, item.Peers (key 1 ∷ [])) ∷ []) (end.Item 30 0 ∷ [])
    ∷ done (act.SendStep 24 0) ((29, 0) ∷ []) []
    ∷ done (act.SendStep 25 1) ((31, 0) ∷ []) []
    ∷ done (act.Tracker 0) ((26, 0) ∷ []) []
    ∷ done (act.Tracker 1) ((27, 0) ∷ []) []
    ∷ []

-- entries 36 to 40: a message is sent, relayed, written, received and read
abbrev pub message_goes : List Entry
message_goes =
    entry send_hello (reply.Sent (key 2 ∷ [])) [] ((queue.Router 0, item.Content 7 hello_frame false 36 (key 2 ∷ [])) ∷ []) []
    ∷ done (act.Router 0) ((36, 0) ∷ []) ((queue.Low 0 24, item.Frame (Some (36, 0)) hello_frame) ∷ [])
    ∷ done (act.SendStep 24 0) ((37, 0) ∷ []) ((queue.Link 13 side.Out, item.Frame (Some (36, 0)) hello_frame) ∷ [])
    ∷ done (act.RecvStep 25 1) ((38, 0) ∷ []) ((queue.Channel 1 7, item.Message hello (36, 0) (key 1)) ∷ [])
    ∷ entry (act.Recv 7 1) (reply.Message hello (key 1)) ((39, 0) ∷ []) [] (end.Copy 36 0 outcome.Delivered ∷ [])
    ∷ []

-- ---- the log

-- entries 0 to 9
abbrev pub before_drawn : List Entry
before_drawn = nodes_start ++ dialer_asks

-- entries 0 to 15
abbrev pub before_admitted : List Entry
before_admitted = before_drawn ++ dial_drawn ∷ link_made

-- entries 0 to 28
abbrev pub delivery_begins : List Entry
delivery_begins = before_admitted ++ arrival_admitted ∷ keys_exchanged ++ connections_begin

-- all 41
abbrev pub delivery : List Entry
delivery = delivery_begins ++ list_overwritten ∷ connections_run ++ message_goes

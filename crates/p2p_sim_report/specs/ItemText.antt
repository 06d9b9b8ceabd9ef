-- The text of an item, and of a put: a queue and an item.
use Rattle.std.specs.Prelude.{ℕ, Bool, List, ◌++◌, codes, Option, Some, None}
use Rattle.p2p_base.specs.declared.key.Key.{Key}
use Rattle.p2p_log.specs.declared.queue.Queue.{Queue}
use Rattle.p2p_log.specs.declared.item.Item.{Item}
use Rattle.p2p_log.specs.declared.item.Item.TheVariants as item
use Rattle.p2p_sim_report.specs.Text.{number_onto, flag_onto, key_onto, hex_onto, name_onto, list_onto}
use Rattle.p2p_sim_report.specs.QueueText.{queue_onto}
use Rattle.p2p_sim_report.specs.AddressText.{ip_onto}
use Rattle.p2p_sim_report.specs.PeersText.{peer_set_onto, update_onto}
use Rattle.p2p_sim_report.specs.TrackerItemText.{call_onto, connect_onto, ask_dial_onto, ask_acceptable_onto, ask_listen_onto, release_onto, dialable_onto, dial_onto, acceptable_onto, listen_onto, resolved_onto, finished_onto, arrival_onto, spawn_onto}

abbrev pub subscribe_onto : List ℕ → ℕ → List ℕ
subscribe_onto out c = number_onto (out ++ codes "{\"subscribe\":") c ++ codes "}"

abbrev pub ready_onto : List ℕ → ℕ → Key → List ℕ
ready_onto out conn k = key_onto (number_onto (out ++ codes "{\"ready\":{\"conn\":") conn ++ codes ",\"key\":") k ++ codes "}}"

-- a content up to the value of its `send`
abbrev pub content_start_onto : List ℕ → ℕ → List ℕ → Bool → List ℕ
content_start_onto out c frame priority =
    flag_onto (hex_onto (number_onto (out ++ codes "{\"content\":{\"channel\":") c ++ codes ",\"frame\":") frame ++ codes ",\"priority\":") priority
    ++ codes ",\"send\":"

abbrev pub content_onto : List ℕ → ℕ → List ℕ → Bool → ℕ → List Key → List ℕ
content_onto out c frame priority send to =
    list_onto key_onto (number_onto (content_start_onto out c frame priority) send ++ codes ",\"to\":") to ++ codes "}}"

-- the name of a copy, if there is one
abbrev pub copy_onto : List ℕ → Option (ℕ × ℕ) → List ℕ
copy_onto out None = out ++ codes "null"
copy_onto out (Some name) = name_onto out name

abbrev pub frame_onto : List ℕ → Option (ℕ × ℕ) → List ℕ → List ℕ
frame_onto out copy frame = hex_onto (copy_onto (out ++ codes "{\"copy\":") copy ++ codes ",\"frame\":") frame ++ codes "}"

-- a message that is held until its channel's quota admits it
abbrev pub held_onto : List ℕ → ℕ → List ℕ → ℕ × ℕ → List ℕ
held_onto out c bytes copy =
    name_onto (number_onto (hex_onto (out ++ codes "{\"bytes\":") bytes ++ codes ",\"channel\":") c ++ codes ",\"copy\":") copy ++ codes "}"

abbrev pub message_onto : List ℕ → List ℕ → ℕ × ℕ → Key → List ℕ
message_onto out bytes copy from =
    key_onto (name_onto (hex_onto (out ++ codes "{\"bytes\":") bytes ++ codes ",\"copy\":") copy ++ codes ",\"from\":") from ++ codes "}"

abbrev pub item_onto : List ℕ → Item → List ℕ
item_onto out (item.Subscribe c) = subscribe_onto out c
item_onto out (item.Ready conn k) = ready_onto out conn k
item_onto out (item.Content c frame priority send to) = content_onto out c frame priority send to
item_onto out (item.Peers keys) = list_onto key_onto out keys
item_onto out item.RouterAnswer = out ++ codes "true"
item_onto out (item.Frame copy frame) = frame_onto out copy frame
item_onto out (item.Held c bytes copy) = held_onto out c bytes copy
item_onto out item.Ping = out ++ codes "\"ping\""
item_onto out (item.Message bytes copy from) = message_onto out bytes copy from
item_onto out (item.Call e) = call_onto out e
item_onto out (item.Connect conn k) = connect_onto out conn k
item_onto out item.AskDialable = out ++ codes "{\"dialable\":true}"
item_onto out (item.AskDial k) = ask_dial_onto out k
item_onto out (item.AskAcceptable handshake k) = ask_acceptable_onto out handshake k
item_onto out (item.AskListen handshake k) = ask_listen_onto out handshake k
item_onto out (item.Release k) = release_onto out k
item_onto out (item.Addresses addresses) = list_onto ip_onto out addresses
item_onto out (item.Dialable next peers) = dialable_onto out next peers
item_onto out (item.Dial grant) = dial_onto out grant
item_onto out (item.Resolved addresses) = resolved_onto out addresses
item_onto out item.Linked = out ++ codes "\"linked\""
item_onto out item.Refused = out ++ codes "\"refused\""
item_onto out (item.Finished ok) = finished_onto out ok
item_onto out (item.Arrival from k link) = arrival_onto out from k link
item_onto out (item.Acceptable accepts) = acceptable_onto out accepts
item_onto out (item.Listen grant) = listen_onto out grant
item_onto out (item.Spawn k link) = spawn_onto out k link
item_onto out item.Kill = out ++ codes "\"kill\""
item_onto out (item.PeerSet peers) = peer_set_onto out peers
item_onto out (item.PeerSetUpdate update) = update_onto out update
item_onto out (item.Blocked keys) = list_onto key_onto out keys

-- a put: [queue,item]
abbrev pub put_onto : List ℕ → Queue × Item → List ℕ
put_onto out x = item_onto (queue_onto (out ++ codes "[") x.0 ++ codes ",") x.1 ++ codes "]"

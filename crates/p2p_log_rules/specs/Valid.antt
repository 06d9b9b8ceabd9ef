-- Valid input: configurations and events that may be asked for. It reads the input alone.
use Rattle.std.specs.Prelude.{ℕ, ◌+◌, ◌*◌, ◌^◌, Bool, false, ◌==◌, ◌&&◌, not, cond, nat_le, nat_lt, List, [], ◌∷◌, ◌++◌, length, Option, Some, None, slice_get, is_some}
use Rattle.std.specs.List.{list_any}
use Rattle.p2p_base.specs.declared.key.Key.{Key}
use Rattle.p2p_log.specs.declared.config.Config.{Config}
use Rattle.p2p_log.specs.declared.event.Event.{Event}
use Rattle.p2p_log.specs.declared.event.Rate.{Rate}
use Rattle.p2p_log.specs.declared.asked.Asked.TheVariants as ask
use Rattle.p2p_log.specs.declared.event.Act.{Act}
use Rattle.p2p_log.specs.declared.event.Act.TheVariants as act
use Rattle.p2p_log_rules.specs.Facts.{has_started, registered, capacity_for, capacity_in, sum_capacities, latest_moment}
use Rattle.p2p_log_rules.specs.Effect.{mailbox_size_at}

-- ---- configurations

-- what can be counted in 64 bits
abbrev pub fits_usize : ℕ → Bool
fits_usize n = nat_lt n (2 ^ 64)

-- a quota admits something, sometimes
abbrev pub is_quota : Rate → Bool
is_quota r = nat_lt 0 r.burst && nat_lt 0 r.period

-- sizes and counts are 1 or more, a link takes the messages, and the retained peers can be counted
abbrev pub sizes_fit : Config → Bool
sizes_fit c =
    (((nat_lt 0 c.max_peers_per_set && nat_lt 0 c.mailbox_size) && (nat_lt 0 c.tracked_peer_sets && nat_lt 0 c.send_batch_size))
    && nat_le c.max_message_size 16777200)
    && fits_usize (c.max_peers_per_set * c.tracked_peer_sets)

-- some handshake may run, and some peer may connect
abbrev pub gates_fit : Config → Bool
gates_fit c = nat_lt 0 c.max_concurrent_handshakes && (is_quota c.allowed_handshake_rate_per_ip && is_quota c.allowed_handshake_rate_per_subnet)

abbrev pub fits : Config → Bool
fits c = sizes_fit c && gates_fit c

abbrev pub has_key : Key → Config → Bool
has_key key c = c.public_key.0 == key.0

-- a configuration that fits, with a key that none of these has
abbrev pub is_valid_config : List Config → Config → Bool
is_valid_config before c = fits c && not (list_any (has_key c.public_key) before)

-- the first configuration that breaks this, of those after these
unfoldable pub config_fault_from : List Config → List Config → Option ℕ
config_fault_from before [] = None
config_fault_from before (c ∷ cs) = cond (is_valid_config before c) (config_fault_from (before ++ c ∷ []) cs) (Some (length before))

abbrev pub config_fault : List Config → Option ℕ
config_fault configs = config_fault_from [] configs

-- ---- events

-- whether an act is a step of the node's spawner
abbrev pub spawns_node : ℕ → Option Event → Bool
spawns_node n None = false
spawns_node n (Some v) = elim v.act [ act.Spawner m ↦ m == n | _ ↦ false ]

-- whether an earlier event is a step of the node's spawner
abbrev pub names_spawner : List Event → ℕ → ℕ → Bool
names_spawner events n conn = spawns_node n (slice_get events conn)

-- whether an act is a step of the node's dialer
abbrev pub dials_node : ℕ → Option Event → Bool
dials_node n None = false
dials_node n (Some v) = elim v.act [ act.Dialer m ↦ m == n | _ ↦ false ]

-- whether an earlier event is a step of the node's dialer
abbrev pub names_dialer : List Event → ℕ → ℕ → Bool
names_dialer events n e = dials_node n (slice_get events e)

-- the node at which an act checks, where it does
abbrev pub checked_by : Act → Option ℕ
checked_by (act.Check c n to) = Some n
checked_by _ = None

abbrev pub checked_of : Option Event → Option ℕ
checked_of None = None
checked_of (Some v) = checked_by v.act

-- whether an act links an attempt of a node that is there to one that is
abbrev pub links_nodes : List Config → Act → Bool
links_nodes configs (act.Connect e from n to) = nat_lt n (length configs) && nat_lt to (length configs)
links_nodes configs _ = false

abbrev pub is_linking : List Config → Option Event → Bool
is_linking configs None = false
is_linking configs (Some v) = links_nodes configs v.act

-- whether an earlier event links an attempt to a node
abbrev pub names_link : List Config → List Event → ℕ → Bool
names_link configs events link = is_linking configs (slice_get events link)

-- whether an act is a step of the node's listener
abbrev pub listens_node : ℕ → Option Event → Bool
listens_node n None = false
listens_node n (Some v) = elim v.act [ act.Listener m ↦ m == n | _ ↦ false ]

-- whether an earlier event is a step of the node's listener
abbrev pub names_listener : List Event → ℕ → ℕ → Bool
names_listener events n e = listens_node n (slice_get events e)

-- a channel is registered once, before the start, with a quota, and its capacity and their sum can be counted
abbrev pub may_register : List Config → List Event → ℕ → ℕ → Rate → Bool
may_register configs events c n rate =
    let channels = registered configs events n in
    let capacity = capacity_for (slice_get configs n) rate in
    ((not (has_started events n) && not (is_some (capacity_in channels c))) && is_quota rate)
    && (fits_usize capacity && fits_usize (mailbox_size_at configs n + (sum_capacities channels + capacity)))

-- the node that an act asks for a peer set
abbrev pub set_asked_by : Act → Option ℕ
set_asked_by (act.Ask (ask.PeerSet index) n) = Some n
set_asked_by _ = None

abbrev pub set_asked_of : Option Event → Option ℕ
set_asked_of None = None
set_asked_of (Some v) = set_asked_by v.act

-- the node at which an act subscribes
abbrev pub subscribed_by : Act → Option ℕ
subscribed_by (act.Ask ask.Subscribe n) = Some n
subscribed_by (act.Ask ask.Blocked n) = Some n
subscribed_by _ = None

abbrev pub subscribed_at : Option Event → Option ℕ
subscribed_at None = None
subscribed_at (Some v) = subscribed_by v.act

abbrev pub is_node : List Config → Option ℕ → Bool
is_node configs None = false
is_node configs (Some n) = nat_lt n (length configs)

-- an event names a node in range, and earlier events of the kind that it needs
abbrev pub may_act : List Config → List Event → Act → Bool
may_act configs events (act.Register c n rate) = nat_lt n (length configs) && may_register configs events c n rate
may_act configs events (act.Start n) = nat_lt n (length configs) && not (has_started events n)
may_act configs events (act.Stop by_start n) = nat_lt n (length configs) && not (by_start && has_started events n)
may_act configs events (act.Send bytes c n priority to) = nat_lt n (length configs)
may_act configs events (act.Check c n to) = nat_lt n (length configs)
may_act configs events (act.SendChecked bytes check priority) = is_node configs (checked_of (slice_get events check))
may_act configs events (act.Router n) = nat_lt n (length configs)
may_act configs events (act.SendStep conn n) = nat_lt n (length configs) && names_spawner events n conn
may_act configs events (act.RecvStep conn n) = nat_lt n (length configs) && names_spawner events n conn
may_act configs events (act.Recv c n) = nat_lt n (length configs)
may_act configs events (act.Close c n) = nat_lt n (length configs)
may_act configs events (act.Ask what n) = nat_lt n (length configs)
may_act configs events (act.Answer e) = is_node configs (set_asked_of (slice_get events e))
may_act configs events (act.Next e) = is_node configs (subscribed_at (slice_get events e))
may_act configs events (act.Tracker n) = nat_lt n (length configs)
may_act configs events (act.Dialer n) = nat_lt n (length configs)
may_act configs events (act.Listener n) = nat_lt n (length configs)
may_act configs events (act.Handshake e n) = nat_lt n (length configs) && names_listener events n e
may_act configs events (act.Spawner n) = nat_lt n (length configs)
may_act configs events (act.Attempt e n) = nat_lt n (length configs) && names_dialer events n e
may_act configs events (act.Resolve addresses e n) = nat_lt n (length configs) && names_dialer events n e
may_act configs events (act.Connect e from n to) = nat_lt n (length configs) && (nat_lt to (length configs) && names_dialer events n e)
may_act configs events (act.Refuse e n) = nat_lt n (length configs) && names_dialer events n e
may_act configs events (act.Finish link ok) = names_link configs events link
may_act configs events (act.Cut link) = names_link configs events link

-- moments never go back
unfoldable pub is_valid_event : List Config → List Event → Event → Bool
is_valid_event configs events v = nat_le (latest_moment events) v.at && may_act configs events v.act

-- the first event that breaks this, of those after these
unfoldable pub event_fault_from : List Config → List Event → List Event → Option ℕ
event_fault_from configs before [] = None
event_fault_from configs before (v ∷ vs) =
    cond (is_valid_event configs before v) (event_fault_from configs (before ++ v ∷ []) vs) (Some (length before))

abbrev pub event_fault : List Config → List Event → Option ℕ
event_fault configs script = event_fault_from configs [] script

-- When a node may be asked for an act, by what it is.
use Rattle.std.specs.Prelude.{◌≡◌, ℕ, ◌+◌, ◌^◌, ◌<◌, ◌≤◌, Bool, true, false, ◌&&◌, ◌==◌, not, nat_lt, nat_le, List, length, Option, Some, None, IsTrue, IfSome, is_some, slice_get}
use Rattle.std.specs.List.Sorted.{IsStrictlySortedBy}
use Rattle.std.specs.Map.{keys_of}
use Rattle.std.specs.Ordering.{nat_cmp}
use Rattle.p2p_log.specs.declared.event.Rate.{Rate}
use Rattle.p2p_log.specs.declared.entry.Entry.{Entry}
use Rattle.p2p_log.specs.declared.event.Event.{Event}
use Rattle.p2p_log.specs.declared.event.Act.{Act}
use Rattle.p2p_log.specs.declared.event.Act.TheVariants as act
use Rattle.p2p_log_rules.specs.Valid.{fits_usize, is_quota, checked_by, set_asked_by, subscribed_by}
use Rattle.p2p_router.specs.Messenger.{is_unbound, is_bound}
use Rattle.p2p_net_queues.specs.Tables as table
use Rattle.p2p_log_rules.specs.Tracking.{key_cmp}
use Rattle.p2p_tracker_mailbox.specs.Desk.{next_message}
use Rattle.p2p_tracker.specs.Serving.{MayTake}
use Rattle.p2p_net_links.specs.declared.links.Links.{Links}
use Rattle.p2p_net_tracker.specs.Reading.{MayAnswer, MayRead}
use Rattle.p2p_net_node.specs.Meetings.{meeting_of, MeetsThere}
use Rattle.p2p_net_node.specs.Places.{node_of, other_of}
use Rattle.p2p_net_node.specs.declared.meeting.Meeting.{Meeting}
use Rattle.p2p_net_node.specs.Requested.{capacity_by}
use Rattle.p2p_net_node.specs.declared.node.Node.{Node}
use Rattle.p2p_net_node.specs.declared.requested.Requested.{Requested}

-- whether a node has started, and has not stopped since
abbrev pub is_node_up : Node → Bool
is_node_up x = is_bound x.router.messenger.binding

-- whether a channel may be registered, by what was requested so far
abbrev pub may_register : Node → Requested → ℕ → Rate → Bool
may_register x r c rate =
    ((not r.started && not (is_some (table.at r.capacities c))) && is_quota rate)
    && (fits_usize (capacity_by x rate) && fits_usize (x.config.mailbox_size + (r.total + capacity_by x rate)))

abbrev pub is_spawn_of : ℕ → Act → Bool
is_spawn_of n a = elim a [ act.Spawner m ↦ m == n | _ ↦ false ]

-- whether this entry is of a step of the node's spawner
abbrev pub names_spawner : ℕ → Option Entry → Bool
names_spawner n None = false
names_spawner n (Some e) = is_spawn_of n e.event.act

abbrev pub is_dial_of : ℕ → Act → Bool
is_dial_of n a = elim a [ act.Dialer m ↦ m == n | _ ↦ false ]

-- whether this entry is of a step of the node's dialer
abbrev pub names_dialer : ℕ → Option Entry → Bool
names_dialer n None = false
names_dialer n (Some e) = is_dial_of n e.event.act

abbrev pub is_listening_of : ℕ → Act → Bool
is_listening_of n a = elim a [ act.Listener m ↦ m == n | _ ↦ false ]

-- whether this entry is of a step of the node's listener
abbrev pub names_listener : ℕ → Option Entry → Bool
names_listener n None = false
names_listener n (Some e) = is_listening_of n e.event.act

abbrev pub is_link : Act → Bool
is_link a = elim a [ act.Connect e from n to ↦ true | _ ↦ false ]

-- whether this entry links an attempt to a node
abbrev pub links_attempt : Option Entry → Bool
links_attempt None = false
links_attempt (Some e) = is_link e.event.act

-- whether this entry is of a check
abbrev pub checks : Option Entry → Bool
checks None = false
checks (Some e) = is_some (checked_by e.event.act)

-- whether this entry is of a question for a peer set
abbrev pub asks_set : Option Entry → Bool
asks_set None = false
asks_set (Some e) = is_some (set_asked_by e.event.act)

-- whether this entry is of a subscription
abbrev pub subscribes : Option Entry → Bool
subscribes None = false
subscribes (Some e) = is_some (subscribed_by e.event.act)

-- whether a node may be asked, after these entries and by what was requested of it so far
abbrev pub may_ask : List Entry → Node → Requested → Act → Bool
may_ask log x r (act.Register c n rate) = may_register x r c rate
may_ask log x r (act.Start n) = not r.started
may_ask log x r (act.Stop by_start n) = not (by_start && r.started)
may_ask log x r (act.SendChecked bytes check priority) = checks (slice_get log check)
may_ask log x r (act.SendStep conn n) = names_spawner n (slice_get log conn)
may_ask log x r (act.RecvStep conn n) = names_spawner n (slice_get log conn)
may_ask log x r (act.Answer e) = asks_set (slice_get log e)
may_ask log x r (act.Next e) = subscribes (slice_get log e)
may_ask log x r (act.Handshake e n) = names_listener n (slice_get log e)
may_ask log x r (act.Attempt e n) = names_dialer n (slice_get log e)
may_ask log x r (act.Resolve addresses e n) = names_dialer n (slice_get log e)
may_ask log x r (act.Connect e from n to) = names_dialer n (slice_get log e)
may_ask log x r (act.Refuse e n) = names_dialer n (slice_get log e)
may_ask log x r (act.Finish link ok) = links_attempt (slice_get log link)
may_ask log x r (act.Cut link) = links_attempt (slice_get log link)
may_ask log x r _ = true

-- the sizes of a node, where it is asked for an act, that its tracker may take what waits for it, that its oracle may be polled, and that
-- its handshakes hold places
abbrev pub IsReady : Act → Node → Type 0
IsReady (act.Register c n rate) x = (x.stopped ≡ false → x.channels.total + capacity_by x rate < 2 ^ 64) × ((1 ≤ capacity_by x rate) × (is_quota rate ≡ true))
IsReady (act.Start n) x =
    (x.stopped ≡ false → IsTrue (is_unbound x.router.messenger.binding))
    × ((1 ≤ x.config.mailbox_size)
    × ((x.config.mailbox_size + x.channels.total < 2 ^ 64)
    × ((is_quota x.config.allowed_handshake_rate_per_ip ≡ true) × (is_quota x.config.allowed_handshake_rate_per_subnet ≡ true))))
IsReady (act.Stop by_start n) x = IsStrictlySortedBy nat_cmp (keys_of x.listening.handshakes) → length x.listening.handshakes ≤ x.listening.actor.places.held
IsReady (act.SendStep conn n) x = 1 ≤ x.config.mailbox_size
IsReady (act.Tracker n) x = is_node_up x ≡ true → (now : ℕ) → IfSome (next_message x.tracker.mailbox.desk) (λ m. MayTake key_cmp x.tracker.actor.directory m now)
IsReady (act.Answer e) x = MayAnswer (is_some (table.at x.tracker.answered e)) (table.at x.tracker.questions e) x.tracker.mailbox.desk
IsReady (act.Next e) x = MayRead (table.at x.tracker.questions e) x.tracker.mailbox.desk
IsReady (act.Handshake e n) x = is_some (table.at x.listening.handshakes e) ≡ true → 0 < x.listening.actor.places.held
IsReady _ x = Unit {0}

abbrev pub may_at : Option Node → Option Requested → List Entry → Act → Bool
may_at (Some x) (Some r) log a = may_ask log x r a
may_at _ _ log a = false

-- whether an act names nodes that are there, and its node may be asked
abbrev pub may_act : List Node → List Requested → List Entry → Act → Bool
may_act nodes rs log a =
    nat_lt (node_of log a) (length nodes) && (nat_lt (other_of log (node_of log a) a) (length nodes) && may_at (slice_get nodes (node_of log a)) (slice_get rs (node_of log a)) log a)

-- whether an event may be asked for, after these entries and this last moment
abbrev pub may_apply : List Node → List Requested → List Entry → ℕ → Event → Bool
may_apply nodes rs log last v = nat_le last v.at && may_act nodes rs log v.act

-- an act that names the node n first finds its nodes there, and ready
pub record MayPerform (nodes : List Node) (l : Links) (n : ℕ) (a : Act) : Type 0 where
  pub first : n < length nodes
  pub ready : (x : Node) → slice_get nodes n ≡ Some x → IsReady a x
  -- and those that it brings together are there
  pub ends : (how : Meeting) → meeting_of a ≡ Some how → MeetsThere how nodes l
  pub sizes : (n : ℕ) (x : Node) → slice_get nodes n ≡ Some x → 1 ≤ x.config.mailbox_size
  pub numbers : (n : ℕ) (x : Node) → slice_get nodes n ≡ Some x → x.router.number ≡ n

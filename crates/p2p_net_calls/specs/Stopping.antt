-- What the stop of a node comes to: what ends, one queue after another, and what the node keeps.
use Rattle.std.specs.Prelude.{◌≡◌, ℕ, ◌+◌, Bool, true, false, ◌==◌, ◌||◌, cond, List, [], ◌∷◌, ◌++◌, length, map, filter, flat_map, Option, Some, None}
use Rattle.std.specs.List.{AllByRecursion as Each, list_any}
use Rattle.std.specs.List.Sorted.{IsStrictlySortedBy}
use Rattle.std.specs.Map.{keys_of}
use Rattle.std.specs.Ordering.{nat_cmp}
use Rattle.p2p_base.specs.declared.key.Key.{Key}
use Rattle.p2p_router.specs.Messenger.{is_bound}
use Rattle.p2p_gates.specs.Handshaking.{Handshaking}
use Rattle.p2p_tracker_mailbox.specs.Mailboxes.{closed_mailbox}
use Rattle.p2p_lookup.specs.declared.spawner.message.Message.{Message}
use Rattle.p2p_lookup.specs.declared.spawner.message.Message.TheVariants as asked
use Rattle.p2p_log.specs.declared.queue.Queue.{Queue}
use Rattle.p2p_log.specs.declared.queue.Queue.TheVariants as queue
use Rattle.p2p_log.specs.declared.queue.Side.TheVariants as side
use Rattle.p2p_log.specs.declared.item.Envelope.{Envelope}
use Rattle.p2p_log.specs.declared.end.Cause.TheVariants as cause
use Rattle.p2p_log.specs.declared.end.End.{End}
use Rattle.p2p_log.specs.declared.end.End.TheVariants as end
use Rattle.p2p_log.specs.declared.entry.Reply.TheVariants as reply
use Rattle.p2p_log.specs.Apart.{AreApart}
use Rattle.p2p_log.specs.Copies.{copies_of}
use Rattle.p2p_log.specs.Drained.{drained, all_end}
use Rattle.p2p_log.specs.Lines.{name_of, stays, stands_in}
use Rattle.p2p_log.specs.QueueCode.{same_queue}
use Rattle.p2p_log_rules.specs.declared.row.Row.{Row}
use Rattle.p2p_log_rules.specs.Attempting.{left_ends}
use Rattle.p2p_log_rules.specs.Dropping.{LinkEnd, other_side}
use Rattle.p2p_log_rules.specs.Halves.{side_at}
use Rattle.p2p_log_rules.specs.Rows.{only}
use Rattle.p2p_log_rules.specs.Stopping.{towards}
use Rattle.p2p_log_laws.proofs.Fitting.{holds_bare}
use Rattle.p2p_net_queues.specs.Board.{held}
use Rattle.p2p_net_queues.specs.Rows.{item_ends}
use Rattle.p2p_net_queues.specs.Tables as table
use Rattle.p2p_net_queues.specs.Tables.{waiting}
use Rattle.p2p_net_router.specs.Holds.{routes_in}
use Rattle.p2p_net_router.specs.Resting.{RouterLeft}
use Rattle.p2p_net_router.specs.declared.router.Router.{Router}
use Rattle.p2p_net_tracker.specs.Ending.{noted_with}
use Rattle.p2p_net_tracker.specs.Heeding.{is_noted}
use Rattle.p2p_net_tracker.specs.Stopping.{TrackerLeft}
use Rattle.p2p_net_tracker.specs.declared.tracker.Tracker.{Tracker}
use Rattle.p2p_net_gates.specs.Handshaking.{freed_if}
use Rattle.p2p_net_gates.specs.Stopping.{DialerLeft, zipped}
use Rattle.p2p_net_gates.specs.declared.attempt.RunningAttempt.{RunningAttempt}
use Rattle.p2p_net_gates.specs.declared.listening.Listening.{Listening}
use Rattle.p2p_net_connections.specs.Stopping.{ConnectionsLeft, SpawnerLeft}
use Rattle.p2p_net_connections.specs.declared.connections.Connection.{Connection}
use Rattle.p2p_net_connections.specs.declared.connections.Connections.{Connections}
use Rattle.p2p_net_links.specs.Left.{LinksLeft, all_dropped}
use Rattle.p2p_net_links.specs.Links.{way_of}
use Rattle.p2p_net_links.specs.declared.links.Links.{Links}
use Rattle.p2p_net_channels.specs.Channels.{with_end}
use Rattle.p2p_net_node.specs.declared.node.Node.{Node}

-- an item that stands in a queue of those that hold none with copies has none
abbrev pub IsBare : Envelope → Type 0
IsBare x = holds_bare x.queue ≡ true → copies_of x.item ≡ []

-- a node and the links hold these of the items
pub record NodeLeft (n : ℕ) (x : Node) (l : Links) (items : List Envelope) : Type 0 where
  pub apart : AreApart items
  pub bare : Each IsBare items
  pub number : x.router.number ≡ n
  pub router : RouterLeft x.router items
  pub tracker : TrackerLeft n x.tracker items
  pub dialer : DialerLeft n x.dialing items
  pub arrivals : x.listening.names ≡ map name_of (filter (stands_in (queue.Arrivals n)) items)
  pub spawner : SpawnerLeft n x.spawning items
  pub connections : ConnectionsLeft n x.connections items
  pub links : LinksLeft l items

-- these items without those
abbrev pub left : List Envelope → List Envelope → List Envelope
left gone items = filter (stays (map name_of gone)) items

-- the row ends these untaken too, as their node stops
abbrev pub Adds : List Envelope → Row → Row → Type 0
Adds gone old new = new ≡ record old { ends = old.ends ++ all_end cause.NodeStopped gone }

-- these queues are emptied, one after another
abbrev pub Drains : ℕ → List Queue → Node → Node → Links → Links → Row → Row → Type 0
Drains n qs old new l links row after =
    (items : List Envelope) → NodeLeft n old l items → Adds (drained items qs) row after × NodeLeft n new links (left (drained items qs) items)

-- ---- what a node holds that stops one after another

-- the queues of one thing that a node holds, and the end of a link that it has
pub record Holder : Type 0 where
  pub own : List Queue
  pub end : Option LinkEnd

abbrev pub queues_of : Holder → List Queue
queues_of h = h.own ++ towards h.end

-- all that is emptied with these, in order, and the ends that are dropped
abbrev pub queues_held : List Holder → List Queue
queues_held hs = flat_map queues_of hs

abbrev pub end_of : Option LinkEnd → List LinkEnd
end_of None = []
end_of (Some e) = e ∷ []

abbrev pub ends_held : List Holder → List LinkEnd
ends_held hs = flat_map (λ h. end_of h.end) hs

abbrev pub dialing_side : Option ℕ → Option LinkEnd
dialing_side None = None
dialing_side (Some link) = Some (link, side.Out)

abbrev pub attempt_holder : ℕ → ℕ × RunningAttempt → Holder
attempt_holder n e = record { own = queue.Attempt n e.0 ∷ []; end = dialing_side e.1.link }

abbrev pub handshake_holder : ℕ → ℕ × Handshaking Key → Holder
handshake_holder n e = record { own = queue.Handshake n e.0 ∷ []; end = Some (e.1.arrival.link, side.In) }

-- a connection has an end of its link where the link was dialed
abbrev pub half_side : ℕ → ℕ → Option ℕ → Option LinkEnd
half_side n link None = None
half_side n link (Some dialer) = Some (link, side_at n dialer)

abbrev pub waiting_queues : ℕ → ℕ → List Queue
waiting_queues n conn = queue.High n conn ∷ queue.Low n conn ∷ queue.Held n conn ∷ queue.Control n conn ∷ queue.RouterAnswer n conn ∷ []

abbrev pub half_queues : ℕ → ℕ → Option LinkEnd → List Queue
half_queues n conn None = []
half_queues n conn (Some e) = waiting_queues n conn

abbrev pub connection_holder : ℕ → Links → ℕ × Connection → Holder
connection_holder n l e = let end = half_side n e.1.link (table.at l.dialers e.1.link) in record { own = half_queues n e.0 end; end = end }

-- what is in flight towards an end
abbrev pub in_flight : Links → Option LinkEnd → List Envelope
in_flight l None = []
in_flight l (Some e) = waiting (way_of l (other_side e.1)) e.0

-- the end is dropped, where there is one, and what is in flight towards it ends
abbrev pub DropsEnd : Option LinkEnd → Links → Links → Row → Row → Type 0
DropsEnd end l links row after = (links ≡ all_dropped (end_of end) l) × Adds (in_flight l end) row after

-- the first attempt stops
abbrev pub StopsAttempt : List (ℕ × RunningAttempt) → Node → Node → Links → Links → Row → Row → Bool → Type 0
StopsAttempt [] old new l links row after more = (more ≡ false) × ((new ≡ old) × ((links ≡ l) × (after ≡ row)))
StopsAttempt ((k, a) ∷ rest) old new l links row after more =
    (more ≡ true)
    × ((new ≡ record old { dialing = record old.dialing { attempts = rest } })
    × DropsEnd (dialing_side a.link) l links (record row { ends = row.ends ++ item_ends a.names }) after)

-- ---- what stays as it was while a node is emptied

-- of a router whom it knew, which channels want lists, and the numbers of their subscriptions
pub record RouterKeeps (old new : Router) : Type 0 where
  pub number : new.number ≡ old.number
  pub channels : new.channels ≡ old.channels
  pub numbers : new.subscriptions ≡ old.subscriptions
  pub taken : new.actor.subscriptions ≡ old.actor.subscriptions
  pub routes : routes_in new.actor.links ≡ routes_in old.actor.links

-- of a tracker all but what it told and was asked, and which connections have ended
pub record TrackerKeeps (old new : Tracker) : Type 0 where
  pub actor : new.actor ≡ old.actor
  pub mailbox : new.mailbox ≡ old.mailbox
  pub oracle : new.oracle ≡ old.oracle
  pub tickets : new.tickets ≡ old.tickets
  pub questions : new.questions ≡ old.questions
  pub answered : new.answered ≡ old.answered

-- of the connections how far they are
pub record ConnectionsKeep (old new : Connections) : Type 0 where
  pub stages : new.stages ≡ old.stages

-- ---- handshakes

abbrev pub listening_side : Option ℕ → Option LinkEnd
listening_side None = None
listening_side (Some link) = Some (link, side.In)

-- what the tracker told in a queue ends
pub record EndsTold (q : Queue) (old new : Node) (row after : Row) : Type 0 where
  pub ends : after ≡ record row { ends = row.ends ++ left_ends (held old.tracker.told q) }
  pub told : (p : Queue) → held new.tracker.told p ≡ cond (same_queue q p) [] (held old.tracker.told p)
  pub rest : new ≡ record old { tracker = record old.tracker { told = new.tracker.told } }

-- a handshake stops: its place is free, what it was told ends, and the listening end of its link is dropped
pub record HandshakeStops (n h link : ℕ) (rest : List (ℕ × Handshaking Key)) (old new : Node) (l links : Links) (row after : Row) : Type 0 where
  pub mid : Row
  pub told : EndsTold (queue.Handshake n h) (record old { listening = new.listening }) new row mid
  pub listens : new.listening ≡ record old.listening { actor = freed_if true old.listening.actor; handshakes = rest }
  pub drops : DropsEnd (Some (link, side.In)) l links mid after

-- the first of these
abbrev pub StopsHandshake : ℕ → List (ℕ × Handshaking Key) → Node → Node → Links → Links → Row → Row → Bool → Type 0
StopsHandshake n [] old new l links row after more = (more ≡ false) × ((new ≡ record old { listening = record old.listening { handshakes = [] } }) × ((links ≡ l) × (after ≡ row)))
StopsHandshake n ((h, s) ∷ rest) old new l links row after more = (more ≡ true) × HandshakeStops n h s.arrival.link rest old new l links row after

-- all of them
pub record HandshakesStopped (old new : Node) : Type 0 where
  pub rest : new ≡ record old { listening = new.listening; tracker = record old.tracker { told = new.tracker.told } }
  pub names : new.listening.names ≡ old.listening.names
  pub none : new.listening.handshakes ≡ []
  pub ends : new.listening.ends ≡ old.listening.ends
  pub actor : new.listening.actor ≡ record old.listening.actor { places = new.listening.actor.places }
  pub held : new.listening.actor.places.held + length old.listening.handshakes ≡ old.listening.actor.places.held
  pub most : new.listening.actor.places.max ≡ old.listening.actor.places.max

-- ---- connections

abbrev pub half_holder : ℕ → ℕ → Option LinkEnd → Holder
half_holder n conn end = record { own = half_queues n conn end; end = end }

-- what waits for a connection ended
pub record WaitingEnded (old new : Node) : Type 0 where
  pub rest : new ≡ record old { router = new.router; connections = new.connections; tracker = record old.tracker { told = new.tracker.told } }
  pub router : RouterKeeps old.router new.router
  pub connections : ConnectionsKeep old.connections new.connections
  pub spawned : new.connections.spawned ≡ old.connections.spawned

-- a connection stops
pub record ConnectionStops (n conn : ℕ) (end : Option LinkEnd) (rest : List (ℕ × Connection)) (old new : Node) (l links : Links) (row after : Row) : Type 0 where
  pub drains : Drains n (queues_of (half_holder n conn end)) old new l links row after
  pub ends : links ≡ all_dropped (end_of end) l
  pub keeps : new ≡ record old { router = new.router; connections = new.connections; tracker = record old.tracker { told = new.tracker.told; ended = noted_with conn old.tracker.ended } }
  pub router : RouterKeeps old.router new.router
  pub connections : ConnectionsKeep old.connections new.connections
  pub spawned : new.connections.spawned ≡ rest

abbrev pub StopsConnection : ℕ → List (ℕ × Connection) → Node → Node → Links → Links → Row → Row → Bool → Type 0
StopsConnection n [] old new l links row after more = (more ≡ false) × ((new ≡ old) × ((links ≡ l) × (after ≡ row)))
StopsConnection n ((conn, c) ∷ rest) old new l links row after more =
    (more ≡ true) × ConnectionStops n conn (half_side n c.link (table.at l.dialers c.link)) rest old new l links row after

pub record ConnectionsStopped (old new : Node) : Type 0 where
  pub rest : new ≡ record old { router = new.router; connections = new.connections; tracker = record old.tracker { told = new.tracker.told; ended = new.tracker.ended } }
  pub router : RouterKeeps old.router new.router
  pub connections : ConnectionsKeep old.connections new.connections
  pub none : new.connections.spawned ≡ []
  pub ended : (conn : ℕ) → is_noted new.tracker.ended conn ≡ (list_any (λ k. k == conn) (keys_of old.connections.spawned) || is_noted old.tracker.ended conn)

-- ---- what is handed on by what waits

-- the end of a link that a message to the spawner hands on, by who dialed the link
abbrev pub message_handed : ℕ → Links → ℕ × ℕ → Message Key → (ℕ × ℕ) × Option LinkEnd
message_handed n l name (asked.Spawn peer link reserved) = (name, half_side n link (table.at l.dialers link))

-- of each message, by its name
abbrev pub messages_handed : ℕ → Links → List (ℕ × ℕ) → List (Message Key) → List ((ℕ × ℕ) × Option LinkEnd)
messages_handed n l (name ∷ names) (m ∷ ms) = message_handed n l name m ∷ messages_handed n l names ms
messages_handed n l _ _ = []

abbrev pub arrival_handed : (ℕ × ℕ) × ℕ → (ℕ × ℕ) × Option LinkEnd
arrival_handed a = (a.0, Some (a.1, side.In))

abbrev pub arrivals_handed : Listening → List ((ℕ × ℕ) × Option LinkEnd)
arrivals_handed l = map arrival_handed (zipped l.names l.actor.arrivals)

abbrev pub ends_handed : List ((ℕ × ℕ) × Option LinkEnd) → List LinkEnd
ends_handed all = flat_map (λ (h : (ℕ × ℕ) × Option LinkEnd). end_of h.1) all

-- one of these ends, and then what is in flight towards the end that it hands on
abbrev pub EndsOne : (ℕ × ℕ) × Option LinkEnd → Links → Links → Row → Row → Type 0
EndsOne h l links row after = DropsEnd h.1 l links (record row { ends = row.ends ++ end.Item h.0.0 h.0.1 ∷ [] }) after

-- and so of each
abbrev pub handed_end : Links → List ((ℕ × ℕ) × Option LinkEnd) → List End
handed_end l [] = []
handed_end l (h ∷ hs) = end.Item h.0.0 h.0.1 ∷ (all_end cause.NodeStopped (in_flight l h.1) ++ handed_end (all_dropped (end_of h.1) l) hs)

-- no message waits for the spawner any more, where each had a name
pub record MessagesTaken (old new : Node) : Type 0 where
  pub rest : new ≡ record old { spawning = new.spawning }
  pub names : length old.spawning.names ≡ length old.spawning.mailbox.items → new.spawning.names ≡ []
  pub items : length old.spawning.names ≡ length old.spawning.mailbox.items → new.spawning.mailbox.items ≡ []
  pub capacity : new.spawning.mailbox.capacity ≡ old.spawning.mailbox.capacity
  pub closed : new.spawning.mailbox.closed ≡ old.spawning.mailbox.closed

abbrev pub ArrivalsTaken : Node → Node → Type 0
ArrivalsTaken old new = new ≡ record old { listening = record old.listening { names = []; actor = record old.listening.actor { arrivals = [] } } }

-- ---- all of it

-- what waits for the router and for the tracker ended
pub record MailboxesEnded (old new : Node) : Type 0 where
  pub rest : new ≡ record old { router = new.router; tracker = record old.tracker { names = [] } }
  pub router : RouterKeeps old.router new.router

-- its actors are gone
pub record HasClosed (old new : Node) : Type 0 where
  pub rest : new ≡ record old {
    router = new.router;
    tracker = record old.tracker { mailbox = closed_mailbox old.tracker.mailbox };
    dialing = record old.dialing { actor = None };
    listening = record old.listening { ends = [] };
    channels = with_end old.channels;
    stopped = true;
  }
  pub closed : is_bound new.router.messenger.binding ≡ false
  pub router : RouterKeeps old.router new.router
  pub lists : new.router.messenger.lists ≡ old.router.messenger.lists
  pub names : new.router.names ≡ old.router.names

-- a node that runs stops, one thing after another
pub record StopsRunning (n : ℕ) (old new : Node) (l links : Links) (r : Row) : Type 0 where
  pub called : Node
  pub called_row : Row
  pub mailboxes : (k : Links) → Drains n (queue.Router n ∷ queue.Tracker n ∷ []) old called k k (only reply.Ok) called_row
  pub mailboxes_ended : MailboxesEnded old called
  pub spawned : Node
  pub spawned_links : Links
  pub spawned_row : Row
  pub messages : MessagesTaken called spawned
  pub messages_links : spawned_links ≡ all_dropped (ends_handed (messages_handed n l called.spawning.names called.spawning.mailbox.items)) l
  pub messages_row : spawned_row ≡ record called_row { ends = called_row.ends ++ handed_end l (messages_handed n l called.spawning.names called.spawning.mailbox.items) }
  pub heard : Node
  pub heard_links : Links
  pub heard_row : Row
  pub arrivals : ArrivalsTaken spawned heard
  pub arrivals_links : heard_links ≡ all_dropped (ends_handed (arrivals_handed spawned.listening)) spawned_links
  pub arrivals_row : heard_row ≡ record spawned_row { ends = spawned_row.ends ++ handed_end spawned_links (arrivals_handed spawned.listening) }
  pub told : Node
  pub told_row : Row
  pub told_drains : (k : Links) → Drains n (queue.Addresses n ∷ queue.Dialer n ∷ []) heard told k k heard_row told_row
  pub told_rest : told ≡ record heard { tracker = record heard.tracker { told = told.tracker.told } }
  pub tried : Node
  pub tried_links : Links
  pub tried_row : Row
  pub attempts : Drains n (queues_held (map (attempt_holder n) told.dialing.attempts)) told tried heard_links tried_links told_row tried_row
  pub attempts_links : tried_links ≡ all_dropped (ends_held (map (attempt_holder n) told.dialing.attempts)) heard_links
  pub attempts_rest : tried ≡ record told { dialing = record told.dialing { attempts = [] } }
  pub attempts_ordered : IsStrictlySortedBy nat_cmp (keys_of told.dialing.attempts)
  pub shaken : Node
  pub shaken_links : Links
  pub shaken_row : Row
  pub handshakes : Drains n (queues_held (map (handshake_holder n) tried.listening.handshakes)) tried shaken tried_links shaken_links tried_row shaken_row
  pub handshakes_links : shaken_links ≡ all_dropped (ends_held (map (handshake_holder n) tried.listening.handshakes)) tried_links
  pub handshakes_rest : HandshakesStopped tried shaken
  pub handshakes_ordered : IsStrictlySortedBy nat_cmp (keys_of tried.listening.handshakes)
  pub left : Node
  pub connections : Drains n (queues_held (map (connection_holder n shaken_links) shaken.connections.spawned)) shaken left shaken_links links shaken_row r
  pub connections_links : links ≡ all_dropped (ends_held (map (connection_holder n shaken_links) shaken.connections.spawned)) shaken_links
  pub connections_rest : ConnectionsStopped shaken left
  pub connections_ordered : IsStrictlySortedBy nat_cmp (keys_of shaken.connections.spawned)
  pub closed : HasClosed left new

-- a node that has stopped does nothing
abbrev pub Stops : ℕ → Bool → Node → Node → Links → Links → Row → Type 0
Stops n true old new l links r = (new ≡ old) × ((links ≡ l) × (r ≡ only reply.Gone))
Stops n false old new l links r = StopsRunning n old new l links r

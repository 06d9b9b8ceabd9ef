-- The parts of a node, and which of them an act names: its entry moves items of their queues alone, and changes what stands of
-- them alone.
use Rattle.std.specs.Prelude.{ℕ, Bool, true, false, ◌==◌, ◌&&◌, List, [], ◌∷◌, map, Option, Some, None, slice_get}
use Rattle.std.specs.List.{list_any}
use Rattle.p2p_log.specs.declared.queue.Queue.{Queue}
use Rattle.p2p_log.specs.declared.queue.Queue.TheVariants as queue
use Rattle.p2p_log.specs.declared.entry.Entry.{Entry}
use Rattle.p2p_log.specs.declared.event.Act.{Act}
use Rattle.p2p_log.specs.declared.event.Act.TheVariants as act
use Rattle.p2p_log_rules.specs.declared.row.Opening.{Opening}
use Rattle.p2p_log_rules.specs.Links.{openings_of}
use Rattle.p2p_log_rules.specs.Valid.{checked_by}
use Rattle.p2p_net_node.specs.declared.meeting.Ends.{Ends}

pub data Part : Type 0 where
  router : Part
  channels : Part
  connections : Part
  tracker : Part
  dialer : Part
  listener : Part
  spawner : Part

-- where queues stand: at a part of a node, or at the links
pub data Place : Type 0 where
  at : Part → ℕ → Place
  links : Place

-- the place of a part among the parts
abbrev pub code : Part → ℕ
code router = 0
code channels = 1
code connections = 2
code tracker = 3
code dialer = 4
code listener = 5
code spawner = 6

abbrev pub same_part : Part → Part → Bool
same_part p q = code p == code q

-- where a queue stands
abbrev pub home : Queue → Place
home (queue.Router n) = at router n
home (queue.Peers n c) = at router n
home (queue.High n conn) = at router n
home (queue.Low n conn) = at router n
home (queue.RouterAnswer n conn) = at connections n
home (queue.Held n conn) = at connections n
home (queue.Channel n c) = at channels n
home (queue.Tracker n) = at tracker n
home (queue.Addresses n) = at tracker n
home (queue.Dialer n) = at tracker n
home (queue.Handshake n e) = at tracker n
home (queue.Attempt n e) = at dialer n
home (queue.Arrivals n) = at listener n
home (queue.Spawner n) = at spawner n
home (queue.Control n conn) = at tracker n
home (queue.PeerSet n e) = at tracker n
home (queue.PeerSetUpdates n e) = at tracker n
home (queue.Blocked n e) = at tracker n
home (queue.Link link s) = links

-- parts of one node, and the links
abbrev pub parts_of : ℕ → List Part → List Place
parts_of n parts = map (λ p. at p n) parts

abbrev pub and_links : List Place → List Place
and_links ps = links ∷ ps

-- the parts that an act names, at each node that it names
abbrev pub parts_named : Act → List Part
parts_named (act.Register c n rate) = channels ∷ router ∷ []
parts_named (act.Start n) = router ∷ dialer ∷ []
parts_named (act.Stop by_start n) = router ∷ channels ∷ connections ∷ tracker ∷ dialer ∷ listener ∷ spawner ∷ []
parts_named (act.Send bytes c n priority to) = channels ∷ router ∷ []
parts_named (act.Check c n to) = channels ∷ router ∷ []
parts_named (act.SendChecked bytes check priority) = channels ∷ router ∷ []
parts_named (act.Router n) = router ∷ connections ∷ []
parts_named (act.SendStep conn n) = connections ∷ router ∷ tracker ∷ []
parts_named (act.RecvStep conn n) = channels ∷ connections ∷ router ∷ tracker ∷ []
parts_named (act.Recv c n) = channels ∷ []
parts_named (act.Close c n) = channels ∷ []
parts_named (act.Dialer n) = tracker ∷ dialer ∷ []
parts_named (act.Listener n) = tracker ∷ listener ∷ []
parts_named (act.Handshake e n) = tracker ∷ listener ∷ spawner ∷ []
parts_named (act.Spawner n) = spawner ∷ connections ∷ []
parts_named (act.Attempt e n) = tracker ∷ dialer ∷ spawner ∷ []
parts_named (act.Resolve addresses e n) = dialer ∷ []
parts_named (act.Connect e from n to) = dialer ∷ listener ∷ []
parts_named (act.Refuse e n) = dialer ∷ []
parts_named _ = tracker ∷ []

-- whether it names the links
abbrev pub names_links : Act → Bool
names_links (act.Stop by_start n) = true
names_links (act.SendStep conn n) = true
names_links (act.RecvStep conn n) = true
names_links (act.Listener n) = true
names_links (act.Handshake e n) = true
names_links (act.Attempt e n) = true
names_links (act.Connect e from n to) = true
names_links (act.Finish link ok) = true
names_links (act.Cut link) = true
names_links _ = false

abbrev pub places_at : Bool → ℕ → List Part → List Place
places_at false n ps = parts_of n ps
places_at true n ps = and_links (parts_of n ps)

abbrev pub same_place : Place → Place → Bool
same_place (at p n) (at q m) = same_part p q && (n == m)
same_place links links = true
same_place _ _ = false

-- the node whose tracker an act asks
abbrev pub asked_node : Act → Option ℕ
asked_node (act.Ask what n) = Some n
asked_node _ = None

abbrev pub or_first : Option ℕ → ℕ
or_first None = 0
or_first (Some n) = n

-- the node of which the event of this number asked, or the first
abbrev pub node_asked : Option Entry → ℕ
node_asked None = 0
node_asked (Some e) = or_first (asked_node e.event.act)

-- the node at which the event of this number checks, or the first
abbrev pub node_checking : Option Entry → ℕ
node_checking None = 0
node_checking (Some e) = or_first (checked_by e.event.act)

-- the nodes between which an act makes a link, or the first at both ends
abbrev pub linked_by : Act → Ends
linked_by a = elim a [ act.Connect e from n to ↦ record { dials = n; listens = to } | _ ↦ record { dials = 0; listens = 0 } ]

-- and between which the event of this number made one
abbrev pub nodes_linked : Option Entry → Ends
nodes_linked None = record { dials = 0; listens = 0 }
nodes_linked (Some e) = linked_by e.event.act

-- the node that an act names, where it names one, after these entries
abbrev pub node_of : List Entry → Act → ℕ
node_of log (act.Register c n rate) = n
node_of log (act.Start n) = n
node_of log (act.Stop by_start n) = n
node_of log (act.Send bytes c n priority to) = n
node_of log (act.Check c n to) = n
node_of log (act.SendChecked bytes check priority) = node_checking (slice_get log check)
node_of log (act.Router n) = n
node_of log (act.SendStep conn n) = n
node_of log (act.RecvStep conn n) = n
node_of log (act.Recv c n) = n
node_of log (act.Close c n) = n
node_of log (act.Ask what n) = n
node_of log (act.Answer e) = node_asked (slice_get log e)
node_of log (act.Next e) = node_asked (slice_get log e)
node_of log (act.Tracker n) = n
node_of log (act.Dialer n) = n
node_of log (act.Listener n) = n
node_of log (act.Handshake e n) = n
node_of log (act.Spawner n) = n
node_of log (act.Attempt e n) = n
node_of log (act.Resolve addresses e n) = n
node_of log (act.Connect e from n to) = n
node_of log (act.Refuse e n) = n
node_of log (act.Finish link ok) = (nodes_linked (slice_get log link)).dials
node_of log (act.Cut link) = (nodes_linked (slice_get log link)).dials

-- and the other one that it names
abbrev pub other_of : List Entry → ℕ → Act → ℕ
other_of log n (act.Connect e from m to) = to
other_of log n (act.Finish link ok) = (nodes_linked (slice_get log link)).listens
other_of log n (act.Cut link) = (nodes_linked (slice_get log link)).listens
other_of log n a = n

-- the parts at both ends of a link
abbrev pub ends_named : Option Opening → List Place
ends_named None = []
ends_named (Some o) = at dialer o.node ∷ at tracker o.to ∷ []

-- the places that an act names
abbrev pub places : List Entry → Act → List Place
places log (act.Connect e from n to) = links ∷ at dialer n ∷ at listener to ∷ []
places log (act.Finish link ok) = links ∷ ends_named (openings_of log link)
places log (act.Cut link) = links ∷ []
places log a = places_at (names_links a) (node_of log a) (parts_named a)

abbrev pub names : List Entry → Act → Place → Bool
names log a p = list_any (λ q. same_place q p) (places log a)

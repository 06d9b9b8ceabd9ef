-- What an act does to more than one node, or to the links alone, and when these nodes are there.
use Rattle.std.specs.Prelude.{◌≡◌, ◌<◌, List, length, Option, Some, None}
use Rattle.p2p_log.specs.declared.event.Act.{Act}
use Rattle.p2p_log.specs.declared.event.Act.TheVariants as act
use Rattle.p2p_log_rules.specs.declared.row.Opening.{Opening}
use Rattle.p2p_net_queues.specs.Tables as table
use Rattle.p2p_net_links.specs.declared.links.Links.{Links}
use Rattle.p2p_net_node.specs.declared.meeting.Ends.{Ends}
use Rattle.p2p_net_node.specs.declared.meeting.Meeting.{Meeting}
use Rattle.p2p_net_node.specs.declared.meeting.Meeting.TheVariants as meeting
use Rattle.p2p_net_node.specs.declared.node.Node.{Node}

-- where it does, with the node that dials first; a cut is done to the link between them
abbrev pub meeting_of : Act → Option Meeting
meeting_of (act.Connect e from n to) = Some (meeting.Link e from (record { dials = n; listens = to }))
meeting_of (act.Finish link ok) = Some (meeting.Finish link ok)
meeting_of (act.Cut link) = Some (meeting.Cut link)
meeting_of _ = None

-- nodes that are there
abbrev pub EndsThere : Ends → List Node → Type 0
EndsThere ends nodes = (ends.dials < length nodes) × (ends.listens < length nodes)

-- the nodes that it brings together are there
abbrev pub MeetsThere : Meeting → List Node → Links → Type 0
MeetsThere (meeting.Link e from ends) nodes l = EndsThere ends nodes
MeetsThere (meeting.Finish link ok) nodes l = (o : Opening) → table.at l.openings link ≡ Some o → (o.node < length nodes) × (o.to < length nodes)
MeetsThere (meeting.Cut link) nodes l = Unit {0}

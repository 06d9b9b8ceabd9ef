-- What all acts on all nodes come to.
use Rattle.std.specs.Prelude.{◌≡◌, ℕ, List, Option, Some, None, slice_get, slice_set}
use Rattle.p2p_log.specs.declared.entry.Entry.{Entry}
use Rattle.p2p_log.specs.declared.event.Event.{Event}
use Rattle.p2p_log_rules.specs.declared.row.Row.{Row}
use Rattle.p2p_log_rules.specs.Effect.{entry_of}
use Rattle.p2p_net_links.specs.declared.links.Links.{Links}
use Rattle.p2p_net.specs.Acts.{NodeDoes}
use Rattle.p2p_net_node.specs.declared.node.Node.{Node}
use Rattle.p2p_net_dialing.specs.Cutting.{IsCut}
use Rattle.p2p_net_dialing.specs.Finishing.{IsFinished}
use Rattle.p2p_net_dialing.specs.Linking.{IsLinked}
use Rattle.p2p_net_node.specs.Meetings.{meeting_of}
use Rattle.p2p_net_node.specs.declared.meeting.Meeting.{Meeting}
use Rattle.p2p_net_node.specs.declared.meeting.Meeting.TheVariants as meeting

-- what the entry k of an event that names the node n alone comes to
abbrev pub OneDoes : ℕ → ℕ → Event → List Node → List Node → Links → Links → Row → Type 0
OneDoes k n ev old new l links r =
    (x : Node) × ((y : Node) × ((slice_get old n ≡ Some x) × ((new ≡ slice_set old n y) × NodeDoes k n ev.at ev.seed ev.act x y l links r)))

-- what that comes to at its nodes
abbrev pub Meets : Meeting → ℕ → List Node → List Node → Links → Links → Row → Type 0
Meets (meeting.Link e from ends) k old new l links r = IsLinked k e ends.dials ends.listens from old new l links r
Meets (meeting.Finish link ok) k old new l links r = IsFinished k link ok old new l links r
Meets (meeting.Cut link) k old new l links r = IsCut link old new l links r

abbrev pub DoesOn : Option Meeting → ℕ → ℕ → Event → List Node → List Node → Links → Links → Row → Type 0
DoesOn None k n ev old new l links r = OneDoes k n ev old new l links r
DoesOn (Some how) k n ev old new l links r = Meets how k old new l links r

-- what the entry k of an event is, where its act names one node, and where it names two
abbrev pub OneRecords : ℕ → ℕ → Event → List Node → List Node → Links → Links → Entry → Type 0
OneRecords k n ev old new l links e = (r : Row) × ((e ≡ entry_of ev r) × OneDoes k n ev old new l links r)

abbrev pub MeetingRecords : ℕ → Event → Meeting → List Node → List Node → Links → Links → Entry → Type 0
MeetingRecords k ev how old new l links e = (r : Row) × ((e ≡ entry_of ev r) × Meets how k old new l links r)

-- what the entry k of an event comes to, which names the node n first
abbrev pub WorldDoes : ℕ → ℕ → Event → List Node → List Node → Links → Links → Row → Type 0
WorldDoes k n ev old new l links r = DoesOn (meeting_of ev.act) k n ev old new l links r

-- what the entry k of an event is
abbrev pub WorldRecords : ℕ → ℕ → Event → List Node → List Node → Links → Links → Entry → Type 0
WorldRecords k n ev old new l links e = (r : Row) × ((e ≡ entry_of ev r) × WorldDoes k n ev old new l links r)

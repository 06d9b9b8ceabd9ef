-- An act that brings nodes together does that alone.
use Rattle.std.proofs.Common.{◌≡◌, ℕ, List, sym, subst, Option, Some}
use Rattle.p2p_log.specs.declared.event.Event.{Event}
use Rattle.p2p_log.specs.declared.entry.Entry.{Entry}
use Rattle.p2p_log_rules.specs.declared.row.Row.{Row}
use Rattle.p2p_log_rules.specs.Effect.{entry_of}
use Rattle.p2p_net_links.specs.declared.links.Links.{Links}
use Rattle.p2p_net.specs.Events.{MeetingRecords, DoesOn}
use Rattle.p2p_net_node.specs.declared.meeting.Meeting.{Meeting}
use Rattle.p2p_net_node.specs.declared.node.Node.{Node}

pub meeting_records : (o : Option Meeting) (how : Meeting) (k n : ℕ) (ev : Event) (old new : List Node) (l links : Links) (e : Entry) → o ≡ Some how → MeetingRecords k ev how old new l links e
    → (r : Row) × ((e ≡ entry_of ev r) × DoesOn o k n ev old new l links r)
meeting_records o how k n ev old new l links e is h = (h.0, (h.1.0, subst (λ (p : Option Meeting). DoesOn p k n ev old new l links h.0) (sym is) h.1.1))

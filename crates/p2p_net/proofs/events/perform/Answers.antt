use Rattle.std.proofs.Common.{sym, ◌∙◌}
use Rattle.p2p_net_node.specs.Meetings.{meeting_of}
use Rattle.p2p_net.proofs.Meetings.{meeting_records}
use Rattle.p2p_net.proofs.events.perform.Goals as goal

pub meet_at-requires-clause-in_range : goal.meet_at-requires-clause-in_range
meet_at-requires-clause-in_range c = c.requires.ends c.in-Some.meeting (sym c.meeting_of.ensures ∙ c.in-Some.is)

pub returns-in_ok-meet_at-in-Some : goal.returns-in_ok-meet_at-in-Some
returns-in_ok-meet_at-in-Some c =
    meeting_records (meeting_of c.args.event.now.act) c.in-Some.meeting c.args.entry c.args.node c.args.event.now c.args.nodes.now.items c.meet_at.new.nodes.items c.args.links.now c.meet_at.new.links
    c.in_ok-meet_at-in-Some.field-0 (sym c.meeting_of.ensures ∙ c.in-Some.is) c.in_ok-meet_at-in-Some.ensures

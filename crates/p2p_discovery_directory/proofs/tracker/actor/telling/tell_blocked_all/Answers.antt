use Rattle.std.proofs.Common.{refl}
use Rattle.p2p_discovery_directory.proofs.Putting.{sets-next}
use Rattle.p2p_discovery_directory.proofs.tracker.actor.telling.tell_blocked_all.Goals as goal

pub loop-ticket-preserved : goal.loop-ticket-preserved
loop-ticket-preserved g c =
    sets-next c.args.tickets.now c.loop-ticket.ticket-index _ c.loop-ticket-test.true refl c.args.blocked.now c.loop-ticket.put.items c.tell_blocked.new.put.items _ c.in_ok-tell_blocked.ensures c.loop-ticket.invariant

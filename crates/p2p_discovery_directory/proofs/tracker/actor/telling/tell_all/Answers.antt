use Rattle.std.proofs.Common.{refl}
use Rattle.p2p_discovery_directory.proofs.Putting.{updates-next}
use Rattle.p2p_discovery_directory.proofs.tracker.actor.telling.tell_all.Goals as goal

pub loop-ticket-preserved : goal.loop-ticket-preserved
loop-ticket-preserved g c =
    updates-next c.args.tickets.now c.loop-ticket.ticket-index _ c.loop-ticket-test.true refl c.args.update.now c.loop-ticket.put.items c.tell.new.put.items _ c.in_ok-tell.ensures c.loop-ticket.invariant

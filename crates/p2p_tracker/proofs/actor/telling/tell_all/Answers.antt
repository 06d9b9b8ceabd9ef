use Rattle.std.proofs.Common.{refl}
use Rattle.p2p_tracker.proofs.Putting.{updates-next, after_updates-next}
use Rattle.p2p_tracker.proofs.actor.telling.tell_all.Goals as goal

pub loop-ticket-preserved : goal.loop-ticket-preserved
loop-ticket-preserved g c = record {
  put = updates-next c.args.tickets.now c.loop-ticket.ticket-index _ c.loop-ticket-test.true refl c.args.update.now c.loop-ticket.put.items c.tell.new.put.items _ c.in_ok-tell.ensures.put c.loop-ticket.invariant.put;
  desk = after_updates-next c.args.tickets.now c.loop-ticket.ticket-index _ c.loop-ticket-test.true refl c.args.update.now c.loop-ticket.way c.tell.new.way _ c.in_ok-tell.ensures.desk c.loop-ticket.invariant.desk;
}

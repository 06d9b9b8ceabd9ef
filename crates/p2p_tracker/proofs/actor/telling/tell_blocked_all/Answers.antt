use Rattle.std.proofs.Common.{refl}
use Rattle.p2p_tracker.proofs.Putting.{sets-next, after_sets-next}
use Rattle.p2p_tracker.proofs.actor.telling.tell_blocked_all.Goals as goal

pub loop-ticket-preserved : goal.loop-ticket-preserved
loop-ticket-preserved g c = record {
  put = sets-next c.args.tickets.now c.loop-ticket.ticket-index _ c.loop-ticket-test.true refl c.args.blocked.now c.loop-ticket.way c.tell_blocked.new.way c.loop-ticket.put.items c.tell_blocked.new.put.items _
      c.in_ok-tell_blocked.ensures.desk c.in_ok-tell_blocked.ensures.put c.loop-ticket.invariant.put;
  desk = after_sets-next c.args.tickets.now c.loop-ticket.ticket-index _ c.loop-ticket-test.true refl c.args.blocked.now c.loop-ticket.way c.tell_blocked.new.way _ c.in_ok-tell_blocked.ensures.desk c.loop-ticket.invariant.desk;
}

use Rattle.std.proofs.Common.{◌≡◌, ◌++◌, drop}
use Rattle.p2p_tracker.specs.Telling.{after_puts, sets_put}
use Rattle.p2p_tracker.proofs.actor.telling.tell_blocked_all.Given as goal

abbrev pub invariant-loop-ticket : goal.invariant-loop-ticket
invariant-loop-ticket g l = record {
  put : l.put.items ++ sets_put l.way.desk.sets (drop l.ticket-index l.tickets) l.blocked ≡ l.initial.put.items ++ sets_put l.initial.way.desk.sets l.tickets l.blocked;
  desk : after_puts (sets_put l.way.desk.sets (drop l.ticket-index l.tickets) l.blocked) l.way ≡ after_puts (sets_put l.initial.way.desk.sets l.tickets l.blocked) l.initial.way;
}

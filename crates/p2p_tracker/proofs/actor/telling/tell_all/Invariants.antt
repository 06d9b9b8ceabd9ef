use Rattle.std.proofs.Common.{◌≡◌, ◌++◌, drop}
use Rattle.p2p_tracker.specs.Telling.{after_puts, updates_put}
use Rattle.p2p_tracker.proofs.actor.telling.tell_all.Given as goal

abbrev pub invariant-loop-ticket : goal.invariant-loop-ticket
invariant-loop-ticket g l = record {
  put : l.put.items ++ updates_put (drop l.ticket-index l.tickets) l.update ≡ l.initial.put.items ++ updates_put l.tickets l.update;
  desk : after_puts (updates_put (drop l.ticket-index l.tickets) l.update) l.way ≡ after_puts (updates_put l.tickets l.update) l.initial.way;
}

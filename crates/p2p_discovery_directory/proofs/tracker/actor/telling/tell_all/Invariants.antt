use Rattle.std.proofs.Common.{◌≡◌, ◌++◌, drop}
use Rattle.p2p_discovery_directory.specs.Putting.{updates_put}
use Rattle.p2p_discovery_directory.proofs.tracker.actor.telling.tell_all.Given as goal

abbrev pub invariant-loop-ticket : goal.invariant-loop-ticket
invariant-loop-ticket g l = l.put.items ++ updates_put (drop l.ticket-index l.tickets) l.update ≡ l.initial.put.items ++ updates_put l.tickets l.update

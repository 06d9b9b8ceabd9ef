use Rattle.std.proofs.Common.{◌≡◌, ◌++◌, drop}
use Rattle.p2p_discovery_directory.specs.Putting.{sets_put}
use Rattle.p2p_discovery_directory.proofs.tracker.actor.telling.tell_blocked_all.Given as goal

abbrev pub invariant-loop-ticket : goal.invariant-loop-ticket
invariant-loop-ticket g l = l.put.items ++ sets_put (drop l.ticket-index l.tickets) l.blocked ≡ l.initial.put.items ++ sets_put l.tickets l.blocked

use Rattle.std.proofs.Common.{length}
use Rattle.p2p_net_calls.proofs.Looping.{AttemptsLeft}
use Rattle.p2p_net_calls.proofs.stopping.stop_attempts.Given as goal

-- the attempts that are left are still to stop, and each time one attempt less
abbrev pub invariant-loop : goal.invariant-loop
invariant-loop l = AttemptsLeft l.turn.node l.initial.node l.node l.initial.links l.links l.initial.row l.row

abbrev pub decreases-loop : goal.decreases-loop
decreases-loop l = length l.node.dialing.attempts

use Rattle.std.proofs.Common.{length}
use Rattle.p2p_net_calls.proofs.Looping.{HandshakesLeft}
use Rattle.p2p_net_calls.proofs.stopping.stop_handshakes.Given as goal

-- the handshakes that are left are still to stop, and each time one handshake less
abbrev pub invariant-loop : goal.invariant-loop
invariant-loop l = HandshakesLeft l.turn.node l.initial.node l.node l.initial.links l.links l.initial.row l.row

abbrev pub decreases-loop : goal.decreases-loop
decreases-loop l = length l.node.listening.handshakes

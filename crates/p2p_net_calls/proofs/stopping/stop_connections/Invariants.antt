use Rattle.std.proofs.Common.{length}
use Rattle.p2p_net_calls.proofs.Looping.{ConnectionsRest}
use Rattle.p2p_net_calls.proofs.stopping.stop_connections.Given as goal

-- the connections that are left are still to stop, and each time one connection less
abbrev pub invariant-loop : goal.invariant-loop
invariant-loop l = ConnectionsRest l.turn.node l.initial.node l.node l.initial.links l.links l.initial.row l.row

abbrev pub decreases-loop : goal.decreases-loop
decreases-loop l = length l.node.connections.spawned

use Rattle.std.proofs.Common.{◌≡◌, drop}
use Rattle.p2p_net_connections.specs.Connections.{answered}
use Rattle.p2p_net_connections.proofs.connections.Connections.answer.Given as goal

-- what is kept so far, and then the rest
abbrev pub invariant-loop-place : goal.invariant-loop-place
invariant-loop-place l =
    record l.self { answers = answered l.turn.entry l.turn.node l.place (drop l.place l.puts) l.self.answers }
    ≡ record l.initial.self { answers = answered l.turn.entry l.turn.node 0 l.puts l.initial.self.answers }

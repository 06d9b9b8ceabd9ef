use Rattle.std.proofs.Common.{◌≡◌, ◌++◌, drop}
use Rattle.p2p_net_queues.specs.Rows.{sent_dropped}
use Rattle.p2p_net_queues.proofs.dropping.drop_sent.Given as goal

-- what was dropped so far, and then the rest
abbrev pub invariant-loop-place : goal.invariant-loop-place
invariant-loop-place l =
    record l.row { ends = l.row.ends ++ sent_dropped l.cause l.send l.place (drop l.place l.to) } ≡ record l.initial.row { ends = l.initial.row.ends ++ sent_dropped l.cause l.send 0 l.to }

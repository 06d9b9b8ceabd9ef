use Rattle.std.proofs.Common.{◌≡◌, ◌++◌, drop}
use Rattle.p2p_net_queues.specs.Rows.{named_end}
use Rattle.p2p_net_queues.proofs.dropping.drop_named.Given as goal

-- what has ended so far, and then the rest
abbrev pub invariant-loop-item : goal.invariant-loop-item
invariant-loop-item l =
    record l.row { ends = l.row.ends ++ named_end l.cause (drop l.item-index l.items) } ≡ record l.initial.row { ends = l.initial.row.ends ++ named_end l.fn.cause l.fn.items }

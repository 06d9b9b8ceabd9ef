use Rattle.std.proofs.Common.{◌≡◌, ◌++◌}
use Rattle.p2p_log.specs.Drained.{all_end}
use Rattle.p2p_net_queues.proofs.dropping.drop_items.Given as goal

-- what has ended so far, and then the rest
abbrev pub invariant-loop-item : goal.invariant-loop-item
invariant-loop-item l =
    record l.row { ends = l.row.ends ++ all_end l.cause l.item-iterator.rest.items } ≡ record l.initial.row { ends = l.initial.row.ends ++ all_end l.fn.cause l.fn.items }

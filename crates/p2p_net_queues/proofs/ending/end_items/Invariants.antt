use Rattle.std.proofs.Common.{◌≡◌, ◌++◌}
use Rattle.p2p_net_queues.specs.Rows.{item_ends}
use Rattle.p2p_net_queues.proofs.ending.end_items.Given as goal

-- what has ended so far, and then the rest
abbrev pub invariant-loop-name : goal.invariant-loop-name
invariant-loop-name l = record l.row { ends = l.row.ends ++ item_ends l.name-iterator.rest.items } ≡ record l.initial.row { ends = l.initial.row.ends ++ item_ends l.fn.names }

use Rattle.std.proofs.Common.{◌≡◌, drop}
use Rattle.p2p_net_queues.specs.Rows.{all_dropped}
use Rattle.p2p_net_queues.proofs.dropping.take_all_dropped.Given as goal

-- what was taken so far, and then the rest
abbrev pub invariant-loop-item : goal.invariant-loop-item
invariant-loop-item l = all_dropped l.cause (drop l.item-index l.items) l.row ≡ all_dropped l.fn.cause l.fn.items l.initial.row

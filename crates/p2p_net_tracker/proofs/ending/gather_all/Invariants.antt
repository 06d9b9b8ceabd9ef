use Rattle.std.proofs.Common.{◌≡◌, ◌++◌}
use Rattle.p2p_net_tracker.proofs.ending.gather_all.Given as goal

-- what is gathered so far, and then the rest
abbrev pub invariant-loop-item : goal.invariant-loop-item
invariant-loop-item l = l.all ++ l.item-iterator.rest.items ≡ l.initial.all ++ l.fn.items.items

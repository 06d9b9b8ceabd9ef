use Rattle.std.proofs.Common.{◌≡◌, ◌++◌}
use Rattle.p2p_log_rules.specs.Attempting.{left_ends}
use Rattle.p2p_net_tracker.proofs.stopping.end_each.Given as goal

-- what has ended so far, and then the rest
abbrev pub invariant-loop-kept : goal.invariant-loop-kept
invariant-loop-kept l = record l.row { ends = l.row.ends ++ left_ends l.kept-iterator.rest.items } ≡ record l.initial.row { ends = l.initial.row.ends ++ left_ends l.fn.left.items }

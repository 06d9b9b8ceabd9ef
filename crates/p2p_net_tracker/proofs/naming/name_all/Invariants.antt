use Rattle.std.proofs.Common.{◌≡◌, ◌++◌}
use Rattle.p2p_net_tracker.specs.Naming.{named_puts}
use Rattle.p2p_net_tracker.proofs.naming.name_all.Given as goal

-- what is named so far, and then the rest
abbrev pub invariant-loop-one : goal.invariant-loop-one
invariant-loop-one l = l.named ++ named_puts l.node l.tickets l.one-iterator.rest.items ≡ named_puts l.fn.node l.fn.tickets l.fn.put

use Rattle.std.proofs.Common.{◌≡◌, ◌++◌}
use Rattle.p2p_net_gates.specs.Stopping.{zipped}
use Rattle.p2p_net_gates.proofs.stopping.zip_links.Given as goal

-- what is zipped so far, and then the rest
abbrev pub invariant-loop-arrival : goal.invariant-loop-arrival
invariant-loop-arrival l = l.all ++ zipped l.names l.arrival-iterator.rest.items ≡ zipped l.fn.names l.fn.arrivals

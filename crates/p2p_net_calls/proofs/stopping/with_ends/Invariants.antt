use Rattle.std.proofs.Common.{◌≡◌, map, take}
use Rattle.p2p_net_calls.specs.Stopping.{arrival_handed}
use Rattle.p2p_net_calls.proofs.stopping.with_ends.Given as goal

abbrev pub invariant-loop-arrival : goal.invariant-loop-arrival
invariant-loop-arrival l = l.all ≡ map arrival_handed (take l.arrival-index l.arrivals)

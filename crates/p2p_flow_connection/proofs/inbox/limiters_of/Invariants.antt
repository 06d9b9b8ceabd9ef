use Rattle.p2p_flow_connection.proofs.Limiters.{IsUnderWay}
use Rattle.p2p_flow_connection.proofs.inbox.limiters_of.Given as goal

abbrev pub invariant-loop-channel : goal.invariant-loop-channel
invariant-loop-channel l = IsUnderWay l.limiters.entries l.quotas l.channel-index

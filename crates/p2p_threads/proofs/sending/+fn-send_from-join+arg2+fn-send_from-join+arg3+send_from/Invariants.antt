use Rattle.std.proofs.Common.{◌-◌}
use Rattle.p2p_threads.proofs.sending.+fn-send_from-join+arg2+fn-send_from-join+arg3+send_from.Given as goal

abbrev pub decreases-join+arg2 : goal.decreases-join+arg2
decreases-join+arg2 g l = l.half

abbrev pub decreases-join+arg3 : goal.decreases-join+arg3
decreases-join+arg3 g l = l.count - l.half

abbrev pub decreases-send_from : goal.decreases-send_from
decreases-send_from g l = l.count

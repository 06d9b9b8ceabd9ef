use Rattle.p2p_log_laws.proofs.FateLaws.{each_known, each_waiting, each_dropped, each_delivered}
use Rattle.p2p_log_laws.proofs.fates.fates_are_true.Goals as goal

pub returns : goal.returns
returns c = record { known = each_known; waiting = each_waiting; dropped = each_dropped; delivered = each_delivered }

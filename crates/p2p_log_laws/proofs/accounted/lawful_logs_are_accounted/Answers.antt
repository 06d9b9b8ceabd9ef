use Rattle.p2p_log_laws.proofs.AllLaws.{accounted}
use Rattle.p2p_log_laws.proofs.accounted.lawful_logs_are_accounted.Goals as goal

pub returns : goal.returns
returns c = accounted

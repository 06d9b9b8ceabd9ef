use Rattle.p2p_log_laws.proofs.KillCauses.{each_kill_has_its_cause}
use Rattle.p2p_log_laws.proofs.kills.each_kill_has_its_cause.Goals as goal

pub returns : goal.returns
returns c = each_kill_has_its_cause

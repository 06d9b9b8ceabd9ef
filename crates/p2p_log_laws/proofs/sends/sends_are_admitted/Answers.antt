use Rattle.p2p_log_laws.proofs.Accepting.{each_admitted}
use Rattle.p2p_log_laws.proofs.sends.sends_are_admitted.Goals as goal

pub returns : goal.returns
returns c = each_admitted

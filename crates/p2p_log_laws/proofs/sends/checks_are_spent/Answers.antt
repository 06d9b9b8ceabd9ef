use Rattle.p2p_log_laws.proofs.Accepting.{each_checked}
use Rattle.p2p_log_laws.proofs.Checks.{checks_are_admitted, checks_are_spent_once}
use Rattle.p2p_log_laws.proofs.sends.checks_are_spent.Goals as goal

pub returns : goal.returns
returns c = record { admitted = checks_are_admitted; checked = each_checked; once = checks_are_spent_once }

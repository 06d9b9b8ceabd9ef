use Rattle.p2p_log_laws.proofs.Killing.{each_kill_shown}
use Rattle.p2p_log_laws.proofs.kills.each_kill_shows_its_cause.Goals as goal

pub returns : goal.returns
returns c = each_kill_shown

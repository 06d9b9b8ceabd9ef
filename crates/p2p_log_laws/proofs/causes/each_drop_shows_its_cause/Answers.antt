use Rattle.p2p_log_laws.proofs.Drops.{each_shown}
use Rattle.p2p_log_laws.proofs.causes.each_drop_shows_its_cause.Goals as goal

pub returns : goal.returns
returns c = each_shown

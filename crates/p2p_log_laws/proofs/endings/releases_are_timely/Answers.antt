use Rattle.p2p_log_laws.proofs.EndShown.{releases_timely}
use Rattle.p2p_log_laws.proofs.endings.releases_are_timely.Goals as goal

pub returns : goal.returns
returns c = releases_timely

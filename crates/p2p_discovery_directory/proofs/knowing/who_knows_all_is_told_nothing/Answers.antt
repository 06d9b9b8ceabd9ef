use Rattle.p2p_discovery_directory.proofs.Telling.{knows-all}
use Rattle.p2p_discovery_directory.proofs.knowing.who_knows_all_is_told_nothing.Goals as goal

pub returns : goal.returns
returns g c = knows-all g.P.Ord.cmp

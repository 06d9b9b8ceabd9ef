use Rattle.p2p_log_laws.proofs.Releasing.{each_is_released_as_it_ends}
use Rattle.p2p_log_laws.proofs.releases.holders_release_as_they_end.Goals as goal

pub returns : goal.returns
returns c = each_is_released_as_it_ends

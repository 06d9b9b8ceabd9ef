use Rattle.std.proofs.Common.{rules}
use Rattle.p2p_sim_report.specs.Found.{has}
use Rattle.p2p_sim_report.proofs.found.is_in.Goals as goal

pub returns : goal.returns
unfolding has
returns c = search rules

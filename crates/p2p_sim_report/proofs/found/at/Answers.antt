use Rattle.std.proofs.Common.{◌∙◌}
use Rattle.p2p_sim_report.specs.Found.{value_of}
use Rattle.p2p_sim_report.proofs.found.at.Goals as goal

pub returns : goal.returns
unfolding value_of
returns g c = c.copied.ensures ∙ c.get.ensures.value

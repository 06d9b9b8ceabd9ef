use Rattle.std.proofs.Common.{rules}
use Rattle.p2p_sim_report.specs.ReportText.{entry_onto}
use Rattle.p2p_sim_report.proofs.report.put_entry.Goals as goal

pub returns : goal.returns
unfolding entry_onto
returns c = search rules

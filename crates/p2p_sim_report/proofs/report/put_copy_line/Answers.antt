use Rattle.std.proofs.Common.{rules}
use Rattle.p2p_sim_report.specs.ReportText.{copy_line_onto}
use Rattle.p2p_sim_report.proofs.report.put_copy_line.Goals as goal

pub returns : goal.returns
unfolding copy_line_onto
returns c = search rules

use Rattle.std.proofs.Common.{rules}
use Rattle.p2p_sim_report.specs.ReportText.{report_text}
use Rattle.p2p_sim_report.proofs.report.write_report.Goals as goal

pub returns : goal.returns
unfolding report_text
returns c = search rules

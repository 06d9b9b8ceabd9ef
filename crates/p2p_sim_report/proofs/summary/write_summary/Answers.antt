use Rattle.std.proofs.Common.{rules}
use Rattle.p2p_sim_report.specs.SummaryText.{summary_text}
use Rattle.p2p_sim_report.proofs.summary.write_summary.Goals as goal

pub returns : goal.returns
unfolding summary_text
returns c = search rules

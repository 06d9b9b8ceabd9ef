use Rattle.std.proofs.Common.{arith}
use Rattle.std.proofs.lemmas.Grind.{common_steps}
use Rattle.std.proofs.lemmas.Option.{gets}
use Rattle.p2p_log.specs.Sending.{sending_at}
use Rattle.p2p_log.proofs.report.Report.copies.Goals as goal

pub returns-in-Some : goal.returns-in-Some
unfolding sending_at
returns-in-Some c = grind (arith, common_steps, gets)

pub returns-in-None : goal.returns-in-None
unfolding sending_at
returns-in-None c = grind (arith, common_steps, gets)

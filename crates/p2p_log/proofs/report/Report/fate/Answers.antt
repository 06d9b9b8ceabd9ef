use Rattle.std.proofs.Common.{arith}
use Rattle.std.proofs.lemmas.Grind.{common_steps}
use Rattle.p2p_log.specs.Fates.{fate_of}
use Rattle.p2p_log.proofs.report.Report.fate.Goals as goal

pub returns-then-place-copies : goal.returns-then-place-copies
unfolding fate_of
returns-then-place-copies c = grind (arith, common_steps)

pub returns-in-Some : goal.returns-in-Some
unfolding fate_of
returns-in-Some c = grind (arith, common_steps)

pub returns-in-None : goal.returns-in-None
unfolding fate_of
returns-in-None c = grind (arith, common_steps)

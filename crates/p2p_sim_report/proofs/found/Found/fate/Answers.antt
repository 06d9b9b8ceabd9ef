use Rattle.std.proofs.Common.{arith}
use Rattle.std.proofs.lemmas.Grind.{common_steps}
use Rattle.p2p_log.specs.Fates.{fate_of}
use Rattle.p2p_sim_report.proofs.found.Found.fate.Goals as goal

pub returns-then-copy-copies : goal.returns-then-copy-copies
unfolding fate_of
returns-then-copy-copies c = grind (arith, common_steps)

pub returns-in-Some : goal.returns-in-Some
unfolding fate_of
returns-in-Some c = let known = c.requires.ended c.args.copy in grind (arith, common_steps, known)

pub returns-in-None : goal.returns-in-None
unfolding fate_of
returns-in-None c = let known = c.requires.ended c.args.copy in let stands = c.requires.waiting c.args.copy in grind (arith, common_steps, known, stands)

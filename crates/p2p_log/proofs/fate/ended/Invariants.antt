-- What is left of the log answers as all of it does.
use Rattle.std.proofs.Common.{◌≡◌, drop}
use Rattle.p2p_log.specs.Fates.{ended_from}
use Rattle.p2p_log.proofs.fate.ended.Given as goal

abbrev pub invariant-loop-n : goal.invariant-loop-n
invariant-loop-n l = ended_from l.n l.copy (drop l.n l.log) ≡ ended_from 0 l.copy l.log

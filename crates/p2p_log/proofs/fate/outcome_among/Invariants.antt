-- What is left of the ends answers as all of them do.
use Rattle.std.proofs.Common.{◌≡◌, drop}
use Rattle.p2p_log.specs.Fates.{outcome_in}
use Rattle.p2p_log.proofs.fate.outcome_among.Given as goal

abbrev pub invariant-loop-end : goal.invariant-loop-end
invariant-loop-end l = outcome_in l.copy (drop l.end-index l.ends) ≡ outcome_in l.copy l.ends

-- The ends from the place i on are noted.
use Rattle.std.proofs.Common.{◌≡◌, ℕ, drop}
use Rattle.p2p_log.specs.Fates.{outcome_in}
use Rattle.p2p_sim_report.specs.Found.{value_of, ended_or}
use Rattle.p2p_sim_report.proofs.found.note_ends.Given as goal

abbrev pub invariant-loop-i : goal.invariant-loop-i
invariant-loop-i l = (copy : ℕ × ℕ) → value_of l.ended copy ≡ ended_or l.n (outcome_in copy (drop l.i l.ends)) (value_of l.fn.ended copy)

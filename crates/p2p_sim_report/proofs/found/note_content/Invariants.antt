-- The copies up to this place are noted.
use Rattle.std.proofs.Common.{◌≡◌, ℕ, ◌&&◌, cond, Some}
use Rattle.std.specs.Prelude.{◌==◌, nat_lt}
use Rattle.p2p_sim_report.specs.Found.{value_of}
use Rattle.p2p_sim_report.proofs.found.note_content.Given as goal

abbrev pub invariant-loop-place : goal.invariant-loop-place
invariant-loop-place l =
    (copy : ℕ × ℕ) → value_of l.waiting copy ≡ cond ((l.send == copy.0) && nat_lt copy.1 l.place) (Some l.fate) (value_of l.fn.waiting copy)

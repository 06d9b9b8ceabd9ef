-- The puts from this place on are noted.
use Rattle.std.proofs.Common.{◌≡◌, ℕ, drop}
use Rattle.std.specs.Prelude.{filter, not}
use Rattle.std.specs.Option.{option_or}
use Rattle.p2p_log.specs.Lines.{name_of, placed}
use Rattle.p2p_sim_report.specs.Found.{value_of, has, first_of}
use Rattle.p2p_sim_report.proofs.found.note_puts.Given as goal

abbrev pub invariant-loop-place : goal.invariant-loop-place
invariant-loop-place l =
    (copy : ℕ × ℕ) → value_of l.waiting copy
    ≡ option_or (first_of copy (filter (λ x. not (has l.gone (name_of x))) (placed l.n l.place (drop l.place l.puts)))) (value_of l.fn.waiting copy)

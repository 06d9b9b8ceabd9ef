-- The names so far are noted.
use Rattle.std.proofs.Common.{◌≡◌, ℕ, ◌||◌, take}
use Rattle.std.specs.List.{list_any}
use Rattle.p2p_log.specs.Lines.{same_name}
use Rattle.p2p_sim_report.specs.Found.{has}
use Rattle.p2p_sim_report.proofs.found.note_taken.Given as goal

abbrev pub invariant-loop-name : goal.invariant-loop-name
invariant-loop-name l =
    (name : ℕ × ℕ) → has l.gone name ≡ (list_any (same_name name) (take l.name-index l.takes) || has l.fn.gone name)

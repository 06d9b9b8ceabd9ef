-- What is noted, and the items' ends that are left.
use Rattle.std.proofs.Common.{◌≡◌, ℕ, ◌||◌, drop}
use Rattle.std.specs.Prelude.{flat_map}
use Rattle.std.specs.List.{list_any}
use Rattle.p2p_log.specs.Lines.{ended_item, same_name}
use Rattle.p2p_sim_report.specs.Found.{has}
use Rattle.p2p_sim_report.proofs.found.note_ended.Given as goal

abbrev pub invariant-loop-end : goal.invariant-loop-end
invariant-loop-end l =
    (name : ℕ × ℕ) → (list_any (same_name name) (flat_map ended_item (drop l.end-index l.ends)) || has l.gone name)
    ≡ (list_any (same_name name) (flat_map ended_item l.ends) || has l.fn.gone name)

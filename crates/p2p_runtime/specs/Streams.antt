-- Counts of faults, and calls that fail.
use Rattle.std.specs.Prelude.{ℕ, Bool, List, ◌==◌, ◌-◌, ◌^◌, ◌<◌, ◌≤◌, ◌⊎◌}
use Rattle.std.specs.List.{list_any}

-- the count rose; one that stands at the greatest value of u64 counts as rising
abbrev pub Rose : ℕ → ℕ → Type 0
Rose old new = (old < new) ⊎ (2 ^ 64 - 1 ≤ old)

-- this call is among the listed ones
abbrev pub is_listed : List ℕ → ℕ → Bool
is_listed failing call = list_any (λ k. k == call) failing

-- How large a peer set is, and what one that is too large is told.
use Rattle.std.specs.Prelude.{ℕ, List, ◌∷◌, ◌++◌, length, Result, Ok, Err}
use Rattle.std.specs.declared.cmp.Ordering.{Ordering}
use Rattle.p2p_base.specs.Sorted.{sorted_once}
use Rattle.p2p_flow.specs.declared.track_error.TrackError.{TrackError}
use Rattle.p2p_flow.specs.declared.track_error.TrackError.TheVariants as track_error

-- how many distinct keys a set has, the local one counted
abbrev pub set_size : {P : Type 0} → (P → P → Ordering) → P → List P → List P → ℕ
set_size cmp local primary secondary = length (sorted_once cmp (local ∷ primary ++ secondary))

-- where the set was too large, this holds of its count and of the limit
abbrev pub IfTooLarge : {T : Type 0} → Result T TrackError → (ℕ → ℕ → Type 0) → Type 0
IfTooLarge (Ok x) P = Unit {0}
IfTooLarge (Err (track_error.PeerSetTooLarge count limit)) P = P count limit
IfTooLarge (Err track_error.Memory) P = Unit {0}

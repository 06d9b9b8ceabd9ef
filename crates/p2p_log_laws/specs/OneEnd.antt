-- What becomes of the copies of sends, by the log.
use Rattle.std.specs.Prelude.{◌≡◌, ℕ, ◌+◌, ◌<◌, ◌≤◌, nat_lt, cond, List, length}
use Rattle.p2p_log.specs.declared.entry.Entry.{Entry}
use Rattle.p2p_log.specs.Copies.{accepted, carriers, times_ended, HasOneEnd}

-- what carries a copy and what ends it are one together where an accepted send has the copy, and none elsewhere
abbrev pub EachEndsOnce : List Entry → Type 0
EachEndsOnce log = (copy : ℕ × ℕ) → carriers log copy + times_ended log copy ≡ cond (nat_lt copy.1 (length (accepted log copy.0))) 1 0

-- each copy of an accepted send has one carrier in a queue and no end, or no carrier and one end
abbrev pub EachHasOneEnd : List Entry → Type 0
EachHasOneEnd log = (copy : ℕ × ℕ) → copy.1 < length (accepted log copy.0) → HasOneEnd log copy

-- what no accepted send has as its copy is carried by nothing and ended by nothing
abbrev pub NothingElseEnds : List Entry → Type 0
NothingElseEnds log =
    (copy : ℕ × ℕ) → length (accepted log copy.0) ≤ copy.1 → (carriers log copy ≡ 0) × (times_ended log copy ≡ 0)

-- The law of a quota: at most `burst` admissions at once, and one more for each whole `period`.
-- It reads the moments of the earlier admissions, oldest first, and is tested place by place.
use Rattle.std.specs.Prelude.{ℕ, ◌+◌, ◌-◌, ◌*◌, ◌/◌, max, Bool, true, ◌&&◌, nat_le, List, [], ◌∷◌, length}

-- What a quota allows: `burst` admissions at once, and one more each `period` nanoseconds.
pub record Rate : Type 0 where
  pub burst : ℕ
  pub period : ℕ

-- The quota of a burst and a period.
abbrev pub rate_of : ℕ → ℕ → Rate
rate_of burst period = record { burst = burst; period = period }

-- The admissions from a place on, with the check in hand counted: `later` are those after the place.
abbrev pub count_from : List ℕ → ℕ
count_from later = length later + 2

-- `count` admissions since `from` are within the quota at the moment `at`.
abbrev pub is_within : Rate → ℕ → ℕ → ℕ → Bool
is_within rate count from at = nat_le count (rate.burst + (at - from) / rate.period)

-- A check at the moment `at` passes: at each place of `past` the admissions from there on are within the quota.
unfoldable pub admits : Rate → List ℕ → ℕ → Bool
admits rate [] at = true
admits rate (from ∷ later) at = is_within rate (count_from later) from at && admits rate later at

-- The first moment at which `count` admissions since `from` are within the quota: 0 where the burst reaches back past it.
abbrev pub free_from : Rate → ℕ → ℕ → ℕ
free_from rate count from = (from + count * rate.period) - rate.burst * rate.period

-- The first moment at which a check passes: the greatest over the places of `past`.
unfoldable pub retry : Rate → List ℕ → ℕ
retry rate [] = 0
retry rate (from ∷ later) = max (free_from rate (count_from later) from) (retry rate later)

-- One check of an arrival time, as the code makes it.
use Rattle.std.specs.Prelude.{ℕ, ◌+◌, ◌-◌, ◌*◌, ◌<◌, ◌≤◌, max, Bool, nat_le, Ok, Err, Result, if◌then◌else◌}
use Rattle.p2p_runtime.specs.QuotaLaw.{Rate}

-- A quota lets at least one admission through, and its periods have a length.
pub record IsQuota (rate : Rate) : Type 0 where
  pub some_burst : 0 < rate.burst
  pub some_period : 0 < rate.period

-- How long a whole burst takes.
abbrev pub burst_time : Rate → ℕ
burst_time rate = rate.burst * rate.period

-- The arrival time after one more admission at the moment `at`.
abbrev pub next_arrival : Rate → ℕ → ℕ → ℕ
next_arrival rate arrival at = max arrival at + rate.period

-- One more admission at the moment `at` is within the quota.
abbrev pub fits : Rate → ℕ → ℕ → Bool
fits rate arrival at = nat_le (next_arrival rate arrival at) (at + burst_time rate)

-- The arrival time after a check at the moment `at`, or the moment from which one is within the quota.
abbrev pub step : Rate → ℕ → ℕ → Result ℕ ℕ
step rate arrival at = if fits rate arrival at then Ok (next_arrival rate arrival at) else Err (next_arrival rate arrival at - burst_time rate)

-- An arrival time is at most a whole burst ahead of the latest moment.
abbrev pub IsNear : Rate → ℕ → ℕ → Type 0
IsNear rate arrival latest = arrival ≤ latest + burst_time rate

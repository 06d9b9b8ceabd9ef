-- A throttle as contracts see it.
use Rattle.std.specs.Prelude.{ℕ, ◌+◌, ◌-◌, ◌^◌, min}
use Rattle.p2p_runtime.specs.QuotaKept.{Kept}

-- what its limiter keeps, how many were received, and how many of these the quota refused
pub record Throttled : Type 0 where
  pub kept : Kept
  pub received : ℕ
  pub limited : ℕ

-- a count with one more, which stands still at the greatest number of 64 bits
abbrev pub one_more : ℕ → ℕ
one_more n = min (n + 1) (2 ^ 64 - 1)

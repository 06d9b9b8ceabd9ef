-- What a new connection has.
use Rattle.std.specs.Prelude.{◌≡◌, ℕ, ◌/◌, max, List, None}
use Rattle.p2p_flow_connection.specs.Delivering.{limiter_of}
use Rattle.p2p_flow_connection.specs.Intake.{Intake}
use Rattle.p2p_flow_connection.specs.Limiting.{fresh_of, quota_of}
use Rattle.p2p_runtime.specs.QuotaLaw.{Rate, rate_of}

-- one in half the time, and in a nanosecond at least
abbrev pub half_rate : ℕ → Rate
half_rate pause = rate_of 1 (max 1 (pause / 2))

-- an inbox for these channels, which has admitted nothing and holds nothing
pub record IsEmptyInbox {P : Type 0} (quotas : List (ℕ × Rate)) (i : Intake P) : Type 0 where
  pub channels : i.channels ≡ quotas
  pub limiters : (channel : ℕ) → limiter_of i channel ≡ fresh_of (quota_of quotas channel)
  pub held : i.held ≡ None

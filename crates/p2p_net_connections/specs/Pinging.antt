-- When what is kept of the quota of a connection's pings stands for what the log tells.
use Rattle.std.specs.Prelude.{◌≡◌, ◌≤◌, ℕ, List, Option, Some, None}
use Rattle.p2p_log.specs.declared.config.Config.{Config}
use Rattle.p2p_log.specs.declared.entry.Entry.{Entry}
use Rattle.p2p_log_rules.specs.Facts.{events_of, latest_moment}
use Rattle.p2p_log_rules.specs.Metering.{pings, ping_quota, admitted}
use Rattle.p2p_log_rules.specs.Pings.{ping_frequency_at}
use Rattle.p2p_runtime.specs.QuotaKept.{Kept, StandsFor}
use Rattle.p2p_runtime.specs.QuotaLaw.{Rate as Quota}
use Rattle.p2p_runtime.specs.QuotaStep.{IsQuota}
use Rattle.p2p_net_connections.specs.declared.connections.Connection.{Connection}

-- what is kept goes by this quota and stands for these admissions, and no check was later than this moment
pub record CountsUntil (moment : ℕ) (quota : Quota) (past : List ℕ) (kept : Kept) : Type 0 where
  pub is_quota : IsQuota quota
  pub quota_is : kept.rate ≡ quota
  pub stands : StandsFor kept past kept.latest
  pub timely : kept.latest ≤ moment

-- a connection's quota of pings counts those that the connection admitted, and no check was later than the log
abbrev pub CountsPings : List Config → List Entry → ℕ → ℕ → Kept → Type 0
CountsPings configs log n conn kept = CountsUntil (latest_moment (events_of log)) (ping_quota (ping_frequency_at configs n)) (admitted configs log n conn pings) kept

-- so it does of a connection, where there is one
abbrev pub CountsPingsOf : List Config → List Entry → ℕ → ℕ → Option Connection → Type 0
CountsPingsOf configs log n conn None = Unit {0}
CountsPingsOf configs log n conn (Some c) = CountsPings configs log n conn c.pings

-- Quotas that are kept for keys, as the names of connections, and when what is kept stands for what a log tells.
use Rattle.std.specs.Prelude.{◌≡◌, ◌≤◌, ℕ, Bool, List, [], Result, Err, Option, Some, None, is_ok}
use Rattle.std.specs.declared.cmp.Ordering.{Ordering}
use Rattle.std.specs.Map.{set_value}
use Rattle.std.specs.BTreeMap.{is_at}
use Rattle.std.specs.Ordering.{nat_cmp}
use Rattle.p2p_log.specs.declared.entry.Entry.{Entry}
use Rattle.p2p_log_rules.specs.Facts.{events_of, latest_moment}
use Rattle.p2p_runtime.specs.QuotaLaw.{Rate as Quota}
use Rattle.p2p_runtime.specs.QuotaStep.{IsQuota}
use Rattle.p2p_runtime.specs.QuotaKeys.{KeptByKey, StandsForEach}
use Rattle.p2p_runtime.specs.QuotaCheck.{check_answer, after_check}
use Rattle.p2p_net_queues.specs.Tables.{at}

-- what is kept of a quota that admitted nothing
abbrev pub fresh : {K : Type 0} → Quota → KeptByKey K
fresh quota = record { rate = quota; arrivals = []; latest = 0 }

module _ {K : Type 0} (cmp : K → K → Ordering) where
  -- whether it admits one more of a key at a moment
  abbrev pub passes : KeptByKey K → K → ℕ → Bool
  passes kept key now = is_ok (check_answer cmp kept key now)

  -- what is kept once it was asked that
  abbrev pub checked : KeptByKey K → K → ℕ → KeptByKey K
  checked kept key now = after_check cmp kept key now

  -- what is kept goes by this quota and stands for these admissions of each key, and no check was later than this moment
  pub record MetersUntil (moment : ℕ) (quota : Quota) (past : K → List ℕ) (kept : KeptByKey K) : Type 0 where
    pub is_quota : IsQuota quota
    pub quota_is : kept.rate ≡ quota
    pub stands : StandsForEach cmp kept past kept.latest
    pub timely : kept.latest ≤ moment

  -- the same, and no check was later than the log
  abbrev pub Meters : List Entry → Quota → (K → List ℕ) → KeptByKey K → Type 0
  Meters log quota past kept = MetersUntil (latest_moment (events_of log)) quota past kept

  -- ---- one quota for each key of a table

  abbrev pub answer_on : Option (KeptByKey K) → K → ℕ → Result (Unit {0}) ℕ
  answer_on None who now = Err 0
  answer_on (Some kept) who now = check_answer cmp kept who now

  -- what the quota at a key of the table answers where it is asked for one more of another key at a moment: that it admits it, or
  -- the moment from which it does, which is 0 where there is none
  abbrev pub answer_at : List (ℕ × KeptByKey K) → ℕ → K → ℕ → Result (Unit {0}) ℕ
  answer_at m k who now = answer_on (at m k) who now

  abbrev pub passes_on : Option (KeptByKey K) → K → ℕ → Bool
  passes_on o who now = is_ok (answer_on o who now)

  -- whether the quota at a key of the table admits one more of another key at a moment: it does not where there is none
  abbrev pub passes_at : List (ℕ × KeptByKey K) → ℕ → K → ℕ → Bool
  passes_at m k who now = passes_on (at m k) who now

  abbrev pub checked_on : Option (KeptByKey K) → List (ℕ × KeptByKey K) → ℕ → K → ℕ → List (ℕ × KeptByKey K)
  checked_on None m k who now = m
  checked_on (Some kept) m k who now = set_value (is_at (nat_cmp k)) m (checked kept who now)

  -- the table once the quota at a key was asked that
  abbrev pub checked_at : List (ℕ × KeptByKey K) → ℕ → K → ℕ → List (ℕ × KeptByKey K)
  checked_at m k who now = checked_on (at m k) m k who now

-- New limiters, one for each channel that has a quota.
use Rattle.std.specs.Prelude.{ℕ, List, Option, Some, None}
use Rattle.std.specs.BTreeMap.{is_at}
use Rattle.std.specs.Map.{lookup}
use Rattle.std.specs.Ordering.{nat_cmp}
use Rattle.p2p_runtime.specs.QuotaLaw.{Rate}
use Rattle.p2p_runtime.specs.QuotaKept.{Kept}

-- what is kept of a quota that admitted nothing
abbrev pub fresh : Rate → Kept
fresh rate = record { rate = rate; arrival = 0; latest = 0 }

abbrev pub fresh_of : Option Rate → Option Kept
fresh_of None = None
fresh_of (Some rate) = Some (fresh rate)

-- the quota of a channel; of two, the first
abbrev pub quota_of : List (ℕ × Rate) → ℕ → Option Rate
quota_of quotas channel = lookup (is_at (nat_cmp channel)) quotas

abbrev pub or_else : {X : Type 0} → Option X → Option X → Option X
or_else None other = other
or_else (Some x) other = Some x

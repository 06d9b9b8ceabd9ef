-- What the quota of a channel admits of what its node sends: it counts each key apart.
use Rattle.std.specs.Prelude.{ℕ, max, ◌==◌, ◌&&◌, cond, List, [], ◌∷◌, flat_map, Option, Some, None}
use Rattle.std.specs.BTreeMap.{is_at}
use Rattle.std.specs.Map.{lookup}
use Rattle.p2p_base.specs.declared.key.Key.{Key}
use Rattle.p2p_runtime.specs.QuotaLaw.{Rate as Quota, admits, retry}
use Rattle.p2p_runtime.specs.QuotaKeys.{with_admission}
use Rattle.p2p_log.specs.declared.event.Rate.{Rate}
pub use Rattle.p2p_log.specs.Keys.{key_cmp}
use Rattle.p2p_log_rules.specs.Tellings.{Telling}
use Rattle.p2p_log_rules.specs.Tellings as telling

-- ---- rates

-- the channel that is told of, with its rate
abbrev pub rate_told : ℕ → Telling → List (ℕ × Rate)
rate_told n (telling.channel_registered m c rate) = cond (m == n) ((c, rate) ∷ []) []
rate_told n _ = []

abbrev pub rates_in : List Telling → ℕ → List (ℕ × Rate)
rates_in ts n = flat_map (rate_told n) ts

-- the rate of a channel, where it is registered
abbrev pub rate_in : List (ℕ × Rate) → ℕ → Option Rate
rate_in rates c = lookup (λ k. c == k) rates

-- ---- quotas

abbrev pub quota_of : Rate → Quota
quota_of r = record { burst = r.burst; period = r.period }

module _ (quota : Quota) (at : ℕ) where
  -- the keys that the quota admits at a moment, one after another, given the moments at which it admitted each
  abbrev pub admitted_keys : List Key → (Key → List ℕ) → List Key
  admitted_keys [] past = []
  admitted_keys (k ∷ ks) past =
      cond (admits quota (past k) at) (k ∷ admitted_keys ks (with_admission key_cmp past k at)) (admitted_keys ks past)

  -- the latest of the moments from which those are admitted that it refuses, where it refuses some
  abbrev pub latest_retry : List Key → (Key → List ℕ) → ℕ
  latest_retry [] past = 0
  latest_retry (k ∷ ks) past =
      cond (admits quota (past k) at) (latest_retry ks (with_admission key_cmp past k at)) (max (retry quota (past k)) (latest_retry ks past))

-- the same of a channel of this rate, where it is registered
abbrev pub keys_by : Option Rate → ℕ → List Key → (Key → List ℕ) → List Key
keys_by None at keys past = []
keys_by (Some rate) at keys past = admitted_keys (quota_of rate) at keys past

abbrev pub retry_by : Option Rate → ℕ → List Key → (Key → List ℕ) → ℕ
retry_by None at keys past = 0
retry_by (Some rate) at keys past = latest_retry (quota_of rate) at keys past

-- ---- what is told of it

-- this moment once for each place at which this key is among those
abbrev pub at_places : Key → ℕ → List Key → List ℕ
at_places k at [] = []
at_places k at (j ∷ js) = cond (is_at (key_cmp j) k) (at ∷ at_places k at js) (at_places k at js)

abbrev pub admits_key : ℕ → ℕ → Key → Telling → List ℕ
admits_key n c k (telling.sends_admitted m d at keys) = cond ((m == n) && (d == c)) (at_places k at keys) []
admits_key n c k _ = []

-- the moments at which the quota of a channel of a node admitted this key, oldest first
abbrev pub moments_in : List Telling → ℕ → ℕ → Key → List ℕ
moments_in ts n c k = flat_map (admits_key n c k) ts

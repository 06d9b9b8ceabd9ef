-- What a limiter of many keys keeps, and when that stands for the admissions of each key.
use Rattle.std.specs.Prelude.{◌≡◌, ℕ, ◌<◌, Bool, List, [], ◌∷◌, ◌++◌, Option, IfSome, is_some, unwrap_or, if◌then◌else◌}
use Rattle.std.specs.declared.cmp.Ordering.{Ordering}
use Rattle.std.specs.BTreeMap.{is_at}
use Rattle.std.specs.Map.{lookup}
use Rattle.p2p_runtime.specs.QuotaLaw.{Rate}
use Rattle.p2p_runtime.specs.QuotaKept.{IsArrivalOf}
use Rattle.p2p_runtime.specs.QuotaStep.{IsNear}

-- What it keeps: its quota, the arrival times of some keys, and the latest moment handed to it.
pub record KeptByKey (K : Type 0) : Type 0 where
  pub rate : Rate
  pub arrivals : List (K × ℕ)
  pub latest : ℕ

module _ {K : Type 0} (cmp : K → K → Ordering) where
  -- The arrival time that is kept for a key, if one is.
  abbrev pub found_arrival : KeptByKey K → K → Option ℕ
  found_arrival kept key = lookup (is_at (cmp key)) kept.arrivals

  -- Something is kept for a key.
  abbrev pub is_known : KeptByKey K → K → Bool
  is_known kept key = is_some (found_arrival kept key)

  -- The arrival time of a key: 0 where none is kept.
  abbrev pub arrival_at : KeptByKey K → K → ℕ
  arrival_at kept key = unwrap_or (found_arrival kept key) 0

  -- What is kept stands, for each key apart, for that key's admissions, and for the latest moment.
  pub record StandsForEach (kept : KeptByKey K) (past : K → List ℕ) (latest : ℕ) : Type 0 where
    pub moment : kept.latest ≡ latest
    pub arrivals : (key : K) → IsArrivalOf kept.rate (arrival_at kept key) (past key) latest

  -- The admissions of each key after one more of `key`, at the moment `at`.
  abbrev pub with_admission : (K → List ℕ) → K → ℕ → K → List ℕ
  with_admission past key at other = if is_at (cmp key) other then past other ++ at ∷ [] else past other

  -- Something is kept for a key only where it still matters at the latest moment.
  abbrev pub KeepsOnlyRecent : KeptByKey K → Type 0
  KeepsOnlyRecent kept = (key : K) → IfSome (found_arrival kept key) (λ arrival. kept.latest < arrival)

  -- Each arrival time is at most a whole burst ahead of the latest moment.
  abbrev pub IsNearEach : KeptByKey K → Type 0
  IsNearEach kept = (key : K) → IsNear kept.rate (arrival_at kept key) kept.latest

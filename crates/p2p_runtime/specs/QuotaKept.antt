-- What a limiter keeps in place of its admissions, and when that stands for them.
use Rattle.std.specs.Prelude.{◌≡◌, ℕ, ◌+◌, ◌*◌, ◌≤◌, max, List, [], ◌∷◌, length}
use Rattle.p2p_runtime.specs.QuotaLaw.{Rate}

-- What a limiter keeps: its quota, one arrival time, and the latest moment handed to it.
pub record Kept : Type 0 where
  pub rate : Rate
  pub arrival : ℕ
  pub latest : ℕ

-- No admission is later than the moment `latest`.
abbrev pub NoneLater : List ℕ → ℕ → Type 0
NoneLater [] latest = Unit {0}
NoneLater (from ∷ later) latest = (from ≤ latest) × NoneLater later latest

-- The arrival time of a list of admissions: the moment from which they no longer matter.
unfoldable pub arrival_of : Rate → List ℕ → ℕ
arrival_of rate [] = 0
arrival_of rate (from ∷ later) = max (from + (length later + 1) * rate.period) (arrival_of rate later)

-- An arrival time stands for the admissions `past` where both matter alike from the moment `latest` on.
pub record IsArrivalOf (rate : Rate) (arrival : ℕ) (past : List ℕ) (latest : ℕ) : Type 0 where
  pub none_later : NoneLater past latest
  pub same : max arrival latest ≡ max (arrival_of rate past) latest

-- What a limiter keeps stands for the admissions `past` and for `latest`, the latest moment handed to it.
pub record StandsFor (kept : Kept) (past : List ℕ) (latest : ℕ) : Type 0 where
  pub moment : kept.latest ≡ latest
  pub arrival : IsArrivalOf kept.rate kept.arrival past latest

-- The places of a limiter.
use Rattle.std.specs.Prelude.{ℕ}

-- How many places are held, and how many there are.
pub record Places : Type 0 where
  pub held : ℕ
  pub max : ℕ

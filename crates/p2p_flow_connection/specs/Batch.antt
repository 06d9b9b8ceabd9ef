-- A batch as contracts see it.
use Rattle.std.specs.Prelude.{ℕ, List}

-- the frames, in order, and how many the batch has at most once it is filled
pub record Batch : Type 0 where
  pub frames : List (List ℕ)
  pub size : ℕ

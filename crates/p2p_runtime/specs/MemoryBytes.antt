-- What a contract sees of a `MemorySink`.
use Rattle.std.specs.Prelude.{ℕ, List}

-- the bytes that were written, how many more have room already, and how often there was none
pub record Written : Type 0 where
  pub bytes : List ℕ
  pub room : ℕ
  pub faults : ℕ

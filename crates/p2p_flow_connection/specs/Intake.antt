-- An inbox as contracts see it.
use Rattle.std.specs.Prelude.{ℕ, List, Option}
use Rattle.p2p_runtime.specs.QuotaLaw.{Rate}
use Rattle.p2p_runtime.specs.QuotaKept.{Kept}
use Rattle.p2p_wire.specs.declared.frame.Data.{Data}

-- the quotas of the channels, what is kept for each of them, and the message that waits for its quota, with its sender
pub record Intake (P : Type 0) : Type 0 where
  pub channels : List (ℕ × Rate)
  pub limiters : List (ℕ × Kept)
  pub held : Option (P × Data)

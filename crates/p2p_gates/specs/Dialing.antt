-- A dialer as contracts see it.
use Rattle.std.specs.Prelude.{ℕ, Bool, false, List, []}
use Rattle.p2p_gates.specs.declared.config.Config.{Config}

-- what it was told when it was made; the peers that it dials, the last one first; the moment at which it dials or asks
-- again; the moment at which it asked last whom to dial; whether it waits for an answer; and whether a step of it has
-- failed
pub record Dialing (P : Type 0) : Type 0 where
  pub cfg : Config
  pub peers : List P
  pub deadline : ℕ
  pub asked_at : ℕ
  pub is_asking : Bool
  pub has_failed : Bool

-- a new dialer, whose first deadline is its start
abbrev pub new_dialer : {P : Type 0} → Config → ℕ → Dialing P
new_dialer cfg start = record {
  cfg = cfg;
  peers = [];
  deadline = start;
  asked_at = start;
  is_asking = false;
  has_failed = false;
}

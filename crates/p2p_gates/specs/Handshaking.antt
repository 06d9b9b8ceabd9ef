-- A handshake as contracts see it.
use Rattle.std.specs.Prelude.{ℕ, ◌+◌, Bool, false}
use Rattle.p2p_gates.specs.declared.arrival.Arrival.{Arrival}

-- its name, by which the tracker answers it; the arrival; the moment up to which its keys are to be exchanged; whether
-- the peer may connect, whether its keys were exchanged, whether it has ended, and whether a step of it has failed
pub record Handshaking (P : Type 0) : Type 0 where
  pub name : ℕ
  pub arrival : Arrival P
  pub deadline : ℕ
  pub is_accepted : Bool
  pub is_finished : Bool
  pub has_ended : Bool
  pub has_failed : Bool

-- the handshake of an arrival that was admitted at the moment `now`
abbrev pub new_handshake : {P : Type 0} → ℕ → Arrival P → ℕ → ℕ → Handshaking P
new_handshake name arrival timeout now = record {
  name = name;
  arrival = arrival;
  deadline = now + timeout;
  is_accepted = false;
  is_finished = false;
  has_ended = false;
  has_failed = false;
}

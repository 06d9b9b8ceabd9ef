-- How what a peer tells is judged.
use Rattle.std.specs.Prelude.{ℕ, Bool, List, Option}
use Rattle.p2p_discovery.specs.Verifying.{Believed, info_fault, infos_fault}
use Rattle.p2p_discovery.specs.declared.types.error.Error.{Error}
use Rattle.p2p_discovery.specs.declared.info.Info.{Info}

-- whether two keys are one, and why an info, or one of several, isn't believed
pub record Judge (P : Type 0) : Type 0 where
  pub is_same : P → P → Bool
  pub fault : Info P → Option Error
  pub faults : List (Info P) → Option Error

-- by what is believed of infos at this moment
abbrev pub judge : {P : Type 0} → (P → P → Bool) → Believed P → (P → List ℕ → List ℕ → List ℕ → Bool) → ℕ → Judge P
judge eq b accepts now = record { is_same = eq; fault = info_fault eq b accepts now; faults = infos_fault eq b accepts now }

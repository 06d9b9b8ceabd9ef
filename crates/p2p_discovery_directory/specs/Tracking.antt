-- What a tracker knows, as contracts see it.
use Rattle.std.specs.Prelude.{ℕ, Bool, List, []}
use Rattle.p2p_discovery.specs.declared.info.Info.{Info}

-- its directory, the own info, the nanoseconds between two grants of a peer, how many infos it tells at once at most, the subscriptions to
-- peer sets and those to the blocked keys, in order, and the connection that is kept for each key
pub record Tracking (S P : Type 0) : Type 0 where
  pub directory : S
  pub own : Info P
  pub cooldown : ℕ
  pub most : ℕ
  pub updates : List ℕ
  pub sets : List ℕ
  pub controls : List (P × ℕ)

-- the same, and whether a step found no memory
pub record Tracker (S P : Type 0) : Type 0 where
  pub tracking : Tracking S P
  pub has_failed : Bool

-- a new tracker with this directory
abbrev pub new_tracking : {S P : Type 0} → S → Info P → ℕ → ℕ → Tracking S P
new_tracking d own cooldown most = record { directory = d; own = own; cooldown = cooldown; most = most; updates = []; sets = []; controls = [] }

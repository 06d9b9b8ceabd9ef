-- The kinds of acts: those that change which channels, nodes and answers there are, and the plain ones.
use Rattle.std.proofs.Common.{◌≡◌, ℕ, Bool, false, List, [], refl, ap, ◌∙◌}
use Rattle.std.specs.Prelude.{◌&&◌}
use Rattle.p2p_log_rules.proofs.Bools.{and_false}
use Rattle.p2p_log.specs.declared.config.Config.{Config}
use Rattle.p2p_log.specs.declared.event.Rate.{Rate}
use Rattle.p2p_log.specs.declared.event.Act.{Act}
use Rattle.p2p_log.specs.declared.event.Act.TheVariants as act
use Rattle.p2p_log_rules.proofs.Connections.{steps_sender}
use Rattle.p2p_log_rules.specs.Facts.{registers_at, starts, stops, turns}

-- an act that registers no channel, neither starts nor stops a node, and steps no sending half
pub record IsPlain (a : Act) : Type 0 where
  pub registers : (configs : List Config) (n : ℕ) → registers_at configs n a ≡ []
  pub turns : (n : ℕ) → turns n a ≡ false
  pub sends : (n conn : ℕ) → steps_sender n conn a ≡ false

pub data Kind (a : Act) : Type 0 where
  registering : (c n : ℕ) (rate : Rate) → a ≡ act.Register c n rate → Kind a
  starting : (n : ℕ) → a ≡ act.Start n → Kind a
  stopping : (by_start : Bool) (n : ℕ) → a ≡ act.Stop by_start n → Kind a
  sending : (conn n : ℕ) → a ≡ act.SendStep conn n → Kind a
  plain : IsPlain a → Kind a

pub kind_of : (a : Act) → Kind a
kind_of (act.Register c n rate) = registering c n rate refl
kind_of (act.Start n) = starting n refl
kind_of (act.Stop by_start n) = stopping by_start n refl
kind_of (act.SendStep conn n) = sending conn n refl
kind_of _ =
    plain (record { registers = λ _ _. refl; turns = λ _. refl; sends = λ _ _. refl })

-- what an act is not, by what it would be

pub registers_unless : (configs : List Config) (n : ℕ) (a : Act) → ((c m : ℕ) (rate : Rate) → a ≡ act.Register c m rate → registers_at configs n (act.Register c m rate) ≡ []) → registers_at configs n a ≡ []
registers_unless configs n a h = by (kind_of a)
  where
    by : Kind a → registers_at configs n a ≡ []
    by (registering c m rate is) = ap (registers_at configs n) is ∙ h c m rate is
    by (starting m is) = ap (registers_at configs n) is
    by (stopping by_start m is) = ap (registers_at configs n) is
    by (sending conn m is) = ap (registers_at configs n) is
    by (plain p) = p.registers configs n

pub turns_unless : (n : ℕ) (a : Act) → ((m : ℕ) → a ≡ act.Start m → turns n (act.Start m) ≡ false) → ((by_start : Bool) (m : ℕ) → a ≡ act.Stop by_start m → turns n (act.Stop by_start m) ≡ false)
    → turns n a ≡ false
turns_unless n a h k = by (kind_of a)
  where
    by : Kind a → turns n a ≡ false
    by (registering c m rate is) = ap (turns n) is
    by (starting m is) = ap (turns n) is ∙ h m is
    by (stopping by_start m is) = ap (turns n) is ∙ k by_start m is
    by (sending conn m is) = ap (turns n) is
    by (plain p) = p.turns n

-- an act that neither starts nor stops a node does neither
pub turns_starts : (n : ℕ) (a : Act) → turns n a ≡ false → starts n a ≡ false
turns_starts n (act.Start m) h = h
turns_starts n (act.Stop by_start m) h = ap (λ b. by_start && b) h ∙ and_false by_start
turns_starts n _ h = refl

pub turns_stops : (n : ℕ) (a : Act) → turns n a ≡ false → stops n a ≡ false
turns_stops n (act.Stop by_start m) h = h
turns_stops n _ h = refl

pub sends_unless : (n conn : ℕ) (a : Act) → ((d m : ℕ) → a ≡ act.SendStep d m → steps_sender n conn (act.SendStep d m) ≡ false) → steps_sender n conn a ≡ false
sends_unless n conn a h = by (kind_of a)
  where
    by : Kind a → steps_sender n conn a ≡ false
    by (registering c m rate is) = ap (steps_sender n conn) is
    by (starting m is) = ap (steps_sender n conn) is
    by (stopping by_start m is) = ap (steps_sender n conn) is
    by (sending d m is) = ap (steps_sender n conn) is ∙ h d m is
    by (plain p) = p.sends n conn

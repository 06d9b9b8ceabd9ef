-- An attempt of a node's dialer that stands is of an entry before.
use Rattle.std.proofs.Common.{◌≡◌, ℕ, suc, ◌<◌, ◌≤◌, Bool, true, false, List, [], ◌∷◌, ◌++◌, length, Option, Some, None, refl, arith, length-append}
use Rattle.std.specs.Prelude.{nat_le}
use Rattle.std.proofs.lemmas.Bool.Decides.{nat_tests}
use Rattle.p2p_log.specs.declared.config.Config.{Config}
use Rattle.p2p_log.specs.declared.entry.Entry.{Entry}
use Rattle.p2p_log_rules.specs.Attempting.{Attempt, attempts_of}
use Rattle.p2p_log_rules.proofs.AttemptTellings.{attempts_of-late}

abbrev pub Attempts : Type 0
Attempts = ℕ → Option Attempt

pub longer : (log : List Entry) (e : Entry) → length (log ++ e ∷ []) ≡ suc (length log)
longer log e = let l = length-append log (e ∷ []) in omega (arith, l)

pub stands_before : (configs : List Config) (n : ℕ) (log : List Entry) (e : ℕ) (a : Attempt) → attempts_of configs log n e ≡ Some a → e < length log
stands_before configs n log e a h = go (nat_le (length log) e) refl
  where
    at_least : (m i : ℕ) → nat_le m i ≡ true → m ≤ i
    at_least m i late = grind (arith, nat_tests)

    below : (m i : ℕ) → nat_le m i ≡ false → i < m
    below m i early = grind (arith, nat_tests)

    go : (b : Bool) → nat_le (length log) e ≡ b → e < length log
    go true late = absurd (let none : attempts_of configs log n e ≡ None = attempts_of-late configs log n e (at_least (length log) e late) in cc)
    go false early = below (length log) e early

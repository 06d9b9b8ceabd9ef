-- What holds of no entries, and is kept by each entry of a log, holds of each beginning of the log.
use Rattle.std.proofs.Common.{◌≡◌, ℕ, suc, zero, List, [], ◌∷◌, ◌++◌, length, take, Option, Some, None, refl, sym, subst, arith}
use Rattle.std.specs.Prelude.{slice_get}
use Rattle.std.proofs.lemmas.List.{take_all}
use Rattle.p2p_log.specs.declared.entry.Entry.{Entry}
use Rattle.p2p_log_laws.proofs.Prefixes.{take_next, take_no_more}

module _ (log : List Entry) (P : List Entry → Type 0) (base : P [])
    (step : (n : ℕ) (e : Entry) → slice_get log n ≡ Some e → P (take n log) → P (take n log ++ e ∷ [])) where
  next : (n : ℕ) (o : Option Entry) → slice_get log n ≡ o → P (take n log) → P (take (suc n) log)
  next n None h p = subst P (sym (take_no_more log n h)) p
  next n (Some e) h p = subst P (sym (take_next log n e h)) (step n e h p)

  pub each_beginning : (n : ℕ) → P (take n log)
  each_beginning zero = base
  each_beginning (suc n) = next n (slice_get log n) refl (each_beginning n)

  pub at_last : P log
  at_last = subst P (take_all (length log) log (omega arith)) (each_beginning (length log))

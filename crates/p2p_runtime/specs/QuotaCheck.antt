-- One check, as the code makes it: what it answers, and what is kept after it.
use Rattle.std.specs.Prelude.{ℕ, max, List, Result, Ok, Err}
use Rattle.std.specs.declared.cmp.Ordering.{Ordering}
use Rattle.std.specs.BTreeMap.{insert_entry}
use Rattle.p2p_runtime.specs.QuotaKept.{Kept}
use Rattle.p2p_runtime.specs.QuotaStep.{step}
use Rattle.p2p_runtime.specs.QuotaKeys.{KeptByKey, arrival_at}

-- what a check answers that left this arrival time, or that passes from this moment on
abbrev pub told_of : Result ℕ ℕ → Result (Unit {0}) ℕ
told_of (Ok arrival) = Ok tt
told_of (Err from) = Err from

-- the arrival time after a check that left this one, or that was refused
abbrev pub arrival_after : ℕ → Result ℕ ℕ → ℕ
arrival_after before (Ok arrival) = arrival
arrival_after before (Err from) = before

-- the arrival time of a limiter of one quota after its check, or the moment from which one passes
abbrev pub rate_step : Kept → ℕ → Result ℕ ℕ
rate_step kept now = step kept.rate kept.arrival (max kept.latest now)

abbrev pub rate_answer : Kept → ℕ → Result (Unit {0}) ℕ
rate_answer kept now = told_of (rate_step kept now)

-- what a limiter of one quota keeps after a check
abbrev pub after_rate : Kept → ℕ → Kept
after_rate kept now = record { rate = kept.rate; arrival = arrival_after kept.arrival (rate_step kept now); latest = max kept.latest now }

module _ {K : Type 0} (cmp : K → K → Ordering) where
  -- the arrival time of a key after its check, or the moment from which one passes
  abbrev pub step_of : KeptByKey K → K → ℕ → Result ℕ ℕ
  step_of kept key now = step kept.rate (arrival_at cmp kept key) (max kept.latest now)

  -- the arrival times after the check of a key
  abbrev pub arrivals_after : List (K × ℕ) → K → Result ℕ ℕ → List (K × ℕ)
  arrivals_after arrivals key (Ok arrival) = insert_entry cmp arrivals key arrival
  arrivals_after arrivals key (Err from) = arrivals

  abbrev pub check_answer : KeptByKey K → K → ℕ → Result (Unit {0}) ℕ
  check_answer kept key now = told_of (step_of kept key now)

  -- what is kept after the check of a key
  abbrev pub after_check : KeptByKey K → K → ℕ → KeptByKey K
  after_check kept key now = record {
    rate = kept.rate;
    arrivals = arrivals_after kept.arrivals key (step_of kept key now);
    latest = max kept.latest now;
  }

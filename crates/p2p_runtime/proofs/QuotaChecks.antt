-- One check of an arrival time, against the law over the admissions that it stands for.
use Rattle.std.proofs.Common.{◌≡◌, ℕ, ◌+◌, ◌-◌, ◌*◌, ◌<◌, ◌≤◌, true, false, nat_le, arith, max, List, [], ◌∷◌, ◌++◌, Ok, Err, refl, sym}
use Rattle.std.proofs.lemmas.Bool.Decides.{nat_tests}
use Rattle.p2p_runtime.specs.QuotaLaw.{Rate, admits, retry}
use Rattle.p2p_runtime.specs.QuotaKept.{Kept, arrival_of, IsArrivalOf, StandsFor}
use Rattle.p2p_runtime.specs.QuotaStep.{IsQuota, burst_time, next_arrival, step}
use Rattle.p2p_runtime.proofs.QuotaWindow.{period_le, admits_by_arrival, retry_by_arrival, arrival_of-push, NoneLater-push, NoneLater-on}

-- A step that passes is within the quota, and its arrival time is the next one.
pub step-ok : (rate : Rate) (arrival at next : ℕ) → step rate arrival at ≡ Ok next → (next ≡ next_arrival rate arrival at) × (next_arrival rate arrival at ≤ at + burst_time rate)
step-ok rate arrival at next passed = grind (arith, nat_tests)

-- A step that is refused is not.
pub step-err : (rate : Rate) (arrival at after : ℕ) → step rate arrival at ≡ Err after → (after ≡ next_arrival rate arrival at - burst_time rate) × (at + burst_time rate < next_arrival rate arrival at)
step-err rate arrival at after refused = grind (arith, nat_tests)

-- As time goes on, an arrival time stands for the same admissions.
pub IsArrivalOf-on : (rate : Rate) (arrival : ℕ) (past : List ℕ) (latest at : ℕ) → IsArrivalOf rate arrival past latest → latest ≤ at → IsArrivalOf rate arrival past at
IsArrivalOf-on rate arrival past latest at stands le =
    let same : max arrival latest ≡ max (arrival_of rate past) latest = stands.same in
    record { none_later = NoneLater-on past latest at stands.none_later le; same = omega arith }

-- A step that passes is one that the law admits, and then stands for one admission more.
pub passed_step : (rate : Rate) (arrival : ℕ) (past : List ℕ) (at next : ℕ) → IsQuota rate → IsArrivalOf rate arrival past at → step rate arrival at ≡ Ok next → (admits rate past at ≡ true) × IsArrivalOf rate next (past ++ at ∷ []) at
passed_step rate arrival past at next quota stands passed =
    let told : (next ≡ next_arrival rate arrival at) × (next_arrival rate arrival at ≤ at + burst_time rate) = step-ok rate arrival at next passed in
    let law : admits rate past at ≡ nat_le (arrival_of rate past + rate.period) (at + rate.burst * rate.period) = admits_by_arrival rate past at stands.none_later quota.some_burst quota.some_period in
    let same : max arrival at ≡ max (arrival_of rate past) at = stands.same in
    let pushed : arrival_of rate (past ++ at ∷ []) ≡ max (arrival_of rate past) at + rate.period = arrival_of-push rate past at in
    (grind (arith, nat_tests), record { none_later = NoneLater-push past at at stands.none_later (omega arith); same = omega arith })

-- A step that is refused is one that the law refuses, until the moment that it tells.
pub refused_step : (rate : Rate) (arrival : ℕ) (past : List ℕ) (at after : ℕ) → IsQuota rate → IsArrivalOf rate arrival past at → step rate arrival at ≡ Err after → (admits rate past at ≡ false) × (after ≡ retry rate past)
refused_step rate arrival past at after quota stands refused =
    let told : (after ≡ next_arrival rate arrival at - burst_time rate) × (at + burst_time rate < next_arrival rate arrival at) = step-err rate arrival at after refused in
    let law : admits rate past at ≡ nat_le (arrival_of rate past + rate.period) (at + rate.burst * rate.period) = admits_by_arrival rate past at stands.none_later quota.some_burst quota.some_period in
    let moment : retry rate past ≡ (arrival_of rate past + rate.period) - rate.burst * rate.period = retry_by_arrival rate past quota.some_burst in
    let same : max arrival at ≡ max (arrival_of rate past) at = stands.same in
    let long : rate.period ≤ rate.burst * rate.period = period_le rate.burst rate.period quota.some_burst in
    (grind (arith, nat_tests), omega arith)

-- A limiter's arrival time, at the moment that a check counts as.
pub StandsFor-at : (kept : Kept) (past : List ℕ) (latest now : ℕ) → StandsFor kept past latest → IsArrivalOf kept.rate kept.arrival past (max latest now)
StandsFor-at kept past latest now stands = IsArrivalOf-on kept.rate kept.arrival past latest (max latest now) stands.arrival (omega arith)

-- A check that passes.
pub passed_check : (kept : Kept) (past : List ℕ) (latest now next : ℕ) → IsQuota kept.rate → StandsFor kept past latest → step kept.rate kept.arrival (max kept.latest now) ≡ Ok next → (admits kept.rate past (max latest now) ≡ true) × StandsFor (record { rate = kept.rate; arrival = next; latest = max kept.latest now }) (past ++ max latest now ∷ []) (max latest now)
passed_check kept past latest now next quota stands passed =
    let done : (admits kept.rate past (max latest now) ≡ true) × IsArrivalOf kept.rate next (past ++ max latest now ∷ []) (max latest now) = passed_step kept.rate kept.arrival past (max latest now) next quota (StandsFor-at kept past latest now stands) (rw (← stands.moment) passed) in
    (done.0, record { moment = rw stands.moment refl; arrival = done.1 })

-- A check that is refused.
pub refused_check : (kept : Kept) (past : List ℕ) (latest now after : ℕ) → IsQuota kept.rate → StandsFor kept past latest → step kept.rate kept.arrival (max kept.latest now) ≡ Err after → (admits kept.rate past (max latest now) ≡ false) × (after ≡ retry kept.rate past) × StandsFor (record { rate = kept.rate; arrival = kept.arrival; latest = max kept.latest now }) past (max latest now)
refused_check kept past latest now after quota stands refused =
    let done : (admits kept.rate past (max latest now) ≡ false) × (after ≡ retry kept.rate past) = refused_step kept.rate kept.arrival past (max latest now) after quota (StandsFor-at kept past latest now stands) (rw (← stands.moment) refused) in
    (done.0, done.1, record { moment = rw stands.moment refl; arrival = StandsFor-at kept past latest now stands })

-- A new limiter has admitted nothing.
pub new_stands : (rate : Rate) → StandsFor (record { rate = rate; arrival = 0; latest = 0 }) [] 0
unfolding arrival_of
new_stands rate = record { moment = refl; arrival = record { none_later = tt; same = refl } }

-- The same of a limiter's fields, as the code of `check` leaves them.
pub passed_call : (kept : Kept) (rate : Rate) (arrival before now at next : ℕ) → record { rate = rate; arrival = arrival; latest = before } ≡ kept → IsQuota rate → at ≡ max before now → Ok next ≡ step rate arrival at → (past : List ℕ) (latest : ℕ) → StandsFor kept past latest → (admits kept.rate past (max latest now) ≡ true) × StandsFor (record { rate = rate; arrival = next; latest = at }) (past ++ max latest now ∷ []) (max latest now)
passed_call kept rate arrival before now at next view quota is_at passed past latest stands =
    rw (← view, is_at) (passed_check (record { rate = rate; arrival = arrival; latest = before }) past latest now next quota (rw view stands) (rw (← is_at) (sym passed)))

pub refused_call : (kept : Kept) (rate : Rate) (arrival before now at after : ℕ) → record { rate = rate; arrival = arrival; latest = before } ≡ kept → IsQuota rate → at ≡ max before now → Err after ≡ step rate arrival at → (past : List ℕ) (latest : ℕ) → StandsFor kept past latest → (admits kept.rate past (max latest now) ≡ false) × (after ≡ retry kept.rate past) × StandsFor (record { rate = rate; arrival = arrival; latest = at }) past (max latest now)
refused_call kept rate arrival before now at after view quota is_at refused past latest stands =
    rw (← view, is_at) (refused_check (record { rate = rate; arrival = arrival; latest = before }) past latest now after quota (rw view stands) (rw (← is_at) (sym refused)))

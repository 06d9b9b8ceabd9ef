-- The law place by place, against one arrival time.
use Rattle.std.proofs.Common.{◌≡◌, ℕ, ◌+◌, ◌-◌, ◌*◌, ◌/◌, ◌<◌, ◌≤◌, ◌↔◌, ◌&&◌, nat_le, arith, le-div_iff_mul-le, mul_comm, one-mul, max, List, [], ◌∷◌, ◌++◌, length, length-append, add-mul, mul-le-mul_right, refl, ap, ◌∙◌}
use Rattle.std.proofs.lemmas.Bool.Decides.{nat_tests}
use Rattle.std.proofs.Math.Nat.{mul-sub}
use Rattle.p2p_runtime.specs.QuotaLaw.{Rate, admits, retry, is_within}
use Rattle.p2p_runtime.specs.QuotaKept.{NoneLater, arrival_of}

-- The window: the division of the law against the sum that the code makes.
pub window : (n b a t p : ℕ) → a ≤ t → 0 < p → (n ≤ b + (t - a) / p) ↔ (a + n * p ≤ t + b * p)
window n b a t p before some =
    let turned : (n - b ≤ (t - a) / p) ↔ ((n - b) * p ≤ t - a) = le-div_iff_mul-le some in
    let split : (n - b) * p ≡ n * p - b * p = rw (mul_comm (n - b) p, mul-sub p n b, mul_comm p n, mul_comm p b) refl in
    (λ h. let le : (n - b) * p ≤ t - a = turned.0 (omega arith) in omega arith, λ h. let le : n - b ≤ (t - a) / p = turned.1 (omega arith) in omega arith)

-- One admission more takes one period more.
pub next_place : (n p : ℕ) → (n + 2) * p ≡ (n + 1) * p + p
next_place n p =
    let one : (n + 1 + 1) * p ≡ (n + 1) * p + 1 * p = add-mul (n + 1) 1 p in
    let same : n + 2 ≡ n + 1 + 1 = omega arith in
    rw same (one ∙ ap (λ k. (n + 1) * p + k) (one-mul p))

-- A burst is at least one period long.
pub period_le : (b p : ℕ) → 0 < b → p ≤ b * p
period_le b p some = let le : 1 * p ≤ b * p = mul-le-mul_right p some in rw (one-mul p) at le

-- The test of one place, by the sum.
pub is_within_sum : (rate : Rate) (n a t : ℕ) → a ≤ t → 0 < rate.period → is_within rate n a t ≡ nat_le (a + n * rate.period) (t + rate.burst * rate.period)
is_within_sum rate n a t before some = let w : (n ≤ rate.burst + (t - a) / rate.period) ↔ (a + n * rate.period ≤ t + rate.burst * rate.period) = window n rate.burst a t rate.period before some in grind (arith, nat_tests)

-- The test of two sums is the test of the greater one.
pub both_fit : (x y p z : ℕ) → (nat_le (x + p) z && nat_le (y + p) z) ≡ nat_le (max x y + p) z
both_fit x y p z = grind (arith, nat_tests)

-- The law is the test of the arrival time.
pub admits_by_arrival : (rate : Rate) (past : List ℕ) (t : ℕ) → NoneLater past t → 0 < rate.burst → 0 < rate.period → admits rate past t ≡ nat_le (arrival_of rate past + rate.period) (t + rate.burst * rate.period)
unfolding admits arrival_of
admits_by_arrival rate [] t none b p = let le : rate.period ≤ rate.burst * rate.period = period_le rate.burst rate.period b in grind (arith, nat_tests)
admits_by_arrival rate (a ∷ later) t none b p =
    let place : is_within rate (length later + 2) a t ≡ nat_le (a + (length later + 2) * rate.period) (t + rate.burst * rate.period) = is_within_sum rate (length later + 2) a t none.0 p in
    let more : (length later + 2) * rate.period ≡ (length later + 1) * rate.period + rate.period = next_place (length later) rate.period in
    rw (place, admits_by_arrival rate later t none.1 b p) (grind (arith, nat_tests))

-- The retry moment, by the arrival time.
pub retry_by_arrival : (rate : Rate) (past : List ℕ) → 0 < rate.burst → retry rate past ≡ (arrival_of rate past + rate.period) - rate.burst * rate.period
unfolding retry arrival_of
retry_by_arrival rate [] b = let le : rate.period ≤ rate.burst * rate.period = period_le rate.burst rate.period b in omega arith
retry_by_arrival rate (a ∷ later) b =
    let more : (length later + 2) * rate.period ≡ (length later + 1) * rate.period + rate.period = next_place (length later) rate.period in
    rw (retry_by_arrival rate later b) (omega arith)

-- The law is the test of the retry moment: a check passes exactly from that moment on.
pub admits_by_retry : (rate : Rate) (past : List ℕ) (t : ℕ) → NoneLater past t → 0 < rate.burst → 0 < rate.period → admits rate past t ≡ nat_le (retry rate past) t
admits_by_retry rate past t none b p =
    let law : admits rate past t ≡ nat_le (arrival_of rate past + rate.period) (t + rate.burst * rate.period) = admits_by_arrival rate past t none b p in
    let moment : retry rate past ≡ (arrival_of rate past + rate.period) - rate.burst * rate.period = retry_by_arrival rate past b in
    grind (arith, nat_tests)

-- One admission more at the end of the list.
pub arrival_of-push : (rate : Rate) (past : List ℕ) (t : ℕ) → arrival_of rate (past ++ t ∷ []) ≡ max (arrival_of rate past) t + rate.period
unfolding arrival_of
arrival_of-push rate [] t = rw (one-mul rate.period) (omega arith)
arrival_of-push rate (a ∷ later) t =
    let more : (length later + 2) * rate.period ≡ (length later + 1) * rate.period + rate.period = next_place (length later) rate.period in
    let longer : length (later ++ t ∷ []) + 1 ≡ length later + 2 = rw (length-append later (t ∷ [])) (omega arith) in
    rw (longer, arrival_of-push rate later t, more) (omega arith)

-- A list with one admission more has none later than that one.
pub NoneLater-push : (past : List ℕ) (latest t : ℕ) → NoneLater past latest → latest ≤ t → NoneLater (past ++ t ∷ []) t
NoneLater-push [] latest t none le = (omega arith, tt)
NoneLater-push (a ∷ later) latest t none le = (omega arith, NoneLater-push later latest t none.1 le)

-- What is not later than one moment is not later than a later one.
pub NoneLater-on : (past : List ℕ) (latest t : ℕ) → NoneLater past latest → latest ≤ t → NoneLater past t
NoneLater-on [] latest t none le = tt
NoneLater-on (a ∷ later) latest t none le = (omega arith, NoneLater-on later latest t none.1 le)

-- How the limiters of an inbox are made, one after another.
use Rattle.std.proofs.Common.{◌≡◌, ℕ, ◌+◌, ◌<◌, ◌≤◌, Bool, true, false, cond, List, [], ◌∷◌, length, get_or, drop, Option, Some, None, refl, sym, ap, ◌∙◌}
use Rattle.std.specs.Option.{is_some}
use Rattle.std.specs.BTreeMap.{is_at}
use Rattle.std.specs.Cmp.{eq_by_cmp_equiv}
use Rattle.std.specs.HashMap.Eq.{lookup_congr}
use Rattle.std.specs.Ordering.{nat_cmp, eq_by_cmp}
use Rattle.std.proofs.lemmas.Cmp.{nat_cmp_total}
use Rattle.std.proofs.lemmas.List.{drop_more, drop_all}
use Rattle.p2p_runtime.specs.QuotaLaw.{Rate}
use Rattle.p2p_runtime.specs.QuotaKept.{Kept}
use Rattle.p2p_flow_connection.specs.Delivering.{limiter_in}
use Rattle.p2p_flow_connection.specs.Limiting.{fresh, fresh_of, quota_of, or_else}

-- a channel that has a limiter keeps it
kept_there : (found : Option Kept) (here : Bool) (rate : Rate) → (here ≡ true → is_some found ≡ true) → found ≡ or_else found (fresh_of (cond here (Some rate) None))
kept_there (Some kept) here rate h = refl
kept_there None false rate h = refl
kept_there None true rate h = absurd (let none : Option Kept = None in let e : is_some none ≡ true = h refl in cc)

-- a channel that has none gets one
made_there : (found : Option Kept) (here : Bool) (rate : Rate) → (here ≡ true → found ≡ None) → cond here (Some (fresh rate)) found ≡ or_else found (fresh_of (cond here (Some rate) None))
made_there (Some kept) false rate h = refl
made_there None false rate h = refl
made_there None true rate h = refl
made_there (Some kept) true rate h = absurd (let e : Some kept ≡ None = h refl in cc)

same_channel : (es : List (ℕ × Kept)) (q channel : ℕ) → is_at (nat_cmp q) channel ≡ true → limiter_in es q ≡ limiter_in es channel
same_channel es q channel t = lookup_congr (eq_by_cmp nat_cmp) (eq_by_cmp_equiv nat_cmp_total).congr es q channel t

pub kept_limiter : (es : List (ℕ × Kept)) (channel : ℕ) (rate : Rate) → is_some (limiter_in es channel) ≡ true
    → (q : ℕ) → limiter_in es q ≡ or_else (limiter_in es q) (fresh_of (quota_of ((channel, rate) ∷ []) q))
kept_limiter es channel rate there q = kept_there (limiter_in es q) (is_at (nat_cmp q) channel) rate (λ t. ap is_some (same_channel es q channel t) ∙ there)

pub new_limiter : (es after : List (ℕ × Kept)) (channel : ℕ) (rate : Rate) → limiter_in es channel ≡ None
    → ((q : ℕ) → limiter_in after q ≡ cond (is_at (nat_cmp channel) q) (Some (fresh rate)) (limiter_in es q))
    → (q : ℕ) → limiter_in after q ≡ or_else (limiter_in es q) (fresh_of (quota_of ((channel, rate) ∷ []) q))
new_limiter es after channel rate none updates q =
    updates q
    ∙ (ap (λ b. cond b (Some (fresh rate)) (limiter_in es q)) ((eq_by_cmp_equiv nat_cmp_total).symm channel q)
    ∙ made_there (limiter_in es q) (is_at (nat_cmp q) channel) rate (λ t. same_channel es q channel t ∙ none))

-- the first of two limiters counts
first_counts : (found : Option Kept) (here : Bool) (rate : Rate) (rest : Option Rate) → or_else (or_else found (fresh_of (cond here (Some rate) None))) (fresh_of rest) ≡ or_else found (fresh_of (cond here (Some rate) rest))
first_counts (Some kept) here rate rest = refl
first_counts None true rate rest = refl
first_counts None false rate rest = refl

-- the limiters made so far, and those of the quotas that are left, come to those of all quotas
abbrev pub IsUnderWay : List (ℕ × Kept) → List (ℕ × Rate) → ℕ → Type 0
IsUnderWay es quotas i = (q : ℕ) → or_else (limiter_in es q) (fresh_of (quota_of (drop i quotas) q)) ≡ fresh_of (quota_of quotas q)

pub one_more : (es after : List (ℕ × Kept)) (quotas : List (ℕ × Rate)) (i : ℕ) (one : ℕ × Rate) → i < length quotas → one ≡ get_or quotas i one
    → ((q : ℕ) → limiter_in after q ≡ or_else (limiter_in es q) (fresh_of (quota_of ((one.0, one.1) ∷ []) q))) → IsUnderWay es quotas i → IsUnderWay after quotas (i + 1)
one_more es after quotas i one within at added h q =
    let rest = drop (i + 1) quotas in
    ap (λ found. or_else found (fresh_of (quota_of rest q))) (added q)
    ∙ (first_counts (limiter_in es q) (is_at (nat_cmp q) one.0) one.1 (quota_of rest q)
    ∙ (ap (λ l. or_else (limiter_in es q) (fresh_of (quota_of l q))) (sym (drop_more quotas i one within ∙ ap (λ x. x ∷ rest) (sym at))) ∙ h q))

or_none : (found : Option Kept) → found ≡ or_else found None
or_none None = refl
or_none (Some kept) = refl

pub all_made : (es : List (ℕ × Kept)) (quotas : List (ℕ × Rate)) (i : ℕ) → length quotas ≤ i → IsUnderWay es quotas i → (q : ℕ) → limiter_in es q ≡ fresh_of (quota_of quotas q)
all_made es quotas i end h q =
    or_none (limiter_in es q) ∙ (ap (λ l. or_else (limiter_in es q) (fresh_of (quota_of l q))) (sym (drop_all i quotas end)) ∙ h q)

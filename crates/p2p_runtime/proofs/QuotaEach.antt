-- A check of one key, and the forgetting of keys, against the law over each key's admissions.
use Rattle.std.proofs.Common.{◌≡◌, ℕ, ◌<◌, ◌≤◌, Bool, true, false, cond, nat_lt, arith, max, List, [], ◌∷◌, ◌++◌, Ok, Err, Option, Some, None, IfSome, unwrap_or, refl, sym, ap, ◌∙◌, filter}
use Rattle.std.proofs.lemmas.Bool.Decides.{nat_tests}
use Rattle.std.proofs.lemmas.Map.Keys.{IsDistinct-from_sorted}
use Rattle.std.proofs.lemmas.Map.Entries.{lookup-filter-values, option_filter}
use Rattle.std.specs.declared.cmp.Ordering.{Ordering}
use Rattle.std.specs.BTreeMap.{is_at}
use Rattle.std.specs.Cmp.{IsTotalOrder, eq_by_cmp_equiv}
use Rattle.std.specs.HashMap.Eq.{lookup_congr}
use Rattle.std.specs.List.Sorted.{IsStrictlySortedBy}
use Rattle.std.specs.Map.{lookup, keys_of}
use Rattle.std.specs.Ordering.{eq_by_cmp}
use Rattle.p2p_runtime.specs.QuotaLaw.{Rate, admits, retry}
use Rattle.p2p_runtime.specs.QuotaKept.{IsArrivalOf, arrival_of}
use Rattle.p2p_runtime.specs.QuotaStep.{IsQuota, step}
use Rattle.p2p_runtime.specs.QuotaKeys.{KeptByKey, StandsForEach, with_admission, IsNearEach, KeepsOnlyRecent}
use Rattle.p2p_runtime.proofs.QuotaChecks.{passed_step, refused_step, IsArrivalOf-on}

-- What is kept for nothing stands for nothing.
pub nothing_stands : (rate : Rate) (latest : ℕ) → IsArrivalOf rate 0 [] latest
unfolding arrival_of
nothing_stands rate latest = record { none_later = tt; same = refl }

-- A new limiter of many keys has admitted nothing.
pub new_each : {K : Type 0} (cmp : K → K → Ordering) (rate : Rate) (arrivals : List (K × ℕ)) → arrivals ≡ [] → StandsForEach cmp (record { rate = rate; arrivals = arrivals; latest = 0 }) (λ _. []) 0
new_each cmp rate arrivals empty = rw empty (record { moment = refl; arrivals = λ key. nothing_stands rate 0 })

-- The key of a check has one admission more, and each other key has what it had.
push_at : (rate : Rate) (here : Bool) (found : Option ℕ) (next : ℕ) (past : List ℕ) (at : ℕ) → (here ≡ true → IsArrivalOf rate next (past ++ at ∷ []) at) → IsArrivalOf rate (unwrap_or found 0) past at → IsArrivalOf rate (unwrap_or (cond here (Some next) found) 0) (cond here (past ++ at ∷ []) past) at
push_at rate true found next past at pushed kept = pushed refl
push_at rate false found next past at pushed kept = kept

-- An arrival time is kept only where it is later than the moment `latest`.
abbrev kept_after : ℕ → Option ℕ → Option ℕ
kept_after latest found = option_filter (λ arrival. nat_lt latest arrival) found

kept_after-same : (latest : ℕ) (found : Option ℕ) → max (unwrap_or (kept_after latest found) 0) latest ≡ max (unwrap_or found 0) latest
kept_after-same latest None = refl
kept_after-same latest (Some arrival) = grind (arith, nat_tests)

kept_after-le : (latest : ℕ) (found : Option ℕ) → unwrap_or (kept_after latest found) 0 ≤ unwrap_or found 0
kept_after-le latest None = omega arith
kept_after-le latest (Some arrival) = grind (arith, nat_tests)

kept_after-later : (latest : ℕ) (found : Option ℕ) → IfSome (kept_after latest found) (λ arrival. latest < arrival)
kept_after-later latest None = tt
kept_after-later latest (Some arrival) = grind (arith, nat_tests)

module _ {K : Type 0} (cmp : K → K → Ordering) where
  -- The arrival time that the entries `es` hold for a key.
  abbrev arrival_in : List (K × ℕ) → K → ℕ
  arrival_in es key = unwrap_or (lookup (is_at (cmp key)) es) 0

  -- What is kept, from its parts.
  abbrev kept_of : Rate → List (K × ℕ) → ℕ → KeptByKey K
  kept_of rate es latest = record { rate = rate; arrivals = es; latest = latest }

  -- What stands for each key goes on to stand as time goes on.
  StandsForEach-on : (rate : Rate) (es : List (K × ℕ)) (past : K → List ℕ) (before latest at : ℕ) → StandsForEach cmp (kept_of rate es before) past latest → latest ≤ at → (key : K) → IsArrivalOf rate (arrival_in es key) (past key) at
  StandsForEach-on rate es past before latest at stands le key = IsArrivalOf-on rate (arrival_in es key) (past key) latest at (stands.arrivals key) le

  module _ (total : IsTotalOrder cmp) where
    -- Equal keys have one arrival time.
    same_arrival : (es : List (K × ℕ)) (key other : K) → is_at (cmp key) other ≡ true → arrival_in es other ≡ arrival_in es key
    same_arrival es key other equal = ap (λ found. unwrap_or found 0) (sym (lookup_congr (eq_by_cmp cmp) (eq_by_cmp_equiv total).congr es key other equal))

    -- A check of a key that passes, at the moment that it counts as.
    pub passed_key : (rate : Rate) (es after : List (K × ℕ)) (at next : ℕ) (key : K) → IsQuota rate → Ok next ≡ step rate (arrival_in es key) at → ((q : K) → lookup (is_at (cmp q)) after ≡ cond (is_at (cmp key) q) (Some next) (lookup (is_at (cmp q)) es)) → (past : K → List ℕ) (before latest : ℕ) → latest ≤ at → StandsForEach cmp (kept_of rate es before) past latest → (admits rate (past key) at ≡ true) × StandsForEach cmp (kept_of rate after at) (with_admission cmp past key at) at
    passed_key rate es after at next key quota passed updates past before latest le stands =
        let each : (q : K) → IsArrivalOf rate (arrival_in es q) (past q) at = StandsForEach-on rate es past before latest at stands le in
        let pushed : (q : K) → is_at (cmp key) q ≡ true → IsArrivalOf rate next (past q ++ at ∷ []) at = λ q equal. (passed_step rate (arrival_in es q) (past q) at next quota (each q) (rw (same_arrival es key q equal) (sym passed))).1 in
        let law : admits rate (past key) at ≡ true = (passed_step rate (arrival_in es key) (past key) at next quota (each key) (sym passed)).0 in
        (law, record { moment = refl; arrivals = λ q. rw (updates q) (push_at rate (is_at (cmp key) q) (lookup (is_at (cmp q)) es) next (past q) at (pushed q) (each q)) })

    -- A check of a key that is refused.
    pub refused_key : (rate : Rate) (es : List (K × ℕ)) (at free : ℕ) (key : K) → IsQuota rate → Err free ≡ step rate (arrival_in es key) at → (past : K → List ℕ) (before latest : ℕ) → latest ≤ at → StandsForEach cmp (kept_of rate es before) past latest → (admits rate (past key) at ≡ false) × (free ≡ retry rate (past key)) × StandsForEach cmp (kept_of rate es at) past at
    refused_key rate es at free key quota refused past before latest le stands =
        let each : (q : K) → IsArrivalOf rate (arrival_in es q) (past q) at = StandsForEach-on rate es past before latest at stands le in
        let law : (admits rate (past key) at ≡ false) × (free ≡ retry rate (past key)) = refused_step rate (arrival_in es key) (past key) at free quota (each key) (sym refused) in
        (law.0, law.1, record { moment = refl; arrivals = each })

    -- The same of a limiter's fields, as the code of `check_key` leaves them.
    pub passed_key_call : (kept : KeptByKey K) (rate : Rate) (es after : List (K × ℕ)) (before now at arrival next : ℕ) (key : K) → kept_of rate es before ≡ kept → IsQuota rate → at ≡ max before now → arrival ≡ arrival_in es key → Ok next ≡ step rate arrival at → ((q : K) → lookup (is_at (cmp q)) after ≡ cond (is_at (cmp key) q) (Some next) (lookup (is_at (cmp q)) es)) → (past : K → List ℕ) (latest : ℕ) → StandsForEach cmp kept past latest → (admits kept.rate (past key) (max latest now) ≡ true) × StandsForEach cmp (kept_of rate after at) (with_admission cmp past key (max latest now)) (max latest now)
    passed_key_call kept rate es after before now at arrival next key view quota moment found passed updates past latest stands =
        let fields : StandsForEach cmp (kept_of rate es before) past latest = rw view stands in
        let counted : at ≡ max latest now = moment ∙ ap (λ m. max m now) fields.moment in
        rw (← counted, ← view) (passed_key rate es after at next key quota (rw (← found) passed) updates past before latest (omega arith) fields)

    pub refused_key_call : (kept : KeptByKey K) (rate : Rate) (es : List (K × ℕ)) (before now at arrival free : ℕ) (key : K) → kept_of rate es before ≡ kept → IsQuota rate → at ≡ max before now → arrival ≡ arrival_in es key → Err free ≡ step rate arrival at → (past : K → List ℕ) (latest : ℕ) → StandsForEach cmp kept past latest → (admits kept.rate (past key) (max latest now) ≡ false) × (free ≡ retry kept.rate (past key)) × StandsForEach cmp (kept_of rate es at) past (max latest now)
    refused_key_call kept rate es before now at arrival free key view quota moment found refused past latest stands =
        let fields : StandsForEach cmp (kept_of rate es before) past latest = rw view stands in
        let counted : at ≡ max latest now = moment ∙ ap (λ m. max m now) fields.moment in
        rw (← counted, ← view) (refused_key rate es at free key quota (rw (← found) refused) past before latest (omega arith) fields)

    -- What forgetting leaves for each key.
    module _ (rate : Rate) (es after : List (K × ℕ)) (latest : ℕ) (ordered : IsStrictlySortedBy cmp (keys_of es)) (left : after ≡ filter (λ e. nat_lt latest e.1) es) where
      found_after : (key : K) → lookup (is_at (cmp key)) after ≡ kept_after latest (lookup (is_at (cmp key)) es)
      found_after key = rw left (lookup-filter-values (eq_by_cmp_equiv total) (λ arrival. nat_lt latest arrival) key es (IsDistinct-from_sorted cmp (keys_of es) ordered))

      pub near_after : IsNearEach cmp (kept_of rate es latest) → IsNearEach cmp (kept_of rate after latest)
      near_after near key = rw (found_after key) (let le = kept_after-le latest (lookup (is_at (cmp key)) es) in let was = near key in omega arith)

      pub recent_after : KeepsOnlyRecent cmp (kept_of rate after latest)
      recent_after key = rw (found_after key) (kept_after-later latest (lookup (is_at (cmp key)) es))

      still : (moment : ℕ) → latest ≡ moment → (past : List ℕ) (key : K) → IsArrivalOf rate (arrival_in es key) past moment → IsArrivalOf rate (arrival_in after key) past moment
      still moment told past key was =
          let same : max (unwrap_or (kept_after latest (lookup (is_at (cmp key)) es)) 0) moment ≡ max (arrival_in es key) moment = rw (← told) (kept_after-same latest (lookup (is_at (cmp key)) es)) in
          rw (found_after key) (record { none_later = was.none_later; same = same ∙ was.same })

      pub stands_after : (kept : KeptByKey K) → kept_of rate es latest ≡ kept → (past : K → List ℕ) (moment : ℕ) → StandsForEach cmp kept past moment → StandsForEach cmp (kept_of rate after latest) past moment
      stands_after kept view past moment stands =
          let fields : StandsForEach cmp (kept_of rate es latest) past moment = rw view stands in
          record { moment = fields.moment; arrivals = λ key. still moment fields.moment (past key) key (fields.arrivals key) }

-- What is kept of quotas after one more entry, and what it admits.
use Rattle.std.proofs.Common.{◌≡◌, ℕ, ◌≤◌, Bool, true, false, cond, max, List, [], ◌∷◌, ◌++◌, Result, Ok, Err, Option, Some, None, refl, ap, sym, subst, ◌∙◌, arith, eqb-true, append-nil, true≢false}
use Rattle.std.specs.Prelude.{◌==◌, ◌&&◌, is_ok}
use Rattle.std.specs.Option.{option_map}
use Rattle.std.specs.declared.cmp.Ordering.{Ordering}
use Rattle.std.specs.BTreeMap.{is_at, insert_entry}
use Rattle.std.specs.Cmp.{IsTotalOrder, eq_by_cmp_equiv, nat_cmp_total}
use Rattle.std.specs.Ordering.{nat_cmp}
use Rattle.p2p_log.specs.declared.config.Config.{Config}
use Rattle.p2p_log.specs.declared.event.Event.{Event}
use Rattle.p2p_log.specs.declared.entry.Entry.{Entry}
use Rattle.p2p_log_rules.specs.Facts.{events_of, latest_moment}
use Rattle.p2p_log_rules.proofs.Facts.{events_of-append}
pub use Rattle.p2p_log_rules.proofs.Metering.{admitted-append, admitted-kept}
use Rattle.p2p_runtime.specs.QuotaLaw.{Rate as Quota, admits, retry}
use Rattle.p2p_runtime.specs.QuotaKept.{IsArrivalOf}
use Rattle.p2p_runtime.specs.QuotaStep.{IsQuota, step}
use Rattle.p2p_runtime.specs.QuotaKeys.{KeptByKey, StandsForEach, arrival_at, with_admission}
use Rattle.p2p_runtime.specs.QuotaCheck.{told_of, arrivals_after, check_answer}
use Rattle.p2p_runtime.proofs.QuotaChecks.{passed_step, refused_step, IsArrivalOf-on}
use Rattle.p2p_runtime.proofs.QuotaEach.{nothing_stands, passed_key, refused_key}
use Rattle.p2p_net_queues.specs.Meters.{fresh, passes, checked, MetersUntil, Meters, checked_on, checked_at}
use Rattle.p2p_net_queues.specs.Tables.{at}
use Rattle.p2p_net_queues.proofs.Tables.{lookup-insert_key, lookup-set, same_name}

-- ---- moments, with one more entry

pub latest_moment-append : (es : List Event) (v : Event) → latest_moment (es ++ v ∷ []) ≡ max (latest_moment es) v.at
latest_moment-append [] v = omega arith
latest_moment-append (u ∷ es) v = let rest = latest_moment-append es v in omega arith

pub latest_moment-entry : (log : List Entry) (e : Entry) → latest_moment (events_of (log ++ e ∷ [])) ≡ max (latest_moment (events_of log)) e.event.at
latest_moment-entry log e = ap latest_moment (events_of-append log e) ∙ latest_moment-append (events_of log) e.event

-- ---- one check

-- it passes where the law admits it
passes_one : (rate : Quota) (arrival : ℕ) (past : List ℕ) (now : ℕ) → IsQuota rate → IsArrivalOf rate arrival past now → is_ok (told_of (step rate arrival now)) ≡ admits rate past now
passes_one rate arrival past now quota stands = by (step rate arrival now) refl
  where
    by : (o : Result ℕ ℕ) → step rate arrival now ≡ o → is_ok (told_of o) ≡ admits rate past now
    by (Ok next) is = sym (passed_step rate arrival past now next quota stands is).0
    by (Err free) is = sym (refused_step rate arrival past now free quota stands is).0

-- the moment that it tells is the law's
told_one : (rate : Quota) (arrival : ℕ) (past : List ℕ) (now from : ℕ) → IsQuota rate → IsArrivalOf rate arrival past now → told_of (step rate arrival now) ≡ Err from → from ≡ retry rate past
told_one rate arrival past now from quota stands told = by (step rate arrival now) refl told
  where
    by : (o : Result ℕ ℕ) → step rate arrival now ≡ o → told_of o ≡ Err from → from ≡ retry rate past
    by (Ok next) is none = absurd (cc)
    by (Err free) is same = let here : free ≡ from = cc in sym here ∙ (refused_step rate arrival past now free quota stands is).1

module _ {K : Type 0} (cmp : K → K → Ordering) where
  -- no check was later than a later moment
  pub meters_later : (moment now : ℕ) (quota : Quota) (past later : K → List ℕ) (kept : KeptByKey K) → MetersUntil cmp moment quota past kept → moment ≤ now → ((key : K) → later key ≡ past key) → MetersUntil cmp now quota later kept
  meters_later moment now quota past later kept m le same = record {
    is_quota = m.is_quota;
    quota_is = m.quota_is;
    stands = record {
      moment = refl;
      arrivals = λ key. subst (λ l. IsArrivalOf kept.rate (arrival_at cmp kept key) l kept.latest) (sym (same key)) (m.stands.arrivals key);
    };
    timely = let timely : kept.latest ≤ moment = m.timely in omega arith;
  }

  module _ (now : ℕ) (quota : Quota) (past : K → List ℕ) (kept : KeptByKey K) (key : K) (m : MetersUntil cmp now quota past kept) where
    -- a check that is not before the others counts as at its moment
    counts_at : max kept.latest now ≡ now
    counts_at = let timely : kept.latest ≤ now = m.timely in omega arith

    -- what is kept stands for the same at such a moment
    stands_at : IsArrivalOf kept.rate (arrival_at cmp kept key) (past key) now
    stands_at = IsArrivalOf-on kept.rate (arrival_at cmp kept key) (past key) kept.latest now (m.stands.arrivals key) m.timely

    -- its rate is a quota
    rate_is_quota : IsQuota kept.rate
    rate_is_quota = subst IsQuota (sym m.quota_is) m.is_quota

    -- it admits what the quota does
    pub passes_until : passes cmp kept key now ≡ admits quota (past key) now
    passes_until =
        ap (λ t. is_ok (told_of (step kept.rate (arrival_at cmp kept key) t))) counts_at
        ∙ (passes_one kept.rate (arrival_at cmp kept key) (past key) now rate_is_quota stands_at
        ∙ ap (λ r. admits r (past key) now) m.quota_is)

    -- where it refuses, it tells the moment that the quota does
    pub told_until : (from : ℕ) → check_answer cmp kept key now ≡ Err from → from ≡ retry quota (past key)
    told_until from refused =
        told_one kept.rate (arrival_at cmp kept key) (past key) now from rate_is_quota stands_at
        (sym (ap (λ t. told_of (step kept.rate (arrival_at cmp kept key) t)) counts_at) ∙ refused)
        ∙ ap (λ r. retry r (past key)) m.quota_is

    -- what is kept after the check stands for these
    after : (later : K → List ℕ) → StandsForEach cmp (checked cmp kept key now) later (max kept.latest now) → MetersUntil cmp now quota later (checked cmp kept key now)
    after later stands = record {
      is_quota = m.is_quota;
      quota_is = m.quota_is;
      stands = record { moment = refl; arrivals = stands.arrivals };
      timely = let timely : kept.latest ≤ now = m.timely in omega arith;
    }

    module _ (total : IsTotalOrder cmp) where
      -- once it passed
      pub passed_until : passes cmp kept key now ≡ true → MetersUntil cmp now quota (with_admission cmp past key now) (checked cmp kept key now)
      passed_until passed =
          after (with_admission cmp past key now)
          (subst (λ t. StandsForEach cmp (checked cmp kept key now) (with_admission cmp past key t) (max kept.latest now)) counts_at
          (by (step kept.rate (arrival_at cmp kept key) (max kept.latest now)) refl passed))
        where
          by : (o : Result ℕ ℕ) → step kept.rate (arrival_at cmp kept key) (max kept.latest now) ≡ o → is_ok (told_of o) ≡ true
              → StandsForEach cmp (record { rate = kept.rate; arrivals = arrivals_after cmp kept.arrivals key o; latest = max kept.latest now }) (with_admission cmp past key (max kept.latest now)) (max kept.latest now)
          by (Ok next) is ok =
              (passed_key cmp total kept.rate kept.arrivals (insert_entry cmp kept.arrivals key next) (max kept.latest now) next key rate_is_quota (sym is)
              (λ q. lookup-insert_key total key q next kept.arrivals) past kept.latest kept.latest (omega arith) (record { moment = refl; arrivals = m.stands.arrivals })).1
          by (Err free) is ok = absurd (true≢false (sym ok))

      -- once it was refused
      pub refused_until : passes cmp kept key now ≡ false → MetersUntil cmp now quota past (checked cmp kept key now)
      refused_until refused = after past (by (step kept.rate (arrival_at cmp kept key) (max kept.latest now)) refl refused)
        where
          by : (o : Result ℕ ℕ) → step kept.rate (arrival_at cmp kept key) (max kept.latest now) ≡ o → is_ok (told_of o) ≡ false
              → StandsForEach cmp (record { rate = kept.rate; arrivals = arrivals_after cmp kept.arrivals key o; latest = max kept.latest now }) past (max kept.latest now)
          by (Ok next) is ok = absurd (true≢false ok)
          by (Err free) is ok =
              (refused_key cmp total kept.rate kept.arrivals (max kept.latest now) free key rate_is_quota (sym is) past kept.latest kept.latest (omega arith)
              (record { moment = refl; arrivals = m.stands.arrivals })).2

-- ---- what is kept, and a log

module _ {K : Type 0} (cmp : K → K → Ordering) where
  -- a quota that admitted nothing
  pub meters_new : (log : List Entry) (quota : Quota) (past : K → List ℕ) → IsQuota quota → ((key : K) → past key ≡ []) → Meters cmp log quota past (fresh quota)
  meters_new log quota past is_quota none = record {
    is_quota = is_quota;
    quota_is = refl;
    stands = record { moment = refl; arrivals = λ key. subst (λ l. IsArrivalOf quota 0 l 0) (sym (none key)) (nothing_stands quota 0) };
    timely = omega arith;
  }

  -- an entry in which it admits nothing
  pub meters_frame : (log : List Entry) (e : Entry) (quota : Quota) (past later : K → List ℕ) (kept : KeptByKey K) → Meters cmp log quota past kept → ((key : K) → later key ≡ past key) → Meters cmp (log ++ e ∷ []) quota later kept
  meters_frame log e quota past later kept m same =
      meters_later cmp (latest_moment (events_of log)) (latest_moment (events_of (log ++ e ∷ []))) quota past later kept m (let more = latest_moment-entry log e in omega arith) same

  -- no check was later than a moment that is not before the log
  pub meters_at : (log : List Entry) (quota : Quota) (past : K → List ℕ) (kept : KeptByKey K) (now : ℕ) → Meters cmp log quota past kept → latest_moment (events_of log) ≤ now → MetersUntil cmp now quota past kept
  meters_at log quota past kept now m late = meters_later cmp (latest_moment (events_of log)) now quota past past kept m late (λ key. refl)

  -- an entry at whose moment it was checked
  pub meters_entry : (log : List Entry) (e : Entry) (quota : Quota) (past later : K → List ℕ) (kept : KeptByKey K) (now : ℕ) → e.event.at ≡ now → MetersUntil cmp now quota past kept → ((key : K) → later key ≡ past key) → Meters cmp (log ++ e ∷ []) quota later kept
  meters_entry log e quota past later kept now is_then m same =
      meters_later cmp now (latest_moment (events_of (log ++ e ∷ []))) quota past later kept m (let more = latest_moment-entry log e in omega arith) same

  -- it admits what the quota does, by the log
  pub passes_is : (log : List Entry) (quota : Quota) (past : K → List ℕ) (kept : KeptByKey K) (key : K) (now : ℕ) → Meters cmp log quota past kept → latest_moment (events_of log) ≤ now
      → passes cmp kept key now ≡ admits quota (past key) now
  passes_is log quota past kept key now m late = passes_until cmp now quota past kept key (meters_at log quota past kept now m late)

  -- an entry at whose moment it was asked, and that admitted where it passed
  pub meters_checked : IsTotalOrder cmp → (log : List Entry) (e : Entry) (quota : Quota) (past later : K → List ℕ) (kept : KeptByKey K) (key : K) (now : ℕ) → Meters cmp log quota past kept → latest_moment (events_of log) ≤ now → e.event.at ≡ now
      → ((q : K) → later q ≡ cond (passes cmp kept key now) (with_admission cmp past key now q) (past q)) → Meters cmp (log ++ e ∷ []) quota later (checked cmp kept key now)
  meters_checked total log e quota past later kept key now m late is_then adds = by (passes cmp kept key now) refl adds
    where
      before : MetersUntil cmp now quota past kept
      before = meters_at log quota past kept now m late

      by : (b : Bool) → passes cmp kept key now ≡ b → ((q : K) → later q ≡ cond b (with_admission cmp past key now q) (past q)) → Meters cmp (log ++ e ∷ []) quota later (checked cmp kept key now)
      by true is same = meters_entry log e quota (with_admission cmp past key now) later (checked cmp kept key now) now is_then (passed_until cmp now quota past kept key before total is) same
      by false is same = meters_entry log e quota past later (checked cmp kept key now) now is_then (refused_until cmp now quota past kept key before total is) same

-- where the keys are numbers
pub numbers_checked : (log : List Entry) (e : Entry) (quota : Quota) (past later : ℕ → List ℕ) (kept : KeptByKey ℕ) (conn now : ℕ) → Meters nat_cmp log quota past kept → latest_moment (events_of log) ≤ now → e.event.at ≡ now
    → ((c : ℕ) → later c ≡ past c ++ cond ((c == conn) && passes nat_cmp kept conn now) (now ∷ []) []) → Meters nat_cmp (log ++ e ∷ []) quota later (checked nat_cmp kept conn now)
numbers_checked log e quota past later kept conn now m late is_then adds =
    meters_checked nat_cmp nat_cmp_total log e quota past later kept conn now m late is_then
    (λ c. adds c ∙ (one_more (past c) (c == conn) (passes nat_cmp kept conn now) ∙ ap (λ here. cond (passes nat_cmp kept conn now) (cond here (past c ++ now ∷ []) (past c)) (past c)) (same_number c)))
  where
    one_more : (l : List ℕ) (here passed : Bool) → l ++ cond (here && passed) (now ∷ []) [] ≡ cond passed (cond here (l ++ now ∷ []) l) l
    one_more l true true = refl
    one_more l true false = append-nil l
    one_more l false true = append-nil l
    one_more l false false = append-nil l

    same_number : (c : ℕ) → (c == conn) ≡ is_at (nat_cmp conn) c
    same_number c = sym (same_name c conn) ∙ (eq_by_cmp_equiv nat_cmp_total).symm c conn

-- ---- one quota for each key of a table

module _ {K : Type 0} (cmp : K → K → Ordering) where
  pub at-checked_at : (m : List (ℕ × KeptByKey K)) (k q : ℕ) (who : K) (now : ℕ) → at (checked_at cmp m k who now) q ≡ cond (q == k) (option_map (λ kept. checked cmp kept who now) (at m k)) (at m q)
  at-checked_at m k q who now = by (at m k) refl
    where
      none_at : (b : Bool) → (q == k) ≡ b → at m k ≡ None → at m q ≡ cond b None (at m q)
      none_at true here none = ap (at m) (eqb-true q k here) ∙ none
      none_at false there none = refl

      by : (o : Option (KeptByKey K)) → at m k ≡ o → at (checked_on cmp o m k who now) q ≡ cond (q == k) (option_map (λ kept. checked cmp kept who now) o) (at m q)
      by None is = none_at (q == k) refl is
      by (Some kept) is = lookup-set k q (checked cmp kept who now) kept m is ∙ ap (λ b. cond b (Some (checked cmp kept who now)) (at m q)) (same_name q k)

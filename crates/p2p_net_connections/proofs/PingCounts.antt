-- What is kept of the quota of a connection's pings, after one more entry, and what it admits.
use Rattle.std.proofs.Common.{◌≡◌, ℕ, ◌+◌, ◌≤◌, Bool, true, false, cond, max, List, [], ◌∷◌, ◌++◌, length, Result, Ok, Err, Option, Some, None, refl, ap, sym, subst, ◌∙◌, arith, append-nil, length-append}
use Rattle.std.specs.Prelude.{is_ok}
use Rattle.p2p_log.specs.declared.config.Config.{Config}
use Rattle.p2p_log.specs.declared.entry.Entry.{Entry}
use Rattle.p2p_log_rules.specs.Facts.{events_of, latest_moment}
use Rattle.p2p_log_rules.specs.Metering.{pings, ping_quota, limit_at, admitted_by, admitted, may_pass}
use Rattle.p2p_log_rules.specs.Pings.{ping_frequency_at}
use Rattle.p2p_peer_shared.specs.Beginning.{half_rate}
use Rattle.p2p_runtime.specs.QuotaLaw.{Rate as Quota, admits}
use Rattle.p2p_runtime.specs.QuotaKept.{Kept, StandsFor}
use Rattle.p2p_runtime.specs.QuotaStep.{IsQuota, step}
use Rattle.p2p_runtime.specs.QuotaCheck.{told_of, arrival_after, rate_answer, after_rate}
use Rattle.p2p_runtime.proofs.QuotaChecks.{passed_check, refused_check, new_stands}
use Rattle.p2p_net_queues.proofs.Meters.{admitted-append, admitted-kept, latest_moment-entry}
use Rattle.p2p_net_connections.specs.Connections.{fresh}
use Rattle.p2p_net_connections.specs.Pinging.{CountsUntil, CountsPings, CountsPingsOf}
use Rattle.p2p_net_connections.specs.declared.connections.Connection.{Connection}

-- ---- one check

module _ (moment : ℕ) (quota : Quota) (past : List ℕ) (kept : Kept) (m : CountsUntil moment quota past kept) where
  -- no check was later than a later moment
  pub counts_later : (now : ℕ) (later : List ℕ) → moment ≤ now → later ≡ past → CountsUntil now quota later kept
  counts_later now later le same = record {
    is_quota = m.is_quota;
    quota_is = m.quota_is;
    stands = subst (λ l. StandsFor kept l kept.latest) (sym same) m.stands;
    timely = let timely : kept.latest ≤ moment = m.timely in omega arith;
  }

  -- a check at this moment counts as at it
  counts_at : max kept.latest moment ≡ moment
  counts_at = let timely : kept.latest ≤ moment = m.timely in omega arith

  rate_is : IsQuota kept.rate
  rate_is = subst IsQuota (sym m.quota_is) m.is_quota

  law_is : admits kept.rate past (max kept.latest moment) ≡ admits quota past moment
  law_is = ap (admits kept.rate past) counts_at ∙ ap (λ r. admits r past moment) m.quota_is

  -- it admits what the quota does
  pub passes_now : is_ok (rate_answer kept moment) ≡ admits quota past moment
  passes_now = by (step kept.rate kept.arrival (max kept.latest moment)) refl
    where
      by : (o : Result ℕ ℕ) → step kept.rate kept.arrival (max kept.latest moment) ≡ o → is_ok (told_of o) ≡ admits quota past moment
      by (Ok next) is = sym (sym law_is ∙ (passed_check kept past kept.latest moment next rate_is m.stands is).0)
      by (Err free) is = sym (sym law_is ∙ (refused_check kept past kept.latest moment free rate_is m.stands is).0)

  after : (k : Kept) (l : List ℕ) → k.rate ≡ kept.rate → k.latest ≡ max kept.latest moment → StandsFor k l (max kept.latest moment) → CountsUntil moment quota l k
  after k l rate latest stands = record {
    is_quota = m.is_quota;
    quota_is = rate ∙ m.quota_is;
    stands = subst (StandsFor k l) (sym latest) stands;
    timely = let timely : kept.latest ≤ moment = m.timely in omega arith;
  }

  -- and what it admits counts from then on
  pub counts_now : CountsUntil moment quota (past ++ cond (is_ok (rate_answer kept moment)) (moment ∷ []) []) (after_rate kept moment)
  counts_now = by (step kept.rate kept.arrival (max kept.latest moment)) refl
    where
      left : Result ℕ ℕ → Kept
      left o = record { rate = kept.rate; arrival = arrival_after kept.arrival o; latest = max kept.latest moment }

      by : (o : Result ℕ ℕ) → step kept.rate kept.arrival (max kept.latest moment) ≡ o → CountsUntil moment quota (past ++ cond (is_ok (told_of o)) (moment ∷ []) []) (left o)
      by (Ok next) is =
          after (left (Ok next)) (past ++ moment ∷ []) refl refl
          (subst (λ t. StandsFor (left (Ok next)) (past ++ t ∷ []) (max kept.latest moment)) counts_at (passed_check kept past kept.latest moment next rate_is m.stands is).1)
      by (Err free) is =
          after (left (Err free)) (past ++ []) refl refl
          (subst (λ l. StandsFor (left (Err free)) l (max kept.latest moment)) (sym (append-nil past)) (refused_check kept past kept.latest moment free rate_is m.stands is).2)

-- ---- and a log

-- the quota of pings is one
is_ping_quota : (frequency : ℕ) → IsQuota (ping_quota frequency)
is_ping_quota frequency = record { some_burst = omega arith; some_period = omega arith }

-- that of a connection that has admitted nothing
pub counts_new : (configs : List Config) (log : List Entry) (n conn frequency : ℕ) → frequency ≡ ping_frequency_at configs n → admitted configs log n conn pings ≡ [] → CountsPings configs log n conn (fresh (half_rate frequency))
counts_new configs log n conn frequency same none = record {
  is_quota = is_ping_quota (ping_frequency_at configs n);
  quota_is = ap ping_quota same;
  stands = subst (λ l. StandsFor (fresh (half_rate frequency)) l 0) (sym none) (new_stands (half_rate frequency));
  timely = omega arith;
}

-- one of two
pub counts_cond : (configs : List Config) (log : List Entry) (n conn : ℕ) (b : Bool) (o p : Option Connection) → (b ≡ true → CountsPingsOf configs log n conn o) → CountsPingsOf configs log n conn p → CountsPingsOf configs log n conn (cond b o p)
counts_cond configs log n conn true o p h k = h refl
counts_cond configs log n conn false o p h k = k

module _ (configs : List Config) (log : List Entry) (n conn : ℕ) where
  abbrev quota : Quota
  quota = ping_quota (ping_frequency_at configs n)

  abbrev past : List ℕ
  past = admitted configs log n conn pings

  abbrev latest : ℕ
  latest = latest_moment (events_of log)

  -- at a moment that is not before the log it admits what it may by the log
  pub passes_by_log : (now : ℕ) (c : Connection) → CountsPings configs log n conn c.pings → latest ≤ now → is_ok (rate_answer c.pings now) ≡ may_pass configs log n conn now pings
  passes_by_log now c h late = passes_now now quota past c.pings (counts_later latest quota past c.pings h now past late refl)

  module _ (e : Entry) where
    abbrev longer : List Entry
    longer = log ++ e ∷ []

    -- it goes on to count where nothing is admitted
    pub counts_frame : (o : Option Connection) → CountsPingsOf configs log n conn o → admitted_by (limit_at configs n) n conn pings log e ≡ [] → CountsPingsOf configs longer n conn o
    counts_frame None h none = tt
    counts_frame (Some c) h none =
        counts_later latest quota past c.pings h (latest_moment (events_of longer)) (admitted configs longer n conn pings) (let more = latest_moment-entry log e in omega arith)
        (admitted-kept configs log e n conn pings none)

    -- it was asked at the moment of an entry, which admits where it passed
    pub counts_asked : (now : ℕ) (c : Connection) → CountsPings configs log n conn c.pings → latest ≤ now → e.event.at ≡ now
        → admitted_by (limit_at configs n) n conn pings log e ≡ cond (is_ok (rate_answer c.pings now)) (now ∷ []) [] → CountsPings configs longer n conn (after_rate c.pings now)
    counts_asked now c h late is_then adds =
        counts_later now quota (past ++ cond (is_ok (rate_answer c.pings now)) (now ∷ []) []) (after_rate c.pings now)
        (counts_now now quota past c.pings (counts_later latest quota past c.pings h now past late refl))
        (latest_moment (events_of longer)) (admitted configs longer n conn pings) (let more = latest_moment-entry log e in omega arith)
        (admitted-append configs log e n conn pings ∙ ap (λ l. past ++ l) adds)

    -- one that is not made yet
    pub unmade_frame : (length log ≤ conn → past ≡ []) → admitted_by (limit_at configs n) n conn pings log e ≡ [] → length longer ≤ conn → admitted configs longer n conn pings ≡ []
    unmade_frame none no_ping late =
        admitted-kept configs log e n conn pings no_ping ∙ none (let more : length longer ≡ length log + 1 = length-append log (e ∷ []) in omega arith)

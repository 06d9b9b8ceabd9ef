-- The rates of channels, and what is kept of their quotas, after one more entry.
use Rattle.std.proofs.Common.{◌≡◌, ℕ, ◌≤◌, Bool, true, false, cond, List, [], ◌∷◌, ◌++◌, map, Option, Some, None, refl, ap, sym, subst, ◌∙◌}
use Rattle.std.specs.Prelude.{◌==◌, is_some, slice_get}
use Rattle.std.specs.Ordering.{nat_cmp}
use Rattle.p2p_runtime.specs.QuotaKeys.{KeptByKey}
use Rattle.p2p_runtime.specs.QuotaLaw.{admits}
use Rattle.p2p_log.specs.declared.config.Config.{Config}
use Rattle.p2p_log.specs.declared.event.Rate.{Rate}
use Rattle.p2p_log.specs.declared.entry.Entry.{Entry}
use Rattle.p2p_log_rules.specs.Facts.{events_of, latest_moment, capacity_for, with_capacity, registers_at, channels, capacity_in, rates_by, rates, rate_in, history_from, state_from}
use Rattle.p2p_log_rules.specs.Listening.{quota_of}
use Rattle.p2p_log_rules.specs.Metering.{messages, limit_at, admitted_by, admitted, quota_or_none, may_pass}
use Rattle.p2p_log_rules.specs.Told.{told}
use Rattle.p2p_log_rules.proofs.Channels as facts
use Rattle.p2p_net_queues.specs.Meters.{passes_on}
use Rattle.p2p_net_queues.specs.Tables.{at}
use Rattle.p2p_net_queues.proofs.Meters.{admitted-kept, meters_frame, passes_is}
use Rattle.p2p_net_channels.specs.Channels.{capacity_at, no_channels, may_admit}
use Rattle.p2p_net_channels.specs.Stands.{QuotaStands, ChannelsStand}
use Rattle.p2p_net_channels.specs.declared.channels.Channels.{Channels}

-- ---- the rates of channels

-- an act that registers no channel has no rate
no_rate : (configs : List Config) (n : ℕ) (rs : List (ℕ × Rate)) → map (with_capacity configs n) rs ≡ [] → rs ≡ []
no_rate configs n [] h = refl
no_rate configs n (r ∷ rs) h = cc

pub rates-kept : (configs : List Config) (log : List Entry) (e : Entry) (n : ℕ) → registers_at configs n e.event.act ≡ [] → rates (log ++ e ∷ []) n ≡ rates log n
rates-kept configs log e n none = facts.rates-kept log e n (no_rate configs n (rates_by n e.event.act) none)

-- each channel that has a rate has a capacity
known_in : (configs : List Config) (n c : ℕ) (rs : List (ℕ × Rate)) → is_some (capacity_in (map (with_capacity configs n) rs) c) ≡ is_some (rate_in rs c)
known_in configs n c [] = refl
known_in configs n c (r ∷ rs) = by (c == r.0) (known_in configs n c rs)
  where
    by : (b : Bool) → is_some (capacity_in (map (with_capacity configs n) rs) c) ≡ is_some (rate_in rs c)
        → is_some (cond b (Some (capacity_for (slice_get configs n) r.1)) (capacity_in (map (with_capacity configs n) rs) c)) ≡ is_some (cond b (Some r.1) (rate_in rs c))
    by true h = refl
    by false h = h

-- a channel that has a capacity has a rate, and one that has none has none
pub same_known : (configs : List Config) (log : List Entry) (n c : ℕ) → is_some (capacity_in (channels configs log n) c) ≡ is_some (rate_in (rates log n) c)
unfolding channels
same_known configs log n c = known_in configs n c (rates log n)

-- ---- what is kept of their quotas

-- no channels, and no log
pub quotas_new : (configs : List Config) (n c : ℕ) → QuotaStands configs [] n c (rate_in (rates [] n) c) (at no_channels.quotas c)
unfolding rates told state_from admitted history_from
quotas_new configs n c = λ conn. refl

-- a channel that has no rate admitted nothing
pub admitted_none :
    (configs : List Config) (log : List Entry) (n c : ℕ) (r : Option Rate) (o : Option (KeptByKey ℕ)) → QuotaStands configs log n c r o → r ≡ None → (conn : ℕ) → admitted configs log n conn (messages c) ≡ []
admitted_none configs log n c None None h none = h
admitted_none configs log n c None (Some kept) h none = absurd h
admitted_none configs log n c (Some rate) o h none = cc

-- an entry in which nothing is admitted there
pub quota_stays :
    (configs : List Config) (log : List Entry) (e : Entry) (n c : ℕ) (r : Option Rate) (o : Option (KeptByKey ℕ)) → QuotaStands configs log n c r o
    → ((conn : ℕ) → admitted_by (limit_at configs n) n conn (messages c) log e ≡ []) → QuotaStands configs (log ++ e ∷ []) n c r o
quota_stays configs log e n c None None h none = λ conn. admitted-kept configs log e n conn (messages c) (none conn) ∙ h conn
quota_stays configs log e n c (Some rate) (Some kept) h none =
    meters_frame nat_cmp log e (quota_of rate) (λ conn. admitted configs log n conn (messages c)) (λ conn. admitted configs (log ++ e ∷ []) n conn (messages c)) kept h (λ conn. admitted-kept configs log e n conn (messages c) (none conn))
quota_stays configs log e n c None (Some kept) h none = absurd h
quota_stays configs log e n c (Some rate) None h none = absurd h

-- an entry that leaves the rates of the channels leaves each its own
pub same_rates :
    (configs : List Config) (log : List Entry) (e : Entry) (n c : ℕ) (o : Option (KeptByKey ℕ)) → rates (log ++ e ∷ []) n ≡ rates log n
    → QuotaStands configs (log ++ e ∷ []) n c (rate_in (rates log n) c) o → QuotaStands configs (log ++ e ∷ []) n c (rate_in (rates (log ++ e ∷ []) n) c) o
same_rates configs log e n c o same h = subst (λ rs. QuotaStands configs (log ++ e ∷ []) n c (rate_in rs c) o) (sym same) h

-- the quota of a channel admits what it does by the log
pub may_admit_is :
    (configs : List Config) (log : List Entry) (n c k conn now : ℕ) (ch : Channels) → ChannelsStand configs log n ch → latest_moment (events_of log) ≤ now → capacity_at ch c ≡ Some k
    → may_admit ch c conn now ≡ may_pass configs log n conn now (messages c)
may_admit_is configs log n c k conn now ch s late registered =
    by (rate_in (rates log n) c) (at ch.quotas c) (s.quotas c)
    (sym (same_known configs log n c) ∙ ap (λ (o : Option ℕ). is_some o) (sym (s.capacities c) ∙ registered))
  where
    by : (r : Option Rate) (o : Option (KeptByKey ℕ)) → QuotaStands configs log n c r o → is_some r ≡ true → passes_on nat_cmp o conn now ≡ admits (quota_or_none r) (admitted configs log n conn (messages c)) now
    by (Some rate) (Some kept) h known = passes_is nat_cmp log (quota_of rate) (λ d. admitted configs log n d (messages c)) kept conn now h late
    by (Some rate) None h known = absurd h
    by None o h known = cc

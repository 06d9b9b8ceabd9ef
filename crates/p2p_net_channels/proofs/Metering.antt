-- The channels of a node after an entry for which the quota of one of them was asked.
use Rattle.std.proofs.Common.{◌≡◌, ℕ, ◌≤◌, Bool, true, false, cond, List, [], ◌∷◌, ◌++◌, Option, Some, None, refl, ap, sym, subst, ◌∙◌, eqb-true}
use Rattle.std.specs.Prelude.{◌==◌, ◌&&◌}
use Rattle.std.specs.Option.{option_map}
use Rattle.std.specs.Ordering.{nat_cmp}
use Rattle.p2p_runtime.specs.QuotaKeys.{KeptByKey}
use Rattle.p2p_base.specs.declared.key.Key.{Key}
use Rattle.p2p_flow_connection.specs.Arriving.{Arrived as Mailboxes}
use Rattle.p2p_log.specs.declared.config.Config.{Config}
use Rattle.p2p_log.specs.declared.event.Rate.{Rate}
use Rattle.p2p_log.specs.declared.queue.Queue.TheVariants as queue
use Rattle.p2p_log.specs.declared.item.Envelope.{Envelope}
use Rattle.p2p_log.specs.declared.entry.Entry.{Entry}
use Rattle.p2p_log_rules.specs.Facts.{events_of, latest_moment, registers_at, capacity_in, rates, rate_in, sum_capacities}
use Rattle.p2p_log_rules.specs.Listening.{quota_of}
use Rattle.p2p_log_rules.specs.Metering.{messages, limit_at, admitted_by, admitted}
use Rattle.p2p_net_queues.specs.Lines.{HoldsLines}
use Rattle.p2p_net_queues.specs.Meters.{passes_on, checked, checked_at}
use Rattle.p2p_net_queues.specs.Tables.{at}
use Rattle.p2p_net_queues.proofs.Meters.{admitted-append, admitted-kept, numbers_checked, at-checked_at}
use Rattle.p2p_net_channels.specs.Channels.{may_admit, metered}
use Rattle.p2p_net_channels.specs.Stands.{QuotaStands, SendsNone, ClosesNone, ChannelsStand}
use Rattle.p2p_net_channels.specs.declared.channels.Channels.{Channels}
use Rattle.p2p_net_channels.proofs.Checks.{checks_kept}
use Rattle.p2p_net_channels.proofs.Mailboxes.{MailboxesMove}
use Rattle.p2p_net_channels.proofs.Changes.{channels-kept}
use Rattle.p2p_net_channels.proofs.Quotas.{quota_stays, rates-kept, same_rates}
use Rattle.p2p_net_channels.proofs.Readers.{closed_stay}
use Rattle.p2p_net_channels.proofs.Sending.{senders_stay}

module _ (configs : List Config) (log : List Entry) (e : Entry) (n c conn now : ℕ) (late : latest_moment (events_of log) ≤ now) (is_then : e.event.at ≡ now) where
  refused : (b : Bool) → cond (b && false) (now ∷ []) [] ≡ []
  refused true = refl
  refused false = refl

  -- what the channel that was asked keeps
  quota_checked :
      (r : Option Rate) (o : Option (KeptByKey ℕ)) → QuotaStands configs log n c r o
      → ((d : ℕ) → admitted_by (limit_at configs n) n d (messages c) log e ≡ cond ((d == conn) && passes_on nat_cmp o conn now) (now ∷ []) [])
      → QuotaStands configs (log ++ e ∷ []) n c r (option_map (λ kept. checked nat_cmp kept conn now) o)
  quota_checked None None h adds = λ d. admitted-kept configs log e n d (messages c) (adds d ∙ refused (d == conn)) ∙ h d
  quota_checked (Some rate) (Some kept) h adds =
      numbers_checked log e (quota_of rate) (λ d. admitted configs log n d (messages c)) (λ d. admitted configs (log ++ e ∷ []) n d (messages c)) kept conn now h late is_then
      (λ d. admitted-append configs log e n d (messages c) ∙ ap (λ l. admitted configs log n d (messages c) ++ l) (adds d))
  quota_checked None (Some kept) h adds = absurd h
  quota_checked (Some rate) None h adds = absurd h

  -- what each channel keeps
  quotas_checked :
      (ch : Channels) → ((q : ℕ) → QuotaStands configs log n q (rate_in (rates log n) q) (at ch.quotas q))
      → ((d q : ℕ) → admitted_by (limit_at configs n) n d (messages q) log e ≡ cond ((q == c) && ((d == conn) && may_admit ch c conn now)) (now ∷ []) [])
      → (q : ℕ) → QuotaStands configs (log ++ e ∷ []) n q (rate_in (rates log n) q) (at (checked_at nat_cmp ch.quotas c conn now) q)
  quotas_checked ch stands adds q =
      subst (λ o. QuotaStands configs (log ++ e ∷ []) n q (rate_in (rates log n) q) o) (sym (at-checked_at nat_cmp ch.quotas c q conn now)) (by (q == c) refl)
    where
      here : (p : ℕ) → (p == c) ≡ true → p ≡ c → QuotaStands configs (log ++ e ∷ []) n p (rate_in (rates log n) p) (option_map (λ kept. checked nat_cmp kept conn now) (at ch.quotas c))
      here p test is =
          subst (λ p. QuotaStands configs (log ++ e ∷ []) n p (rate_in (rates log n) p) (option_map (λ kept. checked nat_cmp kept conn now) (at ch.quotas c))) (sym is)
          (quota_checked (rate_in (rates log n) c) (at ch.quotas c) (stands c)
          (λ d. adds d c ∙ ap (λ t. cond (t && ((d == conn) && may_admit ch c conn now)) (now ∷ []) []) (ap (λ i. i == c) (sym is) ∙ test)))

      by : (b : Bool) → (q == c) ≡ b → QuotaStands configs (log ++ e ∷ []) n q (rate_in (rates log n) q) (cond b (option_map (λ kept. checked nat_cmp kept conn now) (at ch.quotas c)) (at ch.quotas q))
      by true test = here q test (eqb-true q c test)
      by false test =
          quota_stays configs log e n q (rate_in (rates log n) q) (at ch.quotas q) (stands q)
          (λ d. adds d q ∙ ap (λ t. cond (t && ((d == conn) && may_admit ch c conn now)) (now ∷ []) []) test)

-- the quota of a channel was asked for a message of a connection, which it admitted where it may, and these messages wait
pub channels_metered :
    (configs : List Config) (log : List Entry) (e : Entry) (n c conn now : ℕ) (ch : Channels) (a : Mailboxes Key) (w : List (ℕ × List Envelope)) → ChannelsStand configs log n ch → MailboxesMove ch a w → a.ended ≡ ch.inbounds.ended → registers_at configs n e.event.act ≡ []
    → latest_moment (events_of log) ≤ now → e.event.at ≡ now
    → ((d q : ℕ) → admitted_by (limit_at configs n) n d (messages q) log e ≡ cond ((q == c) && ((d == conn) && may_admit ch c conn now)) (now ∷ []) [])
    → SendsNone log e n → ClosesNone log e n → HoldsLines (queue.Channel n) (log ++ e ∷ []) w → ChannelsStand configs (log ++ e ∷ []) n (record (metered c conn now ch) { inbounds = a; waiting = w })
channels_metered configs log e n c conn now ch a w s moves same none late is_then adds sends closes waits = record {
  capacities = λ q. moves.capacities q ∙ (s.capacities q ∙ ap (λ l. capacity_in l q) (sym (channels-kept configs log e n none)));
  total = s.total ∙ ap sum_capacities (sym (channels-kept configs log e n none));
  room = s.room;
  waits = waits;
  named = moves.named;
  quotas = λ q. same_rates configs log e n q (at (checked_at nat_cmp ch.quotas c conn now) q) (rates-kept configs log e n none) (quotas_checked configs log e n c conn now late is_then ch s.quotas adds q);
  senders = senders_stay configs log e n ch.senders s.senders (rates-kept configs log e n none) sends;
  checks = checks_kept log e n ch.checks s.checks sends.checks;
  closed = λ q. moves.closed q ∙ closed_stay log e n ch s.closed closes.readers q;
  ended = same ∙ (s.ended ∙ sym closes.goes_on);
}

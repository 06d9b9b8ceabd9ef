-- The channels of a node with one channel more.
use Rattle.std.proofs.Common.{◌≡◌, ℕ, ◌+◌, ◌^◌, ◌<◌, Bool, true, false, cond, List, [], ◌∷◌, ◌++◌, refl, ap, sym, subst, ◌∙◌, arith, eqb-true, Option, Some, None}
use Rattle.std.specs.Prelude.{map, slice_get, ◌==◌, is_some}
use Rattle.std.specs.Map.{lookup}
use Rattle.std.specs.BTreeMap.{insert_entry}
use Rattle.std.specs.Ordering.{nat_cmp}
use Rattle.std.proofs.lemmas.Bool.Decides.{nat_tests}
use Rattle.p2p_log.specs.declared.config.Config.{Config}
use Rattle.p2p_log.specs.declared.queue.Queue.TheVariants as queue
use Rattle.p2p_log.specs.declared.event.Rate.{Rate}
use Rattle.p2p_log.specs.declared.event.Act.TheVariants as act
use Rattle.p2p_log.specs.declared.entry.Entry.{Entry}
use Rattle.p2p_log.specs.Lines.{line}
use Rattle.p2p_log_rules.specs.Facts.{is_stopped, stops, registers_at, capacity_for, with_capacity, channels, capacity_in, rates_by, rates, rate_in, sum_capacities}
use Rattle.p2p_log_rules.specs.Admitting.{rate_at, sent_moments}
use Rattle.p2p_log_rules.specs.Listening.{quota_of}
use Rattle.p2p_log_rules.specs.Tracking.{key_cmp}
use Rattle.p2p_log_rules.specs.Metering.{messages, admitted}
use Rattle.p2p_log_rules.specs.Effect.{mailbox_size_at}
use Rattle.p2p_log_rules.proofs.Channels.{rates-append, is_stopped-kept}
use Rattle.p2p_log_rules.proofs.Closing.{reader_kinds, is_closed-apart}
use Rattle.p2p_log_rules.proofs.Families.{kinds_of, are_apart}
use Rattle.p2p_runtime.specs.QuotaStep.{IsQuota}
use Rattle.p2p_net_queues.specs.Meters.{fresh}
use Rattle.p2p_net_queues.specs.Tables.{at}
use Rattle.p2p_net_queues.proofs.Meters.{admitted-kept, meters_new}
use Rattle.p2p_net_queues.proofs.Tables.{at-inserted}
use Rattle.p2p_net_channels.specs.Channels.{capacity_at, registered_with}
use Rattle.p2p_net_channels.specs.Stands.{QuotaStands, SenderStands, AdmitsNone, SendsNone, ChannelsStand}
use Rattle.p2p_net_channels.specs.declared.channels.Channels.{Channels}
use Rattle.p2p_net_channels.proofs.Checks.{checks_kept}
use Rattle.p2p_net_channels.proofs.Mailboxes.{named_registered, places-registered, closed-registered}
use Rattle.p2p_net_channels.proofs.Changes.{channels-append}
use Rattle.p2p_net_channels.proofs.Quotas.{same_known, admitted_none, quota_stays}
use Rattle.p2p_net_channels.proofs.Readers.{closed_stay}
use Rattle.p2p_net_channels.proofs.Sending.{sent_none, sender_stays}

lookup-last :
    {V : Type 0} (xs : List (ℕ × V)) (c : ℕ) (k : V) (d : ℕ)
    → lookup (λ j. d == j) (xs ++ (c, k) ∷ []) ≡ elim (lookup (λ j. d == j) xs) [ None ↦ cond (d == c) (Some k) None | Some v ↦ Some v ]
lookup-last [] c k d = refl
lookup-last (x ∷ xs) c k d =
    elim (d == x.0) as (λ b. cond b (Some x.1) (lookup (λ j. d == j) (xs ++ (c, k) ∷ [])) ≡ elim (cond b (Some x.1) (lookup (λ j. d == j) xs)) [ None ↦ cond (d == c) (Some k) None | Some v ↦ Some v ]) [
      | true ↦ refl
      | false ↦ lookup-last xs c k d
    ]

new_capacity :
    (old : ℕ → Option ℕ) (c k d : ℕ) (b : Bool) → b ≡ (d == c) → old c ≡ None
    → cond b (Some k) (old d) ≡ elim (old d) [ None ↦ cond b (Some k) None | Some v ↦ Some v ]
new_capacity old c k d true p absent =
    let same : d ≡ c = grind (arith, nat_tests) in
    let none : old d ≡ None = ap old same ∙ absent in
    sym (ap (λ o. elim o [ None ↦ Some k | Some v ↦ Some v ]) none)
new_capacity old c k d false p absent = elim (old d) as (λ o. o ≡ elim o [ None ↦ None | Some v ↦ Some v ]) [ None ↦ refl | Some v ↦ refl ]

pub sum_capacities-last : (xs : List (ℕ × ℕ)) (c k : ℕ) → sum_capacities (xs ++ (c, k) ∷ []) ≡ sum_capacities xs + k
sum_capacities-last [] c k = omega arith
sum_capacities-last (x ∷ xs) c k = let ih = sum_capacities-last xs c k in omega arith

-- what is known of one channel more is the list with that channel last
known_last : (old : ℕ → Option ℕ) (xs : List (ℕ × ℕ)) (c k d : ℕ) → ((j : ℕ) → old j ≡ capacity_in xs j) → old c ≡ None → cond (d == c) (Some k) (old d) ≡ capacity_in (xs ++ (c, k) ∷ []) d
known_last old xs c k d same absent =
    new_capacity old c k d (d == c) refl absent ∙ (ap (λ o. elim o [ None ↦ cond (d == c) (Some k) None | Some v ↦ Some v ]) (same d) ∙ sym (lookup-last xs c k d))

-- so is a table of capacities with it
pub capacity-last :
    (m xs : List (ℕ × ℕ)) (c k d : ℕ) → ((j : ℕ) → at m j ≡ capacity_in xs j) → at m c ≡ None
    → at (insert_entry nat_cmp m c k) d ≡ capacity_in (xs ++ (c, k) ∷ []) d
capacity-last m xs c k d same absent = at-inserted c d k m ∙ known_last (at m) xs c k d same absent

same_number : (n : ℕ) → (n == n) ≡ true
same_number n = grind (arith, nat_tests)

-- an act that registers a channel has its rate
rates_registered : (log : List Entry) (e : Entry) (n c : ℕ) (rate : Rate) → is_stopped log n ≡ false → e.event.act ≡ act.Register c n rate → rates (log ++ e ∷ []) n ≡ rates log n ++ (c, rate) ∷ []
rates_registered log e n c rate runs is =
    rates-append log e n runs ∙ ap (λ l. rates log n ++ l) (ap (rates_by n) is ∙ ap (λ b. cond b ((c, rate) ∷ []) []) (same_number n))

-- what is kept of the quota of each channel, once a channel is registered that was not
module _ (configs : List Config) (log : List Entry) (e : Entry) (n c : ℕ) (rate : Rate) (ch : Channels) where
  new_quota :
      ((d : ℕ) → QuotaStands configs log n d (rate_in (rates log n) d) (at ch.quotas d)) → rate_in (rates log n) c ≡ None → IsQuota (quota_of rate)
      → AdmitsNone configs log e n → (d : ℕ) (b : Bool) → (d == c) ≡ b → (r : Option Rate) → rate_in (rates log n) d ≡ r
      → QuotaStands configs (log ++ e ∷ []) n d (elim r [ None ↦ cond b (Some rate) None | Some v ↦ Some v ]) (cond b (Some (fresh (quota_of rate))) (at ch.quotas d))
  new_quota stands absent is_quota admits d true here None is =
      meters_new nat_cmp (log ++ e ∷ []) (quota_of rate) (λ conn. admitted configs (log ++ e ∷ []) n conn (messages d)) is_quota
      (λ conn. admitted-kept configs log e n conn (messages d) (admits conn d) ∙ admitted_none configs log n d (rate_in (rates log n) d) (at ch.quotas d) (stands d) is conn)
  new_quota stands absent is_quota admits d true here (Some v) is =
      let same : d ≡ c = eqb-true d c here in
      let missing : rate_in (rates log n) d ≡ None = ap (rate_in (rates log n)) same ∙ absent in
      absurd (cc)
  new_quota stands absent is_quota admits d false there None is =
      quota_stays configs log e n d None (at ch.quotas d) (subst (λ o. QuotaStands configs log n d o (at ch.quotas d)) is (stands d)) (λ conn. admits conn d)
  new_quota stands absent is_quota admits d false there (Some v) is =
      quota_stays configs log e n d (Some v) (at ch.quotas d) (subst (λ o. QuotaStands configs log n d o (at ch.quotas d)) is (stands d)) (λ conn. admits conn d)

  new_sender :
      ((d : ℕ) → SenderStands log n d (rate_at log n d) (at ch.senders d)) → rate_at log n c ≡ None → IsQuota (quota_of rate)
      → SendsNone log e n → (d : ℕ) (b : Bool) → (d == c) ≡ b → (r : Option Rate) → rate_at log n d ≡ r
      → SenderStands (log ++ e ∷ []) n d (elim r [ None ↦ cond b (Some rate) None | Some v ↦ Some v ]) (cond b (Some (fresh (quota_of rate))) (at ch.senders d))
  new_sender stands absent is_quota sends d true here None is =
      meters_new key_cmp (log ++ e ∷ []) (quota_of rate) (sent_moments (log ++ e ∷ []) n d) is_quota
      (λ k. sends.moments d k ∙ sent_none log n d (rate_at log n d) (at ch.senders d) (stands d) is k)
  new_sender stands absent is_quota sends d true here (Some v) is =
      let same : d ≡ c = eqb-true d c here in
      let missing : rate_at log n d ≡ None = ap (rate_in (rates log n)) same ∙ absent in
      absurd (cc)
  new_sender stands absent is_quota sends d false there None is =
      sender_stays log e n d None (at ch.senders d) (subst (λ o. SenderStands log n d o (at ch.senders d)) is (stands d)) (sends.moments d)
  new_sender stands absent is_quota sends d false there (Some v) is =
      sender_stays log e n d (Some v) (at ch.senders d) (subst (λ o. SenderStands log n d o (at ch.senders d)) is (stands d)) (sends.moments d)

-- an entry that registers a channel
pub channels_registered :
    (configs : List Config) (log : List Entry) (e : Entry) (n c k : ℕ) (rate : Rate) (ch : Channels) → ChannelsStand configs log n ch → is_stopped log n ≡ false → e.event.act ≡ act.Register c n rate
    → k ≡ capacity_for (slice_get configs n) rate → capacity_at ch c ≡ None → mailbox_size_at configs n + (ch.total + k) < 2 ^ 64
    → ((d : ℕ) → line (log ++ e ∷ []) (queue.Channel n d) ≡ line log (queue.Channel n d)) → IsQuota (quota_of rate)
    → AdmitsNone configs log e n → SendsNone log e n → ChannelsStand configs (log ++ e ∷ []) n (registered_with ch c k (quota_of rate))
channels_registered configs log e n c k rate ch s runs is amount absent room lines is_quota admits sends =
    let here : registers_at configs n e.event.act ≡ (c, k) ∷ [] =
    ap (registers_at configs n) is
    ∙ (ap (λ b. map (with_capacity configs n) (cond b ((c, rate) ∷ []) [])) (same_number n) ∙ ap (λ j. (c, j) ∷ []) (sym amount))
    in
    let more : channels configs (log ++ e ∷ []) n ≡ channels configs log n ++ (c, k) ∷ [] = channels-append configs log e n runs ∙ ap (λ l. channels configs log n ++ l) here in
    record {
      capacities = λ d. places-registered ch.inbounds c k d ∙ (known_last (capacity_at ch) (channels configs log n) c k d s.capacities absent ∙ ap (λ l. capacity_in l d) (sym more));
      total = ap (λ t. t + k) s.total ∙ (sym (sum_capacities-last (channels configs log n) c k) ∙ ap sum_capacities (sym more));
      room = room;
      waits = λ d. s.waits d ∙ sym (lines d);
      named = named_registered ch.inbounds c k ch.waiting absent s.named;
      quotas = λ d.
          subst (λ r. QuotaStands configs (log ++ e ∷ []) n d r (at (insert_entry nat_cmp ch.quotas c (fresh (quota_of rate))) d)) (sym (known d))
          (subst (λ o. QuotaStands configs (log ++ e ∷ []) n d (elim (rate_in (rates log n) d) [ None ↦ cond (d == c) (Some rate) None | Some v ↦ Some v ]) o) (sym (at-inserted c d (fresh (quota_of rate)) ch.quotas))
          (new_quota configs log e n c rate ch s.quotas (no_rate_yet (s.capacities c)) is_quota admits d (d == c) refl (rate_in (rates log n) d) refl));
      senders = λ d.
          subst (λ r. SenderStands (log ++ e ∷ []) n d r (at (insert_entry nat_cmp ch.senders c (fresh (quota_of rate))) d)) (sym (known d))
          (subst (λ o. SenderStands (log ++ e ∷ []) n d (elim (rate_at log n d) [ None ↦ cond (d == c) (Some rate) None | Some v ↦ Some v ]) o) (sym (at-inserted c d (fresh (quota_of rate)) ch.senders))
          (new_sender configs log e n c rate ch s.senders (no_rate_yet (s.capacities c)) is_quota sends d (d == c) refl (rate_at log n d) refl));
      checks = checks_kept log e n ch.checks s.checks sends.checks;
      closed = λ f. closed-registered ch.inbounds c k f absent ∙ closed_stay log e n ch s.closed (λ d. is_closed-apart log e n d (ap (λ a. are_apart (kinds_of a) reader_kinds) is)) f;
      ended = s.ended ∙ sym (is_stopped-kept log e n (ap (stops n) is));
    }
  where
    known : (d : ℕ) → rate_at (log ++ e ∷ []) n d ≡ elim (rate_at log n d) [ None ↦ cond (d == c) (Some rate) None | Some v ↦ Some v ]
    known d = ap (λ l. rate_in l d) (rates_registered log e n c rate runs is) ∙ lookup-last (rates log n) c rate d

    unknown : (o : Option Rate) → is_some o ≡ false → o ≡ None
    unknown None h = refl
    unknown (Some v) h = cc

    no_rate_yet : capacity_at ch c ≡ capacity_in (channels configs log n) c → rate_in (rates log n) c ≡ None
    no_rate_yet same = unknown (rate_in (rates log n) c) (sym (same_known configs log n c) ∙ ap (λ (o : Option ℕ). is_some o) (sym same ∙ absent))

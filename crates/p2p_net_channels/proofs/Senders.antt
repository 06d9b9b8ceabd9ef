-- What the quota of a channel admits of what its node sends, when it admits the rest, and the channels after it was asked.
use Rattle.std.proofs.Common.{◌≡◌, ℕ, ◌≤◌, max, Bool, true, false, cond, List, [], ◌∷◌, ◌++◌, Result, Ok, Err, Option, Some, None, refl, ap, sym, subst, ◌∙◌, arith, append_assoc, append-nil, eqb-true, eq-eqb}
use Rattle.std.specs.Prelude.{◌==◌, is_ok}
use Rattle.std.specs.Cmp.{IsTotalOrder, nat_cmp_total}
use Rattle.std.specs.BTreeMap.{is_at}
use Rattle.std.specs.Option.{option_map}
use Rattle.std.proofs.lemmas.Bool.Decides.{nat_tests}
use Rattle.p2p_base.specs.declared.key.Key.{Key}
use Rattle.p2p_log.specs.declared.config.Config.{Config}
use Rattle.p2p_log.specs.declared.event.Rate.{Rate}
use Rattle.p2p_log.specs.declared.event.Recipients.{Recipients}
use Rattle.p2p_log.specs.declared.queue.Queue.TheVariants as queue
use Rattle.p2p_log.specs.declared.entry.Entry.{Entry}
use Rattle.p2p_log.specs.Lines.{line}
use Rattle.p2p_log_rules.specs.Facts.{events_of, latest_moment, registers_at, capacity_in, sum_capacities}
use Rattle.p2p_log_rules.specs.Admitting.{admitted_keys, latest_retry, keys_by, retry_by, rate_at, sent_moments, offered, keys_admitted, retry_moment}
use Rattle.p2p_log_rules.specs.Checking.{checked_at}
use Rattle.p2p_log_rules.specs.Listening.{quota_of}
use Rattle.p2p_log_rules.specs.Quotas.{at_places}
use Rattle.p2p_log_rules.specs.Tracking.{key_cmp}
use Rattle.p2p_log_rules.specs.declared.row.Checked.{Checked}
use Rattle.p2p_runtime.specs.QuotaLaw.{Rate as Quota, retry}
use Rattle.p2p_runtime.specs.QuotaCheck.{check_answer}
use Rattle.p2p_runtime.specs.QuotaKeys.{KeptByKey, with_admission}
use Rattle.p2p_net_queues.specs.Meters.{passes, checked, MetersUntil}
use Rattle.p2p_net_queues.specs.Tables.{at}
use Rattle.p2p_net_queues.proofs.Holding.{holds_frame}
use Rattle.p2p_net_queues.proofs.Meters.{meters_later, passes_until, told_until, passed_until, refused_until, meters_at, meters_entry}
use Rattle.p2p_net_queues.proofs.Tables.{lookup-set, same_name}
use Rattle.p2p_net_channels.specs.Channels.{capacity_at}
use Rattle.p2p_net_channels.specs.Senders.{moment_told, keys_passing, keys_retry, kept_after, passed_on, keys_passed, retry_on, retry_told, senders_on, keys_metered}
use Rattle.p2p_net_channels.specs.Stands.{SenderStands, AdmitsNone, ClosesNone, ChannelsStand}
use Rattle.p2p_net_channels.specs.declared.channels.Channels.{Channels}
use Rattle.p2p_net_channels.proofs.Changes.{channels-kept}
use Rattle.p2p_net_channels.proofs.Quotas.{quota_stays, rates-kept, same_rates}
use Rattle.p2p_net_channels.proofs.Readers.{closed_stay}
use Rattle.p2p_net_channels.proofs.Sending.{sender_stays, same_sender_rates}

-- keys are in order
key_order : IsTotalOrder key_cmp
key_order = record {
  antisymm = λ x y. nat_cmp_total.antisymm x.0 y.0;
  trans = λ x y z. nat_cmp_total.trans x.0 y.0 z.0;
  congr = λ x y z. nat_cmp_total.congr x.0 y.0 z.0;
}

-- ---- one quota, asked at one moment for each of some keys

module _ (now : ℕ) (quota : Quota) where
  -- it admits what it does by the law
  passing_is : (keys : List Key) (past : Key → List ℕ) (kept : KeptByKey Key) → MetersUntil key_cmp now quota past kept → keys_passing kept now keys ≡ admitted_keys quota now keys past
  passing_is [] past kept m = refl
  passing_is (k ∷ ks) past kept m =
      by (λ later stands. passing_is ks later (checked key_cmp kept k now) stands) (passes key_cmp kept k now) refl
      ∙ ap (λ b. cond b (k ∷ admitted_keys quota now ks (with_admission key_cmp past k now)) (admitted_keys quota now ks past)) (passes_until key_cmp now quota past kept k m)
    where
      by : ((later : Key → List ℕ) → MetersUntil key_cmp now quota later (checked key_cmp kept k now) → keys_passing (checked key_cmp kept k now) now ks ≡ admitted_keys quota now ks later) → (b : Bool) → passes key_cmp kept k now ≡ b
          → cond b (k ∷ keys_passing (checked key_cmp kept k now) now ks) (keys_passing (checked key_cmp kept k now) now ks)
          ≡ cond b (k ∷ admitted_keys quota now ks (with_admission key_cmp past k now)) (admitted_keys quota now ks past)
      by rest true h = ap (λ l. k ∷ l) (rest (with_admission key_cmp past k now) (passed_until key_cmp now quota past kept k m key_order h))
      by rest false h = rest past (refused_until key_cmp now quota past kept k m key_order h)

  none_first : (rest : ℕ) → max 0 rest ≡ rest
  none_first rest = omega arith

  -- the latest moment that it tells is the law's
  retry_is : (keys : List Key) (past : Key → List ℕ) (kept : KeptByKey Key) → MetersUntil key_cmp now quota past kept → keys_retry kept now keys ≡ latest_retry quota now keys past
  retry_is [] past kept m = refl
  retry_is (k ∷ ks) past kept m =
      by (λ later stands. retry_is ks later (checked key_cmp kept k now) stands) (check_answer key_cmp kept k now) refl
    where
      by_law : (b : Bool) → passes key_cmp kept k now ≡ b → latest_retry quota now (k ∷ ks) past ≡ cond b (latest_retry quota now ks (with_admission key_cmp past k now)) (max (retry quota (past k)) (latest_retry quota now ks past))
      by_law b h =
          ap (λ t. cond t (latest_retry quota now ks (with_admission key_cmp past k now)) (max (retry quota (past k)) (latest_retry quota now ks past)))
          (sym (passes_until key_cmp now quota past kept k m) ∙ h)

      by : ((later : Key → List ℕ) → MetersUntil key_cmp now quota later (checked key_cmp kept k now) → keys_retry (checked key_cmp kept k now) now ks ≡ latest_retry quota now ks later) → (o : Result (Unit {0}) ℕ) → check_answer key_cmp kept k now ≡ o
          → max (moment_told o) (keys_retry (checked key_cmp kept k now) now ks) ≡ latest_retry quota now (k ∷ ks) past
      by rest (Ok u) is =
          let h : passes key_cmp kept k now ≡ true = ap is_ok is in
          none_first (keys_retry (checked key_cmp kept k now) now ks)
          ∙ (rest (with_admission key_cmp past k now) (passed_until key_cmp now quota past kept k m key_order h) ∙ sym (by_law true h))
      by rest (Err from) is =
          let h : passes key_cmp kept k now ≡ false = ap is_ok is in
          ap (λ t. max t (keys_retry (checked key_cmp kept k now) now ks)) (told_until key_cmp now quota past kept k m from is)
          ∙ (ap (λ t. max (retry quota (past k)) t) (rest past (refused_until key_cmp now quota past kept k m key_order h)) ∙ sym (by_law false h))

  -- what is kept after that stands for the moments of before and those that it admitted
  after_is : (keys : List Key) (past : Key → List ℕ) (kept : KeptByKey Key) → MetersUntil key_cmp now quota past kept
      → MetersUntil key_cmp now quota (λ k. past k ++ at_places k now (admitted_keys quota now keys past)) (kept_after kept now keys)
  after_is [] past kept m = meters_later key_cmp now now quota past (λ k. past k ++ []) kept m (omega arith) (λ k. append-nil (past k))
  after_is (j ∷ ks) past kept m = by (λ later stands. after_is ks later (checked key_cmp kept j now) stands) (passes key_cmp kept j now) refl
    where
      told : (b : Bool) → passes key_cmp kept j now ≡ b → (k : Key)
          → past k ++ at_places k now (admitted_keys quota now (j ∷ ks) past)
          ≡ past k ++ at_places k now (cond b (j ∷ admitted_keys quota now ks (with_admission key_cmp past j now)) (admitted_keys quota now ks past))
      told b h k =
          ap (λ t. past k ++ at_places k now (cond t (j ∷ admitted_keys quota now ks (with_admission key_cmp past j now)) (admitted_keys quota now ks past)))
          (sym (passes_until key_cmp now quota past kept j m) ∙ h)

      admit : (here : Bool) (l rest : List ℕ) → l ++ cond here (now ∷ rest) rest ≡ cond here (l ++ now ∷ []) l ++ rest
      admit true l rest = sym (append_assoc l (now ∷ []) rest)
      admit false l rest = refl

      by : ((later : Key → List ℕ) → MetersUntil key_cmp now quota later (checked key_cmp kept j now)
          → MetersUntil key_cmp now quota (λ k. later k ++ at_places k now (admitted_keys quota now ks later)) (kept_after (checked key_cmp kept j now) now ks)) → (b : Bool) → passes key_cmp kept j now ≡ b
          → MetersUntil key_cmp now quota (λ k. past k ++ at_places k now (admitted_keys quota now (j ∷ ks) past)) (kept_after (checked key_cmp kept j now) now ks)
      by rest true h =
          let more : Key → List ℕ = with_admission key_cmp past j now in
          meters_later key_cmp now now quota (λ k. more k ++ at_places k now (admitted_keys quota now ks more)) (λ k. past k ++ at_places k now (admitted_keys quota now (j ∷ ks) past))
          (kept_after (checked key_cmp kept j now) now ks) (rest more (passed_until key_cmp now quota past kept j m key_order h)) (omega arith)
          (λ k. told true h k ∙ admit (is_at (key_cmp j) k) (past k) (at_places k now (admitted_keys quota now ks more)))
      by rest false h =
          meters_later key_cmp now now quota (λ k. past k ++ at_places k now (admitted_keys quota now ks past)) (λ k. past k ++ at_places k now (admitted_keys quota now (j ∷ ks) past))
          (kept_after (checked key_cmp kept j now) now ks) (rest past (refused_until key_cmp now quota past kept j m key_order h)) (omega arith) (told false h)

-- ---- one channel

-- the quota of a channel admits the keys that it does by the log
pub keys_passed_is :
    (configs : List Config) (log : List Entry) (n c k now : ℕ) (keys : List Key) (ch : Channels) → ChannelsStand configs log n ch → latest_moment (events_of log) ≤ now → capacity_at ch c ≡ Some k
    → keys_passed ch c keys now ≡ keys_admitted log n c now keys
keys_passed_is configs log n c k now keys ch s late registered = by (rate_at log n c) (at ch.senders c) (s.senders c)
  where
    by : (r : Option Rate) (o : Option (KeptByKey Key)) → SenderStands log n c r o → passed_on o keys now ≡ keys_by r now keys (sent_moments log n c)
    by (Some rate) (Some kept) h = passing_is now (quota_of rate) keys (sent_moments log n c) kept (meters_at key_cmp log (quota_of rate) (sent_moments log n c) kept now h late)
    by None None h = refl
    by (Some rate) None h = absurd h
    by None (Some kept) h = absurd h

-- and the latest of the moments from which it admits the others is the law's
pub retry_told_is :
    (configs : List Config) (log : List Entry) (n c k now : ℕ) (keys : List Key) (ch : Channels) → ChannelsStand configs log n ch → latest_moment (events_of log) ≤ now → capacity_at ch c ≡ Some k
    → retry_told ch c keys now ≡ retry_moment log n c now keys
retry_told_is configs log n c k now keys ch s late registered = by (rate_at log n c) (at ch.senders c) (s.senders c)
  where
    by : (r : Option Rate) (o : Option (KeptByKey Key)) → SenderStands log n c r o → retry_on o keys now ≡ retry_by r now keys (sent_moments log n c)
    by (Some rate) (Some kept) h = retry_is now (quota_of rate) keys (sent_moments log n c) kept (meters_at key_cmp log (quota_of rate) (sent_moments log n c) kept now h late)
    by None None h = refl
    by (Some rate) None h = absurd h
    by None (Some kept) h = absurd h

-- what each channel keeps, once the quota of one was asked for these keys
at-senders_on : (m : List (ℕ × KeptByKey Key)) (c q : ℕ) (keys : List Key) (now : ℕ)
    → at (senders_on (at m c) m c keys now) q ≡ cond (q == c) (option_map (λ kept. kept_after kept now keys) (at m c)) (at m q)
at-senders_on m c q keys now = by (at m c) refl
  where
    none_at : (b : Bool) → (q == c) ≡ b → at m c ≡ None → at m q ≡ cond b None (at m q)
    none_at true here none = ap (at m) (eqb-true q c here) ∙ none
    none_at false there none = refl

    by : (o : Option (KeptByKey Key)) → at m c ≡ o → at (senders_on o m c keys now) q ≡ cond (q == c) (option_map (λ kept. kept_after kept now keys) o) (at m q)
    by None is = none_at (q == c) refl is
    by (Some kept) is = lookup-set c q (kept_after kept now keys) kept m is ∙ ap (λ b. cond b (Some (kept_after kept now keys)) (at m q)) (same_name q c)

-- ---- the channels

module _ (log : List Entry) (e : Entry) (n c now : ℕ) (to : Recipients) (is_then : e.event.at ≡ now)
    (asks : (d : ℕ) (k : Key) → sent_moments (log ++ e ∷ []) n d k ≡ sent_moments log n d k ++ cond (c == d) (at_places k now (keys_admitted log n c now (offered log n c to))) [])
    (late : latest_moment (events_of log) ≤ now) where
  -- what the channel that was asked keeps
  sender_checked :
      (r : Option Rate) (o : Option (KeptByKey Key)) → SenderStands log n c r o
      → ((k : Key) → sent_moments (log ++ e ∷ []) n c k ≡ sent_moments log n c k ++ at_places k now (keys_by r now (offered log n c to) (sent_moments log n c)))
      → SenderStands (log ++ e ∷ []) n c r (option_map (λ kept. kept_after kept now (offered log n c to)) o)
  sender_checked None None h same = λ k. same k ∙ (append-nil (sent_moments log n c k) ∙ h k)
  sender_checked (Some rate) (Some kept) h same =
      meters_entry key_cmp log e (quota_of rate) (λ k. sent_moments log n c k ++ at_places k now (admitted_keys (quota_of rate) now (offered log n c to) (sent_moments log n c))) (sent_moments (log ++ e ∷ []) n c)
      (kept_after kept now (offered log n c to)) now is_then
      (after_is now (quota_of rate) (offered log n c to) (sent_moments log n c) kept (meters_at key_cmp log (quota_of rate) (sent_moments log n c) kept now h late)) same
  sender_checked None (Some kept) h same = absurd h
  sender_checked (Some rate) None h same = absurd h

  -- what each channel keeps
  senders_checked :
      (m : List (ℕ × KeptByKey Key)) → ((d : ℕ) → SenderStands log n d (rate_at log n d) (at m d))
      → (d : ℕ) → SenderStands (log ++ e ∷ []) n d (rate_at log n d) (at (senders_on (at m c) m c (offered log n c to) now) d)
  senders_checked m stands d =
      subst (λ o. SenderStands (log ++ e ∷ []) n d (rate_at log n d) o) (sym (at-senders_on m c d (offered log n c to) now)) (by (d == c) refl)
    where
      here : (p : ℕ) → p ≡ c → SenderStands (log ++ e ∷ []) n p (rate_at log n p) (option_map (λ kept. kept_after kept now (offered log n c to)) (at m c))
      here p same =
          subst (λ p. SenderStands (log ++ e ∷ []) n p (rate_at log n p) (option_map (λ kept. kept_after kept now (offered log n c to)) (at m c))) (sym same)
          (sender_checked (rate_at log n c) (at m c) (stands c)
          (λ k. asks c k ∙ ap (λ b. sent_moments log n c k ++ cond b (at_places k now (keys_admitted log n c now (offered log n c to))) []) (eq-eqb c c refl)))

      other : (d == c) ≡ false → (c == d) ≡ false
      other test = grind (arith, nat_tests)

      by : (b : Bool) → (d == c) ≡ b → SenderStands (log ++ e ∷ []) n d (rate_at log n d) (cond b (option_map (λ kept. kept_after kept now (offered log n c to)) (at m c)) (at m d))
      by true test = here d (eqb-true d c test)
      by false test =
          sender_stays log e n d (rate_at log n d) (at m d) (stands d)
          (λ k. asks d k ∙ (ap (λ b. sent_moments log n d k ++ cond b (at_places k now (keys_admitted log n c now (offered log n c to))) []) (other test) ∙ append-nil (sent_moments log n d k)))

-- an entry of a node that registers no channel, and in which no connection admits a message
module _
    (configs : List Config) (log : List Entry) (e : Entry) (n : ℕ) (ch : Channels) (m : List (ℕ × Checked)) (s : ChannelsStand configs log n ch)
    (none : registers_at configs n e.event.act ≡ []) (admits_none : AdmitsNone configs log e n)
    (lines : (d : ℕ) → line (log ++ e ∷ []) (queue.Channel n d) ≡ line log (queue.Channel n d))
    (checks : (name : ℕ) → at m name ≡ checked_at (log ++ e ∷ []) n name) (closes_none : ClosesNone log e n)
  where
    -- with these quotas of what the node sends
    with_senders : (senders : List (ℕ × KeptByKey Key)) → ((d : ℕ) → SenderStands (log ++ e ∷ []) n d (rate_at log n d) (at senders d)) → ChannelsStand configs (log ++ e ∷ []) n (record ch { senders = senders; checks = m })
    with_senders senders stands = record {
      capacities = λ d. s.capacities d ∙ ap (λ l. capacity_in l d) (sym (channels-kept configs log e n none));
      total = s.total ∙ ap sum_capacities (sym (channels-kept configs log e n none));
      room = s.room;
      waits = holds_frame (queue.Channel n) log e ch.waiting s.waits lines;
      named = s.named;
      quotas = λ d. same_rates configs log e n d (at ch.quotas d) (rates-kept configs log e n none) (quota_stays configs log e n d (rate_at log n d) (at ch.quotas d) (s.quotas d) (λ conn. admits_none conn d));
      senders = λ d. same_sender_rates configs log e n d (at senders d) (rates-kept configs log e n none) (stands d);
      checks = checks;
      closed = closed_stay log e n ch s.closed closes_none.readers;
      ended = s.ended ∙ sym closes_none.goes_on;
    }

    -- the quota of a channel was asked for each key of those that a message is offered to
    pub channels_asked : (c now : ℕ) (to : Recipients)
        → ((d : ℕ) (k : Key) → sent_moments (log ++ e ∷ []) n d k ≡ sent_moments log n d k ++ cond (c == d) (at_places k now (keys_admitted log n c now (offered log n c to))) []) → e.event.at ≡ now → latest_moment (events_of log) ≤ now
        → ChannelsStand configs (log ++ e ∷ []) n (record (keys_metered c (offered log n c to) now ch) { checks = m })
    channels_asked c now to asks is_then late =
        with_senders (senders_on (at ch.senders c) ch.senders c (offered log n c to) now) (senders_checked log e n c now to is_then asks late ch.senders s.senders)

    -- the quota of no channel was asked
    pub channels_spent : ((d : ℕ) (k : Key) → sent_moments (log ++ e ∷ []) n d k ≡ sent_moments log n d k) → ChannelsStand configs (log ++ e ∷ []) n (record ch { checks = m })
    channels_spent unasked = with_senders ch.senders (λ d. sender_stays log e n d (rate_at log n d) (at ch.senders d) (s.senders d) (unasked d))

-- What is kept of the quota of what a node sends on each channel, after one more entry.
use Rattle.std.proofs.Common.{◌≡◌, ℕ, List, [], ◌∷◌, ◌++◌, Option, Some, None, refl, sym, subst, ◌∙◌}
use Rattle.p2p_base.specs.declared.key.Key.{Key}
use Rattle.p2p_log.specs.declared.config.Config.{Config}
use Rattle.p2p_log.specs.declared.event.Rate.{Rate}
use Rattle.p2p_log.specs.declared.entry.Entry.{Entry}
use Rattle.p2p_log_rules.specs.Facts.{rates, rate_in, state_from}
use Rattle.p2p_log_rules.specs.Admitting.{rate_at, sent_moments}
use Rattle.p2p_log_rules.specs.Listening.{quota_of}
use Rattle.p2p_log_rules.specs.Tracking.{key_cmp}
use Rattle.p2p_log_rules.specs.Told.{told}
use Rattle.p2p_runtime.specs.QuotaKeys.{KeptByKey}
use Rattle.p2p_net_queues.specs.Tables.{at}
use Rattle.p2p_net_queues.proofs.Meters.{meters_frame}
use Rattle.p2p_net_channels.specs.Channels.{no_channels}
use Rattle.p2p_net_channels.specs.Stands.{SenderStands, SendsNone}

-- no channels, and no log
pub senders_new : (n c : ℕ) → SenderStands [] n c (rate_at [] n c) (at no_channels.senders c)
unfolding rates told sent_moments state_from
senders_new n c = λ k. refl

-- a channel that has no rate admitted nothing
pub sent_none : (log : List Entry) (n c : ℕ) (r : Option Rate) (o : Option (KeptByKey Key)) → SenderStands log n c r o → r ≡ None → (k : Key) → sent_moments log n c k ≡ []
sent_none log n c None None h none = h
sent_none log n c None (Some kept) h none = absurd h
sent_none log n c (Some rate) o h none = cc

-- an entry in which nothing is admitted there
pub sender_stays :
    (log : List Entry) (e : Entry) (n c : ℕ) (r : Option Rate) (o : Option (KeptByKey Key)) → SenderStands log n c r o → ((k : Key) → sent_moments (log ++ e ∷ []) n c k ≡ sent_moments log n c k) → SenderStands (log ++ e ∷ []) n c r o
sender_stays log e n c None None h same = λ k. same k ∙ h k
sender_stays log e n c (Some rate) (Some kept) h same = meters_frame key_cmp log e (quota_of rate) (sent_moments log n c) (sent_moments (log ++ e ∷ []) n c) kept h same
sender_stays log e n c None (Some kept) h same = absurd h
sender_stays log e n c (Some rate) None h same = absurd h

-- an entry that leaves the rates of the channels leaves each its own
pub same_sender_rates :
    (configs : List Config) (log : List Entry) (e : Entry) (n c : ℕ) (o : Option (KeptByKey Key)) → rates (log ++ e ∷ []) n ≡ rates log n
    → SenderStands (log ++ e ∷ []) n c (rate_at log n c) o → SenderStands (log ++ e ∷ []) n c (rate_at (log ++ e ∷ []) n c) o
same_sender_rates configs log e n c o same h = subst (λ rs. SenderStands (log ++ e ∷ []) n c (rate_in rs c) o) (sym same) h

-- and one in which nothing is admitted leaves what the node sent there
pub senders_stay :
    (configs : List Config) (log : List Entry) (e : Entry) (n : ℕ) (m : List (ℕ × KeptByKey Key)) → ((c : ℕ) → SenderStands log n c (rate_at log n c) (at m c)) → rates (log ++ e ∷ []) n ≡ rates log n → SendsNone log e n
    → (c : ℕ) → SenderStands (log ++ e ∷ []) n c (rate_at (log ++ e ∷ []) n c) (at m c)
senders_stay configs log e n m stands same sends c =
    same_sender_rates configs log e n c (at m c) same (sender_stays log e n c (rate_at log n c) (at m c) (stands c) (sends.moments c))

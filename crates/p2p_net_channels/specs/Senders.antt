-- What the quota of each channel admits of what its node sends, by the keys of those it sends to.
use Rattle.std.specs.Prelude.{ℕ, max, Bool, cond, List, [], ◌∷◌, Result, Ok, Err, Option, Some, None}
use Rattle.std.specs.Map.{set_value}
use Rattle.std.specs.BTreeMap.{is_at}
use Rattle.std.specs.Ordering.{nat_cmp}
use Rattle.p2p_base.specs.declared.key.Key.{Key}
use Rattle.p2p_log_rules.specs.Tracking.{key_cmp}
use Rattle.p2p_runtime.specs.QuotaKeys.{KeptByKey}
use Rattle.p2p_runtime.specs.QuotaCheck.{check_answer}
use Rattle.p2p_net_queues.specs.Meters.{passes, checked, answer_at, passes_at, checked_at}
use Rattle.p2p_net_queues.specs.Tables.{at}
use Rattle.p2p_net_channels.specs.declared.channels.Channels.{Channels}
use Rattle.p2p_net_channels.specs.declared.offer.Offer.{Offer}

-- whether the quota of a channel admits a message to a key at a moment
abbrev pub may_send : Channels → ℕ → Key → ℕ → Bool
may_send ch c k now = passes_at key_cmp ch.senders c k now

-- the moment that an answer tells, where it tells one
abbrev pub moment_told : Result (Unit {0}) ℕ → ℕ
moment_told (Ok _) = 0
moment_told (Err from) = from

-- the moment from which it admits one that it refuses: 0 where it admits it, or where the channel is not registered
abbrev pub key_retry : Channels → ℕ → Key → ℕ → ℕ
key_retry ch c k now = moment_told (answer_at key_cmp ch.senders c k now)

-- the channels once that was asked
abbrev pub key_metered : ℕ → Key → ℕ → Channels → Channels
key_metered c k now ch = record ch { senders = checked_at key_cmp ch.senders c k now }

-- the keys that a quota admits at a moment, asked one after another
abbrev pub keys_passing : KeptByKey Key → ℕ → List Key → List Key
keys_passing kept now [] = []
keys_passing kept now (k ∷ ks) =
    cond (passes key_cmp kept k now) (k ∷ keys_passing (checked key_cmp kept k now) now ks) (keys_passing (checked key_cmp kept k now) now ks)

-- the latest of the moments from which it admits those that it refuses
abbrev pub keys_retry : KeptByKey Key → ℕ → List Key → ℕ
keys_retry kept now [] = 0
keys_retry kept now (k ∷ ks) = max (moment_told (check_answer key_cmp kept k now)) (keys_retry (checked key_cmp kept k now) now ks)

-- what is kept of it after that
abbrev pub kept_after : KeptByKey Key → ℕ → List Key → KeptByKey Key
kept_after kept now [] = kept
kept_after kept now (k ∷ ks) = kept_after (checked key_cmp kept k now) now ks

abbrev pub passed_on : Option (KeptByKey Key) → List Key → ℕ → List Key
passed_on None keys now = []
passed_on (Some kept) keys now = keys_passing kept now keys

-- the keys that the quota of a channel admits: none where it is not registered
abbrev pub keys_passed : Channels → ℕ → List Key → ℕ → List Key
keys_passed ch c keys now = passed_on (at ch.senders c) keys now

abbrev pub retry_on : Option (KeptByKey Key) → List Key → ℕ → ℕ
retry_on None keys now = 0
retry_on (Some kept) keys now = keys_retry kept now keys

-- the latest of the moments from which the quota of a channel admits those of these that it refuses: 0 where it refuses none, or
-- where the channel is not registered
abbrev pub retry_told : Channels → ℕ → List Key → ℕ → ℕ
retry_told ch c keys now = retry_on (at ch.senders c) keys now

-- what a quota makes of a message to no keys
abbrev pub nothing_offered : Offer
nothing_offered = record { admitted = []; retry = 0 }

abbrev pub senders_on : Option (KeptByKey Key) → List (ℕ × KeptByKey Key) → ℕ → List Key → ℕ → List (ℕ × KeptByKey Key)
senders_on None m c keys now = m
senders_on (Some kept) m c keys now = set_value (is_at (nat_cmp c)) m (kept_after kept now keys)

-- the channels once each of these was asked for
abbrev pub keys_metered : ℕ → List Key → ℕ → Channels → Channels
keys_metered c keys now ch = record ch { senders = senders_on (at ch.senders c) ch.senders c keys now }

-- What the quota of a channel admits of what its node sends, by the log.
use Rattle.std.specs.Prelude.{ℕ, List, Option}
use Rattle.p2p_base.specs.declared.key.Key.{Key}
use Rattle.p2p_log.specs.declared.entry.Entry.{Entry}
use Rattle.p2p_log.specs.declared.event.Rate.{Rate}
use Rattle.p2p_log.specs.declared.event.Recipients.{Recipients}
use Rattle.p2p_log.specs.Copies.{keys_of_recipients}
use Rattle.p2p_log_rules.specs.Facts.{rates, rate_in, peers_told}
pub use Rattle.p2p_log_rules.specs.Quotas.{admitted_keys, latest_retry, keys_by, retry_by}
use Rattle.p2p_log_rules.specs.Quotas.{moments_in}
use Rattle.p2p_log_rules.specs.Told.{told}

-- the rate of a channel of a node
abbrev pub rate_at : List Entry → ℕ → ℕ → Option Rate
rate_at log n c = rate_in (rates log n) c

-- the moments at which the quota of a channel of a node admitted each key, oldest first
unfoldable pub sent_moments : List Entry → ℕ → ℕ → Key → List ℕ
sent_moments log n c k = moments_in (told log) n c k

-- whom a message on a channel of a node is offered to: all are those of the newest list that the channel was told of
abbrev pub offered : List Entry → ℕ → ℕ → Recipients → List Key
offered log n c to = keys_of_recipients (peers_told log n c) to

-- the keys of these that it admits at a moment
abbrev pub keys_admitted : List Entry → ℕ → ℕ → ℕ → List Key → List Key
keys_admitted log n c at keys = keys_by (rate_at log n c) at keys (sent_moments log n c)

-- the latest of the moments from which those of these are admitted that it refuses at a moment
abbrev pub retry_moment : List Entry → ℕ → ℕ → ℕ → List Key → ℕ
retry_moment log n c at keys = retry_by (rate_at log n c) at keys (sent_moments log n c)

-- What the quotas of a connection admit of what comes over it, by the log: its pings, and the messages of each channel.
use Rattle.std.specs.Prelude.{ℕ, ◌/◌, max, Bool, true, false, ◌==◌, ◌&&◌, cond, List, [], ◌∷◌, flat_map, Option, Some, None, slice_get, Result, Ok, Err}
use Rattle.p2p_runtime.specs.QuotaLaw.{Rate as Quota, rate_of, admits}
use Rattle.p2p_wire.specs.declared.error.CodecError.{CodecError}
use Rattle.p2p_wire.specs.declared.frame.Message.{Message}
use Rattle.p2p_wire.specs.declared.frame.Message.TheVariants as message
use Rattle.p2p_wire.specs.Frame.{decode_frame}
use Rattle.p2p_log.specs.declared.config.Config.{Config}
use Rattle.p2p_log.specs.declared.item.Item.{Item}
use Rattle.p2p_log.specs.declared.item.Item.TheVariants as item
use Rattle.p2p_log.specs.declared.entry.Entry.{Entry}
use Rattle.p2p_log.specs.declared.event.Rate.{Rate}
use Rattle.p2p_log_rules.specs.Facts.{rates, rate_in}
pub use Rattle.p2p_log_rules.specs.HalfSteps.{holds}
use Rattle.p2p_log_rules.specs.Pings.{ping_frequency_at}
use Rattle.p2p_log_rules.specs.Quotas.{quota_of}
use Rattle.p2p_log_rules.specs.Tellings.{Telling}
use Rattle.p2p_log_rules.specs.Tellings as telling
use Rattle.p2p_log_rules.specs.Told.{tells, told}

-- what a quota of a connection counts: pings, or the messages of a channel
pub data Metered : Type 0 where
  pings : Metered
  messages : ℕ → Metered

abbrev pub is_of : Metered → Option Metered → Bool
is_of pings (Some pings) = true
is_of (messages c) (Some (messages d)) = c == d
is_of _ _ = false

-- ---- what was admitted

abbrev pub metered_by : Result Message CodecError → Option Metered
metered_by (Ok message.Ping) = Some pings
metered_by (Ok (message.Data d)) = Some (messages d.channel)
metered_by (Err e) = None

-- what an item counts as that came over a connection, in a frame within the limit or held until now
abbrev pub metered_in : ℕ → Item → Option Metered
metered_in limit (item.Frame copy bytes) = metered_by (decode_frame bytes limit)
metered_in limit (item.Held channel bytes copy) = Some (messages channel)
metered_in limit item.Ping = Some pings
metered_in limit _ = None

abbrev pub limit_at : List Config → ℕ → ℕ
limit_at configs n = elim (slice_get configs n) [ None ↦ 0 | Some c ↦ c.max_message_size ]

-- the moment at which a connection took one of these and did not hold it
abbrev pub passes : ℕ → ℕ → ℕ → Metered → Telling → List ℕ
passes limit n conn what (telling.item_admitted m c at i) = cond (((m == n) && (c == conn)) && is_of what (metered_in limit i)) (at ∷ []) []
passes limit n conn what _ = []

-- the moments at which a connection admitted these, oldest first
unfoldable pub admitted : List Config → List Entry → ℕ → ℕ → Metered → List ℕ
admitted configs log n conn what = flat_map (passes (limit_at configs n) n conn what) (told log)

-- what an entry adds to them, given those before it
abbrev pub admitted_by : ℕ → ℕ → ℕ → Metered → List Entry → Entry → List ℕ
admitted_by limit n conn what before e = flat_map (passes limit n conn what) (tells (told before) before e)

-- ---- what is admitted

abbrev pub no_quota : Quota
no_quota = rate_of 0 0

abbrev pub quota_or_none : Option Rate → Quota
quota_or_none None = no_quota
quota_or_none (Some r) = quota_of r

-- one ping, and one more for each half of the time from one to the next
abbrev pub ping_quota : ℕ → Quota
ping_quota frequency = rate_of 1 (max 1 (frequency / 2))

-- the quota of a node for these, on each of its connections
abbrev pub quota_at : List Config → List Entry → ℕ → Metered → Quota
quota_at configs log n pings = ping_quota (ping_frequency_at configs n)
quota_at configs log n (messages c) = quota_or_none (rate_in (rates log n) c)

-- whether a connection admits one more of these at a moment
abbrev pub may_pass : List Config → List Entry → ℕ → ℕ → ℕ → Metered → Bool
may_pass configs log n conn at what = admits (quota_at configs log n what) (admitted configs log n conn what) at

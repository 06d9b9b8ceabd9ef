-- The pings of a connection, by the log: when the next is due, and the frame of one.
use Rattle.std.specs.Prelude.{ℕ, ◌+◌, Bool, false, ◌==◌, ◌&&◌, cond, nat_le, List, Option, Some, None, slice_get}
use Rattle.p2p_wire.specs.declared.frame.Message.TheVariants as message
use Rattle.p2p_wire.specs.Frame.{frame}
use Rattle.p2p_log.specs.declared.config.Config.{Config}
use Rattle.p2p_log.specs.declared.entry.Entry.{Entry}
use Rattle.p2p_log_rules.specs.Tellings.{Telling, last_or, first_or}
use Rattle.p2p_log_rules.specs.Tellings as telling
use Rattle.p2p_log_rules.specs.Told.{told}

abbrev pub ping_frame : List ℕ
ping_frame = frame message.Ping

abbrev pub ping_frequency_at : List Config → ℕ → ℕ
ping_frequency_at configs n = elim (slice_get configs n) [ None ↦ 0 | Some c ↦ c.ping_frequency ]

-- whether a ping is due that is counted from there
abbrev pub is_past : ℕ → ℕ → Option ℕ → Bool
is_past frequency at None = false
is_past frequency at (Some from) = nat_le (from + frequency) at

-- the moment at which a connection took its router's answer
abbrev pub runs_from : ℕ → ℕ → Telling → Option ℕ
runs_from n conn (telling.connection_ran m c at) = cond ((m == n) && (c == conn)) (Some at) None
runs_from n conn _ = None

-- the moment at which it put a ping
abbrev pub pings_at : ℕ → ℕ → Telling → Option (Option ℕ)
pings_at n conn (telling.ping_put m c at) = cond ((m == n) && (c == conn)) (Some (Some at)) None
pings_at n conn _ = None

-- a moment, or else that one
abbrev pub or_from : Option ℕ → Option ℕ → Option ℕ
or_from None from = from
or_from (Some at) from = Some at

-- the moment from which a connection that runs counts to its next ping: that of its last ping, or else of the step that took its router's answer
unfoldable pub last_pinged : List Config → List Entry → ℕ → ℕ → Option ℕ
last_pinged configs log n conn = or_from (last_or None (pings_at n conn) (told log)) (first_or None (runs_from n conn) (told log))

-- whether its next ping is due
abbrev pub ping_is_due : List Config → List Entry → ℕ → ℕ → ℕ → Bool
ping_is_due configs log n conn at = is_past (ping_frequency_at configs n) at (last_pinged configs log n conn)

-- Which channels of a node have a reader, by the log, and what becomes of a message for one that has none.
use Rattle.std.specs.Prelude.{ℕ, Bool, true, false, ◌==◌, ◌&&◌, not, cond, List, [], Option, Some, None, is_some}
use Rattle.std.specs.List.{list_any}
use Rattle.p2p_log.specs.declared.config.Config.{Config}
use Rattle.p2p_log.specs.declared.queue.Queue.TheVariants as queue
use Rattle.p2p_log.specs.declared.end.Cause.{Cause}
use Rattle.p2p_log.specs.declared.end.Cause.TheVariants as cause
use Rattle.p2p_log.specs.declared.entry.Entry.{Entry}
use Rattle.p2p_log.specs.declared.entry.Reply.TheVariants as reply
use Rattle.p2p_log.specs.Drained.{all_end}
use Rattle.p2p_log.specs.Lines.{line}
use Rattle.p2p_log_rules.specs.declared.row.Row.{Row}
use Rattle.p2p_log_rules.specs.Facts.{channels, capacity_in}
use Rattle.p2p_log_rules.specs.Rows.{only}
use Rattle.p2p_log_rules.specs.Tellings.{Telling}
use Rattle.p2p_log_rules.specs.Tellings as telling
use Rattle.p2p_log_rules.specs.Told.{told}

-- ---- readers

abbrev pub drops_reader : ℕ → ℕ → Telling → Bool
drops_reader n c (telling.reader_dropped m d) = (m == n) && (d == c)
drops_reader n c _ = false

-- whether the reader of a channel of a node was dropped
unfoldable pub is_closed : List Entry → ℕ → ℕ → Bool
is_closed log n c = list_any (drops_reader n c) (told log)

-- a channel has a reader from its registration until that is dropped
abbrev pub reader_of : Option ℕ → Bool → Bool
reader_of capacity closed = is_some capacity && not closed

abbrev pub has_reader : List Config → List Entry → ℕ → ℕ → Bool
has_reader configs log n c = reader_of (capacity_in (channels configs log n) c) (is_closed log n c)

-- close: what waits in the channel ends untaken, the oldest first
abbrev pub close_row : List Config → List Entry → ℕ → ℕ → Row
close_row configs log c n =
    cond (has_reader configs log n c)
    (record { reply = reply.Ok; takes = []; puts = []; ends = all_end cause.ReceiverClosed (line log (queue.Channel n c)) })
    (only reply.Gone)

-- ---- messages that come

-- why a message does not enter its channel, by whether the reader was dropped and whether the channel is full
abbrev pub refused_by : Bool → Bool → Option Cause
refused_by true full = Some cause.ReceiverClosed
refused_by false true = Some cause.MailboxFull
refused_by false false = None

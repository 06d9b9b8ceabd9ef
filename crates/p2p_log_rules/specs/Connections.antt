-- The connections of a node, by what was told: its half of each, and how far it is.
use Rattle.std.specs.Prelude.{ℕ, Bool, false, ◌==◌, ◌&&◌, not, cond, List, Option, None}
use Rattle.std.specs.List.{list_any}
use Rattle.p2p_log.specs.declared.entry.Entry.{Entry}
use Rattle.p2p_log_rules.specs.declared.row.Half.{Half}
pub use Rattle.p2p_log_rules.specs.HalfSteps.{is_done, is_end}
pub use Rattle.p2p_log_rules.specs.Halves.{side_at, half_over}
use Rattle.p2p_log_rules.specs.Halves.{half_by}
pub use Rattle.p2p_log_rules.specs.Puts.{is_answer}
use Rattle.p2p_log_rules.specs.Spawning.{Spawned, connections_of}
use Rattle.p2p_log_rules.specs.Tellings.{Telling}
use Rattle.p2p_log_rules.specs.Tellings as telling
pub use Rattle.p2p_log_rules.specs.Told.{is_over}
use Rattle.p2p_log_rules.specs.Told.{tells, told}

-- ---- halves

-- the node's half of a connection that its spawner made
abbrev pub half_of : List Entry → ℕ → Option Spawned → Option Half
half_of log n o = half_by (told log) n o

-- the node's half of the connection of this name
unfoldable pub half_at : List Entry → ℕ → ℕ → Option Half
half_at log n conn = half_of log n (connections_of log n conn)

-- ---- how far they are

-- whether an entry tells such a thing, given those before it
abbrev pub tells_some : (Telling → Bool) → List Entry → Entry → Bool
tells_some test before e = list_any test (tells (told before) before e)

-- that its sending half did a step
abbrev pub is_step : ℕ → ℕ → Telling → Bool
is_step n conn (telling.half_stepped m c) = (m == n) && (c == conn)
is_step n conn _ = false

-- whether it has begun
unfoldable pub is_begun : List Entry → ℕ → ℕ → Bool
is_begun log n conn = list_any (is_step n conn) (told log)

-- whether its sending half does a step in an entry: it begins there, or had begun
abbrev pub begins_connection : ℕ → ℕ → List Entry → Entry → Bool
begins_connection n conn before e = tells_some (is_step n conn) before e

-- that its sending half took its router's answer
abbrev pub is_answered : ℕ → ℕ → Telling → Bool
is_answered n conn (telling.connection_ran m c at) = (m == n) && (c == conn)
is_answered n conn _ = false

-- whether it was answered
unfoldable pub has_run : List Entry → ℕ → ℕ → Bool
has_run log n conn = list_any (is_answered n conn) (told log)

-- whether it is answered in an entry
abbrev pub runs : ℕ → ℕ → List Entry → Entry → Bool
runs n conn before e = tells_some (is_answered n conn) before e

-- whether it has ended
unfoldable pub is_ended : List Entry → ℕ → ℕ → Bool
is_ended log n conn = list_any (is_over n conn) (told log)

-- whether it ends in an entry
abbrev pub ends_connection : ℕ → ℕ → List Entry → Entry → Bool
ends_connection n conn before e = tells_some (is_over n conn) before e

-- whether it runs: it was answered, and has not ended
abbrev pub is_running : List Entry → ℕ → ℕ → Bool
is_running log n conn = has_run log n conn && not (is_ended log n conn)

-- the connection of this name, while it has not ended
abbrev pub live_connection : List Entry → ℕ → ℕ → Option Spawned
live_connection log n conn = cond (is_ended log n conn) None (connections_of log n conn)

-- its half, while the connection has not ended
abbrev pub live_half : List Entry → ℕ → ℕ → Option Half
live_half log n conn = cond (is_ended log n conn) None (half_at log n conn)

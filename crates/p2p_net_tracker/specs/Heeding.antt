-- Which connections of its node a tracker knows to have ended, and what it puts for all that, as values.
use Rattle.std.specs.Prelude.{ℕ, Bool, List, is_some}
use Rattle.p2p_log_rules.specs.TrackerPuts.{Put, heeded}
use Rattle.p2p_net_queues.specs.Tables as table

-- what is kept of the connections that have ended says so of this one
abbrev pub is_noted : List (ℕ × Unit {0}) → ℕ → Bool
is_noted ended conn = is_some (table.at ended conn)

-- all of these but the kills of those connections
abbrev pub heeded_by : List (ℕ × Unit {0}) → List Put → List Put
heeded_by ended puts = heeded (is_noted ended) puts

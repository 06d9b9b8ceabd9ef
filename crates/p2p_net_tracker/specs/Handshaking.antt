-- What a step of a handshake of a node's listener took of what it was told, and what ends where the handshake ended, as values.
use Rattle.std.specs.Prelude.{Bool, true, false, List, [], drop}
use Rattle.p2p_log.specs.declared.end.End.{End}
use Rattle.p2p_log.specs.declared.item.Envelope.{Envelope}
use Rattle.p2p_log.specs.declared.entry.Reply.TheVariants as reply
use Rattle.p2p_log_rules.specs.declared.row.Row.{Row}
use Rattle.p2p_log_rules.specs.Attempting.{left_ends}
use Rattle.p2p_net_tracker.specs.Dialed.{taken_names}

-- what waits for it, by whether it took the oldest
abbrev pub once_taken : Bool → List Envelope → List Envelope
once_taken true l = drop 1 l
once_taken false l = l

-- by whether it took the oldest, and whether it ended
abbrev pub left_of : Bool → Bool → List Envelope → List Envelope
left_of took true l = []
left_of took false l = once_taken took l

-- the ends of what is left, where it ended
abbrev pub ends_by : Bool → List Envelope → List End
ends_by true left = left_ends left
ends_by false left = []

-- the row of its step, of these items
abbrev pub handshake_step_row : Bool → Bool → List Envelope → Row
handshake_step_row took ended l = record { reply = reply.Ok; takes = taken_names took l; puts = []; ends = ends_by ended (once_taken took l) }

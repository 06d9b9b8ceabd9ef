-- The message that arrived in a frame, and what becomes of it.
use Rattle.std.specs.Prelude.{ℕ, cond, List, [], ◌∷◌, ◌++◌, Option, Some, None}
use Rattle.p2p_base.specs.declared.key.Key.{Key}
use Rattle.p2p_log.specs.declared.queue.Queue.TheVariants as queue
use Rattle.p2p_log.specs.declared.item.Item.{Item}
use Rattle.p2p_log.specs.declared.item.Item.TheVariants as item
use Rattle.p2p_log.specs.declared.end.End.TheVariants as end
use Rattle.p2p_log.specs.declared.end.Outcome.TheVariants as outcome
use Rattle.p2p_log.specs.declared.end.Cause.{Cause}
use Rattle.p2p_log_rules.specs.declared.row.Row.{Row}
use Rattle.std.specs.Option.{option_map}
use Rattle.p2p_log_rules.specs.Frames.{message_in, is_ping_in}
use Rattle.p2p_net_channels.specs.declared.arrival.Arrived.{Arrived}
use Rattle.p2p_net_channels.specs.declared.arrival.Arriving.{Arriving}
use Rattle.p2p_net_channels.specs.declared.arrival.Arriving.TheVariants as arriving

-- a copy with its channel and its message
abbrev pub arrival_of : ℕ × ℕ → Option (ℕ × List ℕ) → Option Arrived
arrival_of copy None = None
arrival_of copy (Some message) = Some (record { copy = copy; channel = message.0; bytes = message.1 })

-- the message in a frame within the limit, or that it is a ping
abbrev pub arrival_in_frame : Option (ℕ × ℕ) → List ℕ → ℕ → Option Arriving
arrival_in_frame (Some copy) bytes limit = option_map arriving.Message (arrival_of copy (message_in bytes limit))
arrival_in_frame None bytes limit = cond (is_ping_in bytes limit) (Some arriving.Ping) None

-- what came over a connection in a frame within the limit
abbrev pub arrival_in : ℕ → Item → Option Arriving
arrival_in limit (item.Frame copy bytes) = arrival_in_frame copy bytes limit
arrival_in limit _ = None

-- what came over a connection and is held
abbrev pub held_arrival : Item → Option Arriving
held_arrival (item.Held c bytes copy) = Some (arriving.Message (record { copy = copy; channel = c; bytes = bytes }))
held_arrival item.Ping = Some arriving.Ping
held_arrival _ = None

-- as it waits for its quota
abbrev pub held_item : Arriving → Item
held_item (arriving.Message m) = item.Held m.channel m.bytes m.copy
held_item arriving.Ping = item.Ping

-- the row once a message came to its channel, by what keeps it out of that
abbrev pub delivered : Option Cause → ℕ → Key → Arrived → Row → Row
delivered (Some why) n from m r = record r { ends = r.ends ++ end.Copy m.copy.0 m.copy.1 (outcome.Dropped why) ∷ [] }
delivered None n from m r = record r { puts = r.puts ++ (queue.Channel n m.channel, item.Message m.bytes m.copy from) ∷ [] }

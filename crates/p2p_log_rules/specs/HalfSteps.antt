-- What the step of a half of a connection came to, by its reply, and by what it took and what it put.
use Rattle.std.specs.Prelude.{Bool, true, false, nat_le, List, ◌∷◌, length, None}
use Rattle.p2p_log.specs.declared.queue.Queue.{Queue}
use Rattle.p2p_log.specs.declared.queue.Queue.TheVariants as queue
use Rattle.p2p_log.specs.declared.item.Item.{Item}
use Rattle.p2p_log.specs.declared.item.Item.TheVariants as item
use Rattle.p2p_log.specs.declared.entry.Reply.{Reply}
use Rattle.p2p_log.specs.declared.entry.Reply.TheVariants as reply

-- whether something was done
abbrev pub is_done : Reply → Bool
is_done reply.Ok = true
is_done _ = false

-- whether a connection ended
abbrev pub is_end : Reply → Bool
is_end (reply.Ended why) = true
is_end _ = false

-- whether it put a ping: a frame that carries no copy, before those that it took
abbrev pub puts_ping : List Item → List (Queue × Item) → Bool
puts_ping items ((q, item.Frame None frame) ∷ puts) = nat_le (length items) (length puts)
puts_ping items _ = false

-- whether what was taken is held
abbrev pub holds : List (Queue × Item) → Bool
holds ((queue.Held n conn, i) ∷ puts) = true
holds _ = false

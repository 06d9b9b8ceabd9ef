-- Words for rows: a reply alone, the size of a node's mailboxes and whether its spawner's is full, and rings.
use Rattle.std.specs.Prelude.{ℕ, Bool, List, [], ◌∷◌, ◌++◌, filter, flat_map}
use Rattle.p2p_log.specs.declared.config.Config.{Config}
use Rattle.p2p_log.specs.declared.queue.Queue.{Queue}
use Rattle.p2p_log.specs.declared.queue.Queue.TheVariants as queue
use Rattle.p2p_log.specs.declared.item.Envelope.{Envelope}
use Rattle.p2p_log.specs.declared.end.End.{End}
use Rattle.p2p_log.specs.declared.end.End.TheVariants as end
use Rattle.p2p_log.specs.declared.entry.Entry.{Entry}
use Rattle.p2p_log.specs.declared.entry.Reply.{Reply}
use Rattle.p2p_log.specs.declared.entry.Reply.TheVariants as reply
use Rattle.p2p_log_rules.specs.declared.row.Row.{Row}
pub use Rattle.p2p_log_rules.specs.Full.{mailbox_size_at}
use Rattle.p2p_log_rules.specs.Full.{is_full}
use Rattle.p2p_log.specs.Lines.{name_of, stands_in, stays, ended_item}

-- a reply that moves nothing
abbrev pub only : Reply → Row
only r = record { reply = r; takes = []; puts = []; ends = [] }

-- the item of this name is taken, and nothing else happens
abbrev pub taken_row : ℕ × ℕ → Row
taken_row name = record { reply = reply.Ok; takes = name ∷ []; puts = []; ends = [] }

-- the oldest of these is taken, where there is one
abbrev pub takes_oldest : List Envelope → Row
takes_oldest [] = only reply.Idle
takes_oldest (x ∷ _) = taken_row (name_of x)

-- whether no more connections may wait for a node's spawner
abbrev pub is_spawner_full : List Config → List Entry → ℕ → Bool
is_spawner_full configs log n = is_full configs log (queue.Spawner n)

-- an item that the next one overwrites, of a queue that holds one
abbrev pub overwritten : List Envelope → List End
overwritten [] = []
overwritten (x ∷ _) = end.Item x.entry x.place ∷ []

-- what comes of what these queues hold, each of which holds one, among what stands in queues: it is overwritten
abbrev pub ring_ends : List Envelope → List Queue → List End
ring_ends items [] = []
ring_ends items (q ∷ qs) =
    let ends = overwritten (filter (stands_in q) items) in
    ends ++ ring_ends (filter (stays (flat_map ended_item ends)) items) qs

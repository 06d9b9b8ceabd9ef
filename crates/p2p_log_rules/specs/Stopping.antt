-- What a stop of a node ends, in order, and its row.
use Rattle.std.specs.Prelude.{ℕ, cond, List, [], ◌∷◌, ◌++◌, flat_map, Option, Some, None}
use Rattle.p2p_log.specs.declared.queue.Queue.{Queue}
use Rattle.p2p_log.specs.declared.queue.Queue.TheVariants as queue
use Rattle.p2p_log.specs.declared.item.Item.{Item}
use Rattle.p2p_log.specs.declared.item.Envelope.{Envelope}
use Rattle.p2p_log.specs.declared.end.Cause.TheVariants as cause
use Rattle.p2p_log.specs.declared.entry.Entry.{Entry}
use Rattle.p2p_log.specs.declared.entry.Reply.TheVariants as reply
use Rattle.p2p_log.specs.Drained.{all_end, drained_with}
use Rattle.p2p_log.specs.Lines.{live, line}
use Rattle.p2p_log_rules.specs.declared.row.Half.{Half}
use Rattle.p2p_log_rules.specs.declared.row.Row.{Row}
use Rattle.p2p_log_rules.specs.Connections.{half_at}
use Rattle.p2p_log_rules.specs.Dropping.{LinkEnd, other_side, dialing_end, listening_end, arrival_end, half_end}
use Rattle.p2p_log_rules.specs.Ending.{queues_with}
use Rattle.p2p_log_rules.specs.Facts.{is_stopped}
use Rattle.p2p_log_rules.specs.Handshakes.{handshakes_of, came_over}
use Rattle.p2p_log_rules.specs.Rows.{only}
use Rattle.p2p_log_rules.specs.Told.{told, half_to_be, attempts_in, connections_in}

-- what is in flight towards an end of a link
abbrev pub towards : Option LinkEnd → List Queue
towards None = []
towards (Some e) = queue.Link e.0 (other_side e.1) ∷ []

-- with a message to the spawner, and with an arrival, what is in flight towards the end that is handed on by it
abbrev pub brought_to : List Entry → Queue → Item → List Queue
brought_to log (queue.Spawner n) i = towards (half_end (half_to_be (told log) n i))
brought_to log (queue.Arrivals n) i = towards (arrival_end (i ∷ []))
brought_to log _ i = []

abbrev pub brought_by : List Entry → Envelope → List Queue
brought_by log x = brought_to log x.queue x.item

-- with an attempt what it is told, and what is in flight towards its end; and so with a handshake
abbrev pub with_attempt : List Entry → ℕ → ℕ → List Queue
with_attempt log n k = queue.Attempt n k ∷ towards (dialing_end log n k)

abbrev pub with_handshake : List Entry → ℕ → ℕ → List Queue
with_handshake log n h = queue.Handshake n h ∷ towards (listening_end (came_over log h))

-- with a connection what is emptied where it ends of itself
abbrev pub with_half : ℕ → ℕ → Option Half → List Queue
with_half n conn None = []
with_half n conn (Some half) = queues_with n conn half

-- what is emptied with a node, in order. What its readers and those who asked it may still take is not
abbrev pub queues_at : List Entry → ℕ → List Queue
queues_at log n =
    queue.Router n ∷ queue.Tracker n ∷ queue.Spawner n ∷ queue.Arrivals n ∷ queue.Addresses n ∷ queue.Dialer n
    ∷ (flat_map (with_attempt log n) (attempts_in (told log) n)
    ++ (flat_map (with_handshake log n) (handshakes_of log n)
    ++ flat_map (λ conn. with_half n conn (half_at log n conn)) (connections_in (told log) n)))

-- and with what it brings
abbrev pub emptied_at : List Entry → ℕ → List Queue
emptied_at log n = queues_at log n ++ (flat_map (brought_by log) (line log (queue.Spawner n)) ++ flat_map (brought_by log) (line log (queue.Arrivals n)))

-- stop: all that ends untaken, once
abbrev pub stop_row : List Entry → ℕ → Row
stop_row log n =
    cond (is_stopped log n)
    (only reply.Gone)
    (record { reply = reply.Ok; takes = []; puts = []; ends = all_end cause.NodeStopped (drained_with (brought_by log) (live log) (queues_at log n)) })

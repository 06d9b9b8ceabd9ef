-- Who has an end of a link now, by what was told: from the dial that opened it, each hands it to the next until one drops it.
use Rattle.std.specs.Prelude.{ℕ, ◌==◌, ◌&&◌, cond, List, Option, Some, None}
use Rattle.std.specs.Option.{option_map}
use Rattle.p2p_log.specs.declared.queue.Side.{Side}
use Rattle.p2p_log.specs.declared.queue.Side.TheVariants as side
use Rattle.p2p_log.specs.declared.entry.Entry.{Entry}
use Rattle.p2p_log_rules.specs.declared.row.Opening.{Opening}
use Rattle.p2p_log_rules.specs.Tellings.{Telling, Last, last_told, last_or}
use Rattle.p2p_log_rules.specs.Tellings as telling
use Rattle.p2p_log_rules.specs.Told.{told, is_link}

pub data Holder : Type 0 where
  -- an arrival that the listener of this node has yet to take
  arrival : (node : ℕ) → Holder
  -- an attempt of a node's dialer
  attempt : (node name : ℕ) → Holder
  -- a handshake of a node
  handshake : (node name : ℕ) → Holder
  -- a message to the spawner of this node, which has yet to take it
  message : (node : ℕ) → Holder
  -- a connection of a node
  connection : (node name : ℕ) → Holder

-- the dial that opens a link
abbrev pub opens_link : ℕ → Telling → Option Opening
opens_link link (telling.link_opened m j l to) = cond (link == l) (Some (record { node = m; attempt = j; to = to })) None
opens_link link _ = None

-- what hands its dialing end on: the attempt that ends, the spawner that makes a connection, and whoever drops it
abbrev pub passes_out : ℕ → Opening → Telling → Option (Option Holder)
passes_out link o (telling.attempt_ended m j) = cond ((o.node == m) && (o.attempt == j)) (Some (Some (message m))) None
passes_out link o (telling.connection_made m conn key l) = cond ((o.node == m) && (link == l)) (Some (Some (connection m conn))) None
passes_out link o (telling.end_dropped l side.Out) = cond (link == l) (Some None) None
passes_out link o _ = None

-- and what its listening end: the listener that takes the arrival, the handshake that ends, and those
abbrev pub passes_in : ℕ → Opening → Telling → Option (Option Holder)
passes_in link o (telling.arrival_taken m l h) = cond ((o.to == m) && (link == l)) (Some (option_map (handshake m) h)) None
passes_in link o (telling.handshake_ended m h l) = cond ((o.to == m) && is_link link l) (Some (Some (message m))) None
passes_in link o (telling.connection_made m conn key l) = cond ((o.to == m) && (link == l)) (Some (Some (connection m conn))) None
passes_in link o (telling.end_dropped l side.In) = cond (link == l) (Some None) None
passes_in link o _ = None

abbrev pub held_since : ℕ → Side → Last Opening → Option Holder
held_since link side.Out l = last_or (Some (attempt l.told.node l.told.attempt)) (passes_out link l.told) l.since
held_since link side.In l = last_or (Some (arrival l.told.to)) (passes_in link l.told) l.since

abbrev pub holder_in : ℕ → Side → Option (Last Opening) → Option Holder
holder_in link s None = None
holder_in link s (Some l) = held_since link s l

-- who has the end of a link that writes in this direction: nobody once it was dropped
unfoldable pub holder_of : List Entry → ℕ → Side → Option Holder
holder_of log link s = holder_in link s (last_told (opens_link link) (told log))

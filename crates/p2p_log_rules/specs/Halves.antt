-- The connections that nodes made, by what was told, and their halves of them.
use Rattle.std.specs.Prelude.{ℕ, ◌==◌, ◌&&◌, cond, List, Option, Some, None}
use Rattle.std.specs.Option.{option_map}
use Rattle.p2p_base.specs.declared.key.Key.{Key}
use Rattle.p2p_log.specs.declared.queue.Side.{Side}
use Rattle.p2p_log.specs.declared.queue.Side.TheVariants as side
use Rattle.p2p_log_rules.specs.declared.row.Half.{Half}
use Rattle.p2p_log_rules.specs.Tellings.{Telling, last_or}
use Rattle.p2p_log_rules.specs.Tellings as telling

-- a connection that a spawner made: with whom, who is reserved for it, and over which link
pub record Spawned : Type 0 where
  pub key : Key
  pub link : ℕ

abbrev pub makes_connection : ℕ → ℕ → Telling → Option (Option Spawned)
makes_connection n k (telling.connection_made m j key link) = cond ((m == n) && (k == j)) (Some (Some (record { key = key; link = link }))) None
makes_connection n k _ = None

-- the connection of this name
abbrev pub connection_in : List Telling → ℕ → ℕ → Option Spawned
connection_in ts n k = last_or None (makes_connection n k) ts

-- the node that dialed the link of this name
abbrev pub dials_link : ℕ → Telling → Option (Option ℕ)
dials_link link (telling.link_opened m j l to) = cond (link == l) (Some (Some m)) None
dials_link link _ = None

abbrev pub dialer_in : List Telling → ℕ → Option ℕ
dialer_in ts link = last_or None (dials_link link) ts

-- the direction in which a node writes to a link, by the node that dialed it
abbrev pub side_at : ℕ → ℕ → Side
side_at n dialer = cond (dialer == n) side.Out side.In

-- the node's half of a connection that its spawner made, by the node that dialed its link
abbrev pub half_over : ℕ → Spawned → ℕ → Half
half_over n c dialer = record { peer = c.key; link = c.link; writes = side_at n dialer }

abbrev pub half_by : List Telling → ℕ → Option Spawned → Option Half
half_by ts n None = None
half_by ts n (Some c) = option_map (half_over n c) (dialer_in ts c.link)

-- its half of the connection of this name
abbrev pub half_in : List Telling → ℕ → ℕ → Option Half
half_in ts n conn = half_by ts n (connection_in ts n conn)

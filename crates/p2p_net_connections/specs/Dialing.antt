-- Which side the reservation of a connection is of, by the log: the dialer's where its node dialed the link, else the listener's.
use Rattle.std.specs.Prelude.{◌≡◌, ℕ, false, ◌==◌, List, Option, Some, None}
use Rattle.p2p_base.specs.declared.key.Key.{Key}
use Rattle.p2p_tracker_directory.specs.declared.metadata.Metadata.{Metadata}
use Rattle.p2p_tracker_directory.specs.declared.metadata.Metadata.TheVariants as metadata
use Rattle.p2p_log.specs.declared.entry.Entry.{Entry}
use Rattle.p2p_log_rules.specs.Dialed.{dialer_of}
use Rattle.p2p_net_connections.specs.declared.connections.Connection.{Connection}

-- the node has this reservation for a connection over this link: the dialer's, where it dialed the link, and the listener's, where
-- another did
abbrev pub IsReservedOver : List Entry → ℕ → ℕ → Metadata Key → Type 0
IsReservedOver log n link (metadata.Dialer key) = dialer_of log link ≡ Some n
IsReservedOver log n link (metadata.Listener key) = (m : ℕ) × (dialer_of log link ≡ Some m) × ((m == n) ≡ false)

-- so it has one of a connection, where there is one
abbrev pub IsConnectedBy : List Entry → ℕ → Option Connection → Type 0
IsConnectedBy log n None = Unit {0}
IsConnectedBy log n (Some c) = IsReservedOver log n c.link c.reservation

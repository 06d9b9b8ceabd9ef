-- Which side the reservation of a connection is of, in a longer log, and of the connections that are kept.
use Rattle.std.proofs.Common.{ℕ, Bool, true, false, cond, List, ◌++◌, Option, Some, None}
use Rattle.p2p_base.specs.declared.key.Key.{Key}
use Rattle.p2p_tracker_directory.specs.declared.metadata.Metadata.{Metadata}
use Rattle.p2p_tracker_directory.specs.declared.metadata.Metadata.TheVariants as metadata
use Rattle.p2p_log.specs.declared.entry.Entry.{Entry}
use Rattle.p2p_log_rules.proofs.Dialed.{dialer_of-longer}
use Rattle.p2p_net_connections.specs.Dialing.{IsReservedOver, IsConnectedBy}
use Rattle.p2p_net_connections.specs.declared.connections.Connection.{Connection}

pub reserved_over-longer : (log more : List Entry) (n link : ℕ) (m : Metadata Key) → IsReservedOver log n link m → IsReservedOver (log ++ more) n link m
reserved_over-longer log more n link (metadata.Dialer key) h = dialer_of-longer log more link n h
reserved_over-longer log more n link (metadata.Listener key) h = (h.0, dialer_of-longer log more link h.0 h.1, h.2)

pub connected_by-longer : (log more : List Entry) (n : ℕ) (o : Option Connection) → IsConnectedBy log n o → IsConnectedBy (log ++ more) n o
connected_by-longer log more n None h = tt
connected_by-longer log more n (Some c) h = reserved_over-longer log more n c.link c.reservation h

-- one of two
pub connected_by-cond : (log : List Entry) (n : ℕ) (b : Bool) (o p : Option Connection) → IsConnectedBy log n o → IsConnectedBy log n p → IsConnectedBy log n (cond b o p)
connected_by-cond log n true o p h k = h
connected_by-cond log n false o p h k = k

-- Along the plain path each end of the link passes from one holder to the next, from the dial to the connections.
use Rattle.std.proofs.Common.{◌≡◌, take, Some, refl}
use Rattle.p2p_log.specs.declared.queue.Side.TheVariants as side
use Rattle.p2p_log_rules.specs.Facts.{taken, state_from}
use Rattle.p2p_log_rules.specs.Holders.{arrival, attempt, handshake, message, connection, holder_of}
use Rattle.p2p_log_rules.specs.Tellings.{last_told}
use Rattle.p2p_log_rules.specs.Told.{tells, told}
use Rattle.p2p_log_laws.specs.PlainPath.{delivery}

-- the dial opened the link
dialed : holder_of (take 14 delivery) 13 side.Out ≡ Some (attempt 0 12)
unfolding holder_of told tells last_told taken state_from
dialed = refl

arriving : holder_of (take 14 delivery) 13 side.In ≡ Some (arrival 1)
unfolding holder_of told tells last_told taken state_from
arriving = refl

-- the listener admitted the arrival
admitted : holder_of (take 17 delivery) 13 side.In ≡ Some (handshake 1 16)
unfolding holder_of told tells last_told taken state_from
admitted = refl

-- both sides asked for a connection
dial_done : holder_of (take 24 delivery) 13 side.Out ≡ Some (message 0)
unfolding holder_of told tells last_told taken state_from
dial_done = refl

keys_done : holder_of (take 24 delivery) 13 side.In ≡ Some (message 1)
unfolding holder_of told tells last_told taken state_from
keys_done = refl

-- both connections were made, and neither has ended
dialer_connected : holder_of delivery 13 side.Out ≡ Some (connection 0 24)
unfolding holder_of told tells last_told taken state_from
dialer_connected = refl

listener_connected : holder_of delivery 13 side.In ≡ Some (connection 1 25)
unfolding holder_of told tells last_told taken state_from
listener_connected = refl

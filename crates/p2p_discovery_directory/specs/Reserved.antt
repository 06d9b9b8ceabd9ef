-- Whom a reservation is for.
use Rattle.p2p_discovery_directory.specs.declared.metadata.Metadata.{Metadata}
use Rattle.p2p_discovery_directory.specs.declared.metadata.Metadata.TheVariants.{Dialer, Listener}

-- the peer of a reservation, whichever side began
abbrev pub peer_of : {P : Type 0} → Metadata P → P
peer_of (Dialer peer ingress) = peer
peer_of (Listener peer) = peer

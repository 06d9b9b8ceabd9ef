-- An attempt as contracts see it.
use Rattle.std.specs.Prelude.{ℕ, ◌+◌, Bool, false, List, [], Option, Some, None}
use Rattle.p2p_address.specs.declared.ip.SocketAddr.{SocketAddr}
use Rattle.p2p_address.specs.declared.peer.Ingress.{Ingress}
use Rattle.p2p_address.specs.declared.peer.Ingress.TheVariants.{Socket, Dns}
use Rattle.p2p_tracker_directory.specs.declared.metadata.Metadata.{Metadata}
use Rattle.p2p_gates.specs.declared.attempt.item.AttemptItem.{AttemptItem}
use Rattle.p2p_gates.specs.declared.config.Config.{Config}

-- its name; who is reserved for it, until it ends; where the peer is dialed; the address that it dials, once there is
-- one; the moment at which it ends; what waits for it, the oldest item first; whether it may dial addresses that aren't
-- global, and how long it waits once it is linked; and whether a step of it has failed
pub record Attempting (P : Type 0) : Type 0 where
  pub name : ℕ
  pub reserved : Option (Metadata P)
  pub ingress : Ingress
  pub address : Option SocketAddr
  pub deadline : ℕ
  pub items : List AttemptItem
  pub allow_private_ips : Bool
  pub handshake_timeout : ℕ
  pub has_failed : Bool

-- the address of an ingress that needs no look-up
abbrev pub address_in : Ingress → Option SocketAddr
address_in (Socket s) = Some s
address_in (Dns host port) = None

-- the attempt of a grant that was taken at the moment `now`
abbrev pub new_attempt : {P : Type 0} → ℕ → Metadata P → Ingress → Config → ℕ → Attempting P
new_attempt name reserved ingress cfg now = record {
  name = name;
  reserved = Some reserved;
  ingress = ingress;
  address = address_in ingress;
  deadline = now + cfg.dial_timeout;
  items = [];
  allow_private_ips = cfg.allow_private_ips;
  handshake_timeout = cfg.handshake_timeout;
  has_failed = false;
}

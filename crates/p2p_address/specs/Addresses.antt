-- What addresses are and give.
use Rattle.std.specs.Prelude.{Bool, ◌||◌, ◌++◌, take, replicate}
use Rattle.p2p_address.specs.Ranges.{is_global_v4, is_global_v6}
use Rattle.p2p_address.specs.declared.ip.IpAddr.{IpAddr}
use Rattle.p2p_address.specs.declared.ip.IpAddr.TheVariants.{V4, V6}
use Rattle.p2p_address.specs.declared.peer.Ingress.{Ingress}
use Rattle.p2p_address.specs.declared.peer.Ingress.TheVariants.{Socket, Dns}
use Rattle.p2p_address.specs.declared.peer.Address.{Address}
use Rattle.p2p_address.specs.declared.peer.Address.TheVariants.{Symmetric, Asymmetric}

-- the address is in no range of the tables
abbrev pub is_global : IpAddr → Bool
is_global (V4 bytes) = is_global_v4 bytes
is_global (V6 bytes) = is_global_v6 bytes

-- the first 24 or 48 bits, and otherwise 0
abbrev pub subnet_of : IpAddr → IpAddr
subnet_of (V4 bytes) = V4 (take 3 bytes ++ replicate 1 0)
subnet_of (V6 bytes) = V6 (take 6 bytes ++ replicate 10 0)

-- an ingress may be dialed, where private addresses and names are allowed or not
abbrev pub is_valid : Bool → Bool → Ingress → Bool
is_valid private dns (Socket s) = private || is_global s.ip
is_valid private dns (Dns host port) = dns

-- where a peer is dialed
abbrev pub ingress_of : Address → Ingress
ingress_of (Symmetric s) = Socket s
ingress_of (Asymmetric i e) = i

-- the IP address that it dials from
abbrev pub egress_of : Address → IpAddr
egress_of (Symmetric s) = s.ip
egress_of (Asymmetric i e) = e.ip

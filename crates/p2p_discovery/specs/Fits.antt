-- Which payloads are within the limits.
use Rattle.std.specs.Prelude.{◌≡◌, ℕ, ◌^◌, ◌<◌, ◌≤◌, Bool, length, IsTrue}
use Rattle.std.specs.List.{AllByRecursion}
use Rattle.std.specs.Str.{is_utf8}
use Rattle.p2p_address.specs.declared.ip.IpAddr.{IpAddr}
use Rattle.p2p_address.specs.declared.ip.IpAddr.TheVariants.{V4, V6}
use Rattle.p2p_address.specs.declared.peer.Ingress.{Ingress}
use Rattle.p2p_address.specs.declared.peer.Ingress.TheVariants.{Socket, Dns}
use Rattle.p2p_wire.specs.Frame.{IsWithin}
use Rattle.p2p_wire.specs.declared.frame.Message.TheVariants as message
use Rattle.p2p_discovery.specs.declared.info.Info.{Info}
use Rattle.p2p_discovery.specs.declared.bit_vec.BitVec.{BitVec}
use Rattle.p2p_discovery.specs.declared.config.PayloadConfig.{PayloadConfig}
use Rattle.p2p_discovery.specs.declared.payload.Payload.{Payload}
use Rattle.p2p_discovery.specs.declared.payload.Payload.TheVariants as payload

-- how long a host and a signature are at most
abbrev pub max_host : ℕ
max_host = 253

abbrev pub max_signature : ℕ
max_signature = 128

-- an address has its 4 or 16 bytes
abbrev pub IpFits : IpAddr → Type 0
IpFits (V4 bytes) = length bytes ≡ 4
IpFits (V6 bytes) = length bytes ≡ 16

-- a host is text of at most 253 bytes
abbrev pub IngressFits : Ingress → Type 0
IngressFits (Socket s) = IpFits s.ip × (s.port < 2 ^ 16)
IngressFits (Dns host port) = (length host ≤ max_host) × IsTrue (is_utf8 host) × (port < 2 ^ 16)

-- a bit vector has at most so many bits
abbrev pub BitVecFits : ℕ → BitVec → Type 0
BitVecFits limit b = (b.index < 2 ^ 64) × (length b.bits < 2 ^ 64) × (length b.bits ≤ limit)

module _ {P : Type 0} (is_value : P → Bool) where
  -- a signature has at most 128 bytes
  pub record InfoFits (i : Info P) : Type 0 where
    pub ingress : IngressFits i.ingress
    pub timestamp : i.timestamp < 2 ^ 64
    pub public_key : IsTrue (is_value i.public_key)
    pub signature : length i.signature ≤ max_signature

  -- the payload is within the limits
  abbrev pub Fits : PayloadConfig → Payload P → Type 0
  Fits cfg (payload.Data d) = IsWithin cfg.max_data_length (message.Data d)
  Fits cfg (payload.Greeting i) = InfoFits i
  Fits cfg (payload.BitVec b) = BitVecFits cfg.max_bit_vec b
  Fits cfg (payload.Peers infos) = (length infos < 2 ^ 32) × (length infos ≤ cfg.max_peers) × AllByRecursion InfoFits infos

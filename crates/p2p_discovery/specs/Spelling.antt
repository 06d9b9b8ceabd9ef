-- The one spelling of each payload.
use Rattle.std.specs.Prelude.{ℕ, zero, suc, ◌+◌, ◌*◌, ◌/◌, ◌%◌, ◌==◌, Bool, List, [], ◌∷◌, ◌++◌, length, take, drop, if◌then◌else◌}
use Rattle.std.specs.List.{flat_map}
use Rattle.std.specs.Int.{w16, w64, to_be_bytes}
use Rattle.p2p_address.specs.declared.ip.IpAddr.{IpAddr}
use Rattle.p2p_address.specs.declared.ip.IpAddr.TheVariants.{V4, V6}
use Rattle.p2p_address.specs.declared.peer.Ingress.{Ingress}
use Rattle.p2p_address.specs.declared.peer.Ingress.TheVariants.{Socket, Dns}
use Rattle.p2p_wire.specs.Varint.{spelling}
use Rattle.p2p_wire.specs.declared.frame.Data.{Data}
use Rattle.p2p_discovery.specs.declared.info.Info.{Info}
use Rattle.p2p_discovery.specs.declared.bit_vec.BitVec.{BitVec}
use Rattle.p2p_discovery.specs.declared.payload.Payload.{Payload}
use Rattle.p2p_discovery.specs.declared.payload.Payload.TheVariants as payload

-- how many bytes there are, and then these
abbrev pub sized : List ℕ → List ℕ
sized bytes = spelling (length bytes) ++ bytes

-- byte 4 or 6, and the address
abbrev pub spelled_ip : IpAddr → List ℕ
spelled_ip (V4 bytes) = 4 ∷ bytes
spelled_ip (V6 bytes) = 6 ∷ bytes

-- byte 0 and an address, or byte 1 and a name, and then two bytes of port
unfoldable pub spelled_ingress : Ingress → List ℕ
spelled_ingress (Socket s) = 0 ∷ (spelled_ip s.ip ++ to_be_bytes w16 s.port)
spelled_ingress (Dns host port) = 1 ∷ (sized host ++ to_be_bytes w16 port)

-- what a peer signs: where it is dialed, and when it said so
abbrev pub signed_bytes : Ingress → ℕ → List ℕ
signed_bytes ingress timestamp = spelled_ingress ingress ++ to_be_bytes w64 timestamp

-- ---- bits

-- the number whose digits to base 2 the bits are, lowest first
unfoldable pub packed_byte : List Bool → ℕ
packed_byte [] = 0
packed_byte (b ∷ bits) = (if b then 1 else 0) + 2 * packed_byte bits

-- how many bytes so many bits take, eight a byte
abbrev pub byte_count : ℕ → ℕ
byte_count count = count / 8 + (if count % 8 == 0 then 0 else 1)

-- that many bytes of the bits
unfoldable pub packed_in : ℕ → List Bool → List ℕ
packed_in zero bits = []
packed_in (suc more) bits = packed_byte (take 8 bits) ∷ packed_in more (drop 8 bits)

-- bit i is in byte i / 8, at place i % 8 from the lowest; what is left of the last byte is 0
abbrev pub packed : List Bool → List ℕ
packed bits = packed_in (byte_count (length bits)) bits

-- the index, how many bits there are, and these
abbrev pub spelled_bit_vec : BitVec → List ℕ
spelled_bit_vec b = spelling b.index ++ (spelling (length b.bits) ++ packed b.bits)

-- ---- payloads

-- as a frame of data: byte 0, the channel and the message
abbrev pub spelled_data : Data → List ℕ
spelled_data d = 0 ∷ (spelling d.channel ++ sized d.message)

module _ {P : Type 0} (bytes_of : P → List ℕ) where
  -- ingress, timestamp, key and signature
  unfoldable pub spelled_info : Info P → List ℕ
  spelled_info i = spelled_ingress i.ingress ++ (spelling i.timestamp ++ (bytes_of i.public_key ++ sized i.signature))

  -- byte 0 to 3, and what is of that kind
  unfoldable pub spelled : Payload P → List ℕ
  spelled (payload.Data d) = spelled_data d
  spelled (payload.Greeting i) = 1 ∷ spelled_info i
  spelled (payload.BitVec b) = 2 ∷ spelled_bit_vec b
  spelled (payload.Peers infos) = 3 ∷ (spelling (length infos) ++ flat_map spelled_info infos)

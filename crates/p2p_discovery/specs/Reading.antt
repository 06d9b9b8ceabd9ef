-- What bytes say, read from the left: the payload, or the first fault that is met.
use Rattle.std.specs.Prelude.{◌≡◌, ◌≢◌, ℕ, zero, suc, ◌-◌, ◌/◌, ◌%◌, ◌^◌, ◌==◌, Bool, List, [], ◌∷◌, ◌++◌, length, take, drop, Option, Some, None, Result, Ok, Err, nat_lt, min, if◌then◌else◌}
use Rattle.std.specs.Int.{w16, from_be_bytes}
use Rattle.std.specs.Str.{is_utf8}
use Rattle.p2p_address.specs.declared.ip.IpAddr.{IpAddr}
use Rattle.p2p_address.specs.declared.ip.IpAddr.TheVariants.{V4, V6}
use Rattle.p2p_address.specs.declared.peer.Ingress.{Ingress}
use Rattle.p2p_address.specs.declared.peer.Ingress.TheVariants.{Socket, Dns}
use Rattle.p2p_wire.specs.declared.error.CodecError.{CodecError}
use Rattle.p2p_wire.specs.declared.error.CodecError.TheVariants.{EndOfBuffer, InvalidEnum, InvalidLength, ExtraData, Memory}
use Rattle.p2p_wire.specs.declared.frame.Message.{Message}
use Rattle.p2p_wire.specs.declared.frame.Message.TheVariants as message
use Rattle.p2p_wire.specs.Varint.{◌>>=◌, u64_at, u32_at}
use Rattle.p2p_wire.specs.Frame.{decode_frame}
use Rattle.p2p_discovery.specs.declared.info.Info.{Info}
use Rattle.p2p_discovery.specs.declared.bit_vec.BitVec.{BitVec}
use Rattle.p2p_discovery.specs.declared.config.PayloadConfig.{PayloadConfig}
use Rattle.p2p_discovery.specs.declared.payload.Payload.{Payload}
use Rattle.p2p_discovery.specs.declared.payload.Payload.TheVariants as payload
use Rattle.p2p_discovery.specs.Spelling.{byte_count}
use Rattle.p2p_discovery.specs.Fits.{max_host, max_signature}

-- What a reader answers is what the bytes say, unless memory ran out.
abbrev pub Gives : {A : Type 0} → Result A CodecError → Result A CodecError → Type 0
Gives (Ok x) says = says ≡ Ok x
Gives (Err e) says = e ≢ Memory → says ≡ Err e

-- ---- parts, each with the bytes after it

abbrev pub byte_at : List ℕ → Result (ℕ × List ℕ) CodecError
byte_at [] = Err EndOfBuffer
byte_at (b ∷ bytes) = Ok (b, bytes)

-- so many bytes
abbrev pub bytes_at : ℕ → List ℕ → Result (List ℕ × List ℕ) CodecError
bytes_at count bytes = if nat_lt (length bytes) count then Err EndOfBuffer else Ok (take count bytes, drop count bytes)

-- a length of at most the limit, and so many bytes
unfoldable pub sized_at : ℕ → List ℕ → Result (List ℕ × List ℕ) CodecError
sized_at limit bytes = do
  size ← u32_at bytes
  if nat_lt limit size.0 then Err (InvalidLength size.0) else bytes_at size.0 size.1

unfoldable pub ip_at : List ℕ → Result (IpAddr × List ℕ) CodecError
ip_at bytes = do
  version ← byte_at bytes
  if version.0 == 4 then (bytes_at 4 version.1 >>= λ a. Ok (V4 a.0, a.1))
      else if version.0 == 6 then (bytes_at 16 version.1 >>= λ a. Ok (V6 a.0, a.1))
      else Err (InvalidEnum version.0)

unfoldable pub port_at : List ℕ → Result (ℕ × List ℕ) CodecError
port_at bytes = do
  port ← bytes_at 2 bytes
  Ok (from_be_bytes w16 port.0, port.1)

unfoldable pub socket_at : List ℕ → Result (Ingress × List ℕ) CodecError
socket_at bytes = do
  ip ← ip_at bytes
  port ← port_at ip.1
  Ok (Socket (record { ip = ip.0; port = port.0 }), port.1)

-- a host that isn't text is of no kind
unfoldable pub host_at : List ℕ → Result (List ℕ × List ℕ) CodecError
host_at bytes = do
  host ← sized_at max_host bytes
  if is_utf8 host.0 then Ok host else Err (InvalidEnum 1)

unfoldable pub name_at : List ℕ → Result (Ingress × List ℕ) CodecError
name_at bytes = do
  host ← host_at bytes
  port ← port_at host.1
  Ok (Dns host.0 port.0, port.1)

unfoldable pub ingress_at : List ℕ → Result (Ingress × List ℕ) CodecError
ingress_at bytes = do
  kind ← byte_at bytes
  if kind.0 == 0 then socket_at kind.1 else if kind.0 == 1 then name_at kind.1 else Err (InvalidEnum kind.0)

-- ---- bits

-- the lowest digits to base 2
unfoldable pub digits : ℕ → ℕ → List Bool
digits zero n = []
digits (suc more) n = (n % 2 == 1) ∷ digits more (n / 2)

-- so many bits, eight a byte; a byte with another bit that is set is of no kind
unfoldable pub unpacked : ℕ → List ℕ → Result (List Bool) CodecError
unpacked count [] = Ok []
unpacked count (b ∷ bytes) =
    if nat_lt b (2 ^ min count 8) then (unpacked (count - 8) bytes >>= λ more. Ok (digits (min count 8) b ++ more)) else Err (InvalidEnum b)

unfoldable pub bits_at : ℕ → List ℕ → Result (List Bool × List ℕ) CodecError
bits_at count bytes = do
  packed ← bytes_at (byte_count count) bytes
  bits ← unpacked count packed.0
  Ok (bits, packed.1)

unfoldable pub bit_vec_at : ℕ → List ℕ → Result (BitVec × List ℕ) CodecError
bit_vec_at limit bytes = do
  index ← u64_at bytes
  count ← u64_at index.1
  bits ← (if nat_lt limit count.0 then Err (InvalidLength count.0) else bits_at count.0 count.1)
  Ok (record { index = index.0; bits = bits.0 }, bits.1)

-- ---- infos

-- bytes of a key's length that are no key's are of no kind
abbrev pub key_or : {P : Type 0} → Option P → List ℕ → Result (P × List ℕ) CodecError
key_or None rest = Err (InvalidEnum 1)
key_or (Some key) rest = Ok (key, rest)

module _ {P : Type 0} (key_of : List ℕ → Option P) (size : ℕ) where
  unfoldable pub key_at : List ℕ → Result (P × List ℕ) CodecError
  key_at bytes = do
    key ← bytes_at size bytes
    key_or (key_of key.0) key.1

  unfoldable pub info_at : List ℕ → Result (Info P × List ℕ) CodecError
  info_at bytes = do
    ingress ← ingress_at bytes
    timestamp ← u64_at ingress.1
    key ← key_at timestamp.1
    signature ← sized_at max_signature key.1
    Ok (record { ingress = ingress.0; timestamp = timestamp.0; public_key = key.0; signature = signature.0 }, signature.1)

  unfoldable pub infos_at : ℕ → List ℕ → Result (List (Info P) × List ℕ) CodecError
  infos_at zero bytes = Ok ([], bytes)
  infos_at (suc more) bytes = do
    first ← info_at bytes
    others ← infos_at more first.1
    Ok (first.0 ∷ others.0, others.1)

  -- a count of at most the limit, and so many infos
  unfoldable pub peers_at : ℕ → List ℕ → Result (List (Info P) × List ℕ) CodecError
  peers_at limit bytes = do
    count ← u32_at bytes
    if nat_lt limit count.0 then Err (InvalidLength count.0) else infos_at count.0 count.1

-- ---- payloads

-- what was read, where it is all of the bytes
abbrev pub whole : {A : Type 0} → A × List ℕ → Result A CodecError
whole read = if length read.1 == 0 then Ok read.0 else Err (ExtraData (length read.1))

-- a ping is no payload
abbrev pub data_in : {P : Type 0} → Message → Result (Payload P) CodecError
data_in (message.Data d) = Ok (payload.Data d)
data_in message.Ping = Err (InvalidEnum 1)

-- the frame of data
unfoldable pub data_of : {P : Type 0} → ℕ → List ℕ → Result (Payload P) CodecError
data_of limit bytes = do
  frame ← decode_frame bytes limit
  data_in frame

-- after the first byte
unfoldable pub bit_vec_of : {P : Type 0} → ℕ → List ℕ → Result (Payload P) CodecError
bit_vec_of limit bytes = do
  read ← bit_vec_at limit bytes
  bits ← whole read
  Ok (payload.BitVec bits)

module _ {P : Type 0} (key_of : List ℕ → Option P) (size : ℕ) where
  unfoldable pub greeting_of : List ℕ → Result (Payload P) CodecError
  greeting_of bytes = do
    read ← info_at key_of size bytes
    info ← whole read
    Ok (payload.Greeting info)

  unfoldable pub peers_of : ℕ → List ℕ → Result (Payload P) CodecError
  peers_of limit bytes = do
    read ← peers_at key_of size limit bytes
    infos ← whole read
    Ok (payload.Peers infos)

  -- the payload whose spelling the bytes are, or else the first fault from the left
  unfoldable pub payload_of : PayloadConfig → List ℕ → Result (Payload P) CodecError
  payload_of cfg [] = Err EndOfBuffer
  payload_of cfg (kind ∷ bytes) =
      if kind == 0 then data_of cfg.max_data_length (kind ∷ bytes)
      else if kind == 1 then greeting_of bytes
      else if kind == 2 then bit_vec_of cfg.max_bit_vec bytes
      else if kind == 3 then peers_of cfg.max_peers bytes
      else Err (InvalidEnum kind)

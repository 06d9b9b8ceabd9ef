-- The bytes of a frame, and what bytes are the frame of.
use Rattle.std.specs.Prelude.{◌≡◌, ◌⊎◌, ℕ, zero, suc, ◌-◌, ◌^◌, ◌<◌, ◌≤◌, List, [], ◌∷◌, ◌++◌, length, Result, Ok, Err, nat_lt, ◌==◌, if◌then◌else◌}
use Rattle.p2p_wire.specs.declared.error.CodecError.{CodecError}
use Rattle.p2p_wire.specs.declared.error.CodecError.TheVariants.{EndOfBuffer, InvalidEnum, InvalidLength, ExtraData}
use Rattle.p2p_wire.specs.declared.frame.Message.{Message}
use Rattle.p2p_wire.specs.declared.frame.Message.TheVariants as message
use Rattle.p2p_wire.specs.Varint.{spelling, EndsWithin, IsMalformed, ◌>>=◌, u64_at, u32_at}

-- Byte 0, the spellings of channel and size, and exactly the message; or byte 1 alone.
unfoldable pub frame : Message → List ℕ
frame (message.Data d) = 0 ∷ (spelling d.channel ++ (spelling (length d.message) ++ d.message))
frame message.Ping = 1 ∷ []

-- The size of the data has a place in a frame.
abbrev pub IsEncodable : Message → Type 0
IsEncodable (message.Data d) = length d.message < 2 ^ 32
IsEncodable message.Ping = Unit {0}

-- The data is within the limit, and its numbers have a place in a frame.
abbrev pub IsWithin : ℕ → Message → Type 0
IsWithin limit (message.Data d) = (d.channel < 2 ^ 64) × (length d.message < 2 ^ 32) × (length d.message ≤ limit)
IsWithin limit message.Ping = Unit {0}

-- ---- bytes that are no frame

-- byte 0, a channel and a size, and then the rest
pub record Heads (channel size : ℕ) (rest bytes : List ℕ) : Type 0 where
  pub channel_fits : channel < 2 ^ 64
  pub size_fits : size < 2 ^ 32
  pub parts : bytes ≡ 0 ∷ (spelling channel ++ (spelling size ++ rest))

-- The first byte is neither 0 nor 1.
abbrev pub IsOfKind : ℕ → List ℕ → Type 0
IsOfKind kind bytes = (rest : List ℕ) × (1 < kind) × (bytes ≡ kind ∷ rest)

abbrev pub EndsInChannel : List ℕ → Type 0
EndsInChannel bytes = (rest : List ℕ) × (bytes ≡ 0 ∷ rest) × EndsWithin (2 ^ 64) rest

abbrev pub EndsInSize : List ℕ → Type 0
EndsInSize bytes = (channel : ℕ) × (rest : List ℕ) × (channel < 2 ^ 64) × (bytes ≡ 0 ∷ (spelling channel ++ rest)) × EndsWithin (2 ^ 32) rest

abbrev pub EndsInMessage : ℕ → List ℕ → Type 0
EndsInMessage limit bytes = (channel size : ℕ) × (rest : List ℕ) × Heads channel size rest bytes × (size ≤ limit) × (length rest < size)

-- The bytes end before a frame within the limit does.
abbrev pub EndsEarly : ℕ → List ℕ → Type 0
EndsEarly limit bytes = (bytes ≡ []) ⊎ (EndsInChannel bytes ⊎ (EndsInSize bytes ⊎ EndsInMessage limit bytes))

abbrev pub HasMalformedChannel : List ℕ → Type 0
HasMalformedChannel bytes = (rest : List ℕ) × (bytes ≡ 0 ∷ rest) × IsMalformed (2 ^ 64) rest

abbrev pub HasMalformedSize : List ℕ → Type 0
HasMalformedSize bytes = (channel : ℕ) × (rest : List ℕ) × (channel < 2 ^ 64) × (bytes ≡ 0 ∷ (spelling channel ++ rest)) × IsMalformed (2 ^ 32) rest

-- The channel, a number of 8 bytes, or else the size, one of 4, is not spelled.
abbrev pub HasMalformed : ℕ → List ℕ → Type 0
HasMalformed width bytes = ((width ≡ 8) × HasMalformedChannel bytes) ⊎ ((width ≡ 4) × HasMalformedSize bytes)

-- The size stands there, and is above the limit.
abbrev pub IsTooLong : ℕ → ℕ → List ℕ → Type 0
IsTooLong limit size bytes = (channel : ℕ) × (rest : List ℕ) × Heads channel size rest bytes × (limit < size)

-- So many bytes, at least one, stand after a frame within the limit.
abbrev pub HasExtra : ℕ → ℕ → List ℕ → Type 0
HasExtra limit count bytes = (m : Message) × (rest : List ℕ) × IsWithin limit m × (bytes ≡ frame m ++ rest) × (length rest ≡ count) × (0 < count)

-- ---- reading as a function

-- what is left after channel and size is the message
abbrev pub message_of : ℕ → ℕ → ℕ × List ℕ → Result Message CodecError
message_of limit channel sized =
    if nat_lt limit sized.0 then Err (InvalidLength sized.0)
    else if nat_lt (length sized.1) sized.0 then Err EndOfBuffer
    else if nat_lt sized.0 (length sized.1) then Err (ExtraData (length sized.1 - sized.0))
    else Ok (message.Data (record { channel = channel; message = sized.1 }))

abbrev pub data_of : List ℕ → ℕ → Result Message CodecError
data_of bytes limit = do
  channel ← u64_at bytes
  sized ← u32_at channel.1
  message_of limit channel.0 sized

-- the message whose frame the bytes are, or else the first fault from the left
unfoldable pub decode_frame : List ℕ → ℕ → Result Message CodecError
decode_frame [] limit = Err EndOfBuffer
decode_frame (zero ∷ bytes) limit = data_of bytes limit
decode_frame (suc zero ∷ bytes) limit = if length bytes == 0 then Ok message.Ping else Err (ExtraData (length bytes))
decode_frame (suc (suc k) ∷ bytes) limit = Err (InvalidEnum (suc (suc k)))

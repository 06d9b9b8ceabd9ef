-- Numbers as bytes: seven bits a byte, least first, and the top bit says that a byte follows.
use Rattle.std.specs.Prelude.{◌≡◌, ℕ, zero, suc, ◌+◌, ◌-◌, ◌*◌, ◌/◌, ◌%◌, ◌<◌, List, [], ◌∷◌, ◌++◌, length, Result, Ok, Err, nat_lt, ◌==◌, if◌then◌else◌}
use Rattle.p2p_wire.specs.declared.error.CodecError.{CodecError}
use Rattle.p2p_wire.specs.declared.error.CodecError.TheVariants.{EndOfBuffer, InvalidVarint}

-- spelling, with at most so many digits after the first
abbrev pub spelling_within : ℕ → ℕ → List ℕ
spelling_within zero n = n ∷ []
spelling_within (suc more) n = if nat_lt n 128 then n ∷ [] else (n % 128 + 128) ∷ spelling_within more (n / 128)

-- the digits of n to base 128, least first, each but the last plus 128
unfoldable pub spelling : ℕ → List ℕ
spelling n = spelling_within n n

-- The bytes end within the spelling of a number below the bound.
abbrev pub EndsWithin : ℕ → List ℕ → Type 0
EndsWithin bound bytes = (n : ℕ) × (tail : List ℕ) × (n < bound) × (0 < length tail) × (spelling n ≡ bytes ++ tail)

-- The bytes begin with the spelling of a number below the bound.
abbrev pub Begins : ℕ → List ℕ → Type 0
Begins bound bytes = (n : ℕ) × (rest : List ℕ) × (n < bound) × (bytes ≡ spelling n ++ rest)

-- The bytes do neither, so no spelling of such a number goes with them.
abbrev pub IsMalformed : ℕ → List ℕ → Type 0
IsMalformed bound bytes = (¬ Begins bound bytes) × (¬ EndsWithin bound bytes)

infixl 10 ◌>>=◌
abbrev pub ◌>>=◌ : {A B : Type 0} → Result A CodecError → (A → Result B CodecError) → Result B CodecError
(Ok x) >>= f = f x
(Err e) >>= f = Err e

-- the number whose lowest digit the byte is, and whose other digits spell high
abbrev pub with_low : ℕ → ℕ → ℕ × List ℕ → Result (ℕ × List ℕ) CodecError
with_low width byte high = if high.0 == 0 then Err (InvalidVarint width) else Ok (high.0 * 128 + (byte - 128), high.1)

-- The number at the front, of an integer of so many bytes, and the rest: at most so many places, and then a byte below last.
unfoldable pub varint_at : ℕ → ℕ → ℕ → List ℕ → Result (ℕ × List ℕ) CodecError
varint_at width last places [] = Err EndOfBuffer
varint_at width last zero (byte ∷ bytes) = if nat_lt byte last then Ok (byte, bytes) else Err (InvalidVarint width)
varint_at width last (suc places) (byte ∷ bytes) = if nat_lt byte 128 then Ok (byte, bytes) else (varint_at width last places bytes >>= with_low width byte)

abbrev pub u64_at : List ℕ → Result (ℕ × List ℕ) CodecError
u64_at = varint_at 8 2 9

abbrev pub u32_at : List ℕ → Result (ℕ × List ℕ) CodecError
u32_at = varint_at 4 16 4

-- What was taken from the front, and what was left, is what reading gives.
abbrev pub Took : Result ℕ CodecError → List ℕ → Result (ℕ × List ℕ) CodecError → Type 0
Took (Ok n) left read = read ≡ Ok (n, left)
Took (Err e) left read = read ≡ Err e

-- What reading says of the bytes, whole spellings at a time.
abbrev pub Reads : ℕ → ℕ → List ℕ → Result (ℕ × List ℕ) CodecError → Type 0
Reads width bound bytes (Ok x) = (x.0 < bound) × (bytes ≡ spelling x.0 ++ x.1)
Reads width bound bytes (Err EndOfBuffer) = EndsWithin bound bytes
Reads width bound bytes (Err e) = (e ≡ InvalidVarint width) × IsMalformed bound bytes

-- What bytes that are received mean.
use Rattle.std.specs.Prelude.{◌≡◌, ℕ, List, Result, Ok, Err}
use Rattle.p2p_flow.specs.declared.plain.Polled.{Polled}
use Rattle.p2p_flow.specs.declared.plain.Polled.TheVariants as polled
use Rattle.p2p_wire.specs.declared.error.CodecError.{CodecError}
use Rattle.p2p_wire.specs.declared.error.CodecError.TheVariants as codec_error

-- what was decoded is what the bytes mean, unless memory ran out
abbrev pub IsDecoded : {V : Type 0} → Result V CodecError → Result V CodecError → Type 0
IsDecoded meaning (Ok v) = meaning ≡ Ok v
IsDecoded meaning (Err codec_error.Memory) = Unit {0}
IsDecoded meaning (Err codec_error.EndOfBuffer) = meaning ≡ Err codec_error.EndOfBuffer
IsDecoded meaning (Err (codec_error.InvalidEnum x)) = meaning ≡ Err (codec_error.InvalidEnum x)
IsDecoded meaning (Err (codec_error.InvalidLength n)) = meaning ≡ Err (codec_error.InvalidLength n)
IsDecoded meaning (Err (codec_error.InvalidVarint w)) = meaning ≡ Err (codec_error.InvalidVarint w)
IsDecoded meaning (Err (codec_error.ExtraData n)) = meaning ≡ Err (codec_error.ExtraData n)

-- a receiver of values: what it receives from, and by what it reads bytes
pub record Reading (R C : Type 0) : Type 0 where
  pub receiver : R
  pub config : C

module _ {P V E : Type 0} where
  -- what is received, where the wrapped receiver gives `received`: a message is its sender with what the bytes mean
  abbrev pub IsReceived : (List ℕ → Result V CodecError) → Result (Polled (P × List ℕ)) E
      → Result (Polled (P × Result V CodecError)) E → Type 0
  IsReceived decoding (Err e) result = result ≡ Err e
  IsReceived decoding (Ok polled.Pending) result = result ≡ Ok polled.Pending
  IsReceived decoding (Ok (polled.Ready m)) result =
      (decoded : Result V CodecError) × (result ≡ Ok (polled.Ready (m.0, decoded))) × IsDecoded (decoding m.1) decoded

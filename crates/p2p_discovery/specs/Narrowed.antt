-- A number below a lesser bound, as reading one below 2^64 tells of it.
use Rattle.std.specs.Prelude.{ℕ, List, Result, Ok, Err, nat_lt, if◌then◌else◌}
use Rattle.p2p_wire.specs.declared.error.CodecError.{CodecError}
use Rattle.p2p_wire.specs.declared.error.CodecError.TheVariants.{EndOfBuffer, InvalidVarint}

-- what is read below the bound, where a number has at most so many bytes, and so many bytes are there
abbrev pub narrowed : ℕ → ℕ → ℕ → Result (ℕ × List ℕ) CodecError → Result (ℕ × List ℕ) CodecError
narrowed bound most count (Ok x) = if nat_lt x.0 bound then Ok x else Err (InvalidVarint 4)
narrowed bound most count (Err EndOfBuffer) = if nat_lt count most then Err EndOfBuffer else Err (InvalidVarint 4)
narrowed bound most count (Err e) = Err (InvalidVarint 4)

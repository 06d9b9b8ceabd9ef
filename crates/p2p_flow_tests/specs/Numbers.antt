-- A codec of numbers of four bytes, the high byte first.
use Rattle.std.specs.Prelude.{◌≡◌, ◌≢◌, ℕ, ◌-◌, Bool, true, false, List, length, Result, Ok, Err, nat_lt, if◌then◌else◌}
use Rattle.std.specs.Int.{w32, from_be_bytes}
use Rattle.p2p_wire.specs.declared.error.CodecError.{CodecError}
use Rattle.p2p_wire.specs.declared.error.CodecError.TheVariants.{EndOfBuffer, ExtraData, Memory}
use Rattle.p2p_flow_tests.specs.declared.number.Number.{Number}

-- what bytes mean: four of them a number, and fewer or more none
abbrev pub number_of : List ℕ → Result Number CodecError
number_of bytes =
    if nat_lt (length bytes) 4 then Err EndOfBuffer
    else if nat_lt 4 (length bytes) then Err (ExtraData (length bytes - 4))
    else Ok (record { 0 = from_be_bytes w32 bytes })

never : (few many : Bool) (n : ℕ) (x : Number)
    → (if few then Err EndOfBuffer else if many then Err (ExtraData n) else Ok x) ≢ Err Memory
never true many n x = λ e. cc
never false true n x = λ e. cc
never false false n x = λ e. cc

pub never_memory : (bytes : List ℕ) → number_of bytes ≢ Err Memory
never_memory bytes =
    never (nat_lt (length bytes) 4) (nat_lt 4 (length bytes)) (length bytes - 4)
    (record { 0 = from_be_bytes w32 bytes })

-- The bytes of a `Key`: its number, the high byte first.
use Rattle.std.specs.Prelude.{ℕ, ◌^◌, ◌==◌, Bool, List, length, Option, Some, None, nat_lt, if◌then◌else◌}
use Rattle.std.specs.Int.{w64, to_be_bytes, from_be_bytes}
use Rattle.p2p_base.specs.declared.key.Key.{Key}

-- a `Key` holds a number of 64 bits
abbrev pub is_key : Key → Bool
is_key k = nat_lt k.0 (2 ^ 64)

abbrev pub key_bytes : Key → List ℕ
key_bytes k = to_be_bytes w64 k.0

-- each list of 8 bytes is a key's
abbrev pub key_of_bytes : List ℕ → Option Key
key_of_bytes bytes = if length bytes == 8 then Some (record { 0 = from_be_bytes w64 bytes }) else None

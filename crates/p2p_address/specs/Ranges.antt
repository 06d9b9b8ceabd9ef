-- Ranges of addresses, and those that aren't global.
use Rattle.std.specs.Prelude.{ℕ, ◌-◌, ◌/◌, ◌^◌, ◌==◌, ◌++◌, Bool, not, List, [], ◌∷◌, replicate}
use Rattle.std.specs.List.{list_any}
use Rattle.std.specs.Int.{w32, w128, from_be_bytes}
use Rattle.p2p_address.specs.declared.ranges.RangeV4.{RangeV4}
use Rattle.p2p_address.specs.declared.ranges.RangeV6.{RangeV6}

-- the first bits of the address are those of the range's prefix
abbrev pub in_v4 : List ℕ → RangeV4 → Bool
in_v4 address r = from_be_bytes w32 address / 2 ^ (32 - r.bits) == from_be_bytes w32 r.prefix / 2 ^ (32 - r.bits)

abbrev pub in_v6 : List ℕ → RangeV6 → Bool
in_v6 address r = from_be_bytes w128 address / 2 ^ (128 - r.bits) == from_be_bytes w128 r.prefix / 2 ^ (128 - r.bits)

-- the IPv4 addresses that begin as these four bytes do
abbrev pub v4_from : ℕ → ℕ → ℕ → ℕ → ℕ → RangeV4
v4_from a b c d bits = record { prefix = a ∷ b ∷ c ∷ d ∷ []; bits = bits }

-- the IPv6 addresses that begin as these four bytes and twelve zeros do
abbrev pub v6_from : ℕ → ℕ → ℕ → ℕ → ℕ → RangeV6
v6_from a b c d bits = record { prefix = a ∷ b ∷ c ∷ d ∷ replicate 12 0; bits = bits }

-- the IPv6 addresses that begin as ten zeros and these six bytes do
abbrev pub v6_to : ℕ → ℕ → ℕ → ℕ → ℕ → ℕ → ℕ → RangeV6
v6_to a b c d e f bits = record { prefix = replicate 10 0 ++ a ∷ b ∷ c ∷ d ∷ e ∷ f ∷ []; bits = bits }

-- the IPv4 addresses that aren't global
abbrev pub not_global_v4 : List RangeV4
not_global_v4 =
    v4_from 0 0 0 0 8 ∷ v4_from 10 0 0 0 8 ∷ v4_from 100 64 0 0 10 ∷ v4_from 127 0 0 0 8 ∷ v4_from 169 254 0 0 16
    ∷ v4_from 172 16 0 0 12 ∷ v4_from 192 0 0 0 24 ∷ v4_from 192 0 2 0 24 ∷ v4_from 192 168 0 0 16 ∷ v4_from 198 18 0 0 15
    ∷ v4_from 198 51 100 0 24 ∷ v4_from 203 0 113 0 24 ∷ v4_from 240 0 0 0 4 ∷ []

-- the IPv6 addresses that aren't global: the unspecified one, the loopback, the mapped IPv4 ones, and three more ranges
abbrev pub not_global_v6 : List RangeV6
not_global_v6 =
    v6_to 0 0 0 0 0 0 128 ∷ v6_to 0 0 0 0 0 1 128 ∷ v6_to 255 255 0 0 0 0 96
    ∷ v6_from 32 1 13 184 32 ∷ v6_from 252 0 0 0 7 ∷ v6_from 254 128 0 0 10 ∷ []

-- the address is in no range of the table
unfoldable pub is_global_v4 : List ℕ → Bool
is_global_v4 address = not (list_any (in_v4 address) not_global_v4)

unfoldable pub is_global_v6 : List ℕ → Bool
is_global_v6 address = not (list_any (in_v6 address) not_global_v6)

-- A number below 2^32 is read as one below 2^64, and held against its own range.
use Rattle.std.proofs.Common.{◌≡◌, ℕ, zero, suc, ◌+◌, ◌-◌, ◌*◌, ◌^◌, ◌<◌, ◌≤◌, List, [], ◌∷◌, length, Result, Ok, Err, refl, sym, arith, inl, inr, lit<}
use Rattle.std.proofs.lemmas.Bool.{cases_lt, lt-ltb, le-ltb, ne_eqb}
use Rattle.p2p_wire.specs.declared.error.CodecError.{CodecError}
use Rattle.p2p_wire.specs.declared.error.CodecError.TheVariants.{EndOfBuffer, InvalidEnum, InvalidLength, InvalidVarint, ExtraData, Memory}
use Rattle.p2p_wire.specs.Varint.{◌>>=◌, with_low, varint_at, u64_at, u32_at}
use Rattle.p2p_wire.proofs.Spellings.{bound-suc, longer, digit_below, digit_below-suc}
use Rattle.p2p_wire.proofs.Laws.{AreBytes}
use Rattle.p2p_discovery.specs.Narrowed.{narrowed}

positive : (places : ℕ) → 1 ≤ 16 * 128 ^ places
positive places = digit_below 16 places 0 (lit< tt)

-- ---- one byte, of which another follows

with_low-zero : (width byte : ℕ) (x : ℕ × List ℕ) → x.0 < 1 → with_low width byte x ≡ Err (InvalidVarint width)
with_low-zero width byte x h =
    let z : x.0 ≡ 0 = omega arith in
    rw z refl

with_low-some : (width byte : ℕ) (x : ℕ × List ℕ) → 1 ≤ x.0 → with_low width byte x ≡ Ok (x.0 * 128 + (byte - 128), x.1)
with_low-some width byte x h = rw (ne_eqb x.0 0 (λ e. omega arith)) refl

-- where it is the last of the lesser range
last_byte : (byte count : ℕ) (high : Result (ℕ × List ℕ) CodecError) → 128 ≤ byte → narrowed 16 1 (suc count) (high >>= with_low 8 byte) ≡ Err (InvalidVarint 4)
last_byte byte count (Ok x) le =
    elim (cases_lt x.0 1) [
      | inl none ↦ rw (with_low-zero 8 byte x none) refl
      | inr some ↦ rw (with_low-some 8 byte x some, le-ltb (x.0 * 128 + (byte - 128)) 16 (omega arith)) refl
    ]
last_byte byte count (Err EndOfBuffer) le = rw (le-ltb (suc count) 1 (omega arith)) refl
last_byte byte count (Err (InvalidEnum x)) le = refl
last_byte byte count (Err (InvalidLength x)) le = refl
last_byte byte count (Err (InvalidVarint x)) le = refl
last_byte byte count (Err (ExtraData x)) le = refl
last_byte byte count (Err Memory) le = refl

-- where more may follow in both
more_bytes : (byte count places : ℕ) (high : Result (ℕ × List ℕ) CodecError) → 128 ≤ byte → byte < 256
    → (narrowed (16 * 128 ^ places) (suc places) count high >>= with_low 4 byte) ≡ narrowed (16 * 128 ^ suc places) (suc (suc places)) (suc count) (high >>= with_low 8 byte)
more_bytes byte count places (Ok x) le below =
    elim (cases_lt x.0 (16 * 128 ^ places)) [
      | inl within ↦
          elim (cases_lt x.0 1) [
            | inl none ↦ rw (lt-ltb x.0 (16 * 128 ^ places) within, with_low-zero 4 byte x none, with_low-zero 8 byte x none) refl
            | inr some ↦
                let fits = longer 16 places x.0 (byte - 128) within (omega arith) in
                rw (lt-ltb x.0 (16 * 128 ^ places) within, with_low-some 4 byte x some, with_low-some 8 byte x some, lt-ltb (x.0 * 128 + (byte - 128)) (16 * 128 ^ suc places) fits) refl
          ]
      | inr beyond ↦
          let some : 1 ≤ x.0 = omega (arith, positive places, beyond) in
          let out : 16 * 128 ^ suc places ≤ x.0 * 128 + (byte - 128) = rw (bound-suc 16 places) (omega arith) in
          rw (le-ltb x.0 (16 * 128 ^ places) beyond, with_low-some 8 byte x some, le-ltb (x.0 * 128 + (byte - 128)) (16 * 128 ^ suc places) out) refl
    ]
more_bytes byte count places (Err EndOfBuffer) le below =
    elim (cases_lt count (suc places)) [
      | inl short ↦ rw (lt-ltb count (suc places) short, lt-ltb (suc count) (suc (suc places)) (omega arith)) refl
      | inr long ↦ rw (le-ltb count (suc places) long, le-ltb (suc count) (suc (suc places)) (omega arith)) refl
    ]
more_bytes byte count places (Err (InvalidEnum x)) le below = refl
more_bytes byte count places (Err (InvalidLength x)) le below = refl
more_bytes byte count places (Err (InvalidVarint x)) le below = refl
more_bytes byte count places (Err (ExtraData x)) le below = refl
more_bytes byte count places (Err Memory) le below = refl

-- ---- all bytes

narrows : (places more : ℕ) (bytes : List ℕ) → places < more → AreBytes bytes → varint_at 4 16 places bytes ≡ narrowed (16 * 128 ^ places) (suc places) (length bytes) (varint_at 8 2 more bytes)
unfolding varint_at
narrows zero zero bytes h are = absurd (omega arith)
narrows zero (suc more) [] h are = refl
narrows zero (suc more) (byte ∷ bytes) h are =
    elim (cases_lt byte 128) [
      | inl digit ↦ rw (lt-ltb byte 128 digit) refl
      | inr le ↦ rw (le-ltb byte 128 le, le-ltb byte 16 (omega arith)) (sym (last_byte byte (length bytes) (varint_at 8 2 more bytes) le))
    ]
narrows (suc places) zero bytes h are = absurd (omega arith)
narrows (suc places) (suc more) [] h are = rw (lt-ltb 0 (suc (suc places)) (omega arith)) refl
narrows (suc places) (suc more) (byte ∷ bytes) h are =
    elim (cases_lt byte 128) [
      | inl digit ↦ rw (lt-ltb byte 128 digit, lt-ltb byte (16 * 128 ^ suc places) (digit_below-suc 16 places byte (lit< tt) digit)) refl
      | inr le ↦ rw (le-ltb byte 128 le, narrows places more bytes (omega arith) (λ i. are (suc i))) (more_bytes byte (length bytes) places (varint_at 8 2 more bytes) le (are 0))
    ]

pub u32-is-narrowed : (bytes : List ℕ) → AreBytes bytes → u32_at bytes ≡ narrowed (2 ^ 32) 5 (length bytes) (u64_at bytes)
u32-is-narrowed bytes are = narrows 4 9 bytes (lit< tt) are

-- What is spelled is read, and what is read is spelled so.
use Rattle.std.proofs.Common.{◌≡◌, ℕ, zero, suc, ◌+◌, ◌-◌, ◌*◌, ◌/◌, ◌%◌, ◌^◌, ◌<◌, ◌≤◌, false, eqb, List, [], ◌∷◌, ◌++◌, length, Result, Ok, Err, refl, sym, ap, subst, ◌∙◌, append_assoc, arith, inl, inr, lit<}
use Rattle.std.proofs.lemmas.Bool.{cases_lt, lt-ltb, le-ltb, ne_eqb}
use Rattle.std.proofs.lemmas.List.{length-append, append-nil}
use Rattle.std.proofs.Math.Nat.{pow-suc, mul_assoc, div-lt_iff_lt-mul}
use Rattle.p2p_wire.specs.declared.error.CodecError.{CodecError}
use Rattle.p2p_wire.specs.declared.error.CodecError.TheVariants.{EndOfBuffer, InvalidEnum, InvalidLength, InvalidVarint, ExtraData, Memory}
use Rattle.p2p_wire.specs.Varint.{spelling_within, spelling, EndsWithin, IsMalformed, ◌>>=◌, with_low, varint_at, Reads}

-- more turns than a number has don't matter
within_enough : (k m n : ℕ) → n ≤ k → n ≤ m → spelling_within k n ≡ spelling_within m n
within_enough zero zero n h i = refl
within_enough zero (suc m) n h i = rw (lt-ltb n 128 (omega arith)) refl
within_enough (suc k) zero n h i = rw (lt-ltb n 128 (omega arith)) refl
within_enough (suc k) (suc m) n h i =
    elim (cases_lt n 128) [
      | inl lt ↦ rw (lt-ltb n 128 lt) refl
      | inr le ↦ rw (le-ltb n 128 le) (ap (λ (ds : List ℕ). (n % 128 + 128) ∷ ds) (within_enough k m (n / 128) (omega arith) (omega arith)))
    ]

pub spelling-small : (n : ℕ) → n < 128 → spelling n ≡ n ∷ []
unfolding spelling
spelling-small zero h = refl
spelling-small (suc k) h = rw (lt-ltb (suc k) 128 h) refl

pub spelling-large : (n : ℕ) → 128 ≤ n → spelling n ≡ (n % 128 + 128) ∷ spelling (n / 128)
unfolding spelling
spelling-large zero h = absurd (omega arith)
spelling-large (suc k) h =
    let turns : spelling_within k (suc k / 128) ≡ spelling_within (suc k / 128) (suc k / 128) = within_enough k (suc k / 128) (suc k / 128) (omega arith) (omega arith) in
    rw (le-ltb (suc k) 128 h) (ap (λ (ds : List ℕ). (suc k % 128 + 128) ∷ ds) turns)

-- one place more
pub bound-suc : (last places : ℕ) → last * 128 ^ suc places ≡ last * 128 ^ places * 128
bound-suc last places = rw pow-suc (sym (mul_assoc last (128 ^ places) 128))

-- the number without its lowest digit is in the range of one place less
pub shorter : (last places n : ℕ) → n < last * 128 ^ suc places → n / 128 < last * 128 ^ places
shorter last places n h =
    let lt : n < last * 128 ^ places * 128 = subst (λ (k : ℕ). n < k) (bound-suc last places) h in
    (div-lt_iff_lt-mul {k = 128} {x = n} {y = last * 128 ^ places} (lit< tt)).1 lt

-- the number with a lowest digit is in the range of one place more
pub longer : (last places high digit : ℕ) → high < last * 128 ^ places → digit < 128 → high * 128 + digit < last * 128 ^ suc places
longer last places high digit h below = rw (bound-suc last places) (omega arith)

-- a number below last needs no more places
pub digit_below : (last places digit : ℕ) → digit < last → digit < last * 128 ^ places
digit_below last zero digit h = omega arith
digit_below last (suc places) digit h =
    let less = digit_below last places digit h in
    rw (bound-suc last places) (omega arith)

-- a digit is in the range of one place more
pub digit_below-suc : (last places digit : ℕ) → 0 < last → digit < 128 → digit < last * 128 ^ suc places
digit_below-suc last places digit some below =
    let pos = digit_below last places 0 some in
    rw (bound-suc last places) (omega arith)

with_low-at : (width n : ℕ) (rest : List ℕ) → 128 ≤ n → with_low width (n % 128 + 128) (n / 128, rest) ≡ Ok (n, rest)
with_low-at width n rest le =
    let some : eqb (n / 128) 0 ≡ false = ne_eqb (n / 128) 0 (λ e. omega arith) in
    let whole : n / 128 * 128 + (n % 128 + 128 - 128) ≡ n = omega arith in
    rw some (ap (λ (k : ℕ). Ok (k, rest)) whole)

pub reads_spelling : (width last places n : ℕ) (rest : List ℕ) → last ≤ 128 → n < last * 128 ^ places → varint_at width last places (spelling n ++ rest) ≡ Ok (n, rest)
unfolding varint_at
reads_spelling width last zero n rest few below =
    let small : n < last = omega arith in
    rw (spelling-small n (omega arith), lt-ltb n last small) refl
reads_spelling width last (suc places) n rest few below =
    elim (cases_lt n 128) [
      | inl lt ↦ rw (spelling-small n lt, lt-ltb n 128 lt) refl
      | inr le ↦
          let high = reads_spelling width last places (n / 128) rest few (shorter last places n below) in
          rw (spelling-large n le, le-ltb (n % 128 + 128) 128 (omega arith), high) (with_low-at width n rest le)
    ]

-- one digit begins with no more than itself
one_digit : (n byte : ℕ) (bytes tail : List ℕ) → 0 < length tail → n ∷ [] ≡ (byte ∷ bytes) ++ tail → ⊥
one_digit n byte bytes tail some e =
    let len : 1 ≡ suc (length (bytes ++ tail)) = ap length e in
    omega (arith, len, length-append bytes tail)

heads : (a b : ℕ) (xs ys : List ℕ) → a ∷ xs ≡ b ∷ ys → (a ≡ b) × (xs ≡ ys)
heads a b xs ys e = (cc, cc)

pub ends_within : (width last places n : ℕ) (bytes tail : List ℕ) → last ≤ 128 → n < last * 128 ^ places → 0 < length tail → spelling n ≡ bytes ++ tail → varint_at width last places bytes ≡ Err EndOfBuffer
unfolding varint_at
ends_within width last places n [] tail few below some e = refl
ends_within width last zero n (byte ∷ bytes) tail few below some e =
    absurd (one_digit n byte bytes tail some (sym (spelling-small n (omega arith)) ∙ e))
ends_within width last (suc places) n (byte ∷ bytes) tail few below some e =
    elim (cases_lt n 128) [
      | inl lt ↦ absurd (one_digit n byte bytes tail some (sym (spelling-small n lt) ∙ e))
      | inr le ↦
          let p = heads (n % 128 + 128) byte (spelling (n / 128)) (bytes ++ tail) (sym (spelling-large n le) ∙ e) in
          let high = ends_within width last places (n / 128) bytes tail few (shorter last places n below) some p.1 in
          rw (le-ltb byte 128 (omega (arith, p.0)), high) refl
    ]

-- ---- what was read

-- what a reader's result says of the bytes
abbrev Found : ℕ → ℕ → List ℕ → Result (ℕ × List ℕ) CodecError → Type 0
Found width bound bytes (Ok x) = (x.0 < bound) × (bytes ≡ spelling x.0 ++ x.1)
Found width bound bytes (Err EndOfBuffer) = EndsWithin bound bytes
Found width bound bytes (Err e) = e ≡ InvalidVarint width

spelling-more : (high byte : ℕ) → 0 < high → 128 ≤ byte → byte < 256 → spelling (high * 128 + (byte - 128)) ≡ byte ∷ spelling high
spelling-more high byte some le lt =
    let n : ℕ = high * 128 + (byte - 128) in
    let large : 128 ≤ high * 128 + (byte - 128) = omega arith in
    let digit : (high * 128 + (byte - 128)) % 128 + 128 ≡ byte = omega arith in
    let others : (high * 128 + (byte - 128)) / 128 ≡ high = omega arith in
    rw (spelling-large (high * 128 + (byte - 128)) large, digit, others) refl

ends_more : (last places byte : ℕ) (bytes : List ℕ) → 1 < last → 128 ≤ byte → byte < 256 → EndsWithin (last * 128 ^ places) bytes → EndsWithin (last * 128 ^ suc places) (byte ∷ bytes)
ends_more last places byte [] two le lt f = (
  1 * 128 + (byte - 128),
  1 ∷ [],
  longer last places 1 (byte - 128) (digit_below last places 1 two) (omega arith),
  omega arith,
  spelling-more 1 byte (omega arith) le lt ∙ ap (λ (ds : List ℕ). byte ∷ ds) (spelling-small 1 (omega arith)),
)
ends_more last places byte (next ∷ bytes) two le lt (zero, tail, below, some, e) =
    absurd (one_digit 0 next bytes tail some (sym (spelling-small 0 (omega arith)) ∙ e))
ends_more last places byte (next ∷ bytes) two le lt (suc k, tail, below, some, e) = (
  suc k * 128 + (byte - 128),
  tail,
  longer last places (suc k) (byte - 128) below (omega arith),
  some,
  spelling-more (suc k) byte (omega arith) le lt ∙ ap (λ (ds : List ℕ). byte ∷ ds) e,
)

found_more : (width last places byte : ℕ) (bytes : List ℕ) (high : Result (ℕ × List ℕ) CodecError) → 1 < last → 128 ≤ byte → byte < 256 → Found width (last * 128 ^ places) bytes high
    → Found width (last * 128 ^ suc places) (byte ∷ bytes) (high >>= with_low width byte)
found_more width last places byte bytes (Ok (zero, rest)) two le lt f = refl
found_more width last places byte bytes (Ok (suc k, rest)) two le lt f =
    let some : eqb (suc k) 0 ≡ false = ne_eqb (suc k) 0 (λ e. omega arith) in
    let parts : byte ∷ bytes ≡ spelling (suc k * 128 + (byte - 128)) ++ rest = ap (λ (ds : List ℕ). byte ∷ ds) f.1 ∙ ap (λ (ds : List ℕ). ds ++ rest) (sym (spelling-more (suc k) byte (omega arith) le lt)) in
    rw some (longer last places (suc k) (byte - 128) f.0 (omega arith), parts)
found_more width last places byte bytes (Err EndOfBuffer) two le lt f = ends_more last places byte bytes two le lt f
found_more width last places byte bytes (Err (InvalidEnum x)) two le lt f = f
found_more width last places byte bytes (Err (InvalidLength x)) two le lt f = f
found_more width last places byte bytes (Err (InvalidVarint x)) two le lt f = f
found_more width last places byte bytes (Err (ExtraData x)) two le lt f = f
found_more width last places byte bytes (Err Memory) two le lt f = f

found_end : (width last places : ℕ) → 1 < last → Found width (last * 128 ^ places) [] (varint_at width last places [])
unfolding varint_at
found_end width last places two = (0, 0 ∷ [], digit_below last places 0 (omega arith), omega arith, spelling-small 0 (omega arith))

found_at : (width last places byte : ℕ) (bytes : List ℕ) → 1 < last → last ≤ 128 → byte < 256
    → ((fewer : ℕ) → places ≡ suc fewer → 128 ≤ byte → Found width (last * 128 ^ fewer) bytes (varint_at width last fewer bytes))
    → Found width (last * 128 ^ places) (byte ∷ bytes) (varint_at width last places (byte ∷ bytes))
unfolding varint_at
found_at width last zero byte bytes two few lt more =
    elim (cases_lt byte last) [
      | inl small ↦ rw (lt-ltb byte last small) (omega arith, ap (λ (ds : List ℕ). ds ++ bytes) (sym (spelling-small byte (omega arith))))
      | inr large ↦ rw (le-ltb byte last large) refl
    ]
found_at width last (suc places) byte bytes two few lt more =
    elim (cases_lt byte 128) [
      | inl small ↦ rw (lt-ltb byte 128 small) (digit_below-suc last places byte (omega arith) small, ap (λ (ds : List ℕ). ds ++ bytes) (sym (spelling-small byte small)))
      | inr large ↦ rw (le-ltb byte 128 large) (found_more width last places byte bytes (varint_at width last places bytes) two large lt (more places refl large))
    ]

-- ---- what is malformed

refused : (width last places : ℕ) (bytes : List ℕ) → last ≤ 128 → varint_at width last places bytes ≡ Err (InvalidVarint width) → IsMalformed (last * 128 ^ places) bytes
refused width last places bytes few e = (
  λ (n, rest, below, parts).
      let ok : varint_at width last places bytes ≡ Ok (n, rest) = ap (varint_at width last places) parts ∙ reads_spelling width last places n rest few below in
      cc,
  λ (n, tail, below, some, parts).
      let end : varint_at width last places bytes ≡ Err EndOfBuffer = ends_within width last places n bytes tail few below some parts in
      cc,
)

reads_from_found : (width last places : ℕ) (bytes : List ℕ) (r : Result (ℕ × List ℕ) CodecError) → last ≤ 128 → varint_at width last places bytes ≡ r
    → Found width (last * 128 ^ places) bytes r → Reads width (last * 128 ^ places) bytes r
reads_from_found width last places bytes (Ok x) few e f = f
reads_from_found width last places bytes (Err EndOfBuffer) few e f = f
reads_from_found width last places bytes (Err (InvalidEnum x)) few e f = absurd cc
reads_from_found width last places bytes (Err (InvalidLength x)) few e f = absurd cc
reads_from_found width last places bytes (Err (InvalidVarint x)) few e f = (f, refused width last places bytes few (e ∙ ap (λ (d : CodecError). Err d) f))
reads_from_found width last places bytes (Err (ExtraData x)) few e f = absurd cc
reads_from_found width last places bytes (Err Memory) few e f = absurd cc

found_from_reads : (width bound : ℕ) (bytes : List ℕ) (r : Result (ℕ × List ℕ) CodecError) → Reads width bound bytes r → Found width bound bytes r
found_from_reads width bound bytes (Ok x) f = f
found_from_reads width bound bytes (Err EndOfBuffer) f = f
found_from_reads width bound bytes (Err (InvalidEnum x)) f = f.0
found_from_reads width bound bytes (Err (InvalidLength x)) f = f.0
found_from_reads width bound bytes (Err (InvalidVarint x)) f = f.0
found_from_reads width bound bytes (Err (ExtraData x)) f = f.0
found_from_reads width bound bytes (Err Memory) f = f.0

pub reads_end : (width last places : ℕ) (bytes : List ℕ) → 1 < last → last ≤ 128 → bytes ≡ [] → Reads width (last * 128 ^ places) bytes (varint_at width last places bytes)
reads_end width last places bytes two few e =
    rw e (reads_from_found width last places [] (varint_at width last places []) few refl (found_end width last places two))

pub reads_at : (width last places byte : ℕ) (bytes rest : List ℕ) → 1 < last → last ≤ 128 → byte < 256 → bytes ≡ byte ∷ rest
    → ((fewer : ℕ) → places ≡ suc fewer → 128 ≤ byte → Reads width (last * 128 ^ fewer) rest (varint_at width last fewer rest))
    → Reads width (last * 128 ^ places) bytes (varint_at width last places bytes)
reads_at width last places byte bytes rest two few lt e more =
    rw e (reads_from_found width last places (byte ∷ rest) (varint_at width last places (byte ∷ rest)) few refl
    (found_at width last places byte rest two few lt (λ fewer z le. found_from_reads width (last * 128 ^ fewer) rest (varint_at width last fewer rest) (more fewer z le))))

-- ---- the cases of one byte

pub at_end : (width last places : ℕ) (bytes : List ℕ) → bytes ≡ [] → varint_at width last places bytes ≡ Err EndOfBuffer
unfolding varint_at
at_end width last places bytes e = rw e refl

pub at_last : (width last places byte : ℕ) (bytes rest : List ℕ) → bytes ≡ byte ∷ rest → places ≡ 0 → byte < last → varint_at width last places bytes ≡ Ok (byte, rest)
unfolding varint_at
at_last width last places byte bytes rest e z h = rw (e, z, lt-ltb byte last h) refl

pub at_bad_last : (width last places byte : ℕ) (bytes rest : List ℕ) → bytes ≡ byte ∷ rest → places ≡ 0 → last ≤ byte → varint_at width last places bytes ≡ Err (InvalidVarint width)
unfolding varint_at
at_bad_last width last places byte bytes rest e z h = rw (e, z, le-ltb byte last h) refl

pub at_digit : (width last places byte : ℕ) (bytes rest : List ℕ) → bytes ≡ byte ∷ rest → 0 < places → byte < 128 → varint_at width last places bytes ≡ Ok (byte, rest)
unfolding varint_at
at_digit width last zero byte bytes rest e z h = absurd (omega arith)
at_digit width last (suc places) byte bytes rest e z h = rw (e, lt-ltb byte 128 h) refl

pub at_more : (width last places fewer byte : ℕ) (bytes rest : List ℕ) → bytes ≡ byte ∷ rest → places ≡ suc fewer → 128 ≤ byte
    → varint_at width last places bytes ≡ (varint_at width last fewer rest >>= with_low width byte)
unfolding varint_at
at_more width last places fewer byte bytes rest e z h = rw (e, z, le-ltb byte 128 h) refl

pub at_more-err : (width last places fewer byte : ℕ) (bytes rest : List ℕ) (d : CodecError) → bytes ≡ byte ∷ rest → places ≡ suc fewer → 128 ≤ byte
    → varint_at width last fewer rest ≡ Err d → varint_at width last places bytes ≡ Err d
at_more-err width last places fewer byte bytes rest d e z h high = rw (at_more width last places fewer byte bytes rest e z h, high) refl

pub at_more-zero : (width last places fewer byte : ℕ) (bytes rest left : List ℕ) → bytes ≡ byte ∷ rest → places ≡ suc fewer → 128 ≤ byte
    → varint_at width last fewer rest ≡ Ok (0, left) → varint_at width last places bytes ≡ Err (InvalidVarint width)
at_more-zero width last places fewer byte bytes rest left e z h high = rw (at_more width last places fewer byte bytes rest e z h, high) refl

pub at_more-ok : (width last places fewer byte high : ℕ) (bytes rest left : List ℕ) → bytes ≡ byte ∷ rest → places ≡ suc fewer → 128 ≤ byte → (high ≡ 0 → ⊥)
    → varint_at width last fewer rest ≡ Ok (high, left) → varint_at width last places bytes ≡ Ok (high * 128 + (byte - 128), left)
at_more-ok width last places fewer byte high bytes rest left e z h some is = rw (at_more width last places fewer byte bytes rest e z h, is, ne_eqb high 0 some) refl

-- ---- numbers that were read

pub read_below : (width bound n : ℕ) (bytes rest : List ℕ) (read : Result (ℕ × List ℕ) CodecError) → read ≡ Ok (n, rest) → Reads width bound bytes read → n < bound
read_below width bound n bytes rest read e h = (subst (Reads width bound bytes) e h).0

pub fewer_fits : (last places fewer limit : ℕ) → places ≡ suc fewer → last * 128 ^ places ≤ limit → last * 128 ^ fewer ≤ limit
fewer_fits last places fewer limit z h =
    let wide : last * 128 ^ fewer * 128 ≤ limit = subst (λ (k : ℕ). k ≤ limit) (ap (λ (p : ℕ). last * 128 ^ p) z ∙ bound-suc last fewer) h in
    omega arith

pub more_fits : (last places fewer limit high : ℕ) → places ≡ suc fewer → last * 128 ^ places ≤ limit → high < last * 128 ^ fewer → high * 128 + 127 < limit
more_fits last places fewer limit high z h below =
    let wide : last * 128 ^ fewer * 128 ≤ limit = subst (λ (k : ℕ). k ≤ limit) (ap (λ (p : ℕ). last * 128 ^ p) z ∙ bound-suc last fewer) h in
    omega arith

-- ---- numbers that are written

pub push_more : (out new all : List ℕ) (n : ℕ) → new ≡ out ++ (n % 128 + 128) ∷ [] → 128 ≤ n → out ++ spelling n ≡ all → new ++ spelling (n / 128) ≡ all
push_more out new all n e le h =
    let one : new ++ spelling (n / 128) ≡ out ++ ((n % 128 + 128) ∷ spelling (n / 128)) = rw e (append_assoc out ((n % 128 + 128) ∷ []) (spelling (n / 128))) in
    one ∙ ap (λ (ds : List ℕ). out ++ ds) (sym (spelling-large n le)) ∙ h

pub push_last : (out new all : List ℕ) (n : ℕ) → new ≡ out ++ n ∷ [] → n < 128 → out ++ spelling n ≡ all → new ≡ all
push_last out new all n e lt h = e ∙ ap (λ (ds : List ℕ). out ++ ds) (sym (spelling-small n lt)) ∙ h

-- ---- what is malformed is refused

pub malformed_is : (width bound : ℕ) (bytes : List ℕ) (r : Result (ℕ × List ℕ) CodecError) → Reads width bound bytes r → IsMalformed bound bytes → r ≡ Err (InvalidVarint width)
malformed_is width bound bytes (Ok (n, rest)) h m = absurd (m.0 (n, rest, h.0, h.1))
malformed_is width bound bytes (Err EndOfBuffer) h m = absurd (m.1 h)
malformed_is width bound bytes (Err (InvalidEnum x)) h m = ap (λ (d : CodecError). Err d) h.0
malformed_is width bound bytes (Err (InvalidLength x)) h m = ap (λ (d : CodecError). Err d) h.0
malformed_is width bound bytes (Err (InvalidVarint x)) h m = ap (λ (d : CodecError). Err d) h.0
malformed_is width bound bytes (Err (ExtraData x)) h m = ap (λ (d : CodecError). Err d) h.0
malformed_is width bound bytes (Err Memory) h m = ap (λ (d : CodecError). Err d) h.0

above : (n : ℕ) → n < 128 ^ n
above zero = omega arith
above (suc n) =
    let less = above n in
    rw pow-suc (omega arith)

-- No spelling begins another.
pub no_prefix : (m n : ℕ) (tail : List ℕ) → spelling m ≡ spelling n ++ tail → tail ≡ []
no_prefix m n [] e = refl
no_prefix m n (byte ∷ tail) e =
    let up = above (m + n) in
    let m_below : m < 2 * 128 ^ (m + n) = omega arith in
    let n_below : n < 2 * 128 ^ (m + n) = omega arith in
    let few : 2 ≤ 128 = omega arith in
    let some : 0 < length (byte ∷ tail) = omega arith in
    let end : varint_at 8 2 (m + n) (spelling n) ≡ Err EndOfBuffer = ends_within 8 2 (m + n) m (spelling n) (byte ∷ tail) few m_below some e in
    let ok : varint_at 8 2 (m + n) (spelling n) ≡ Ok (n, []) = ap (varint_at 8 2 (m + n)) (sym (append-nil (spelling n))) ∙ reads_spelling 8 2 (m + n) n [] few n_below in
    absurd cc

same_first : (x y : ℕ × List ℕ) (r : Result (ℕ × List ℕ) CodecError) → r ≡ Ok x → r ≡ Ok y → x.0 ≡ y.0
same_first x y r p q =
    let same : x ≡ y = cc in
    ap (λ (k : ℕ × List ℕ). k.0) same

-- Numbers of one spelling are equal.
pub one_number : (m n : ℕ) → spelling m ≡ spelling n → m ≡ n
one_number m n e =
    let up = above (m + n) in
    let m_below : m < 2 * 128 ^ (m + n) = omega arith in
    let n_below : n < 2 * 128 ^ (m + n) = omega arith in
    let few : 2 ≤ 128 = omega arith in
    let left : varint_at 8 2 (m + n) (spelling m) ≡ Ok (m, []) = ap (varint_at 8 2 (m + n)) (sym (append-nil (spelling m))) ∙ reads_spelling 8 2 (m + n) m [] few m_below in
    let right : varint_at 8 2 (m + n) (spelling m) ≡ Ok (n, []) = ap (varint_at 8 2 (m + n)) (e ∙ sym (append-nil (spelling n))) ∙ reads_spelling 8 2 (m + n) n [] few n_below in
    same_first (m, []) (n, []) (varint_at 8 2 (m + n) (spelling m)) left right

-- how many bytes a number takes
pub spelling_len : (last places n : ℕ) → last ≤ 128 → n < last * 128 ^ places → length (spelling n) ≤ suc places
spelling_len last zero n few below = rw (spelling-small n (omega arith)) (omega arith)
spelling_len last (suc places) n few below =
    elim (cases_lt n 128) [
      | inl lt ↦ rw (spelling-small n lt) (omega arith)
      | inr le ↦
          let high = spelling_len last places (n / 128) few (shorter last places n below) in
          rw (spelling-large n le) (omega arith)
    ]

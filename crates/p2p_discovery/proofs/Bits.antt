-- Bits are packed and unpacked, eight a byte, and nothing else is unpacked.
use Rattle.std.proofs.Common.{◌≡◌, ℕ, zero, suc, ◌+◌, ◌-◌, ◌*◌, ◌/◌, ◌%◌, ◌^◌, ◌<◌, ◌≤◌, Bool, true, false, cond, eqb, ltb, min, List, [], ◌∷◌, ◌++◌, length, take, drop, Result, Ok, Err, refl, sym, ap, subst, ◌∙◌, append_assoc, arith, inl, inr}
use Rattle.std.proofs.lemmas.Bool.{cases_lt, ltb-true, ltb-false, lt-ltb, le-ltb, eq-eqb, ne_eqb}
use Rattle.std.proofs.lemmas.List.{take_at, drop_at, take_all, drop_all, length-append, length-take, length-drop, take-append-drop, append-nil, nil_from_length}
use Rattle.std.proofs.Math.Nat.{pow-suc}
use Rattle.p2p_wire.specs.declared.error.CodecError.{CodecError}
use Rattle.p2p_wire.specs.declared.error.CodecError.TheVariants.{InvalidEnum, InvalidLength}
use Rattle.p2p_wire.specs.Varint.{spelling, ◌>>=◌, u64_at}
use Rattle.p2p_wire.proofs.Laws.{AreBytes}
use Rattle.p2p_discovery.specs.declared.bit_vec.BitVec.{BitVec}
use Rattle.p2p_discovery.specs.Spelling.{packed_byte, byte_count, packed_in, packed, spelled_bit_vec}
use Rattle.p2p_discovery.specs.Fits.{BitVecFits}
use Rattle.p2p_discovery.specs.Reading.{bytes_at, digits, unpacked, bits_at, bit_vec_at}
use Rattle.p2p_discovery.proofs.Parts.{IsExact, bound, passed, chosen, same_read, left, joined, u64_is_exact, bytes_are_exact, bytes_found}

-- ---- one byte

pub length-digits : (count n : ℕ) → length (digits count n) ≡ count
unfolding digits
length-digits zero n = refl
length-digits (suc count) n = ap suc (length-digits count (n / 2))

pub packed_byte-below : (bits : List Bool) → packed_byte bits < 2 ^ length bits
unfolding packed_byte
packed_byte-below [] = omega arith
packed_byte-below (true ∷ bits) = let more = packed_byte-below bits in rw (pow-suc 2 (length bits)) (omega arith)
packed_byte-below (false ∷ bits) = let more = packed_byte-below bits in rw (pow-suc 2 (length bits)) (omega arith)

-- the digits of the number that the bits make are the bits
digits-packed_byte : (bits : List Bool) → digits (length bits) (packed_byte bits) ≡ bits
unfolding packed_byte digits
digits-packed_byte [] = refl
digits-packed_byte (true ∷ bits) =
    let n = packed_byte bits in
    let odd : eqb ((1 + 2 * n) % 2) 1 ≡ true = eq-eqb _ _ (omega arith) in
    let half : (1 + 2 * n) / 2 ≡ n = omega arith in
    rw (odd, half) (ap (λ (bs : List Bool). true ∷ bs) (digits-packed_byte bits))
digits-packed_byte (false ∷ bits) =
    let n = packed_byte bits in
    let even : eqb ((0 + 2 * n) % 2) 1 ≡ false = ne_eqb _ _ (λ e. omega arith) in
    let half : (0 + 2 * n) / 2 ≡ n = omega arith in
    rw (even, half) (ap (λ (bs : List Bool). false ∷ bs) (digits-packed_byte bits))

-- and the number that the digits make is the number, where it has no more
packed_byte-digits : (count n : ℕ) → n < 2 ^ count → packed_byte (digits count n) ≡ n
unfolding packed_byte digits
packed_byte-digits zero n below = omega arith
packed_byte-digits (suc count) n below =
    let half : n / 2 < 2 ^ count = omega (arith, subst (λ (k : ℕ). n < k) (pow-suc 2 count) below) in
    let more : packed_byte (digits count (n / 2)) ≡ n / 2 = packed_byte-digits count (n / 2) half in
    elim (cases_lt (n % 2) 1) [
      | inl even ↦ rw (ne_eqb (n % 2) 1 (λ e. omega arith), more) (omega arith)
      | inr odd ↦ rw (eq-eqb (n % 2) 1 (omega arith), more) (omega arith)
    ]

-- ---- how many bytes

pub byte_count-zero : byte_count 0 ≡ 0
byte_count-zero = refl

pub byte_count-suc : (count : ℕ) → 0 < count → byte_count count ≡ suc (byte_count (count - 8))
byte_count-suc count some =
    elim (cases_lt count 8) [
      | inl few ↦
          let rest : count - 8 ≡ 0 = omega arith in
          rw (rest, ne_eqb (count % 8) 0 (λ e. omega arith)) (omega arith)
      | inr many ↦
          let same : count % 8 ≡ (count - 8) % 8 = omega arith in
          rw same (omega arith)
    ]

-- ---- bytes

unpacked-at : (count b : ℕ) (bytes : List ℕ) → b < 2 ^ min count 8 → unpacked count (b ∷ bytes) ≡ (unpacked (count - 8) bytes >>= λ more. Ok (digits (min count 8) b ++ more))
unfolding unpacked
unpacked-at count b bytes below = rw (lt-ltb b (2 ^ min count 8) below) refl

unpacks : (size : ℕ) (bits : List Bool) → size ≡ byte_count (length bits) → unpacked (length bits) (packed_in size bits) ≡ Ok bits
unfolding packed_in unpacked
unpacks zero [] e = refl
unpacks zero (b ∷ bits) e = absurd (omega (arith, byte_count-suc (length (b ∷ bits)) (omega arith)))
unpacks (suc size) [] e = absurd (omega arith)
unpacks (suc size) (b ∷ bits) e =
    let all : List Bool = b ∷ bits in
    let here : length (take 8 all) ≡ min (length all) 8 = omega (arith, length-take 8 all) in
    let below : packed_byte (take 8 all) < 2 ^ min (length all) 8 = subst (λ (k : ℕ). packed_byte (take 8 all) < 2 ^ k) here (packed_byte-below (take 8 all)) in
    let rest : size ≡ byte_count (length (drop 8 all)) = omega (arith, e, byte_count-suc (length all) (omega arith), ap byte_count (length-drop 8 all)) in
    let more : unpacked (length all - 8) (packed_in size (drop 8 all)) ≡ Ok (drop 8 all) = subst (λ (k : ℕ). unpacked k (packed_in size (drop 8 all)) ≡ Ok (drop 8 all)) (length-drop 8 all) (unpacks size (drop 8 all) rest) in
    let first : digits (min (length all) 8) (packed_byte (take 8 all)) ≡ take 8 all = subst (λ (k : ℕ). digits k (packed_byte (take 8 all)) ≡ take 8 all) here (digits-packed_byte (take 8 all)) in
    unpacked-at (length all) (packed_byte (take 8 all)) (packed_in size (drop 8 all)) below ∙ rw (more, first) (ap (λ (bs : List Bool). Ok bs) (take-append-drop 8 all))

-- the bits of the first byte, and the others
pub cut : (count : ℕ) (first more : List Bool) → length first ≡ min count 8 → length more ≡ count - 8 → (take 8 (first ++ more) ≡ first) × (drop 8 (first ++ more) ≡ more)
cut count first more here rest =
    elim (cases_lt count 8) [
      | inl few ↦
          let none : more ≡ [] = nil_from_length more (omega arith) in
          let all : length (first ++ more) ≤ 8 = omega (arith, length-append first more) in
          (take_all 8 (first ++ more) all ∙ ap (λ (bs : List Bool). first ++ bs) none ∙ append-nil first, drop_all 8 (first ++ more) all ∙ sym none)
      | inr many ↦ (take_at first more 8 (omega arith), drop_at first more 8 (omega arith))
    ]

-- what was unpacked has as many bits, and is packed so
packs : (count : ℕ) (bytes : List ℕ) (bits : List Bool) → length bytes ≡ byte_count count → unpacked count bytes ≡ Ok bits → (length bits ≡ count) × (packed_in (length bytes) bits ≡ bytes)
unfolding packed_in unpacked
packs zero [] bits len e = subst (λ (bs : List Bool). (length bs ≡ 0) × (packed_in 0 bs ≡ [])) (same_read [] bits e) (refl, refl)
packs (suc count) [] bits len e = absurd (omega (arith, len, byte_count-suc (suc count) (omega arith)))
packs zero (b ∷ bytes) bits len e = absurd (omega arith)
packs (suc count) (b ∷ bytes) bits len e =
    let total : ℕ = suc count in
    let here : ℕ = min total 8 in
    elim (chosen (ltb b (2 ^ here)) (unpacked (total - 8) bytes >>= λ more. Ok (digits here b ++ more)) (Err (InvalidEnum b)) (Ok bits) e) [
      | inl p ↦
          let below : b < 2 ^ here = ltb-true _ _ p.0 in
          let a = bound (unpacked (total - 8) bytes) (λ more. Ok (digits here b ++ more)) bits p.1 in
          let fewer : length bytes ≡ byte_count (total - 8) = omega (arith, len, byte_count-suc total (omega arith)) in
          let more = packs (total - 8) bytes a.0 fewer a.1 in
          let first : length (digits here b) ≡ here = length-digits here b in
          let parts = cut total (digits here b) a.0 first more.0 in
          subst (λ (bs : List Bool). (length bs ≡ total) × (packed_byte (take 8 bs) ∷ packed_in (length bytes) (drop 8 bs) ≡ b ∷ bytes)) (same_read (digits here b ++ a.0) bits a.2)
          (omega (arith, length-append (digits here b) a.0, first, more.0), rw (parts.0, parts.1, packed_byte-digits here b below, more.1) refl)
      | inr p ↦ absurd cc (p.1)
    ]

-- ---- bit vectors

pub length-packed_in : (size : ℕ) (bits : List Bool) → length (packed_in size bits) ≡ size
unfolding packed_in
length-packed_in zero bits = refl
length-packed_in (suc size) bits = ap suc (length-packed_in size (drop 8 bits))

bits_again : (bits : List Bool) (rest : List ℕ) → bits_at (length bits) (packed bits ++ rest) ≡ Ok (bits, rest)
unfolding bits_at
bits_again bits rest =
    let size : ℕ = byte_count (length bits) in
    let run = (bytes_are_exact size).again (packed bits) rest (length-packed_in size bits) in
    rw (run, unpacks size bits refl) refl

bits_found : (count : ℕ) (bytes : List ℕ) (x : List Bool × List ℕ) → bits_at count bytes ≡ Ok x → (length x.0 ≡ count) × (bytes ≡ packed x.0 ++ x.1)
unfolding bits_at
bits_found count bytes x e =
    let a = bound (bytes_at (byte_count count) bytes) (λ run. unpacked count run.0 >>= λ bits. Ok (bits, run.1)) x e in
    let b = bound (unpacked count a.0.0) (λ bits. Ok (bits, a.0.1)) x a.2 in
    let run = bytes_found bytes (byte_count count) a.0 a.1 in
    let bits = packs count a.0.0 b.0 run.0 b.1 in
    let size : length a.0.0 ≡ byte_count (length b.0) = run.0 ∙ ap byte_count (sym bits.0) in
    let front : packed b.0 ≡ a.0.0 = ap (λ (k : ℕ). packed_in k b.0) (sym size) ∙ bits.1 in
    subst (λ (y : List Bool × List ℕ). (length y.0 ≡ count) × (bytes ≡ packed y.0 ++ y.1)) (same_read (b.0, a.0.1) x b.2)
    (bits.0, run.1 ∙ ap (λ (t : List ℕ). t ++ a.0.1) (sym front))

bit_vec_again : (limit : ℕ) (b : BitVec) (rest : List ℕ) → BitVecFits limit b → bit_vec_at limit (spelled_bit_vec b ++ rest) ≡ Ok (b, rest)
unfolding bit_vec_at
bit_vec_again limit b rest fits =
    let regrouped : spelled_bit_vec b ++ rest ≡ spelling b.index ++ (spelling (length b.bits) ++ (packed b.bits ++ rest))
    = append_assoc (spelling b.index) (spelling (length b.bits) ++ packed b.bits) rest ∙ ap (λ (t : List ℕ). spelling b.index ++ t) (append_assoc (spelling (length b.bits)) (packed b.bits) rest) in
    ap (bit_vec_at limit) regrouped
    ∙ rw (u64_is_exact.again b.index (spelling (length b.bits) ++ (packed b.bits ++ rest)) fits.0, u64_is_exact.again (length b.bits) (packed b.bits ++ rest) fits.1, le-ltb limit (length b.bits) fits.2, bits_again b.bits rest) refl

bit_vec_found : (limit : ℕ) (bytes : List ℕ) (x : BitVec × List ℕ) → AreBytes bytes → bit_vec_at limit bytes ≡ Ok x → BitVecFits limit x.0 × (bytes ≡ spelled_bit_vec x.0 ++ x.1)
unfolding bit_vec_at
bit_vec_found limit bytes x are e =
    let bits_of : ℕ × List ℕ → Result (List Bool × List ℕ) CodecError = λ count. cond (ltb limit count.0) (Err (InvalidLength count.0)) (bits_at count.0 count.1) in
    let a = bound (u64_at bytes) (λ index. u64_at index.1 >>= λ count. bits_of count >>= λ bits. Ok (record { index = index.0; bits = bits.0 }, bits.1)) x e in
    let b = bound (u64_at a.0.1) (λ count. bits_of count >>= λ bits. Ok (record { index = a.0.0; bits = bits.0 }, bits.1)) x a.2 in
    let c = bound (bits_of b.0) (λ bits. Ok (record { index = a.0.0; bits = bits.0 }, bits.1)) x b.2 in
    let p = passed (ltb limit b.0.0) (InvalidLength b.0.0) (bits_at b.0.0 b.0.1) c.0 c.1 in
    let index = u64_is_exact.found bytes a.0 are a.1 in
    let count = u64_is_exact.found a.0.1 b.0 (left bytes (spelling a.0.0) a.0.1 index.1 are) b.1 in
    let bits = bits_found b.0.0 b.0.1 c.0 p.1 in
    let within : b.0.0 ≤ limit = ltb-false _ _ p.0 in
    let inner : a.0.1 ≡ (spelling (length c.0.0) ++ packed c.0.0) ++ c.0.1
    = joined a.0.1 (spelling b.0.0) (packed c.0.0) b.0.1 c.0.1 count.1 bits.1 ∙ ap (λ (k : ℕ). (spelling k ++ packed c.0.0) ++ c.0.1) (sym bits.0) in
    let made : BitVec × List ℕ = (record { index = a.0.0; bits = c.0.0 }, c.0.1) in
    subst (λ (y : BitVec × List ℕ). BitVecFits limit y.0 × (bytes ≡ spelled_bit_vec y.0 ++ y.1)) (same_read made x c.2)
    ((index.0, omega (arith, count.0, bits.0), omega (arith, within, bits.0)), joined bytes (spelling a.0.0) (spelling (length c.0.0) ++ packed c.0.0) a.0.1 c.0.1 index.1 inner)

pub bit_vec_is_exact : (limit : ℕ) → IsExact (bit_vec_at limit) spelled_bit_vec (BitVecFits limit)
bit_vec_is_exact limit = record { again = bit_vec_again limit; found = bit_vec_found limit }

-- Laws of the spellings and the frames, for the crates above.
use Rattle.std.proofs.Common.{◌≡◌, ◌⊎◌, ℕ, suc, ◌+◌, ◌*◌, ◌^◌, ◌<◌, ◌≤◌, List, [], ◌∷◌, ◌++◌, length, get_or, Result, Ok, Err, refl, sym, ap, subst, ◌∙◌, arith, inl, inr, lit≤, lit<, ◌↔◌}
use Rattle.std.proofs.lemmas.List.{length-append, append-nil}
use Rattle.p2p_wire.specs.declared.error.CodecError.{CodecError}
use Rattle.p2p_wire.specs.declared.error.CodecError.TheVariants.{EndOfBuffer, InvalidEnum, InvalidLength, InvalidVarint, ExtraData, Memory}
use Rattle.p2p_wire.specs.declared.frame.Data.{Data}
use Rattle.p2p_wire.specs.declared.frame.Message.{Message}
use Rattle.p2p_wire.specs.declared.frame.Message.TheVariants as message
use Rattle.p2p_wire.specs.Varint.{spelling, EndsWithin, IsMalformed, varint_at, u64_at, Reads}
use Rattle.p2p_wire.specs.Frame.{frame, IsWithin, decode_frame}
use Rattle.p2p_wire.proofs.Spellings.{reads_spelling, ends_within, reads_end, reads_at, spelling_len, malformed_is, no_prefix, one_number}
use Rattle.p2p_wire.proofs.Rows.{IsRead, Says, says, is_message}

-- What was written is read again, and so is a prefix before any payload.
pub decode_frame-frame : (limit : ℕ) (m : Message) → IsWithin limit m → decode_frame (frame m) limit ≡ Ok m
decode_frame-frame limit m w = is_message limit (frame m) m w refl

pub u64_at-spelling : (n : ℕ) (payload : List ℕ) → n < 2 ^ 64 → u64_at (spelling n ++ payload) ≡ Ok (n, payload)
u64_at-spelling n payload below = reads_spelling 8 2 9 n payload (lit≤ tt) below

-- ---- the cases of reading exclude each other

reads_is : (width last places : ℕ) (bytes : List ℕ) (r : Result (ℕ × List ℕ) CodecError) → last ≤ 128 → Reads width (last * 128 ^ places) bytes r
    → (varint_at width last places bytes ≡ r) ⊎ (IsMalformed (last * 128 ^ places) bytes × (r ≡ Err (InvalidVarint width)))
reads_is width last places bytes (Ok (n, rest)) few h = inl (ap (varint_at width last places) h.1 ∙ reads_spelling width last places n rest few h.0)
reads_is width last places bytes (Err EndOfBuffer) few (n, tail, below, some, e) = inl (ends_within width last places n bytes tail few below some e)
reads_is width last places bytes (Err (InvalidEnum x)) few h = inr (h.1, ap (λ (d : CodecError). Err d) h.0)
reads_is width last places bytes (Err (InvalidLength x)) few h = inr (h.1, ap (λ (d : CodecError). Err d) h.0)
reads_is width last places bytes (Err (InvalidVarint x)) few h = inr (h.1, ap (λ (d : CodecError). Err d) h.0)
reads_is width last places bytes (Err (ExtraData x)) few h = inr (h.1, ap (λ (d : CodecError). Err d) h.0)
reads_is width last places bytes (Err Memory) few h = inr (h.1, ap (λ (d : CodecError). Err d) h.0)

pub reads_once : (width last places : ℕ) (bytes : List ℕ) (r s : Result (ℕ × List ℕ) CodecError) → last ≤ 128
    → Reads width (last * 128 ^ places) bytes r → Reads width (last * 128 ^ places) bytes s → r ≡ s
reads_once width last places bytes r s few h i =
    elim (reads_is width last places bytes r few h) [
      | inl p ↦
          elim (reads_is width last places bytes s few i) [
            | inl q ↦ sym p ∙ q
            | inr q ↦ malformed_is width (last * 128 ^ places) bytes r h q.0 ∙ sym q.1
          ]
      | inr p ↦ p.1 ∙ sym (malformed_is width (last * 128 ^ places) bytes s i p.0)
    ]

-- ---- lists of bytes

-- each of the numbers is a byte
abbrev pub AreBytes : List ℕ → Type 0
AreBytes bytes = (i : ℕ) → get_or bytes i 0 < 256

reads_bytes : (width last places : ℕ) (bytes : List ℕ) → 1 < last → last ≤ 128 → AreBytes bytes → Reads width (last * 128 ^ places) bytes (varint_at width last places bytes)
reads_bytes width last places [] two few fits = reads_end width last places [] two few refl
reads_bytes width last places (b ∷ bytes) two few fits =
    reads_at width last places b (b ∷ bytes) bytes two few (fits 0) refl (λ fewer z le. reads_bytes width last fewer bytes two few (λ i. fits (suc i)))

AreBytes-rest : (xs ys : List ℕ) → AreBytes (xs ++ ys) → AreBytes ys
AreBytes-rest [] ys fits = fits
AreBytes-rest (x ∷ xs) ys fits = AreBytes-rest xs ys (λ i. fits (suc i))

-- What the bytes of a frame say is read from them.
pub is_read : (bytes : List ℕ) → AreBytes bytes → IsRead bytes
is_read bytes fits = record {
  channel = λ rest e. reads_bytes 8 2 9 rest (lit< tt) (lit≤ tt) (AreBytes-rest (0 ∷ []) rest (subst AreBytes e fits));
  size = λ rest more channel e read.
      let rest_fits = AreBytes-rest (0 ∷ []) rest (subst AreBytes e fits) in
      let reads = subst (Reads 8 (2 ^ 64) rest) read (reads_bytes 8 2 9 rest (lit< tt) (lit≤ tt) rest_fits) in
      reads_bytes 4 16 4 more (lit< tt) (lit≤ tt) (AreBytes-rest (spelling channel) more (subst AreBytes reads.1 rest_fits));
}

-- What is decoded is in the grammar.
pub decoded_is_frame : (limit : ℕ) (bytes : List ℕ) (m : Message) → AreBytes bytes → decode_frame bytes limit ≡ Ok m → IsWithin limit m × (bytes ≡ frame m)
decoded_is_frame limit bytes m fits e = subst (Says limit bytes) e (says limit bytes (is_read bytes fits))

-- A frame has at most 16 bytes beside its message.
pub frame_len : (d : Data) → d.channel < 2 ^ 64 → length d.message < 2 ^ 32 → length (frame (message.Data d)) ≤ length d.message + 16
unfolding frame
frame_len d channel size =
    let first = spelling_len 2 9 d.channel (lit≤ tt) channel in
    let second = spelling_len 16 4 (length d.message) (lit≤ tt) size in
    omega (arith, length-append (spelling d.channel) (spelling (length d.message) ++ d.message), length-append (spelling (length d.message)) d.message)

-- ---- what a prefix says

pub parse_found : (bytes : List ℕ) (answer : Result (ℕ × List ℕ) CodecError) (n : ℕ) (payload : List ℕ) → answer ≡ u64_at bytes → Reads 8 (2 ^ 64) bytes (u64_at bytes)
    → (answer ≡ Ok (n, payload)) ↔ ((n < 2 ^ 64) × (bytes ≡ spelling n ++ payload))
parse_found bytes answer n payload e h = (
  λ (is : answer ≡ Ok (n, payload)). subst (Reads 8 (2 ^ 64) bytes) (sym e ∙ is) h,
  λ s. e ∙ ap u64_at s.1 ∙ u64_at-spelling n payload s.0,
)

pub parse_end : (bytes : List ℕ) (answer : Result (ℕ × List ℕ) CodecError) → answer ≡ u64_at bytes → Reads 8 (2 ^ 64) bytes (u64_at bytes)
    → (answer ≡ Err EndOfBuffer) ↔ EndsWithin (2 ^ 64) bytes
parse_end bytes answer e h = (
  λ (is : answer ≡ Err EndOfBuffer). subst (Reads 8 (2 ^ 64) bytes) (sym e ∙ is) h,
  λ (n, tail, below, some, parts). e ∙ ends_within 8 2 9 n bytes tail (lit≤ tt) below some parts,
)

pub parse_malformed : (bytes : List ℕ) (answer : Result (ℕ × List ℕ) CodecError) → answer ≡ u64_at bytes → Reads 8 (2 ^ 64) bytes (u64_at bytes)
    → (answer ≡ Err (InvalidVarint 8)) ↔ IsMalformed (2 ^ 64) bytes
parse_malformed bytes answer e h = (
  λ (is : answer ≡ Err (InvalidVarint 8)). (subst (Reads 8 (2 ^ 64) bytes) (sym e ∙ is) h).1,
  λ bad. e ∙ malformed_is 8 (2 ^ 64) bytes (u64_at bytes) h bad,
)

-- a prefix has no other faults
abbrev pub IsPrefixFault : Result (ℕ × List ℕ) CodecError → Type 0
IsPrefixFault (Ok x) = Unit {0}
IsPrefixFault (Err d) = (d ≡ EndOfBuffer) ⊎ (d ≡ InvalidVarint 8)

pub parse_faults : (bytes : List ℕ) (r : Result (ℕ × List ℕ) CodecError) → Reads 8 (2 ^ 64) bytes r → IsPrefixFault r
parse_faults bytes (Ok x) h = tt
parse_faults bytes (Err EndOfBuffer) h = inl refl
parse_faults bytes (Err (InvalidEnum x)) h = inr h.0
parse_faults bytes (Err (InvalidLength x)) h = inr h.0
parse_faults bytes (Err (InvalidVarint x)) h = inr h.0
parse_faults bytes (Err (ExtraData x)) h = inr h.0
parse_faults bytes (Err Memory) h = inr h.0

pub prefix_apart : (bytes : List ℕ) (n other : ℕ) (tail : List ℕ) → bytes ≡ spelling n → spelling other ≡ bytes ++ tail → (other ≡ n) × (tail ≡ [])
prefix_apart bytes n other tail e p =
    let q : spelling other ≡ spelling n ++ tail = p ∙ ap (λ (ds : List ℕ). ds ++ tail) e in
    let none = no_prefix other n tail q in
    let same : spelling other ≡ spelling n = q ∙ ap (λ (ds : List ℕ). spelling n ++ ds) none ∙ append-nil (spelling n) in
    (one_number other n same, none)

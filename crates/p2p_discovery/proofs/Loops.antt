-- Loops that read or write one after the other: what is done so far, and then what is left, is the whole.
use Rattle.std.proofs.Common.{◌≡◌, ℕ, suc, ◌+◌, ◌-◌, ◌/◌, ◌%◌, ◌^◌, ◌<◌, ◌≤◌, Bool, true, ltb, eqb, min, List, [], ◌∷◌, ◌++◌, length, get_or, take, drop, Option, Result, Ok, Err, refl, sym, ap, subst, ◌∙◌, append_assoc, arith, add-one, drop-cons}
use Rattle.std.proofs.lemmas.Bool.{lt-ltb, le-ltb}
use Rattle.std.proofs.lemmas.List.{append-nil, drop_all, length-append, nil_from_length}
use Rattle.p2p_wire.specs.declared.error.CodecError.{CodecError}
use Rattle.p2p_wire.specs.declared.error.CodecError.TheVariants.{InvalidEnum}
use Rattle.p2p_wire.specs.Varint.{◌>>=◌}
use Rattle.p2p_discovery.specs.declared.info.Info.{Info}
use Rattle.p2p_discovery.specs.Spelling.{packed_byte, byte_count, packed_in, packed}
use Rattle.p2p_discovery.specs.Reading.{digits, unpacked, info_at, infos_at}
use Rattle.p2p_discovery.proofs.Bits.{byte_count-suc, cut}

-- ---- infos

-- what was read before, and what is still read
abbrev pub behind : {A : Type 0} → List A → Result (List A × List ℕ) CodecError → Result (List A × List ℕ) CodecError
behind front read = read >>= λ x. Ok (front ++ x.0, x.1)

module _ {P : Type 0} (key_of : List ℕ → Option P) (size : ℕ) where
  one_more : (front : List (Info P)) (i : Info P) (read : Result (List (Info P) × List ℕ) CodecError)
      → behind front (read >>= λ x. Ok (i ∷ x.0, x.1)) ≡ behind (front ++ i ∷ []) read
  one_more front i (Ok x) = ap (λ (infos : List (Info P)). Ok (infos, x.1)) (sym (append_assoc front (i ∷ []) x.0))
  one_more front i (Err e) = refl

  pub infos-more : (front : List (Info P)) (count at : ℕ) (bytes after : List ℕ) (i : Info P) (total : Result (List (Info P) × List ℕ) CodecError) → at < count → info_at key_of size bytes ≡ Ok (i, after)
      → behind front (infos_at key_of size (count - at) bytes) ≡ total → behind (front ++ i ∷ []) (infos_at key_of size (count - (at + 1)) after) ≡ total
  unfolding infos_at
  infos-more front count at bytes after i total lt read so_far =
      let left : count - at ≡ suc (count - (at + 1)) = omega arith in
      let step : behind front (infos_at key_of size (count - at) bytes) ≡ behind (front ++ i ∷ []) (infos_at key_of size (count - (at + 1)) after)
      = rw (left, read) (one_more front i (infos_at key_of size (count - (at + 1)) after)) in
      sym step ∙ so_far

  pub infos-refused : (front : List (Info P)) (count at : ℕ) (bytes : List ℕ) (e : CodecError) (total : Result (List (Info P) × List ℕ) CodecError) → at < count → info_at key_of size bytes ≡ Err e
      → behind front (infos_at key_of size (count - at) bytes) ≡ total → total ≡ Err e
  unfolding infos_at
  infos-refused front count at bytes e total lt read so_far =
      let left : count - at ≡ suc (count - (at + 1)) = omega arith in
      let step : behind front (infos_at key_of size (count - at) bytes) ≡ Err e = rw (left, read) refl in
      sym so_far ∙ step

  pub infos-end : (front : List (Info P)) (count at : ℕ) (bytes : List ℕ) (total : Result (List (Info P) × List ℕ) CodecError) → count ≤ at
      → behind front (infos_at key_of size (count - at) bytes) ≡ total → total ≡ Ok (front, bytes)
  unfolding infos_at
  infos-end front count at bytes total le so_far =
      let left : count - at ≡ 0 = omega arith in
      let step : behind front (infos_at key_of size (count - at) bytes) ≡ Ok (front, bytes) = rw left (ap (λ (infos : List (Info P)). Ok (infos, bytes)) (append-nil front)) in
      sym so_far ∙ step

-- ---- bits that are read

pub digits-more : (bits more all : List Bool) (count at n : ℕ) → at < count → more ≡ bits ++ (eqb (n % 2) 1) ∷ [] → bits ++ digits (count - at) n ≡ all → more ++ digits (count - (at + 1)) (n / 2) ≡ all
unfolding digits
digits-more bits more all count at n lt e so_far =
    let left : count - at ≡ suc (count - (at + 1)) = omega arith in
    let step : bits ++ digits (count - at) n ≡ (bits ++ (eqb (n % 2) 1) ∷ []) ++ digits (count - (at + 1)) (n / 2) = rw left (sym (append_assoc bits ((eqb (n % 2) 1) ∷ []) (digits (count - (at + 1)) (n / 2)))) in
    ap (λ (bs : List Bool). bs ++ digits (count - (at + 1)) (n / 2)) e ∙ sym step ∙ so_far

pub digits-end : (bits all : List Bool) (count at n : ℕ) → count ≤ at → bits ++ digits (count - at) n ≡ all → bits ≡ all
unfolding digits
digits-end bits all count at n le so_far =
    let left : count - at ≡ 0 = omega arith in
    let step : bits ++ digits (count - at) n ≡ bits = rw left (append-nil bits) in
    sym step ∙ so_far

-- what was unpacked before, and what is still unpacked
abbrev pub bits_behind : List Bool → Result (List Bool) CodecError → Result (List Bool) CodecError
bits_behind front read = read >>= λ bits. Ok (front ++ bits)

one_byte : (front here : List Bool) (read : Result (List Bool) CodecError) → bits_behind front (read >>= λ more. Ok (here ++ more)) ≡ bits_behind (front ++ here) read
one_byte front here (Ok bits) = ap (λ (bs : List Bool). Ok bs) (sym (append_assoc front here bits))
one_byte front here (Err e) = refl

bytes-at : (bytes : List ℕ) (at : ℕ) → at < length bytes → drop at bytes ≡ get_or bytes at 0 ∷ drop (at + 1) bytes
bytes-at bytes at lt = rw add-one (drop-cons bytes at 0 lt)

pub unpacked-more : (front more : List Bool) (left next here at : ℕ) (bytes : List ℕ) (total : Result (List Bool) CodecError) → at < length bytes → here ≡ min left 8 → next ≡ left - 8
    → get_or bytes at 0 < 2 ^ here → more ≡ front ++ digits here (get_or bytes at 0) → bits_behind front (unpacked left (drop at bytes)) ≡ total → bits_behind more (unpacked next (drop (at + 1) bytes)) ≡ total
unfolding unpacked
unpacked-more front more left next here at bytes total lt size rest below pushed so_far =
    let byte : ℕ = get_or bytes at 0 in
    let fits : ltb byte (2 ^ min left 8) ≡ true = lt-ltb byte (2 ^ min left 8) (subst (λ (k : ℕ). byte < 2 ^ k) size below) in
    let step : bits_behind front (unpacked left (drop at bytes)) ≡ bits_behind (front ++ digits (min left 8) byte) (unpacked (left - 8) (drop (at + 1) bytes))
    = rw (bytes-at bytes at lt, fits) (one_byte front (digits (min left 8) byte) (unpacked (left - 8) (drop (at + 1) bytes))) in
    rw (pushed, size, rest) (sym step ∙ so_far)

pub unpacked-refused : (front : List Bool) (left here at : ℕ) (bytes : List ℕ) (total : Result (List Bool) CodecError) → at < length bytes → here ≡ min left 8
    → 2 ^ here ≤ get_or bytes at 0 → bits_behind front (unpacked left (drop at bytes)) ≡ total → total ≡ Err (InvalidEnum (get_or bytes at 0))
unfolding unpacked
unpacked-refused front left here at bytes total lt size beyond so_far =
    let byte : ℕ = get_or bytes at 0 in
    let out = le-ltb byte (2 ^ min left 8) (subst (λ (k : ℕ). 2 ^ k ≤ byte) size beyond) in
    let step : bits_behind front (unpacked left (drop at bytes)) ≡ Err (InvalidEnum byte) = rw (bytes-at bytes at lt, out) refl in
    sym so_far ∙ step

pub unpacked-end : (front : List Bool) (left at : ℕ) (bytes : List ℕ) (total : Result (List Bool) CodecError) → length bytes ≤ at → bits_behind front (unpacked left (drop at bytes)) ≡ total → total ≡ Ok front
unfolding unpacked
unpacked-end front left at bytes total le so_far =
    let step : bits_behind front (unpacked left (drop at bytes)) ≡ Ok front = rw (drop_all at bytes le) (ap (λ (bs : List Bool). Ok bs) (append-nil front)) in
    sym so_far ∙ step

-- ---- bits that are written

packed-at : (rest front after : List Bool) → 0 < length rest → rest ≡ front ++ after → length front ≡ min (length rest) 8 → packed rest ≡ packed_byte front ∷ packed after
unfolding packed_in
packed-at rest front after some parts size =
    let len : length after ≡ length rest - 8 = omega (arith, ap length parts, length-append front after, size) in
    let c = cut (length rest) front after size len in
    let here : take 8 rest ≡ front = ap (take 8) parts ∙ c.0 in
    let others : drop 8 rest ≡ after = ap (drop 8) parts ∙ c.1 in
    let count : byte_count (length rest) ≡ suc (byte_count (length after)) = byte_count-suc (length rest) some ∙ ap (λ (k : ℕ). suc (byte_count k)) (sym len) in
    ap (λ (k : ℕ). packed_in k rest) count ∙ ap (λ (bs : List Bool). packed_byte bs ∷ packed_in (byte_count (length after)) (drop 8 rest)) here ∙ ap (λ (bs : List Bool). packed_byte front ∷ packed_in (byte_count (length after)) bs) others

pub packed-more : (out more all : List ℕ) (rest front after : List Bool) → 0 < length rest → rest ≡ front ++ after → length front ≡ min (length rest) 8 → more ≡ out ++ packed_byte front ∷ []
    → out ++ packed rest ≡ all → more ++ packed after ≡ all
packed-more out more all rest front after some parts size pushed so_far =
    let step : out ++ packed rest ≡ (out ++ packed_byte front ∷ []) ++ packed after
    = ap (λ (t : List ℕ). out ++ t) (packed-at rest front after some parts size) ∙ sym (append_assoc out (packed_byte front ∷ []) (packed after)) in
    ap (λ (t : List ℕ). t ++ packed after) pushed ∙ sym step ∙ so_far

pub packed-end : (out all : List ℕ) (rest : List Bool) → length rest ≡ 0 → out ++ packed rest ≡ all → out ≡ all
unfolding packed_in
packed-end out all rest none so_far =
    let nothing : out ++ packed rest ≡ out = ap (λ (bs : List Bool). out ++ packed bs) (nil_from_length rest none) ∙ append-nil out in
    sym nothing ∙ so_far

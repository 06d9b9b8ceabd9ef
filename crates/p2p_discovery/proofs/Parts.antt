-- What a reader does to what is spelled: it is read again, whatever follows, and nothing else is read.
use Rattle.std.proofs.Common.{◌≡◌, ◌⊎◌, ℕ, zero, suc, ◌^◌, ◌<◌, ◌≤◌, Bool, true, false, cond, ltb, List, [], ◌∷◌, ◌++◌, length, take, drop, Result, Ok, Err, refl, sym, ap, subst, ◌∙◌, append_assoc, arith, inl, inr, lit≤, lit<}
use Rattle.std.proofs.lemmas.Bool.{ltb-false, le-ltb}
use Rattle.std.proofs.lemmas.List.{take_at, drop_at, take-append-drop, length-append, length-take}
use Rattle.p2p_wire.specs.declared.error.CodecError.{CodecError}
use Rattle.p2p_wire.specs.declared.error.CodecError.TheVariants.{EndOfBuffer, InvalidLength}
use Rattle.p2p_wire.specs.Varint.{spelling, ◌>>=◌, u64_at, u32_at, Reads}
use Rattle.p2p_wire.proofs.Spellings.{spelling-small, reads_spelling}
use Rattle.p2p_wire.proofs.Laws.{AreBytes, is_read}
use Rattle.p2p_discovery.specs.Spelling.{sized}
use Rattle.p2p_discovery.specs.Reading.{bytes_at, sized_at}

pub record IsExact {A : Type 0} (read : List ℕ → Result (A × List ℕ) CodecError) (spell : A → List ℕ) (Fits : A → Type 0) : Type 0 where
  pub again : (x : A) (rest : List ℕ) → Fits x → read (spell x ++ rest) ≡ Ok (x, rest)
  pub found : (bytes : List ℕ) (x : A × List ℕ) → AreBytes bytes → read bytes ≡ Ok x → Fits x.0 × (bytes ≡ spell x.0 ++ x.1)

-- ---- steps that did not fail

pub bound : {A B : Type 0} (r : Result A CodecError) (f : A → Result B CodecError) (y : B) → (r >>= f) ≡ Ok y → (x : A) × (r ≡ Ok x) × (f x ≡ Ok y)
bound (Ok x) f y e = (x, refl, e)
bound (Err d) f y e = absurd cc

-- which way a test went
pub chosen : {A : Type 0} (b : Bool) (x y z : A) → cond b x y ≡ z → ((b ≡ true) × (x ≡ z)) ⊎ ((b ≡ false) × (y ≡ z))
chosen true x y z e = inl (refl, e)
chosen false x y z e = inr (refl, e)

-- a test that would have failed didn't
pub passed : {A : Type 0} (b : Bool) (d : CodecError) (r : Result A CodecError) (x : A) → cond b (Err d) r ≡ Ok x → (b ≡ false) × (r ≡ Ok x)
passed true d r x e = absurd cc
passed false d r x e = (refl, e)

abbrev read_as : {A : Type 0} → A → Result A CodecError
read_as x = Ok x

pub same_read : {A : Type 0} (x y : A) → read_as x ≡ read_as y → x ≡ y
same_read x y e = cc

-- ---- bytes that are left

after : (front rest : List ℕ) → AreBytes (front ++ rest) → AreBytes rest
after [] rest are = are
after (b ∷ front) rest are = after front rest (λ i. are (suc i))

pub left : (bytes front rest : List ℕ) → bytes ≡ front ++ rest → AreBytes bytes → AreBytes rest
left bytes front rest e are = after front rest (subst AreBytes e are)

before : (front rest : List ℕ) → AreBytes (front ++ rest) → AreBytes front
before [] rest are i = lit< tt
before (b ∷ front) rest are zero = are 0
before (b ∷ front) rest are (suc i) = before front rest (λ j. are (suc j)) i

pub front_are : (bytes front rest : List ℕ) → bytes ≡ front ++ rest → AreBytes bytes → AreBytes front
front_are bytes front rest e are = before front rest (subst AreBytes e are)

pub joined : (bytes a b rest more : List ℕ) → bytes ≡ a ++ rest → rest ≡ b ++ more → bytes ≡ (a ++ b) ++ more
joined bytes a b rest more e f = e ∙ ap (λ (t : List ℕ). a ++ t) f ∙ sym (append_assoc a b more)

-- ---- numbers

with_zero : (bytes : List ℕ) → AreBytes bytes → AreBytes (0 ∷ bytes)
with_zero bytes are zero = lit< tt
with_zero bytes are (suc i) = are i

u64_reads : (bytes : List ℕ) → AreBytes bytes → Reads 8 (2 ^ 64) bytes (u64_at bytes)
u64_reads bytes are = (is_read (0 ∷ bytes) (with_zero bytes are)).channel bytes refl

pub u32_reads : (bytes : List ℕ) → AreBytes bytes → Reads 4 (2 ^ 32) bytes (u32_at bytes)
u32_reads bytes are =
    let zero_read : u64_at (0 ∷ bytes) ≡ Ok (0, bytes) = ap (λ (digits : List ℕ). u64_at (digits ++ bytes)) (sym (spelling-small 0 (lit< tt))) ∙ reads_spelling 8 2 9 0 bytes (lit≤ tt) (lit< tt) in
    (is_read (0 ∷ 0 ∷ bytes) (with_zero (0 ∷ bytes) (with_zero bytes are))).size (0 ∷ bytes) bytes 0 refl zero_read

pub u64_is_exact : IsExact u64_at spelling (λ n. n < 2 ^ 64)
u64_is_exact = record {
  again = λ n rest below. reads_spelling 8 2 9 n rest (lit≤ tt) below;
  found = λ bytes x are e. subst (Reads 8 (2 ^ 64) bytes) e (u64_reads bytes are);
}

pub u32_is_exact : IsExact u32_at spelling (λ n. n < 2 ^ 32)
u32_is_exact = record {
  again = λ n rest below. reads_spelling 4 16 4 n rest (lit≤ tt) below;
  found = λ bytes x are e. subst (Reads 4 (2 ^ 32) bytes) e (u32_reads bytes are);
}

-- ---- runs of bytes

bytes_again : (xs rest : List ℕ) (count : ℕ) → length xs ≡ count → bytes_at count (xs ++ rest) ≡ Ok (xs, rest)
bytes_again xs rest count len =
    let enough : ltb (length (xs ++ rest)) count ≡ false = le-ltb _ _ (omega (arith, length-append xs rest)) in
    rw (enough, take_at xs rest count len, drop_at xs rest count len) refl

pub bytes_found : (bytes : List ℕ) (count : ℕ) (x : List ℕ × List ℕ) → bytes_at count bytes ≡ Ok x → (length x.0 ≡ count) × (bytes ≡ x.0 ++ x.1)
bytes_found bytes count x e =
    let p = passed (ltb (length bytes) count) EndOfBuffer (Ok (take count bytes, drop count bytes)) x e in
    let enough : count ≤ length bytes = ltb-false _ _ p.0 in
    let len : length (take count bytes) ≡ count = omega (arith, length-take count bytes) in
    subst (λ (y : List ℕ × List ℕ). (length y.0 ≡ count) × (bytes ≡ y.0 ++ y.1)) (same_read (take count bytes, drop count bytes) x p.1) (len, sym (take-append-drop count bytes))

pub bytes_are_exact : (count : ℕ) → IsExact (bytes_at count) (λ xs. xs) (λ xs. length xs ≡ count)
bytes_are_exact count = record {
  again = λ xs rest len. bytes_again xs rest count len;
  found = λ bytes x are e. bytes_found bytes count x e;
}

sized_again : (limit : ℕ) (xs rest : List ℕ) → limit < 2 ^ 32 → length xs ≤ limit → sized_at limit (sized xs ++ rest) ≡ Ok (xs, rest)
unfolding sized_at
sized_again limit xs rest fits within =
    let size : u32_at (spelling (length xs) ++ (xs ++ rest)) ≡ Ok (length xs, xs ++ rest) = u32_is_exact.again (length xs) (xs ++ rest) (omega (arith, fits, within)) in
    rw (append_assoc (spelling (length xs)) xs rest, size, le-ltb limit (length xs) within) (bytes_again xs rest (length xs) refl)

sized_found : (limit : ℕ) (bytes : List ℕ) (x : List ℕ × List ℕ) → AreBytes bytes → sized_at limit bytes ≡ Ok x → (length x.0 ≤ limit) × (bytes ≡ sized x.0 ++ x.1)
unfolding sized_at
sized_found limit bytes x are e =
    let a = bound (u32_at bytes) (λ size. cond (ltb limit size.0) (Err (InvalidLength size.0)) (bytes_at size.0 size.1)) x e in
    let p = passed (ltb limit a.0.0) (InvalidLength a.0.0) (bytes_at a.0.0 a.0.1) x a.2 in
    let size = u32_is_exact.found bytes a.0 are a.1 in
    let run = bytes_found a.0.1 a.0.0 x p.1 in
    let within : a.0.0 ≤ limit = ltb-false _ _ p.0 in
    let parts : bytes ≡ (spelling a.0.0 ++ x.0) ++ x.1 = joined bytes (spelling a.0.0) x.0 a.0.1 x.1 size.1 run.1 in
    (omega (arith, within, run.0), parts ∙ ap (λ (n : ℕ). (spelling n ++ x.0) ++ x.1) (sym run.0))

pub sized_is_exact : (limit : ℕ) → limit < 2 ^ 32 → IsExact (sized_at limit) sized (λ xs. length xs ≤ limit)
sized_is_exact limit fits = record {
  again = λ xs rest within. sized_again limit xs rest fits within;
  found = λ bytes x are e. sized_found limit bytes x are e;
}

-- What a frame gives is what it is of.
use Rattle.std.proofs.Common.{◌≡◌, ℕ, zero, suc, ◌+◌, ◌*◌, ◌/◌, ◌%◌, ◌^◌, ◌<◌, ◌≤◌, inl, inr, Bool, true, false, List, ◌∷◌, ◌++◌, length, Some, Result, Ok, Err, refl, ap, sym, subst, ◌∙◌, arith, le-ltb}
use Rattle.std.specs.Prelude.{nat_lt, if◌then◌else◌}
use Rattle.std.proofs.lemmas.Bool.{cases_lt}
use Rattle.std.proofs.lemmas.Option.{some_pair_parts}
use Rattle.p2p_wire.specs.declared.error.CodecError.{CodecError}
use Rattle.p2p_wire.specs.declared.error.CodecError.TheVariants.{EndOfBuffer, InvalidVarint, InvalidLength, ExtraData}
use Rattle.p2p_wire.specs.declared.frame.Message.TheVariants as message
use Rattle.p2p_wire.specs.Varint.{spelling, varint_at, u64_at, u32_at, with_low, ◌>>=◌}
use Rattle.p2p_wire.specs.Frame.{frame, decode_frame, message_of}
use Rattle.p2p_wire.proofs.Spellings.{spelling-small, spelling-large, bound-suc, digit_below, reads_spelling}
use Rattle.p2p_log_rules.specs.Frames.{data_in, is_ping, is_ping_in, frame_of}
use Rattle.p2p_log_laws.proofs.Truth.{FramesGive}

abbrev Fails : {A : Type 0} → Result A CodecError → Type 0
Fails {A} r = (x : A) → r ≡ Ok x → ⊥

bind_fails : {A B : Type 0} (r : Result A CodecError) (f : A → Result B CodecError) → Fails r → Fails (r >>= f)
bind_fails (Ok x) f h y e = h x refl
bind_fails (Err c) f h y e = cc

last_fails : (width last byte : ℕ) (bytes : List ℕ) → last ≤ byte → Fails (varint_at width last zero (byte ∷ bytes))
unfolding varint_at
last_fails width last byte bytes h x e = go (nat_lt byte last) (le-ltb byte last h) e
  where
    go : (t : Bool) → t ≡ false → (if t then Ok (byte, bytes) else Err (InvalidVarint width)) ≡ Ok x → ⊥
    go true f e = cc
    go false f e = cc

more_fails : (width last places byte : ℕ) (bytes : List ℕ) → 128 ≤ byte → Fails (varint_at width last places bytes) → Fails (varint_at width last (suc places) (byte ∷ bytes))
unfolding varint_at
more_fails width last places byte bytes h fails x e = go (nat_lt byte 128) (le-ltb byte 128 h) e
  where
    go : (t : Bool) → t ≡ false → (if t then Ok (byte, bytes) else (varint_at width last places bytes >>= with_low width byte)) ≡ Ok x → ⊥
    go true f e = cc
    go false f e = bind_fails (varint_at width last places bytes) (with_low width byte) fails x e

-- a number of more places than are read is not read
large_fails : (width last places n : ℕ) (rest : List ℕ) → 0 < last → last ≤ 128 → last * 128 ^ places ≤ n → Fails (varint_at width last places (spelling n ++ rest))
large_fails width last zero n rest some few large = elim (cases_lt n 128) [
  | inl small ↦ subst (λ (s : List ℕ). Fails (varint_at width last zero (s ++ rest))) (sym (spelling-small n small)) (last_fails width last n rest (omega arith))
  | inr big ↦ subst (λ (s : List ℕ). Fails (varint_at width last zero (s ++ rest))) (sym (spelling-large n big))
      (last_fails width last (n % 128 + 128) (spelling (n / 128) ++ rest) (omega arith))
]
large_fails width last (suc places) n rest some few large =
    let bound = bound-suc last places in
    let positive : 0 < last * 128 ^ places = digit_below last places 0 some in
    let big : 128 ≤ n = big_enough (last * 128 ^ places) (last * 128 ^ suc places) n bound positive large in
    let high : last * 128 ^ places ≤ n / 128 = high_enough (last * 128 ^ places) (last * 128 ^ suc places) n bound large in
    subst (λ (s : List ℕ). Fails (varint_at width last (suc places) (s ++ rest))) (sym (spelling-large n big))
    (more_fails width last places (n % 128 + 128) (spelling (n / 128) ++ rest) (omega arith) (large_fails width last places (n / 128) rest some few high))
  where
    big_enough : (k m n : ℕ) → m ≡ k * 128 → 0 < k → m ≤ n → 128 ≤ n
    big_enough k m n e p h = omega arith

    high_enough : (k m n : ℕ) → m ≡ k * 128 → m ≤ n → k ≤ n / 128
    high_enough k m n e h = omega arith

-- a spelling is read as its number, or not at all
reads_only : (width last places n : ℕ) (rest : List ℕ) (x : ℕ × List ℕ) → 0 < last → last ≤ 128 → varint_at width last places (spelling n ++ rest) ≡ Ok x
    → (x.0 ≡ n) × (x.1 ≡ rest)
reads_only width last places n rest x some few e = elim (cases_lt n (last * 128 ^ places)) [
  | inl small ↦
      let same : ◌≡◌ {A = Result (ℕ × List ℕ) CodecError} (Ok (n, rest)) (Ok x) = sym (reads_spelling width last places n rest few small) ∙ e in
      let pair : (n, rest) ≡ x = cc in
      (sym (ap (λ (p : ℕ × List ℕ). p.0) pair), sym (ap (λ (p : ℕ × List ℕ). p.1) pair))
  | inr large ↦ absurd (large_fails width last places n rest some few large x e)
]

message_is : (limit channel : ℕ) (sized m : ℕ × List ℕ) → data_in (message_of limit channel sized) ≡ Some m → (m.0 ≡ channel) × (m.1 ≡ sized.1)
message_is limit channel sized m h = go (nat_lt limit sized.0) (nat_lt (length sized.1) sized.0) (nat_lt sized.0 (length sized.1)) (InvalidLength sized.0) EndOfBuffer (ExtraData _) h
  where
    go : (t u v : Bool) (a b c : CodecError)
        → data_in (if t then Err a else if u then Err b else if v then Err c else Ok (message.Data (record { channel = channel; message = sized.1 }))) ≡ Some m
        → (m.0 ≡ channel) × (m.1 ≡ sized.1)
    go true u v a b c h = absurd (cc)
    go false true v a b c h = absurd (cc)
    go false false true a b c h = absurd (cc)
    go false false false a b c h = let parts = some_pair_parts channel m.0 sized.1 m.1 h in (sym parts.0, sym parts.1)

size_read : (limit channel : ℕ) (bytes : List ℕ) (m : ℕ × List ℕ) (r : Result (ℕ × List ℕ) CodecError) → u32_at (spelling (length bytes) ++ bytes) ≡ r
    → data_in (r >>= message_of limit channel) ≡ Some m → (m.0 ≡ channel) × (m.1 ≡ bytes)
size_read limit channel bytes m (Err e) is h = absurd (cc)
size_read limit channel bytes m (Ok sized) is h =
    let read = reads_only 4 16 4 (length bytes) bytes sized (omega arith) (omega arith) is in
    let whole = message_is limit channel sized m h in
    (whole.0, whole.1 ∙ read.1)

channel_read : (limit channel : ℕ) (bytes : List ℕ) (m : ℕ × List ℕ) (r : Result (ℕ × List ℕ) CodecError) → u64_at (spelling channel ++ (spelling (length bytes) ++ bytes)) ≡ r
    → data_in (r >>= λ c. (u32_at c.1 >>= λ s. message_of limit c.0 s)) ≡ Some m → (m.0 ≡ channel) × (m.1 ≡ bytes)
channel_read limit channel bytes m (Err e) is h = absurd (cc)
channel_read limit channel bytes m (Ok c) is h =
    let read = reads_only 8 2 9 channel (spelling (length bytes) ++ bytes) c (omega arith) (omega arith) is in
    let whole = size_read limit c.0 bytes m (u32_at (spelling (length bytes) ++ bytes)) refl
    (ap (λ (left : List ℕ). data_in (u32_at left >>= message_of limit c.0)) (sym read.1) ∙ h)
    in
    (whole.0 ∙ read.0, whole.1)

pub frames_give : FramesGive
unfolding frame decode_frame
frames_give channel bytes limit m h = channel_read limit channel bytes m (u64_at (spelling channel ++ (spelling (length bytes) ++ bytes))) refl h

-- ---- and a message's frame is no ping

message_no_ping : (limit channel : ℕ) (sized : ℕ × List ℕ) → is_ping (message_of limit channel sized) ≡ false
message_no_ping limit channel sized = go (nat_lt limit sized.0) (nat_lt (length sized.1) sized.0) (nat_lt sized.0 (length sized.1)) (InvalidLength sized.0) EndOfBuffer (ExtraData _)
  where
    go : (t u v : Bool) (a b c : CodecError)
        → is_ping (if t then Err a else if u then Err b else if v then Err c else Ok (message.Data (record { channel = channel; message = sized.1 }))) ≡ false
    go true u v a b c = refl
    go false true v a b c = refl
    go false false true a b c = refl
    go false false false a b c = refl

size_no_ping : (limit channel : ℕ) (r : Result (ℕ × List ℕ) CodecError) → is_ping (r >>= message_of limit channel) ≡ false
size_no_ping limit channel (Err e) = refl
size_no_ping limit channel (Ok sized) = message_no_ping limit channel sized

channel_no_ping : (limit : ℕ) (r : Result (ℕ × List ℕ) CodecError) → is_ping (r >>= λ c. (u32_at c.1 >>= λ s. message_of limit c.0 s)) ≡ false
channel_no_ping limit (Err e) = refl
channel_no_ping limit (Ok c) = size_no_ping limit c.0 (u32_at c.1)

pub frames_no_ping : (channel : ℕ) (bytes : List ℕ) (limit : ℕ) → is_ping_in (frame_of channel bytes) limit ≡ false
unfolding frame decode_frame
frames_no_ping channel bytes limit = channel_no_ping limit (u64_at (spelling channel ++ (spelling (length bytes) ++ bytes)))

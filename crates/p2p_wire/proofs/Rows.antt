-- Each row of the table of answers of `decode`, both ways.
use Rattle.std.proofs.Common.{◌≡◌, ℕ, zero, suc, ◌+◌, ◌-◌, ◌^◌, ◌<◌, ◌≤◌, List, [], ◌∷◌, ◌++◌, length, Result, Ok, Err, refl, sym, ap, subst, ◌∙◌, append_assoc, arith, inl, inr, lit≤, ◌↔◌}
use Rattle.std.proofs.lemmas.Bool.{cases_lt, lt-ltb, le-ltb, ne_eqb}
use Rattle.std.proofs.lemmas.List.{length-append}
use Rattle.p2p_wire.specs.declared.error.CodecError.{CodecError}
use Rattle.p2p_wire.specs.declared.error.CodecError.TheVariants.{EndOfBuffer, InvalidEnum, InvalidLength, InvalidVarint, ExtraData, Memory}
use Rattle.p2p_wire.specs.declared.frame.Data.{Data}
use Rattle.p2p_wire.specs.declared.frame.Message.{Message}
use Rattle.p2p_wire.specs.declared.frame.Message.TheVariants as message
use Rattle.p2p_wire.specs.Varint.{spelling, ◌>>=◌, u64_at, u32_at, Reads}
use Rattle.p2p_wire.specs.Frame.{frame, IsWithin, Heads, IsOfKind, EndsEarly, HasMalformed, IsTooLong, HasExtra, message_of, data_of, decode_frame}
use Rattle.p2p_wire.proofs.Spellings.{reads_spelling, ends_within, malformed_is}

-- what was found at the places of channel and size
pub record IsRead (bytes : List ℕ) : Type 0 where
  pub channel : (rest : List ℕ) → bytes ≡ 0 ∷ rest → Reads 8 (2 ^ 64) rest (u64_at rest)
  pub size : (rest more : List ℕ) (channel : ℕ) → bytes ≡ 0 ∷ rest → u64_at rest ≡ Ok (channel, more) → Reads 4 (2 ^ 32) more (u32_at more)

-- what an answer says of the bytes
abbrev pub Says : ℕ → List ℕ → Result Message CodecError → Type 0
Says limit bytes (Ok m) = IsWithin limit m × (bytes ≡ frame m)
Says limit bytes (Err EndOfBuffer) = EndsEarly limit bytes
Says limit bytes (Err (InvalidEnum kind)) = IsOfKind kind bytes
Says limit bytes (Err (InvalidLength size)) = IsTooLong limit size bytes
Says limit bytes (Err (InvalidVarint width)) = HasMalformed width bytes
Says limit bytes (Err (ExtraData count)) = HasExtra limit count bytes
Says limit bytes (Err Memory) = ⊥

-- ---- an answer is right

-- the message and what stands after it
split_at_size : (n : ℕ) (left : List ℕ) → n ≤ length left → (front rest : List ℕ) × (left ≡ front ++ rest) × (length front ≡ n)
split_at_size zero left h = ([], left, refl, refl)
split_at_size (suc n) [] h = absurd (omega arith)
split_at_size (suc n) (b ∷ left) h =
    let p = split_at_size n left (omega arith) in
    (b ∷ p.0, p.1, ap (λ (ds : List ℕ). b ∷ ds) p.2, ap suc p.3)

frame_grows : (channel size : ℕ) (front rest left bytes : List ℕ) → bytes ≡ 0 ∷ (spelling channel ++ (spelling size ++ left)) → left ≡ front ++ rest → length front ≡ size
    → bytes ≡ frame (message.Data (record { channel = channel; message = front })) ++ rest
unfolding frame
frame_grows channel size front rest left bytes e p len =
    rw (e, p, len) (ap (λ (ds : List ℕ). 0 ∷ ds) (ap (λ (ds : List ℕ). spelling channel ++ ds) (sym (append_assoc (spelling size) front rest)) ∙ sym (append_assoc (spelling channel) (spelling size ++ front) rest)))

-- what the tests of the size make of it
says_message : (limit channel size : ℕ) (left bytes : List ℕ) → Heads channel size left bytes → Says limit bytes (message_of limit channel (size, left))
unfolding frame
says_message limit channel size left bytes h =
    elim (cases_lt limit size) [
      | inl long ↦ rw (lt-ltb limit size long) (channel, left, h, long)
      | inr within ↦
          elim (cases_lt (length left) size) [
            | inl short ↦ rw (le-ltb limit size within, lt-ltb (length left) size short) (inr (inr (inr (channel, size, left, h, within, short))))
            | inr enough ↦
                elim (cases_lt size (length left)) [
                  | inl more ↦
                      let p = split_at_size size left enough in
                      let extra : length p.1 ≡ length left - size = omega (arith, ap length p.2, length-append p.0 p.1, p.3) in
                      let some : 0 < length left - size = omega arith in
                      rw (le-ltb limit size within, le-ltb (length left) size enough, lt-ltb size (length left) more)
                      (message.Data (record { channel = channel; message = p.0 }), p.1, (h.channel_fits, omega (arith, p.3, h.size_fits), omega (arith, p.3)), frame_grows channel size p.0 p.1 left bytes h.parts p.2 p.3, extra, some)
                  | inr all ↦
                      let same : length left ≡ size = omega arith in
                      rw (le-ltb limit size within, le-ltb (length left) size enough, le-ltb size (length left) all)
                      ((h.channel_fits, omega (arith, h.size_fits), omega arith), rw same h.parts)
                ]
          ]
    ]

says_size : (limit channel : ℕ) (rest more bytes : List ℕ) (sized : Result (ℕ × List ℕ) CodecError) → channel < 2 ^ 64 → bytes ≡ 0 ∷ (spelling channel ++ more)
    → Reads 4 (2 ^ 32) more sized → Says limit bytes (sized >>= message_of limit channel)
says_size limit channel rest more bytes (Ok (size, left)) below e h =
    says_message limit channel size left bytes (record { channel_fits = below; size_fits = h.0; parts = e ∙ ap (λ (ds : List ℕ). 0 ∷ (spelling channel ++ ds)) h.1 })
says_size limit channel rest more bytes (Err EndOfBuffer) below e h = inr (inr (inl (channel, more, below, e, h)))
says_size limit channel rest more bytes (Err (InvalidEnum x)) below e h = absurd cc
says_size limit channel rest more bytes (Err (InvalidLength x)) below e h = absurd cc
says_size limit channel rest more bytes (Err (InvalidVarint x)) below e h = inr (cc (h.0), (channel, more, below, e, h.1))
says_size limit channel rest more bytes (Err (ExtraData x)) below e h = absurd cc
says_size limit channel rest more bytes (Err Memory) below e h = absurd cc

says_data : (limit : ℕ) (rest : List ℕ) (channel : Result (ℕ × List ℕ) CodecError) → Reads 8 (2 ^ 64) rest channel
    → ((n : ℕ) (more : List ℕ) → channel ≡ Ok (n, more) → Reads 4 (2 ^ 32) more (u32_at more))
    → Says limit (0 ∷ rest) (channel >>= λ c. u32_at c.1 >>= message_of limit c.0)
says_data limit rest (Ok (n, more)) h size = says_size limit n rest more (0 ∷ rest) (u32_at more) h.0 (ap (λ (ds : List ℕ). 0 ∷ ds) h.1) (size n more refl)
says_data limit rest (Err EndOfBuffer) h size = inr (inl (rest, refl, h))
says_data limit rest (Err (InvalidEnum x)) h size = absurd cc
says_data limit rest (Err (InvalidLength x)) h size = absurd cc
says_data limit rest (Err (InvalidVarint x)) h size = inl (cc (h.0), (rest, refl, h.1))
says_data limit rest (Err (ExtraData x)) h size = absurd cc
says_data limit rest (Err Memory) h size = absurd cc

pub says : (limit : ℕ) (bytes : List ℕ) → IsRead bytes → Says limit bytes (decode_frame bytes limit)
unfolding decode_frame frame
says limit [] h = inl refl
says limit (zero ∷ rest) h = says_data limit rest (u64_at rest) (h.channel rest refl) (λ n more e. h.size rest more n refl e)
says limit (suc zero ∷ []) h = (tt, refl)
says limit (suc zero ∷ (b ∷ bs)) h =
    rw (ne_eqb (length (b ∷ bs)) 0 (λ e. omega arith)) (message.Ping, b ∷ bs, tt, refl, refl, omega arith)
says limit (suc (suc k) ∷ rest) h = (rest, omega arith, refl)

-- ---- what is right is the answer

pub decode-end : (limit : ℕ) (bytes : List ℕ) → bytes ≡ [] → decode_frame bytes limit ≡ Err EndOfBuffer
unfolding decode_frame
decode-end limit bytes e = rw e refl

pub decode-data : (limit : ℕ) (bytes rest : List ℕ) → bytes ≡ 0 ∷ rest → decode_frame bytes limit ≡ data_of rest limit
unfolding decode_frame
decode-data limit bytes rest e = rw e refl

pub decode-ping : (limit : ℕ) (bytes rest : List ℕ) → bytes ≡ 1 ∷ rest → length rest ≡ 0 → decode_frame bytes limit ≡ Ok message.Ping
unfolding decode_frame
decode-ping limit bytes rest e none = rw (e, none) refl

pub decode-ping_extra : (limit : ℕ) (bytes rest : List ℕ) → bytes ≡ 1 ∷ rest → (length rest ≡ 0 → ⊥) → decode_frame bytes limit ≡ Err (ExtraData (length rest))
unfolding decode_frame
decode-ping_extra limit bytes rest e some = rw (e, ne_eqb (length rest) 0 some) refl

pub decode-kind : (limit kind : ℕ) (bytes rest : List ℕ) → bytes ≡ kind ∷ rest → 1 < kind → decode_frame bytes limit ≡ Err (InvalidEnum kind)
unfolding decode_frame
decode-kind limit zero bytes rest e h = absurd (omega arith)
decode-kind limit (suc zero) bytes rest e h = absurd (omega arith)
decode-kind limit (suc (suc k)) bytes rest e h = rw e refl

channel_read : (limit channel : ℕ) (bytes more : List ℕ) → channel < 2 ^ 64 → bytes ≡ 0 ∷ (spelling channel ++ more) → decode_frame bytes limit ≡ (u32_at more >>= message_of limit channel)
channel_read limit channel bytes more below e =
    decode-data limit bytes (spelling channel ++ more) e ∙ rw (reads_spelling 8 2 9 channel more (lit≤ tt) below) refl

heads_read : (limit channel size : ℕ) (bytes rest : List ℕ) → Heads channel size rest bytes → decode_frame bytes limit ≡ message_of limit channel (size, rest)
heads_read limit channel size bytes rest h =
    channel_read limit channel bytes (spelling size ++ rest) h.channel_fits h.parts ∙ rw (reads_spelling 4 16 4 size rest (lit≤ tt) h.size_fits) refl

is_ended : (limit : ℕ) (bytes : List ℕ) → EndsEarly limit bytes → decode_frame bytes limit ≡ Err EndOfBuffer
unfolding decode_frame
is_ended limit bytes (inl e) = rw e refl
is_ended limit bytes (inr (inl (rest, e, (n, tail, below, some, p)))) =
    decode-data limit bytes rest e ∙ rw (ends_within 8 2 9 n rest tail (lit≤ tt) below some p) refl
is_ended limit bytes (inr (inr (inl (channel, more, fits, e, (n, tail, below, some, p))))) =
    channel_read limit channel bytes more fits e ∙ rw (ends_within 4 16 4 n more tail (lit≤ tt) below some p) refl
is_ended limit bytes (inr (inr (inr (channel, size, rest, h, within, short)))) =
    heads_read limit channel size bytes rest h ∙ rw (le-ltb limit size within, lt-ltb (length rest) size short) refl

is_malformed : (limit width : ℕ) (bytes : List ℕ) → IsRead bytes → HasMalformed width bytes → decode_frame bytes limit ≡ Err (InvalidVarint width)
is_malformed limit width bytes h (inl (w, (rest, e, bad))) =
    decode-data limit bytes rest e ∙ rw (malformed_is 8 (2 ^ 64) rest (u64_at rest) (h.channel rest e) bad, w) refl
is_malformed limit width bytes h (inr (w, (channel, more, fits, e, bad))) =
    let read = reads_spelling 8 2 9 channel more (lit≤ tt) fits in
    channel_read limit channel bytes more fits e ∙ rw (malformed_is 4 (2 ^ 32) more (u32_at more) (h.size (spelling channel ++ more) more channel e read) bad, w) refl

pub is_message : (limit : ℕ) (bytes : List ℕ) (m : Message) → IsWithin limit m → bytes ≡ frame m → decode_frame bytes limit ≡ Ok m
unfolding frame
is_message limit bytes message.Ping w e = decode-ping limit bytes [] e refl
is_message limit bytes (message.Data d) w e =
    let h : Heads d.channel (length d.message) d.message bytes = record { channel_fits = w.0; size_fits = w.1; parts = e } in
    heads_read limit d.channel (length d.message) bytes d.message h
    ∙ rw (le-ltb limit (length d.message) w.2, le-ltb (length d.message) (length d.message) (omega arith)) refl

has_extra : (limit count : ℕ) (bytes : List ℕ) → HasExtra limit count bytes → decode_frame bytes limit ≡ Err (ExtraData count)
unfolding frame
has_extra limit count bytes (message.Ping, rest, w, e, len, some) =
    decode-ping_extra limit bytes rest e (λ z. omega arith) ∙ rw len refl
has_extra limit count bytes (message.Data d, rest, w, e, len, some) =
    let whole : length (d.message ++ rest) ≡ length d.message + count = omega (arith, length-append d.message rest) in
    let grown : 0 ∷ (spelling d.channel ++ (spelling (length d.message) ++ d.message)) ++ rest ≡ 0 ∷ (spelling d.channel ++ (spelling (length d.message) ++ (d.message ++ rest)))
    = ap (λ (ds : List ℕ). 0 ∷ ds) (append_assoc (spelling d.channel) (spelling (length d.message) ++ d.message) rest ∙ ap (λ (ds : List ℕ). spelling d.channel ++ ds) (append_assoc (spelling (length d.message)) d.message rest)) in
    let h : Heads d.channel (length d.message) (d.message ++ rest) bytes = record { channel_fits = w.0; size_fits = w.1; parts = e ∙ grown } in
    heads_read limit d.channel (length d.message) bytes (d.message ++ rest) h
    ∙ rw (le-ltb limit (length d.message) w.2, le-ltb (length (d.message ++ rest)) (length d.message) (omega arith), lt-ltb (length d.message) (length (d.message ++ rest)) (omega arith)) (ap (λ (n : ℕ). Err (ExtraData n)) (omega arith))

pub decides : (limit : ℕ) (bytes : List ℕ) (r : Result Message CodecError) → IsRead bytes → Says limit bytes r → decode_frame bytes limit ≡ r
decides limit bytes (Ok m) h s = is_message limit bytes m s.0 s.1
decides limit bytes (Err EndOfBuffer) h s = is_ended limit bytes s
decides limit bytes (Err (InvalidEnum kind)) h (rest, other, e) = decode-kind limit kind bytes rest e other
decides limit bytes (Err (InvalidLength size)) h (channel, rest, heads, long) =
    heads_read limit channel size bytes rest heads ∙ rw (lt-ltb limit size long) refl
decides limit bytes (Err (InvalidVarint width)) h s = is_malformed limit width bytes h s
decides limit bytes (Err (ExtraData count)) h s = has_extra limit count bytes s
decides limit bytes (Err Memory) h s = absurd s

-- An answer of a reader stands exactly where it is right.
pub row : (limit : ℕ) (bytes : List ℕ) (answer r : Result Message CodecError) → IsRead bytes → answer ≡ decode_frame bytes limit → (answer ≡ r) ↔ Says limit bytes r
row limit bytes answer r h e =
    (λ (is : answer ≡ r). subst (Says limit bytes) (sym e ∙ is) (says limit bytes h), λ s. e ∙ decides limit bytes r h s)

-- ---- what was written

pub is_written : (d : Data) (empty kind channel size out : List ℕ) (n : ℕ) → empty ≡ [] → kind ≡ empty ++ 0 ∷ [] → channel ≡ kind ++ spelling d.channel → n ≡ length d.message
    → size ≡ channel ++ spelling n → out ≡ size ++ d.message → out ≡ frame (message.Data d)
unfolding frame
is_written d empty kind channel size out n e k c len s o =
    rw (o, s, c, k, e, len, append_assoc (0 ∷ spelling d.channel) (spelling (length d.message)) d.message) refl

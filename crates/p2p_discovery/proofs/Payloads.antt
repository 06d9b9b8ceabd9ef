-- Payloads are decoded from their own spelling and from nothing else, and no spelling begins another.
use Rattle.std.proofs.Common.{◌≡◌, ℕ, Bool, true, cond, eqb, List, [], ◌∷◌, ◌++◌, length, Option, Result, Ok, Err, refl, sym, ap, subst, ◌∙◌, append_assoc, arith, inl, inr}
use Rattle.std.specs.Prelude.{IfOk}
use Rattle.std.proofs.lemmas.Bool.{eqb-true}
use Rattle.std.proofs.lemmas.List.{append-nil, nil_from_length, length-append}
use Rattle.p2p_wire.specs.declared.error.CodecError.{CodecError}
use Rattle.p2p_wire.specs.declared.error.CodecError.TheVariants.{InvalidEnum, ExtraData}
use Rattle.p2p_wire.specs.declared.frame.Data.{Data}
use Rattle.p2p_wire.specs.declared.frame.Message.{Message}
use Rattle.p2p_wire.specs.declared.frame.Message.TheVariants as message
use Rattle.p2p_wire.specs.Varint.{spelling, ◌>>=◌, u64_at, u32_at}
use Rattle.p2p_wire.specs.Frame.{frame, IsWithin, decode_frame}
use Rattle.p2p_wire.proofs.Laws.{AreBytes, decode_frame-frame, decoded_is_frame}
use Rattle.p2p_discovery.specs.declared.bit_vec.BitVec.{BitVec}
use Rattle.p2p_discovery.specs.declared.config.PayloadConfig.{PayloadConfig}
use Rattle.p2p_discovery.specs.declared.info.Info.{Info}
use Rattle.p2p_discovery.specs.declared.payload.Payload.{Payload}
use Rattle.p2p_discovery.specs.declared.payload.Payload.TheVariants as payload
use Rattle.p2p_discovery.specs.Spelling.{spelled_info, spelled_bit_vec, spelled}
use Rattle.p2p_discovery.specs.Fits.{InfoFits, BitVecFits, Fits}
use Rattle.p2p_discovery.specs.Reading.{Gives, info_at, bit_vec_at, peers_at, whole, data_in, data_of, bit_vec_of, greeting_of, peers_of, payload_of}
use Rattle.p2p_discovery.proofs.Parts.{IsExact, bound, chosen, same_read, left, u64_is_exact, u32_is_exact}
use Rattle.p2p_discovery.proofs.Bits.{bit_vec_is_exact}
use Rattle.p2p_discovery.proofs.Infos.{KeyLaws, info_is_exact, spelled_peers, PeersFit, peers_are_exact}

-- ---- all of the bytes

whole_is : {A : Type 0} (read : A × List ℕ) (x : A) → whole read ≡ Ok x → (read.1 ≡ []) × (read.0 ≡ x)
whole_is read x e =
    elim (chosen (eqb (length read.1) 0) (Ok read.0) (Err (ExtraData (length read.1))) (Ok x) e) [
      | inl p ↦ (nil_from_length read.1 (eqb-true _ _ p.0), same_read read.0 x p.1)
      | inr p ↦ absurd cc (p.1)
    ]

-- what is spelled is read from that alone
alone : {A : Type 0} (read : List ℕ → Result (A × List ℕ) CodecError) (spell : A → List ℕ) (Fit : A → Type 0) → IsExact read spell Fit → (x : A) → Fit x → read (spell x) ≡ Ok (x, [])
alone read spell Fit exact x fits = ap read (sym (append-nil (spell x))) ∙ exact.again x [] fits

-- what is read whole is spelled so
read_whole : {A B : Type 0} (read : List ℕ → Result (A × List ℕ) CodecError) (spell : A → List ℕ) (Fit : A → Type 0) (made : A → B) → IsExact read spell Fit
    → (bytes : List ℕ) (y : B) → AreBytes bytes → (read bytes >>= λ r. whole r >>= λ x. Ok (made x)) ≡ Ok y → (x : A) × Fit x × (bytes ≡ spell x) × (made x ≡ y)
read_whole read spell Fit made exact bytes y are e =
    let a = bound (read bytes) (λ r. whole r >>= λ x. Ok (made x)) y e in
    let b = bound (whole a.0) (λ x. Ok (made x)) y a.2 in
    let w = whole_is a.0 b.0 b.1 in
    let f = exact.found bytes a.0 are a.1 in
    let parts : bytes ≡ spell a.0.0 = f.1 ∙ ap (λ (t : List ℕ). spell a.0.0 ++ t) w.0 ∙ append-nil (spell a.0.0) in
    (b.0, subst Fit w.1 f.0, parts ∙ ap spell w.1, same_read (made b.0) y b.2)

-- no spelling begins another
exact_apart : {A : Type 0} (read : List ℕ → Result (A × List ℕ) CodecError) (spell : A → List ℕ) (Fit : A → Type 0) → IsExact read spell Fit
    → (x y : A) (tail : List ℕ) → Fit x → Fit y → spell y ≡ spell x ++ tail → (y ≡ x) × (tail ≡ [])
exact_apart {A = A} read spell Fit exact x y tail fx fy e =
    let same : (y, []) ≡ (x, tail) = same_read (y, []) (x, tail) (sym (alone read spell Fit exact y fy) ∙ ap read e ∙ exact.again x tail fx) in
    (ap (λ (p : A × List ℕ). p.0) same, sym (ap (λ (p : A × List ℕ). p.1) same))

-- ---- data

rest_of : {x y : ℕ} {xs ys : List ℕ} → x ∷ xs ≡ y ∷ ys → xs ≡ ys
rest_of e = cc

data_is : {P : Type 0} (m : Message) (p : Payload P) → data_in m ≡ Ok p → (d : Data) × (m ≡ message.Data d) × (payload.Data d ≡ p)
data_is (message.Data d) p e = (d, refl, same_read (payload.Data d) p e)
data_is message.Ping p e = absurd cc

data_apart : (limit : ℕ) (d other : Data) (tail : List ℕ) → IsWithin limit (message.Data d) → IsWithin limit (message.Data other) → frame (message.Data other) ≡ frame (message.Data d) ++ tail
    → (other ≡ d) × (tail ≡ [])
unfolding frame
data_apart limit d other tail fd fo e =
    let after_kind : spelling other.channel ++ (spelling (length other.message) ++ other.message) ≡ spelling d.channel ++ (spelling (length d.message) ++ (d.message ++ tail))
    = rest_of e ∙ append_assoc (spelling d.channel) (spelling (length d.message) ++ d.message) tail ∙ ap (λ (t : List ℕ). spelling d.channel ++ t) (append_assoc (spelling (length d.message)) d.message tail) in
    let channel : (other.channel, spelling (length other.message) ++ other.message) ≡ (d.channel, spelling (length d.message) ++ (d.message ++ tail))
    = same_read _ _ (sym (u64_is_exact.again other.channel _ fo.0) ∙ ap u64_at after_kind ∙ u64_is_exact.again d.channel _ fd.0) in
    let size : (length other.message, other.message) ≡ (length d.message, d.message ++ tail)
    = same_read _ _ (sym (u32_is_exact.again (length other.message) other.message fo.1) ∙ ap u32_at (ap (λ (p : ℕ × List ℕ). p.1) channel) ∙ u32_is_exact.again (length d.message) (d.message ++ tail) fd.1) in
    let parts : other.message ≡ d.message ++ tail = ap (λ (p : ℕ × List ℕ). p.1) size in
    let none : tail ≡ [] = nil_from_length tail (omega (arith, ap (λ (p : ℕ × List ℕ). p.0) size, ap length parts, length-append d.message tail)) in
    let same : other.message ≡ d.message = parts ∙ ap (λ (t : List ℕ). d.message ++ t) none ∙ append-nil d.message in
    let made : ℕ → List ℕ → Data = λ c m. record { channel = c; message = m } in
    (ap (λ (c : ℕ). made c other.message) (ap (λ (p : ℕ × List ℕ). p.0) channel) ∙ ap (made d.channel) same, none)

module _ {P : Type 0} (bytes_of : P → List ℕ) (key_of : List ℕ → Option P) (is_value : P → Bool) (size : ℕ) (laws : KeyLaws bytes_of key_of is_value size) (cfg : PayloadConfig) where
  -- ---- what was written is read again

  pub payload_again : (p : Payload P) → Fits is_value cfg p → payload_of key_of size cfg (spelled bytes_of p) ≡ Ok p
  unfolding spelled payload_of data_of greeting_of bit_vec_of peers_of frame
  payload_again (payload.Data d) fits = rw (decode_frame-frame cfg.max_data_length (message.Data d) fits) refl
  payload_again (payload.Greeting i) fits = rw (alone (info_at key_of size) (spelled_info bytes_of) (InfoFits is_value) (info_is_exact bytes_of key_of is_value size laws) i fits) refl
  payload_again (payload.BitVec b) fits = rw (alone (bit_vec_at cfg.max_bit_vec) spelled_bit_vec (BitVecFits cfg.max_bit_vec) (bit_vec_is_exact cfg.max_bit_vec) b fits) refl
  payload_again (payload.Peers infos) fits =
      rw (alone (peers_at key_of size cfg.max_peers) (spelled_peers bytes_of key_of is_value size laws) (PeersFit bytes_of key_of is_value size laws cfg.max_peers) (peers_are_exact bytes_of key_of is_value size laws cfg.max_peers) infos fits) refl

  -- ---- nothing else is read

  abbrev Spells : List ℕ → Payload P → Type 0
  Spells bytes p = Fits is_value cfg p × (bytes ≡ spelled bytes_of p)

  data_found : (bytes : List ℕ) (p : Payload P) → AreBytes bytes → data_of cfg.max_data_length bytes ≡ Ok p → Spells bytes p
  unfolding data_of spelled frame
  data_found bytes p are e =
      let a = bound (decode_frame bytes cfg.max_data_length) data_in p e in
      let d = data_is a.0 p a.2 in
      let f = decoded_is_frame cfg.max_data_length bytes (message.Data d.0) are (a.1 ∙ ap (λ (m : Message). Ok m) d.1) in
      subst (Spells bytes) d.2 f

  greeting_found : (bytes : List ℕ) (p : Payload P) → AreBytes bytes → greeting_of key_of size bytes ≡ Ok p → Spells (1 ∷ bytes) p
  unfolding greeting_of spelled
  greeting_found bytes p are e =
      let f = read_whole (info_at key_of size) (spelled_info bytes_of) (InfoFits is_value) payload.Greeting (info_is_exact bytes_of key_of is_value size laws) bytes p are e in
      subst (Spells (1 ∷ bytes)) f.3 (f.1, ap (λ (t : List ℕ). 1 ∷ t) f.2)

  bit_vec_found : (bytes : List ℕ) (p : Payload P) → AreBytes bytes → bit_vec_of cfg.max_bit_vec bytes ≡ Ok p → Spells (2 ∷ bytes) p
  unfolding bit_vec_of spelled
  bit_vec_found bytes p are e =
      let f = read_whole (bit_vec_at cfg.max_bit_vec) spelled_bit_vec (BitVecFits cfg.max_bit_vec) payload.BitVec (bit_vec_is_exact cfg.max_bit_vec) bytes p are e in
      subst (Spells (2 ∷ bytes)) f.3 (f.1, ap (λ (t : List ℕ). 2 ∷ t) f.2)

  peers_found : (bytes : List ℕ) (p : Payload P) → AreBytes bytes → peers_of key_of size cfg.max_peers bytes ≡ Ok p → Spells (3 ∷ bytes) p
  unfolding peers_of spelled
  peers_found bytes p are e =
      let f = read_whole (peers_at key_of size cfg.max_peers) (spelled_peers bytes_of key_of is_value size laws) (PeersFit bytes_of key_of is_value size laws cfg.max_peers) payload.Peers
      (peers_are_exact bytes_of key_of is_value size laws cfg.max_peers) bytes p are e in
      subst (Spells (3 ∷ bytes)) f.3 (f.1, ap (λ (t : List ℕ). 3 ∷ t) f.2)

  of_kind : (kind n : ℕ) (bytes : List ℕ) (p : Payload P) → eqb kind n ≡ true → Spells (n ∷ bytes) p → Spells (kind ∷ bytes) p
  of_kind kind n bytes p is s = (s.0, ap (λ (k : ℕ). k ∷ bytes) (eqb-true kind n is) ∙ s.1)

  pub payload_found : (bytes : List ℕ) (p : Payload P) → AreBytes bytes → payload_of key_of size cfg bytes ≡ Ok p → Fits is_value cfg p × (bytes ≡ spelled bytes_of p)
  unfolding payload_of
  payload_found [] p are e = absurd cc
  payload_found (kind ∷ bytes) p are e =
      let rest_are : AreBytes bytes = left (kind ∷ bytes) (kind ∷ []) bytes refl are in
      let unknown : Result (Payload P) CodecError = Err (InvalidEnum kind) in
      let peers = cond (eqb kind 3) (peers_of key_of size cfg.max_peers bytes) unknown in
      let bits = cond (eqb kind 2) (bit_vec_of cfg.max_bit_vec bytes) peers in
      let greeting = cond (eqb kind 1) (greeting_of key_of size bytes) bits in
      elim (chosen (eqb kind 0) (data_of cfg.max_data_length (kind ∷ bytes)) greeting (Ok p) e) [
        | inl a ↦ data_found (kind ∷ bytes) p are a.1
        | inr a ↦
            elim (chosen (eqb kind 1) (greeting_of key_of size bytes) bits (Ok p) a.1) [
              | inl b ↦ of_kind kind 1 bytes p b.0 (greeting_found bytes p rest_are b.1)
              | inr b ↦
                  elim (chosen (eqb kind 2) (bit_vec_of cfg.max_bit_vec bytes) peers (Ok p) b.1) [
                    | inl c ↦ of_kind kind 2 bytes p c.0 (bit_vec_found bytes p rest_are c.1)
                    | inr c ↦
                        elim (chosen (eqb kind 3) (peers_of key_of size cfg.max_peers bytes) unknown (Ok p) c.1) [
                          | inl d ↦ of_kind kind 3 bytes p d.0 (peers_found bytes p rest_are d.1)
                          | inr d ↦ absurd cc (d.1)
                        ]
                  ]
            ]
      ]

  -- what was decoded is spelled so
  pub decoded_is : (bytes : List ℕ) (r : Result (Payload P) CodecError) → AreBytes bytes → Gives r (payload_of key_of size cfg bytes) → IfOk r (λ p. Fits is_value cfg p × (bytes ≡ spelled bytes_of p))
  decoded_is bytes (Ok p) are given = payload_found bytes p are given
  decoded_is bytes (Err e) are given = tt

  -- ---- no spelling begins another

  pub payload_apart : (p other : Payload P) (tail : List ℕ) → Fits is_value cfg p → Fits is_value cfg other → spelled bytes_of other ≡ spelled bytes_of p ++ tail → (other ≡ p) × (tail ≡ [])
  unfolding spelled frame
  payload_apart (payload.Data d) (payload.Greeting j) tail fp fo e = absurd cc
  payload_apart (payload.Data d) (payload.BitVec c) tail fp fo e = absurd cc
  payload_apart (payload.Data d) (payload.Peers more) tail fp fo e = absurd cc
  payload_apart (payload.Greeting i) (payload.Data other) tail fp fo e = absurd cc
  payload_apart (payload.Greeting i) (payload.BitVec c) tail fp fo e = absurd cc
  payload_apart (payload.Greeting i) (payload.Peers more) tail fp fo e = absurd cc
  payload_apart (payload.BitVec b) (payload.Data other) tail fp fo e = absurd cc
  payload_apart (payload.BitVec b) (payload.Greeting j) tail fp fo e = absurd cc
  payload_apart (payload.BitVec b) (payload.Peers more) tail fp fo e = absurd cc
  payload_apart (payload.Peers infos) (payload.Data other) tail fp fo e = absurd cc
  payload_apart (payload.Peers infos) (payload.Greeting j) tail fp fo e = absurd cc
  payload_apart (payload.Peers infos) (payload.BitVec c) tail fp fo e = absurd cc
  payload_apart (payload.Data d) (payload.Data other) tail fp fo e =
      let same = data_apart cfg.max_data_length d other tail fp fo e in
      (ap (λ (x : Data). payload.Data x) same.0, same.1)
  payload_apart (payload.Greeting i) (payload.Greeting j) tail fp fo e =
      let same = exact_apart (info_at key_of size) (spelled_info bytes_of) (InfoFits is_value) (info_is_exact bytes_of key_of is_value size laws) i j tail fp fo (rest_of e) in
      (ap (λ (x : Info P). payload.Greeting x) same.0, same.1)
  payload_apart (payload.BitVec b) (payload.BitVec c) tail fp fo e =
      let same = exact_apart (bit_vec_at cfg.max_bit_vec) spelled_bit_vec (BitVecFits cfg.max_bit_vec) (bit_vec_is_exact cfg.max_bit_vec) b c tail fp fo (rest_of e) in
      (ap (λ (x : BitVec). payload.BitVec x) same.0, same.1)
  payload_apart (payload.Peers infos) (payload.Peers more) tail fp fo e =
      let same = exact_apart (peers_at key_of size cfg.max_peers) (spelled_peers bytes_of key_of is_value size laws) (PeersFit bytes_of key_of is_value size laws cfg.max_peers)
      (peers_are_exact bytes_of key_of is_value size laws cfg.max_peers) infos more tail fp fo (rest_of e) in
      (ap (λ (x : List (Info P)). payload.Peers x) same.0, same.1)

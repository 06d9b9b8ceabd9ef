-- Infos are read again, and nothing else is read as one.
use Rattle.std.proofs.Common.{◌≡◌, ℕ, zero, suc, ◌^◌, ◌<◌, ◌≤◌, Bool, cond, ltb, List, [], ◌∷◌, ◌++◌, length, Option, Some, None, Ok, Err, refl, sym, ap, subst, ◌∙◌, append_assoc, arith, lit<, IsTrue}
use Rattle.std.specs.List.{flat_map, AllByRecursion}
use Rattle.std.proofs.lemmas.Bool.{ltb-false, le-ltb}
use Rattle.std.proofs.lemmas.List.Concat.{flat_map-cons}
use Rattle.p2p_address.specs.declared.peer.Ingress.{Ingress}
use Rattle.p2p_wire.specs.declared.error.CodecError.TheVariants.{InvalidLength}
use Rattle.p2p_wire.specs.Varint.{spelling, ◌>>=◌, u64_at, u32_at}
use Rattle.p2p_wire.proofs.Laws.{AreBytes}
use Rattle.p2p_discovery.specs.declared.info.Info.{Info}
use Rattle.p2p_discovery.specs.Spelling.{sized, spelled_ingress, spelled_info}
use Rattle.p2p_discovery.specs.Fits.{max_signature, InfoFits}
use Rattle.p2p_discovery.specs.Reading.{bytes_at, sized_at, ingress_at, key_or, key_at, info_at, infos_at, peers_at}
use Rattle.p2p_discovery.proofs.Parts.{IsExact, bound, passed, same_read, left, front_are, joined, u64_is_exact, u32_is_exact, bytes_are_exact, sized_is_exact}
use Rattle.p2p_discovery.proofs.Ingresses.{ingress_is_exact}

-- what a type of keys promises of its bytes
pub record KeyLaws {P : Type 0} (bytes_of : P → List ℕ) (key_of : List ℕ → Option P) (is_value : P → Bool) (size : ℕ) : Type 0 where
  pub have_size : (k : P) → IsTrue (is_value k) → length (bytes_of k) ≡ size
  pub give_key : (k : P) → IsTrue (is_value k) → key_of (bytes_of k) ≡ Some k
  pub has_bytes : (bytes : List ℕ) (k : P) → AreBytes bytes → key_of bytes ≡ Some k → IsTrue (is_value k) × (bytes_of k ≡ bytes)

module _ {P : Type 0} (bytes_of : P → List ℕ) (key_of : List ℕ → Option P) (is_value : P → Bool) (size : ℕ) (laws : KeyLaws bytes_of key_of is_value size) where
  key_again : (k : P) (rest : List ℕ) → IsTrue (is_value k) → key_at key_of size (bytes_of k ++ rest) ≡ Ok (k, rest)
  unfolding key_at
  key_again k rest value = rw ((bytes_are_exact size).again (bytes_of k) rest (laws.have_size k value), laws.give_key k value) refl

  key_is : (key : Option P) (rest : List ℕ) (x : P × List ℕ) → key_or key rest ≡ Ok x → (key ≡ Some x.0) × (rest ≡ x.1)
  key_is None rest x e = absurd cc
  key_is (Some k) rest x e = (ap (λ (y : P × List ℕ). Some y.0) (same_read (k, rest) x e), ap (λ (y : P × List ℕ). y.1) (same_read (k, rest) x e))

  key_found : (bytes : List ℕ) (x : P × List ℕ) → AreBytes bytes → key_at key_of size bytes ≡ Ok x → IsTrue (is_value x.0) × (bytes ≡ bytes_of x.0 ++ x.1)
  unfolding key_at
  key_found bytes x are e =
      let a = bound (bytes_at size bytes) (λ key. key_or (key_of key.0) key.1) x e in
      let run = (bytes_are_exact size).found bytes a.0 are a.1 in
      let key = key_is (key_of a.0.0) a.0.1 x a.2 in
      let law = laws.has_bytes a.0.0 x.0 (front_are bytes a.0.0 a.0.1 run.1 are) key.0 in
      (law.0, run.1 ∙ ap (λ (t : List ℕ). t ++ a.0.1) (sym law.1) ∙ ap (λ (t : List ℕ). bytes_of x.0 ++ t) key.1)

  -- ---- one info

  info_again : (i : Info P) (rest : List ℕ) → InfoFits is_value i → info_at key_of size (spelled_info bytes_of i ++ rest) ≡ Ok (i, rest)
  unfolding info_at spelled_info
  info_again i rest fits =
      let key : List ℕ = bytes_of i.public_key in
      let last : List ℕ = sized i.signature ++ rest in
      let regrouped : spelled_info bytes_of i ++ rest ≡ spelled_ingress i.ingress ++ (spelling i.timestamp ++ (key ++ last))
      = append_assoc (spelled_ingress i.ingress) (spelling i.timestamp ++ (key ++ sized i.signature)) rest
      ∙ ap (λ (t : List ℕ). spelled_ingress i.ingress ++ t) (append_assoc (spelling i.timestamp) (key ++ sized i.signature) rest ∙ ap (λ (t : List ℕ). spelling i.timestamp ++ t) (append_assoc key (sized i.signature) rest)) in
      ap (info_at key_of size) regrouped
      ∙ rw (
        ingress_is_exact.again i.ingress (spelling i.timestamp ++ (key ++ last)) fits.ingress,
        u64_is_exact.again i.timestamp (key ++ last) fits.timestamp,
        key_again i.public_key last fits.public_key,
        (sized_is_exact max_signature (lit< tt)).again i.signature rest fits.signature,
      ) refl

  info_found : (bytes : List ℕ) (x : Info P × List ℕ) → AreBytes bytes → info_at key_of size bytes ≡ Ok x → InfoFits is_value x.0 × (bytes ≡ spelled_info bytes_of x.0 ++ x.1)
  unfolding info_at spelled_info
  info_found bytes x are e =
      let made : Ingress → ℕ → P → List ℕ → Info P = λ i t k s. record { ingress = i; timestamp = t; public_key = k; signature = s } in
      let a = bound (ingress_at bytes) (λ i. u64_at i.1 >>= λ t. key_at key_of size t.1 >>= λ k. sized_at max_signature k.1 >>= λ s. Ok (made i.0 t.0 k.0 s.0, s.1)) x e in
      let b = bound (u64_at a.0.1) (λ t. key_at key_of size t.1 >>= λ k. sized_at max_signature k.1 >>= λ s. Ok (made a.0.0 t.0 k.0 s.0, s.1)) x a.2 in
      let c = bound (key_at key_of size b.0.1) (λ k. sized_at max_signature k.1 >>= λ s. Ok (made a.0.0 b.0.0 k.0 s.0, s.1)) x b.2 in
      let d = bound (sized_at max_signature c.0.1) (λ s. Ok (made a.0.0 b.0.0 c.0.0 s.0, s.1)) x c.2 in
      let ingress = ingress_is_exact.found bytes a.0 are a.1 in
      let after_ingress = left bytes (spelled_ingress a.0.0) a.0.1 ingress.1 are in
      let timestamp = u64_is_exact.found a.0.1 b.0 after_ingress b.1 in
      let after_timestamp = left a.0.1 (spelling b.0.0) b.0.1 timestamp.1 after_ingress in
      let key = key_found b.0.1 c.0 after_timestamp c.1 in
      let signature = (sized_is_exact max_signature (lit< tt)).found c.0.1 d.0 (left b.0.1 (bytes_of c.0.0) c.0.1 key.1 after_timestamp) d.1 in
      let last = joined b.0.1 (bytes_of c.0.0) (sized d.0.0) c.0.1 d.0.1 key.1 signature.1 in
      let more = joined a.0.1 (spelling b.0.0) (bytes_of c.0.0 ++ sized d.0.0) b.0.1 d.0.1 timestamp.1 last in
      subst (λ (y : Info P × List ℕ). InfoFits is_value y.0 × (bytes ≡ spelled_info bytes_of y.0 ++ y.1)) (same_read (made a.0.0 b.0.0 c.0.0 d.0.0, d.0.1) x d.2) (
        record { ingress = ingress.0; timestamp = timestamp.0; public_key = key.0; signature = signature.0 },
        joined bytes (spelled_ingress a.0.0) (spelling b.0.0 ++ (bytes_of c.0.0 ++ sized d.0.0)) a.0.1 d.0.1 ingress.1 more,
      )

  pub info_is_exact : IsExact (info_at key_of size) (spelled_info bytes_of) (InfoFits is_value)
  info_is_exact = record { again = info_again; found = info_found }

  -- ---- several

  infos_again : (infos : List (Info P)) (rest : List ℕ) → AllByRecursion (InfoFits is_value) infos
      → infos_at key_of size (length infos) (flat_map (spelled_info bytes_of) infos ++ rest) ≡ Ok (infos, rest)
  unfolding infos_at
  infos_again [] rest fits = refl
  infos_again (i ∷ infos) rest fits =
      let others : List ℕ = flat_map (spelled_info bytes_of) infos in
      let regrouped : flat_map (spelled_info bytes_of) (i ∷ infos) ++ rest ≡ spelled_info bytes_of i ++ (others ++ rest)
      = ap (λ (t : List ℕ). t ++ rest) (flat_map-cons (spelled_info bytes_of) i infos) ∙ append_assoc (spelled_info bytes_of i) others rest in
      ap (infos_at key_of size (suc (length infos))) regrouped ∙ rw (info_again i (others ++ rest) fits.0, infos_again infos rest fits.1) refl

  infos_found : (count : ℕ) (bytes : List ℕ) (x : List (Info P) × List ℕ) → AreBytes bytes → infos_at key_of size count bytes ≡ Ok x
      → ((length x.0 ≡ count) × AllByRecursion (InfoFits is_value) x.0) × (bytes ≡ flat_map (spelled_info bytes_of) x.0 ++ x.1)
  unfolding infos_at
  infos_found zero bytes x are e =
      subst (λ (y : List (Info P) × List ℕ). ((length y.0 ≡ 0) × AllByRecursion (InfoFits is_value) y.0) × (bytes ≡ flat_map (spelled_info bytes_of) y.0 ++ y.1)) (same_read ([], bytes) x e) ((refl, tt), refl)
  infos_found (suc count) bytes x are e =
      let a = bound (info_at key_of size bytes) (λ first. infos_at key_of size count first.1 >>= λ others. Ok (first.0 ∷ others.0, others.1)) x e in
      let b = bound (infos_at key_of size count a.0.1) (λ others. Ok (a.0.0 ∷ others.0, others.1)) x a.2 in
      let first = info_found bytes a.0 are a.1 in
      let others = infos_found count a.0.1 b.0 (left bytes (spelled_info bytes_of a.0.0) a.0.1 first.1 are) b.1 in
      let made : List (Info P) × List ℕ = (a.0.0 ∷ b.0.0, b.0.1) in
      subst (λ (y : List (Info P) × List ℕ). ((length y.0 ≡ suc count) × AllByRecursion (InfoFits is_value) y.0) × (bytes ≡ flat_map (spelled_info bytes_of) y.0 ++ y.1)) (same_read made x b.2)
      ((ap suc others.0.0, (first.0, others.0.1)), rw flat_map-cons (joined bytes (spelled_info bytes_of a.0.0) (flat_map (spelled_info bytes_of) b.0.0) a.0.1 b.0.1 first.1 others.1))

  -- ---- the list of a payload

  abbrev pub spelled_peers : List (Info P) → List ℕ
  spelled_peers infos = spelling (length infos) ++ flat_map (spelled_info bytes_of) infos

  abbrev pub PeersFit : ℕ → List (Info P) → Type 0
  PeersFit limit infos = (length infos < 2 ^ 32) × (length infos ≤ limit) × AllByRecursion (InfoFits is_value) infos

  peers_again : (limit : ℕ) (infos : List (Info P)) (rest : List ℕ) → PeersFit limit infos → peers_at key_of size limit (spelled_peers infos ++ rest) ≡ Ok (infos, rest)
  unfolding peers_at
  peers_again limit infos rest fits =
      let others : List ℕ = flat_map (spelled_info bytes_of) infos in
      ap (peers_at key_of size limit) (append_assoc (spelling (length infos)) others rest)
      ∙ rw (u32_is_exact.again (length infos) (others ++ rest) fits.0, le-ltb limit (length infos) fits.1) (infos_again infos rest fits.2)

  peers_found : (limit : ℕ) (bytes : List ℕ) (x : List (Info P) × List ℕ) → AreBytes bytes → peers_at key_of size limit bytes ≡ Ok x → PeersFit limit x.0 × (bytes ≡ spelled_peers x.0 ++ x.1)
  unfolding peers_at
  peers_found limit bytes x are e =
      let a = bound (u32_at bytes) (λ count. cond (ltb limit count.0) (Err (InvalidLength count.0)) (infos_at key_of size count.0 count.1)) x e in
      let p = passed (ltb limit a.0.0) (InvalidLength a.0.0) (infos_at key_of size a.0.0 a.0.1) x a.2 in
      let count = u32_is_exact.found bytes a.0 are a.1 in
      let infos = infos_found a.0.0 a.0.1 x (left bytes (spelling a.0.0) a.0.1 count.1 are) p.1 in
      let within : a.0.0 ≤ limit = ltb-false _ _ p.0 in
      let parts = joined bytes (spelling a.0.0) (flat_map (spelled_info bytes_of) x.0) a.0.1 x.1 count.1 infos.1 in
      ((omega (arith, count.0, infos.0.0), omega (arith, within, infos.0.0), infos.0.1), parts ∙ ap (λ (k : ℕ). (spelling k ++ flat_map (spelled_info bytes_of) x.0) ++ x.1) (sym infos.0.0))

  pub peers_are_exact : (limit : ℕ) → IsExact (peers_at key_of size limit) spelled_peers (PeersFit limit)
  peers_are_exact limit = record { again = peers_again limit; found = peers_found limit }

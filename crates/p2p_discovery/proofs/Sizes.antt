-- How long the spellings are at most.
use Rattle.std.proofs.Common.{◌≡◌, ℕ, suc, ◌+◌, ◌*◌, ◌/◌, ◌%◌, ◌≤◌, Bool, List, [], ◌∷◌, ◌++◌, length, sym, ap, subst, ◌∙◌, arith, inl, inr, lit≤, IsTrue}
use Rattle.std.specs.List.{flat_map, AllByRecursion}
use Rattle.std.specs.Int.{w16, to_be_bytes}
use Rattle.std.proofs.lemmas.Bool.{cases_lt, eq-eqb, ne_eqb}
use Rattle.std.proofs.lemmas.List.{length-append}
use Rattle.std.proofs.Math.Nat.{mul-le-mul_right, suc-mul}
use Rattle.std.proofs.lemmas.List.Concat.{flat_map-cons}
use Rattle.p2p_address.specs.declared.ip.IpAddr.{IpAddr}
use Rattle.p2p_address.specs.declared.ip.IpAddr.TheVariants.{V4, V6}
use Rattle.p2p_address.specs.declared.peer.Ingress.{Ingress}
use Rattle.p2p_address.specs.declared.peer.Ingress.TheVariants.{Socket, Dns}
use Rattle.p2p_wire.specs.Varint.{spelling}
use Rattle.p2p_wire.proofs.Spellings.{spelling_len}
use Rattle.p2p_discovery.specs.declared.bit_vec.BitVec.{BitVec}
use Rattle.p2p_discovery.specs.declared.config.PayloadConfig.{PayloadConfig}
use Rattle.p2p_discovery.specs.declared.info.Info.{Info}
use Rattle.p2p_discovery.specs.declared.payload.Payload.{Payload}
use Rattle.p2p_discovery.specs.declared.payload.Payload.TheVariants as payload
use Rattle.p2p_discovery.specs.Spelling.{sized, spelled_ip, spelled_ingress, byte_count, packed, spelled_bit_vec, spelled_info, spelled}
use Rattle.p2p_discovery.specs.Fits.{IpFits, IngressFits, InfoFits, BitVecFits, Fits}
use Rattle.p2p_discovery.specs.GossipSize.{gossip_size, IsGossip}
use Rattle.p2p_discovery.proofs.Bits.{length-packed_in}

suc_times : (n k : ℕ) → suc n * k ≡ k + n * k
suc_times n k = rw suc-mul (omega arith)

-- ---- parts

-- a run of at most 253 bytes, with how many there are
sized_len : (bytes : List ℕ) → length bytes ≤ 253 → length (sized bytes) ≤ length bytes + 2
sized_len bytes few =
    let number = spelling_len 128 1 (length bytes) (lit≤ tt) (omega arith) in
    omega (arith, length-append (spelling (length bytes)) bytes)

ip_len : (ip : IpAddr) → IpFits ip → length (spelled_ip ip) ≤ 17
ip_len (V4 bytes) len = omega arith
ip_len (V6 bytes) len = omega arith

ingress_len : (i : Ingress) → IngressFits i → length (spelled_ingress i) ≤ 258
unfolding spelled_ingress
ingress_len (Socket s) fits =
    let ip = ip_len s.ip fits.0 in
    omega (arith, length-append (spelled_ip s.ip) (to_be_bytes w16 s.port))
ingress_len (Dns host port) fits =
    let name = sized_len host fits.0 in
    omega (arith, fits.0, length-append (sized host) (to_be_bytes w16 port))

-- ---- bit vectors

byte_count-is : (count : ℕ) → byte_count count ≡ (count + 7) / 8
byte_count-is count =
    elim (cases_lt (count % 8) 1) [
      | inl none ↦ rw (eq-eqb (count % 8) 0 (omega arith)) (omega arith)
      | inr some ↦ rw (ne_eqb (count % 8) 0 (λ e. omega arith)) (omega arith)
    ]

byte_count-le : (a b : ℕ) → a ≤ b → byte_count a ≤ byte_count b
byte_count-le a b h = omega (arith, byte_count-is a, byte_count-is b)

bit_vec_len : (limit : ℕ) (b : BitVec) → BitVecFits limit b → length (spelled_bit_vec b) ≤ 20 + byte_count limit
bit_vec_len limit b fits =
    let index = spelling_len 2 9 b.index (lit≤ tt) fits.0 in
    let count = spelling_len 2 9 (length b.bits) (lit≤ tt) fits.1 in
    let bits : length (packed b.bits) ≤ byte_count limit = subst (λ (k : ℕ). k ≤ byte_count limit) (sym (length-packed_in (byte_count (length b.bits)) b.bits)) (byte_count-le (length b.bits) limit fits.2) in
    omega (arith, length-append (spelling b.index) (spelling (length b.bits) ++ packed b.bits), length-append (spelling (length b.bits)) (packed b.bits))

module _ {P : Type 0} (bytes_of : P → List ℕ) (is_value : P → Bool) (size : ℕ) (have_size : (k : P) → IsTrue (is_value k) → length (bytes_of k) ≡ size) where
  -- ---- infos

  info_len : (i : Info P) → InfoFits is_value i → length (spelled_info bytes_of i) ≤ 398 + size
  unfolding spelled_info
  info_len i fits =
      let ingress = ingress_len i.ingress fits.ingress in
      let timestamp = spelling_len 2 9 i.timestamp (lit≤ tt) fits.timestamp in
      let key = have_size i.public_key fits.public_key in
      let within : length i.signature ≤ 128 = fits.signature in
      let signature = sized_len i.signature (omega arith) in
      omega (
        arith,
        length-append (spelled_ingress i.ingress) (spelling i.timestamp ++ (bytes_of i.public_key ++ sized i.signature)),
        length-append (spelling i.timestamp) (bytes_of i.public_key ++ sized i.signature),
        length-append (bytes_of i.public_key) (sized i.signature),
      )

  infos_len : (infos : List (Info P)) → AllByRecursion (InfoFits is_value) infos → length (flat_map (spelled_info bytes_of) infos) ≤ length infos * (398 + size)
  infos_len [] fits = omega arith
  infos_len (i ∷ infos) fits =
      let first = info_len i fits.0 in
      let others = infos_len infos fits.1 in
      let parts : length (flat_map (spelled_info bytes_of) (i ∷ infos)) ≡ length (spelled_info bytes_of i) + length (flat_map (spelled_info bytes_of) infos)
      = ap length (flat_map-cons (spelled_info bytes_of) i infos) ∙ length-append (spelled_info bytes_of i) (flat_map (spelled_info bytes_of) infos) in
      omega (arith, parts, suc_times (length infos) (398 + size))

  -- ---- payloads

  pub gossip_len : (cfg : PayloadConfig) (p : Payload P) → Fits is_value cfg p → IsGossip p → length (spelled bytes_of p) ≤ gossip_size size cfg.max_bit_vec cfg.max_peers
  unfolding spelled
  gossip_len cfg (payload.Data d) fits is = absurd is
  gossip_len cfg (payload.Greeting i) fits is =
      let info = info_len i fits in
      omega arith
  gossip_len cfg (payload.BitVec b) fits is =
      let bits = bit_vec_len cfg.max_bit_vec b fits in
      omega arith
  gossip_len cfg (payload.Peers infos) fits is =
      let count = spelling_len 16 4 (length infos) (lit≤ tt) fits.0 in
      let each = infos_len infos fits.2 in
      let most : length infos * (398 + size) ≤ cfg.max_peers * (398 + size) = mul-le-mul_right (398 + size) fits.1 in
      omega (arith, length-append (spelling (length infos)) (flat_map (spelled_info bytes_of) infos))

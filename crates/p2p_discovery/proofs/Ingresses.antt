-- Ingresses are read again, and nothing else is read as one.
use Rattle.std.proofs.Common.{◌≡◌, ℕ, ◌^◌, ◌<◌, ◌≤◌, cond, eqb, List, [], ◌∷◌, ◌++◌, length, Result, Ok, Err, refl, sym, ap, subst, ◌∙◌, append_assoc, arith, inl, inr, lit<, IsTrue}
use Rattle.std.specs.Int.{w16, to_be_bytes, from_be_bytes}
use Rattle.std.specs.Str.{is_utf8}
use Rattle.std.proofs.lemmas.Bool.{eqb-true}
use Rattle.std.proofs.lemmas.Nat.{be_bytes_2, from_be_bytes-to_be_bytes_2}
use Rattle.p2p_address.specs.declared.ip.IpAddr.{IpAddr}
use Rattle.p2p_address.specs.declared.ip.IpAddr.TheVariants.{V4, V6}
use Rattle.p2p_address.specs.declared.ip.SocketAddr.{SocketAddr}
use Rattle.p2p_address.specs.declared.peer.Ingress.{Ingress}
use Rattle.p2p_address.specs.declared.peer.Ingress.TheVariants.{Socket, Dns}
use Rattle.p2p_wire.specs.declared.error.CodecError.{CodecError}
use Rattle.p2p_wire.specs.declared.error.CodecError.TheVariants.{InvalidEnum}
use Rattle.p2p_wire.specs.Varint.{◌>>=◌}
use Rattle.p2p_wire.proofs.Laws.{AreBytes}
use Rattle.p2p_discovery.specs.Spelling.{sized, spelled_ip, spelled_ingress}
use Rattle.p2p_discovery.specs.Fits.{max_host, IpFits, IngressFits}
use Rattle.p2p_discovery.specs.Reading.{bytes_at, sized_at, ip_at, port_at, socket_at, host_at, name_at, ingress_at}
use Rattle.p2p_discovery.proofs.Parts.{IsExact, bound, chosen, same_read, left, front_are, joined, bytes_are_exact, sized_is_exact}

-- ---- ports

port_again : (port : ℕ) (rest : List ℕ) → port < 2 ^ 16 → port_at (to_be_bytes w16 port ++ rest) ≡ Ok (port, rest)
unfolding port_at
port_again port rest below =
    rw ((bytes_are_exact 2).again (to_be_bytes w16 port) rest refl, from_be_bytes-to_be_bytes_2 port below) refl

two_below : (bytes : List ℕ) → AreBytes bytes → from_be_bytes w16 bytes < 2 ^ 16
two_below bytes are = omega (arith, are 0, are 1)

port_found : (bytes : List ℕ) (x : ℕ × List ℕ) → AreBytes bytes → port_at bytes ≡ Ok x → (x.0 < 2 ^ 16) × (bytes ≡ to_be_bytes w16 x.0 ++ x.1)
unfolding port_at
port_found bytes x are e =
    let a = bound (bytes_at 2 bytes) (λ port. Ok (from_be_bytes w16 port.0, port.1)) x e in
    let run = (bytes_are_exact 2).found bytes a.0 are a.1 in
    let two = front_are bytes a.0.0 a.0.1 run.1 are in
    let back : to_be_bytes w16 (from_be_bytes w16 a.0.0) ≡ a.0.0 = be_bytes_2 a.0.0 _ run.0 two refl in
    subst (λ (y : ℕ × List ℕ). (y.0 < 2 ^ 16) × (bytes ≡ to_be_bytes w16 y.0 ++ y.1)) (same_read (from_be_bytes w16 a.0.0, a.0.1) x a.2)
    (two_below a.0.0 two, run.1 ∙ ap (λ (front : List ℕ). front ++ a.0.1) (sym back))

pub port_is_exact : IsExact port_at (to_be_bytes w16) (λ port. port < 2 ^ 16)
port_is_exact = record { again = port_again; found = port_found }

-- ---- addresses

ip_again : (ip : IpAddr) (rest : List ℕ) → IpFits ip → ip_at (spelled_ip ip ++ rest) ≡ Ok (ip, rest)
unfolding ip_at
ip_again (V4 bytes) rest len = rw ((bytes_are_exact 4).again bytes rest len) refl
ip_again (V6 bytes) rest len = rw ((bytes_are_exact 16).again bytes rest len) refl

ip_found : (bytes : List ℕ) (x : IpAddr × List ℕ) → AreBytes bytes → ip_at bytes ≡ Ok x → IpFits x.0 × (bytes ≡ spelled_ip x.0 ++ x.1)
unfolding ip_at
ip_found [] x are e = absurd cc
ip_found (version ∷ bytes) x are e =
    let rest_are : AreBytes bytes = left (version ∷ bytes) (version ∷ []) bytes refl are in
    let v4 : List ℕ × List ℕ → Result (IpAddr × List ℕ) CodecError = λ a. Ok (V4 a.0, a.1) in
    let v6 : List ℕ × List ℕ → Result (IpAddr × List ℕ) CodecError = λ a. Ok (V6 a.0, a.1) in
    let others = cond (eqb version 6) (bytes_at 16 bytes >>= v6) (Err (InvalidEnum version)) in
    elim (chosen (eqb version 4) (bytes_at 4 bytes >>= v4) others (Ok x) e) [
      | inl p ↦
          let a = bound (bytes_at 4 bytes) v4 x p.1 in
          let run = (bytes_are_exact 4).found bytes a.0 rest_are a.1 in
          subst (λ (y : IpAddr × List ℕ). IpFits y.0 × (version ∷ bytes ≡ spelled_ip y.0 ++ y.1)) (same_read (V4 a.0.0, a.0.1) x a.2)
          (run.0, ap (λ (v : ℕ). v ∷ bytes) (eqb-true version 4 p.0) ∙ ap (λ (t : List ℕ). 4 ∷ t) run.1)
      | inr p ↦
          elim (chosen (eqb version 6) (bytes_at 16 bytes >>= v6) (Err (InvalidEnum version)) (Ok x) p.1) [
            | inl q ↦
                let a = bound (bytes_at 16 bytes) v6 x q.1 in
                let run = (bytes_are_exact 16).found bytes a.0 rest_are a.1 in
                subst (λ (y : IpAddr × List ℕ). IpFits y.0 × (version ∷ bytes ≡ spelled_ip y.0 ++ y.1)) (same_read (V6 a.0.0, a.0.1) x a.2)
                (run.0, ap (λ (v : ℕ). v ∷ bytes) (eqb-true version 6 q.0) ∙ ap (λ (t : List ℕ). 6 ∷ t) run.1)
            | inr q ↦ absurd cc (q.1)
          ]
    ]

pub ip_is_exact : IsExact ip_at spelled_ip IpFits
ip_is_exact = record { again = ip_again; found = ip_found }

-- ---- sockets and names, after the byte that tells them apart

socket_again : (s : SocketAddr) (rest : List ℕ) → IpFits s.ip → s.port < 2 ^ 16 → socket_at ((spelled_ip s.ip ++ to_be_bytes w16 s.port) ++ rest) ≡ Ok (Socket s, rest)
unfolding socket_at
socket_again s rest ip port =
    ap socket_at (append_assoc (spelled_ip s.ip) (to_be_bytes w16 s.port) rest)
    ∙ rw (ip_is_exact.again s.ip (to_be_bytes w16 s.port ++ rest) ip, port_is_exact.again s.port rest port) refl

socket_found : (bytes : List ℕ) (x : Ingress × List ℕ) → AreBytes bytes → socket_at bytes ≡ Ok x → IngressFits x.0 × (0 ∷ bytes ≡ spelled_ingress x.0 ++ x.1)
unfolding socket_at spelled_ingress
socket_found bytes x are e =
    let a = bound (ip_at bytes) (λ ip. port_at ip.1 >>= λ port. Ok (Socket (record { ip = ip.0; port = port.0 }), port.1)) x e in
    let b = bound (port_at a.0.1) (λ port. Ok (Socket (record { ip = a.0.0; port = port.0 }), port.1)) x a.2 in
    let ip = ip_is_exact.found bytes a.0 are a.1 in
    let port = port_is_exact.found a.0.1 b.0 (left bytes (spelled_ip a.0.0) a.0.1 ip.1 are) b.1 in
    let made : Ingress × List ℕ = (Socket (record { ip = a.0.0; port = b.0.0 }), b.0.1) in
    subst (λ (y : Ingress × List ℕ). IngressFits y.0 × (0 ∷ bytes ≡ spelled_ingress y.0 ++ y.1)) (same_read made x b.2)
    ((ip.0, port.0), ap (λ (t : List ℕ). 0 ∷ t) (joined bytes (spelled_ip a.0.0) (to_be_bytes w16 b.0.0) a.0.1 b.0.1 ip.1 port.1))

host_again : (host rest : List ℕ) → length host ≤ max_host → IsTrue (is_utf8 host) → host_at (sized host ++ rest) ≡ Ok (host, rest)
unfolding host_at
host_again host rest within text =
    rw ((sized_is_exact max_host (lit< tt)).again host rest within, text) refl

host_found : (bytes : List ℕ) (x : List ℕ × List ℕ) → AreBytes bytes → host_at bytes ≡ Ok x → ((length x.0 ≤ max_host) × IsTrue (is_utf8 x.0)) × (bytes ≡ sized x.0 ++ x.1)
unfolding host_at
host_found bytes x are e =
    let a = bound (sized_at max_host bytes) (λ host. cond (is_utf8 host.0) (Ok host) (Err (InvalidEnum 1))) x e in
    let run = (sized_is_exact max_host (lit< tt)).found bytes a.0 are a.1 in
    elim (chosen (is_utf8 a.0.0) (Ok a.0) (Err (InvalidEnum 1)) (Ok x) a.2) [
      | inl p ↦ subst (λ (y : List ℕ × List ℕ). ((length y.0 ≤ max_host) × IsTrue (is_utf8 y.0)) × (bytes ≡ sized y.0 ++ y.1)) (same_read a.0 x p.1) ((run.0, p.0), run.1)
      | inr p ↦ absurd cc (p.1)
    ]

name_again : (host : List ℕ) (port : ℕ) (rest : List ℕ) → length host ≤ max_host → IsTrue (is_utf8 host) → port < 2 ^ 16
    → name_at ((sized host ++ to_be_bytes w16 port) ++ rest) ≡ Ok (Dns host port, rest)
unfolding name_at
name_again host port rest within text below =
    ap name_at (append_assoc (sized host) (to_be_bytes w16 port) rest)
    ∙ rw (host_again host (to_be_bytes w16 port ++ rest) within text, port_is_exact.again port rest below) refl

name_found : (bytes : List ℕ) (x : Ingress × List ℕ) → AreBytes bytes → name_at bytes ≡ Ok x → IngressFits x.0 × (1 ∷ bytes ≡ spelled_ingress x.0 ++ x.1)
unfolding name_at spelled_ingress
name_found bytes x are e =
    let a = bound (host_at bytes) (λ host. port_at host.1 >>= λ port. Ok (Dns host.0 port.0, port.1)) x e in
    let b = bound (port_at a.0.1) (λ port. Ok (Dns a.0.0 port.0, port.1)) x a.2 in
    let host = host_found bytes a.0 are a.1 in
    let port = port_is_exact.found a.0.1 b.0 (left bytes (sized a.0.0) a.0.1 host.1 are) b.1 in
    let made : Ingress × List ℕ = (Dns a.0.0 b.0.0, b.0.1) in
    subst (λ (y : Ingress × List ℕ). IngressFits y.0 × (1 ∷ bytes ≡ spelled_ingress y.0 ++ y.1)) (same_read made x b.2)
    ((host.0.0, host.0.1, port.0), ap (λ (t : List ℕ). 1 ∷ t) (joined bytes (sized a.0.0) (to_be_bytes w16 b.0.0) a.0.1 b.0.1 host.1 port.1))

-- ---- ingresses

ingress_again : (i : Ingress) (rest : List ℕ) → IngressFits i → ingress_at (spelled_ingress i ++ rest) ≡ Ok (i, rest)
unfolding ingress_at spelled_ingress
ingress_again (Socket s) rest fits = socket_again s rest fits.0 fits.1
ingress_again (Dns host port) rest fits = name_again host port rest fits.0 fits.1 fits.2

ingress_found : (bytes : List ℕ) (x : Ingress × List ℕ) → AreBytes bytes → ingress_at bytes ≡ Ok x → IngressFits x.0 × (bytes ≡ spelled_ingress x.0 ++ x.1)
unfolding ingress_at
ingress_found [] x are e = absurd cc
ingress_found (kind ∷ bytes) x are e =
    let rest_are : AreBytes bytes = left (kind ∷ bytes) (kind ∷ []) bytes refl are in
    let others = cond (eqb kind 1) (name_at bytes) (Err (InvalidEnum kind)) in
    elim (chosen (eqb kind 0) (socket_at bytes) others (Ok x) e) [
      | inl p ↦
          let found = socket_found bytes x rest_are p.1 in
          (found.0, ap (λ (k : ℕ). k ∷ bytes) (eqb-true kind 0 p.0) ∙ found.1)
      | inr p ↦
          elim (chosen (eqb kind 1) (name_at bytes) (Err (InvalidEnum kind)) (Ok x) p.1) [
            | inl q ↦
                let found = name_found bytes x rest_are q.1 in
                (found.0, ap (λ (k : ℕ). k ∷ bytes) (eqb-true kind 1 q.0) ∙ found.1)
            | inr q ↦ absurd cc (q.1)
          ]
    ]

pub ingress_is_exact : IsExact ingress_at spelled_ingress IngressFits
ingress_is_exact = record { again = ingress_again; found = ingress_found }

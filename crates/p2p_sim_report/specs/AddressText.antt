-- The text of addresses, and of where a peer is dialed.
use Rattle.std.specs.Prelude.{ℕ, List, ◌++◌, codes}
use Rattle.serde_json.specs.Data.{string}
use Rattle.serde_json.specs.Written.{compact_text}
use Rattle.p2p_address.specs.declared.ip.IpAddr.{IpAddr}
use Rattle.p2p_address.specs.declared.ip.IpAddr.TheVariants as ip
use Rattle.p2p_address.specs.declared.ip.SocketAddr.{SocketAddr}
use Rattle.p2p_address.specs.declared.peer.Ingress.{Ingress}
use Rattle.p2p_address.specs.declared.peer.Ingress.TheVariants as ingress
use Rattle.p2p_sim_report.specs.Text.{number_onto, list_onto}

-- a text as JSON has it, in quotes
abbrev pub text_onto : List ℕ → List ℕ → List ℕ
text_onto out text = out ++ compact_text (string text)

abbrev pub ip_onto : List ℕ → IpAddr → List ℕ
ip_onto out (ip.V4 bytes) = list_onto number_onto out bytes
ip_onto out (ip.V6 bytes) = list_onto number_onto out bytes

abbrev pub socket_onto : List ℕ → SocketAddr → List ℕ
socket_onto out s = number_onto (ip_onto (out ++ codes "{\"ip\":") s.ip ++ codes ",\"port\":") s.port ++ codes "}"

abbrev pub dns_onto : List ℕ → List ℕ → ℕ → List ℕ
dns_onto out host port = number_onto (text_onto (out ++ codes "{\"host\":") host ++ codes ",\"port\":") port ++ codes "}"

abbrev pub ingress_onto : List ℕ → Ingress → List ℕ
ingress_onto out (ingress.Socket s) = socket_onto out s
ingress_onto out (ingress.Dns host port) = dns_onto out host port

-- The forms of addresses, and of peers with theirs.
use Rattle.std.specs.Prelude.{ℕ, not, ◌==◌, ◌-◌, ◌^◌, List, [], ◌∷◌, length, Option, Some, None, if◌then◌else◌}
use Rattle.serde_json.specs.Data.{Data, Items, no_items, item}
use Rattle.serde_json.specs.Find.{as_str, as_array}
use Rattle.p2p_base.specs.Sorted.{sorted_once, has_repeat, by_key}
use Rattle.p2p_base.specs.declared.key.Key.{Key}
use Rattle.p2p_address.specs.declared.ip.IpAddr.{IpAddr}
use Rattle.p2p_address.specs.declared.ip.IpAddr.TheVariants as ip
use Rattle.p2p_address.specs.declared.ip.SocketAddr.{SocketAddr}
use Rattle.p2p_address.specs.declared.peer.Ingress.{Ingress}
use Rattle.p2p_address.specs.declared.peer.Ingress.TheVariants as ingress
use Rattle.p2p_address.specs.declared.peer.Address.{Address}
use Rattle.p2p_address.specs.declared.peer.Address.TheVariants as address
pub use Rattle.p2p_log.specs.Keys.{key_cmp}
use Rattle.p2p_sim_script.specs.Tree.{◌>>=◌, ◌>>◌, field, only, within, list_of}
use Rattle.p2p_sim_script.specs.Parts.{key_of}

-- ---- where there is something to dial

abbrev pub byte_of : Data → Option ℕ
byte_of d = within 0 255 d

abbrev pub port_of : Data → Option ℕ
port_of d = within 0 (2 ^ 16 - 1) d

-- 4 bytes, or 16
abbrev pub ip_with : List ℕ → Option IpAddr
ip_with bytes =
    if length bytes == 4 then Some (ip.V4 bytes)
    else if length bytes == 16 then Some (ip.V6 bytes)
    else None

abbrev pub ip_of : Data → Option IpAddr
ip_of d = do
  bytes ← list_of byte_of d
  ip_with bytes

abbrev pub socket_of : Data → Option SocketAddr
socket_of d = do
  only ("ip" ∷ "port" ∷ []) d
  ip ← field "ip" ip_of d
  port ← field "port" port_of d
  Some (record { ip = ip; port = port })

-- a name that is looked up, and a port
abbrev pub dns_of : Data → Option Ingress
dns_of d = do
  only ("host" ∷ "port" ∷ []) d
  host ← field "host" as_str d
  port ← field "port" port_of d
  Some (ingress.Dns host port)

abbrev pub ingress_of : Data → Option Ingress
ingress_of d = elim (socket_of d) [ Some socket ↦ Some (ingress.Socket socket) | None ↦ dns_of d ]

-- ---- a peer's address: one for both ways, or one for each

abbrev pub symmetric_of : Data → Option Address
symmetric_of d = do
  only ("symmetric" ∷ []) d
  socket ← field "symmetric" socket_of d
  Some (address.Symmetric socket)

abbrev pub asymmetric_of : Data → Option Address
asymmetric_of d = do
  only ("egress" ∷ "ingress" ∷ []) d
  egress ← field "egress" socket_of d
  ingress ← field "ingress" ingress_of d
  Some (address.Asymmetric ingress egress)

abbrev pub address_of : Data → Option Address
address_of d = elim (symmetric_of d) [ Some a ↦ Some a | None ↦ asymmetric_of d ]

-- ---- peers: [[key,address],..]

abbrev pub pair_with : Data → Data → Option (Key × Address)
pair_with k a = do
  key ← key_of k
  address ← address_of a
  Some (key, address)

abbrev pub pair_in : Items → Option (Key × Address)
pair_in (item k (item a no_items)) = pair_with k a
pair_in _ = None

abbrev pub pair_of : Data → Option (Key × Address)
pair_of d = do
  ds ← as_array d
  pair_in ds

-- the pairs in the order of their keys, of which none repeats
abbrev pub peers_of : Data → Option (List (Key × Address))
peers_of d = do
  pairs ← list_of pair_of d
  not (has_repeat (by_key key_cmp) pairs)
  Some (sorted_once (by_key key_cmp) pairs)

-- The text of what a node's tracker is asked, of what it answers, of what attempts and handshakes are told, of what listeners take, and of
-- what spawners are to make.
use Rattle.std.specs.Prelude.{ℕ, Bool, List, ◌++◌, codes, Option, Some, None, is_some}
use Rattle.p2p_base.specs.declared.key.Key.{Key}
use Rattle.p2p_address.specs.declared.ip.SocketAddr.{SocketAddr}
use Rattle.p2p_address.specs.declared.peer.Ingress.{Ingress}
use Rattle.p2p_sim_report.specs.Text.{number_onto, flag_onto, key_onto, list_onto}
use Rattle.p2p_sim_report.specs.AddressText.{socket_onto, ingress_onto}

-- ---- what it is asked

abbrev pub call_onto : List ℕ → ℕ → List ℕ
call_onto out e = number_onto (out ++ codes "{\"call\":") e ++ codes "}"

abbrev pub connect_onto : List ℕ → ℕ → Key → List ℕ
connect_onto out conn k = key_onto (number_onto (out ++ codes "{\"connect\":{\"conn\":") conn ++ codes ",\"key\":") k ++ codes "}}"

abbrev pub ask_dial_onto : List ℕ → Key → List ℕ
ask_dial_onto out k = key_onto (out ++ codes "{\"dial\":") k ++ codes "}"

abbrev pub ask_acceptable_onto : List ℕ → ℕ → Key → List ℕ
ask_acceptable_onto out handshake k =
    key_onto (number_onto (out ++ codes "{\"acceptable\":{\"handshake\":") handshake ++ codes ",\"key\":") k ++ codes "}}"

abbrev pub ask_listen_onto : List ℕ → ℕ → Key → List ℕ
ask_listen_onto out handshake k =
    key_onto (number_onto (out ++ codes "{\"listen\":{\"handshake\":") handshake ++ codes ",\"key\":") k ++ codes "}}"

abbrev pub release_onto : List ℕ → Key → List ℕ
release_onto out k = key_onto (out ++ codes "{\"release\":") k ++ codes "}"

-- ---- what it answers

abbrev pub digits_onto : List ℕ → ℕ → List ℕ
digits_onto out n = number_onto (out ++ codes "\"") n ++ codes "\""

-- a moment may pass 64 bits, so its digits are a text
abbrev pub next_onto : List ℕ → Option ℕ → List ℕ
next_onto out None = out ++ codes "null"
next_onto out (Some n) = digits_onto out n

abbrev pub dialable_onto : List ℕ → Option ℕ → List Key → List ℕ
dialable_onto out next peers =
    list_onto key_onto (next_onto (out ++ codes "{\"dialable\":{\"next\":") next ++ codes ",\"peers\":") peers ++ codes "}}"

abbrev pub granted_onto : List ℕ → Key → Ingress → List ℕ
granted_onto out k i = key_onto (ingress_onto (out ++ codes "{\"dial\":{\"ingress\":") i ++ codes ",\"key\":") k ++ codes "}}"

abbrev pub dial_onto : List ℕ → Option (Key × Ingress) → List ℕ
dial_onto out None = out ++ codes "{\"dial\":null}"
dial_onto out (Some grant) = granted_onto out grant.0 grant.1

abbrev pub acceptable_onto : List ℕ → Bool → List ℕ
acceptable_onto out accepts = flag_onto (out ++ codes "{\"acceptable\":") accepts ++ codes "}"

-- whether a handshake's peer is reserved
abbrev pub listen_onto : List ℕ → Option Key → List ℕ
listen_onto out grant = flag_onto (out ++ codes "{\"listen\":") (is_some grant) ++ codes "}"

-- ---- what attempts and handshakes are told

abbrev pub resolved_onto : List ℕ → List SocketAddr → List ℕ
resolved_onto out addresses = list_onto socket_onto (out ++ codes "{\"addresses\":") addresses ++ codes "}"

abbrev pub finished_onto : List ℕ → Bool → List ℕ
finished_onto out ok = flag_onto (out ++ codes "{\"finished\":") ok ++ codes "}"

-- ---- what a listener takes

abbrev pub arrival_onto : List ℕ → SocketAddr → Key → ℕ → List ℕ
arrival_onto out from k link =
    number_onto (key_onto (socket_onto (out ++ codes "{\"from\":") from ++ codes ",\"key\":") k ++ codes ",\"link\":") link ++ codes "}"

-- ---- what a spawner is to make

abbrev pub spawn_onto : List ℕ → Key → ℕ → List ℕ
spawn_onto out k link = number_onto (key_onto (out ++ codes "{\"spawn\":{\"key\":") k ++ codes ",\"link\":") link ++ codes "}}"

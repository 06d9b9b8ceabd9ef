-- The form of each act of a node's dialer, of its attempts, of its listener, of its handshakes, of its spawner and of links.
use Rattle.std.specs.Prelude.{ℕ, List, [], ◌∷◌, codes, bytes_eq, Option, Some, None, if◌then◌else◌}
use Rattle.serde_json.specs.Data.{Data}
use Rattle.serde_json.specs.Find.{as_bool}
use Rattle.p2p_log.specs.declared.event.Act.{Act}
use Rattle.p2p_log.specs.declared.event.Act.TheVariants as act
use Rattle.p2p_sim_script.specs.AddressForm.{socket_of}
use Rattle.p2p_sim_script.specs.Parts.{has, node_of}
use Rattle.p2p_sim_script.specs.Tree.{◌>>=◌, ◌>>◌, field, whole, list_of}

abbrev pub dialer_of : Data → Option Act
dialer_of d = do
  node ← node_of d
  Some (act.Dialer node)

abbrev pub listener_of : Data → Option Act
listener_of d = do
  node ← node_of d
  Some (act.Listener node)

-- the handshake, and the node
abbrev pub handshake_of : Data → Option Act
handshake_of d = do
  has ("handshake" ∷ "node" ∷ []) d
  handshake ← field "handshake" whole d
  node ← field "node" whole d
  Some (act.Handshake handshake node)

abbrev pub spawner_of : Data → Option Act
spawner_of d = do
  node ← node_of d
  Some (act.Spawner node)

-- the attempt, and the node
abbrev pub attempt_named_of : Data → Option (ℕ × ℕ)
attempt_named_of d = do
  has ("attempt" ∷ "node" ∷ []) d
  attempt ← field "attempt" whole d
  node ← field "node" whole d
  Some (attempt, node)

abbrev pub attempt_of : Data → Option Act
attempt_of d = do
  named ← attempt_named_of d
  Some (act.Attempt named.0 named.1)

abbrev pub refuse_of : Data → Option Act
refuse_of d = do
  named ← attempt_named_of d
  Some (act.Refuse named.0 named.1)

abbrev pub resolve_of : Data → Option Act
resolve_of d = do
  has ("addresses" ∷ "attempt" ∷ "node" ∷ []) d
  addresses ← field "addresses" (list_of socket_of) d
  attempt ← field "attempt" whole d
  node ← field "node" whole d
  Some (act.Resolve addresses attempt node)

-- the address from which it comes, and the node to which it is linked
abbrev pub connect_of : Data → Option Act
connect_of d = do
  has ("attempt" ∷ "from" ∷ "node" ∷ "to" ∷ []) d
  attempt ← field "attempt" whole d
  from ← field "from" socket_of d
  node ← field "node" whole d
  to ← field "to" whole d
  Some (act.Connect attempt from node to)

-- the event that made the link, and whether keys were exchanged over it
abbrev pub finish_of : Data → Option Act
finish_of d = do
  has ("link" ∷ "ok" ∷ []) d
  link ← field "link" whole d
  ok ← field "ok" as_bool d
  Some (act.Finish link ok)

-- the event that made the link
abbrev pub cut_of : Data → Option Act
cut_of d = do
  has ("link" ∷ []) d
  link ← field "link" whole d
  Some (act.Cut link)

-- the act of a dialer, an attempt, a listener, a handshake, a spawner or a link that this word asks for
abbrev pub dialer_act_named : List ℕ → Data → Option Act
dialer_act_named word d =
    if bytes_eq word (codes "dialer") then dialer_of d
    else if bytes_eq word (codes "attempt") then attempt_of d
    else if bytes_eq word (codes "resolve") then resolve_of d
    else if bytes_eq word (codes "connect") then connect_of d
    else if bytes_eq word (codes "refuse") then refuse_of d
    else if bytes_eq word (codes "finish") then finish_of d
    else if bytes_eq word (codes "cut") then cut_of d
    else if bytes_eq word (codes "listener") then listener_of d
    else if bytes_eq word (codes "handshake") then handshake_of d
    else if bytes_eq word (codes "spawner") then spawner_of d
    else None

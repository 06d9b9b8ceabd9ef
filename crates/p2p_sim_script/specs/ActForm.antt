-- The form of each act: beside the names that every event has, an event has exactly the names of its act.
use Rattle.std.specs.Prelude.{ℕ, true, false, List, [], ◌∷◌, codes, bytes_eq, Option, Some, if◌then◌else◌}
use Rattle.serde_json.specs.Data.{Data}
use Rattle.serde_json.specs.Find.{as_str, as_bool}
use Rattle.p2p_log.specs.declared.event.Act.{Act}
use Rattle.p2p_log.specs.declared.event.Act.TheVariants as act
use Rattle.p2p_sim_script.specs.Tree.{◌>>=◌, ◌>>◌, field, absent_or, whole}
use Rattle.p2p_sim_script.specs.Parts.{has, node_of, bytes_of, rate_of, recipients_of}
use Rattle.p2p_sim_script.specs.TrackerActForm.{tracker_act_named}

abbrev pub register_of : Data → Option Act
register_of d = do
  has ("channel" ∷ "node" ∷ "quota" ∷ []) d
  channel ← field "channel" whole d
  node ← field "node" whole d
  quota ← field "quota" rate_of d
  Some (act.Register channel node quota)

-- a start binds where it does not say whether; one that does not stops its node
abbrev pub start_of : Data → Option Act
start_of d = do
  has ("bind" ∷ "node" ∷ []) d
  binds ← absent_or true "bind" as_bool d
  node ← field "node" whole d
  if binds then Some (act.Start node) else Some (act.Stop true node)

abbrev pub stop_of : Data → Option Act
stop_of d = do
  node ← node_of d
  Some (act.Stop false node)

abbrev pub send_of : Data → Option Act
send_of d = do
  has ("bytes" ∷ "channel" ∷ "node" ∷ "priority" ∷ "to" ∷ []) d
  bytes ← field "bytes" bytes_of d
  channel ← field "channel" whole d
  node ← field "node" whole d
  priority ← field "priority" as_bool d
  to ← field "to" recipients_of d
  Some (act.Send bytes channel node priority to)

abbrev pub check_of : Data → Option Act
check_of d = do
  has ("channel" ∷ "node" ∷ "to" ∷ []) d
  channel ← field "channel" whole d
  node ← field "node" whole d
  to ← field "to" recipients_of d
  Some (act.Check channel node to)

abbrev pub send_checked_of : Data → Option Act
send_checked_of d = do
  has ("bytes" ∷ "check" ∷ "priority" ∷ []) d
  bytes ← field "bytes" bytes_of d
  check ← field "check" whole d
  priority ← field "priority" as_bool d
  Some (act.SendChecked bytes check priority)

abbrev pub router_of : Data → Option Act
router_of d = do
  node ← node_of d
  Some (act.Router node)

abbrev pub send_step_of : Data → Option Act
send_step_of d = do
  has ("conn" ∷ "node" ∷ []) d
  conn ← field "conn" whole d
  node ← field "node" whole d
  Some (act.SendStep conn node)

abbrev pub recv_step_of : Data → Option Act
recv_step_of d = do
  has ("conn" ∷ "node" ∷ []) d
  conn ← field "conn" whole d
  node ← field "node" whole d
  Some (act.RecvStep conn node)

abbrev pub recv_of : Data → Option Act
recv_of d = do
  has ("channel" ∷ "node" ∷ []) d
  channel ← field "channel" whole d
  node ← field "node" whole d
  Some (act.Recv channel node)

abbrev pub close_of : Data → Option Act
close_of d = do
  has ("channel" ∷ "node" ∷ []) d
  channel ← field "channel" whole d
  node ← field "node" whole d
  Some (act.Close channel node)

-- the act of sending that this word asks for, or one of those of a tracker
abbrev pub sending_act_named : List ℕ → Data → Option Act
sending_act_named word d =
    if bytes_eq word (codes "send") then send_of d
    else if bytes_eq word (codes "check") then check_of d
    else if bytes_eq word (codes "send_checked") then send_checked_of d
    else tracker_act_named word d

-- the act that this word asks for
abbrev pub act_named : List ℕ → Data → Option Act
act_named word d =
    if bytes_eq word (codes "register") then register_of d
    else if bytes_eq word (codes "start") then start_of d
    else if bytes_eq word (codes "stop") then stop_of d
    else if bytes_eq word (codes "router") then router_of d
    else if bytes_eq word (codes "send_step") then send_step_of d
    else if bytes_eq word (codes "recv_step") then recv_step_of d
    else if bytes_eq word (codes "recv") then recv_of d
    else if bytes_eq word (codes "close") then close_of d
    else sending_act_named word d

abbrev pub act_of : Data → Option Act
act_of d = do
  word ← field "do" as_str d
  act_named word d

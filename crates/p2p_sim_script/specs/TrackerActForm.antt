-- The form of each act about a node's tracker.
use Rattle.std.specs.Prelude.{ℕ, List, [], ◌∷◌, codes, bytes_eq, Option, Some, if◌then◌else◌}
use Rattle.serde_json.specs.Data.{Data}
use Rattle.p2p_log.specs.declared.asked.Asked.TheVariants as ask
use Rattle.p2p_log.specs.declared.event.Act.{Act}
use Rattle.p2p_log.specs.declared.event.Act.TheVariants as act
use Rattle.p2p_sim_script.specs.Tree.{◌>>=◌, ◌>>◌, absent_or, field, whole}
use Rattle.p2p_sim_script.specs.Parts.{has, node_of, key_of}
use Rattle.p2p_sim_script.specs.AddressForm.{peers_of}
use Rattle.p2p_sim_script.specs.DialerActForm.{dialer_act_named}

-- without `secondary` there is no secondary peer
abbrev pub track_of : Data → Option Act
track_of d = do
  has ("index" ∷ "node" ∷ "primary" ∷ "secondary" ∷ []) d
  index ← field "index" whole d
  node ← field "node" whole d
  primary ← field "primary" peers_of d
  secondary ← absent_or [] "secondary" peers_of d
  Some (act.Ask (ask.Track index (record { primary = primary; secondary = secondary })) node)

abbrev pub overwrite_of : Data → Option Act
overwrite_of d = do
  has ("node" ∷ "peers" ∷ []) d
  node ← field "node" whole d
  peers ← field "peers" peers_of d
  Some (act.Ask (ask.Overwrite peers) node)

abbrev pub block_of : Data → Option Act
block_of d = do
  has ("key" ∷ "node" ∷ []) d
  key ← field "key" key_of d
  node ← field "node" whole d
  Some (act.Ask (ask.Block key) node)

abbrev pub peer_set_of : Data → Option Act
peer_set_of d = do
  has ("index" ∷ "node" ∷ []) d
  index ← field "index" whole d
  node ← field "node" whole d
  Some (act.Ask (ask.PeerSet index) node)

abbrev pub subscribe_of : Data → Option Act
subscribe_of d = do
  node ← node_of d
  Some (act.Ask ask.Subscribe node)

abbrev pub blocked_of : Data → Option Act
blocked_of d = do
  node ← node_of d
  Some (act.Ask ask.Blocked node)

abbrev pub tracker_of : Data → Option Act
tracker_of d = do
  node ← node_of d
  Some (act.Tracker node)

-- the event that asked
abbrev pub question_of : Data → Option ℕ
question_of d = do
  has ("question" ∷ []) d
  field "question" whole d

abbrev pub answer_of : Data → Option Act
answer_of d = do
  question ← question_of d
  Some (act.Answer question)

abbrev pub next_of : Data → Option Act
next_of d = do
  question ← question_of d
  Some (act.Next question)

-- the act about a tracker that this word asks for, or else the one of a dialer
abbrev pub tracker_act_named : List ℕ → Data → Option Act
tracker_act_named word d =
    if bytes_eq word (codes "track") then track_of d
    else if bytes_eq word (codes "overwrite") then overwrite_of d
    else if bytes_eq word (codes "block") then block_of d
    else if bytes_eq word (codes "peer_set") then peer_set_of d
    else if bytes_eq word (codes "subscribe") then subscribe_of d
    else if bytes_eq word (codes "blocked") then blocked_of d
    else if bytes_eq word (codes "answer") then answer_of d
    else if bytes_eq word (codes "next") then next_of d
    else if bytes_eq word (codes "tracker") then tracker_of d
    else dialer_act_named word d

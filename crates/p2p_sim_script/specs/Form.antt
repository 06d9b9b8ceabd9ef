-- The form of a script: the configurations of its nodes, and its events.
use Rattle.std.specs.Prelude.{List, [], ◌∷◌, Option, Some}
use Rattle.serde_json.specs.Data.{Data}
use Rattle.p2p_log.specs.declared.config.Config.{Config}
use Rattle.p2p_log.specs.declared.event.Event.{Event}
use Rattle.p2p_sim_script.specs.Tree.{◌>>=◌, ◌>>◌, absent_or, field, only, whole, list_of}
use Rattle.p2p_sim_script.specs.ConfigForm.{config_of}
use Rattle.p2p_sim_script.specs.ActForm.{act_of}

abbrev pub event_of : Data → Option Event
event_of d = do
  at ← field "at" whole d
  seed ← absent_or 0 "seed" whole d
  act ← act_of d
  Some (record { at = at; seed = seed; act = act })

-- what a tree says as a script, where it is one
abbrev pub script_of : Data → Option (List Config × List Event)
script_of d = do
  only ("configs" ∷ "script" ∷ []) d
  configs ← field "configs" (list_of config_of) d
  script ← field "script" (list_of event_of) d
  Some (configs, script)

-- What the members of a script's outer object say, one after another.
use Rattle.std.specs.Prelude.{◌≡◌, List, [], ◌∷◌, ℕ, Bool, true, false, codes, bytes_eq, map, Option, Some, None, option_and_then, if◌then◌else◌}
use Rattle.serde_json.specs.Data.{Data, Members}
use Rattle.serde_json.specs.Find.{get_member}
use Rattle.p2p_log.specs.declared.config.Config.{Config}
use Rattle.p2p_log.specs.declared.event.Event.{Event}
use Rattle.p2p_sim_script.specs.Tree.{◌>>=◌, ◌>>◌, has_only, list_of}
use Rattle.p2p_sim_script.specs.ConfigForm.{config_of}
use Rattle.p2p_sim_script.specs.Form.{event_of}
use Rattle.p2p_sim_script.specs.declared.text.Found.{Found}

-- what was found is what these members say
pub record Says (found : Found) (members : Members) : Type 0 where
  pub configs : found.configs ≡ option_and_then (list_of config_of) (get_member (codes "configs") members)
  pub script : found.script ≡ option_and_then (list_of event_of) (get_member (codes "script") members)
  pub only : found.only ≡ has_only (map codes ("configs" ∷ "script" ∷ [])) members

-- what is found with one member more
abbrev pub said_more : Found → List ℕ → Data → Found
said_more found name tree = if bytes_eq name (codes "configs") then record found { configs = list_of config_of tree } else if bytes_eq name (codes "script") then record found { script = list_of event_of tree } else record found { only = false }

-- a script, where there are both lists and nothing else
abbrev pub lists_said : Bool → Option (List Config) → Option (List Event) → Option (List Config × List Event)
lists_said only found_configs found_script = do
  only
  configs ← found_configs
  script ← found_script
  Some (configs, script)

abbrev pub script_said : Found → Option (List Config × List Event)
script_said found = lists_said found.only found.configs found.script

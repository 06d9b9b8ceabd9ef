-- The text of a made script.
use Rattle.std.specs.Prelude.{◌≡◌, ℕ, List, Some}
use Rattle.serde_json.specs.Data.{Data}
use Rattle.serde_json.specs.Read.{read}
use Rattle.p2p_log.specs.declared.config.Config.{Config}
use Rattle.p2p_log.specs.declared.event.Event.{Event}
use Rattle.p2p_sim_script.specs.Form.{script_of}

-- the text is JSON, and what it says is the script of these configurations and these events
abbrev pub Says : List ℕ → List Config → List Event → Type 0
Says text configs events = (tree : Data) × (read text ≡ Some tree) × (script_of tree ≡ Some (configs, events))

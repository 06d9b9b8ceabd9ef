-- Which preset a configuration names, and what it gives.
use Rattle.std.specs.Prelude.{ℕ, List, codes, bytes_eq, Option, Some, None, if◌then◌else◌}
use Rattle.serde_json.specs.Data.{Data}
use Rattle.serde_json.specs.Find.{as_str}
use Rattle.p2p_base.specs.declared.key.Key.{Key}
use Rattle.p2p_log.specs.Presets.{recommended, local}
use Rattle.p2p_log.specs.declared.config.Config.{Config}
use Rattle.p2p_sim_script.specs.declared.preset.Preset.{Preset}
use Rattle.p2p_sim_script.specs.declared.preset.Preset.TheVariants as preset
use Rattle.p2p_sim_script.specs.Tree.{◌>>=◌}

abbrev pub preset_named : List ℕ → Option Preset
preset_named word =
    if bytes_eq word (codes "local") then Some preset.Local
    else if bytes_eq word (codes "recommended") then Some preset.Recommended
    else None

abbrev pub preset_of : Data → Option Preset
preset_of d = do
  word ← as_str d
  preset_named word

-- the configuration of this key and these sizes
abbrev pub preset_config : Preset → Key → ℕ → ℕ → ℕ → Config
preset_config preset.Local key peers bytes messages = local key peers bytes messages
preset_config preset.Recommended key peers bytes messages = recommended key peers bytes messages

-- What a reader answers.
use Rattle.std.specs.Prelude.{◌≡◌, Option, Some, None, Result, Ok, Err}
use Rattle.p2p_sim_script.specs.declared.error.ScriptError.{ScriptError}
use Rattle.p2p_sim_script.specs.declared.error.ScriptError.TheVariants.{NotScript, Memory}

-- `Ok` is exactly the form's value, and `NotScript` comes exactly where it has none; want of memory may come anywhere
abbrev pub Gives : {A : Type 0} → Result A ScriptError → Option A → Type 0
Gives (Ok x) value = value ≡ Some x
Gives (Err NotScript) value = value ≡ None
Gives (Err Memory) value = Unit {0}

-- What a reader answers where one of its parts refuses.
use Rattle.std.proofs.Common.{◌≡◌, Option, None, Err}
use Rattle.p2p_sim_script.specs.declared.error.ScriptError.{ScriptError}
use Rattle.p2p_sim_script.specs.declared.error.ScriptError.TheVariants.{NotScript, Memory}
use Rattle.p2p_sim_script.specs.Gives.{Gives}

-- an error of a part is one of the whole, where the whole has no value without the part
pub Gives-passed_on : {A B : Type 0} (e : ScriptError) (part : Option A) (whole : Option B) → (part ≡ None → whole ≡ None) → Gives {A = A} (Err e) part → Gives {A = B} (Err e) whole
Gives-passed_on NotScript part whole h e = h e
Gives-passed_on Memory part whole h e = tt

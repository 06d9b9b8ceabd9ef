-- A value of a map that is written back as it was.
use Rattle.std.proofs.Common.{◌≡◌, ℕ, Bool, List, Some, Result, Ok, Err, ap, ◌∙◌}
use Rattle.std.specs.Prelude.{IfErr}
use Rattle.std.specs.Map.{lookup, set_value}
use Rattle.std.proofs.lemmas.Map.Steps.{set_value_same}

-- where a call failed and left the value as it was, the map is as it was
pub unchanged : {S E V : Type 0} (r : Result S E) (Q : E → Type 0) (test : ℕ → Bool) (es new : List (ℕ × V)) (v w : V) → lookup test es ≡ Some v → new ≡ set_value test es w
    → IfErr r (λ e. Q e × (w ≡ v)) → IfErr r (λ e. Q e × (new ≡ es))
unchanged (Ok s) Q test es new v w found is h = tt
unchanged (Err e) Q test es new v w found is h = (h.0, is ∙ (ap (set_value test es) h.1 ∙ set_value_same test es v found))

-- Why an input isn't run, the status and the line that tell it.
use Rattle.std.specs.Prelude.{ℕ, List, [], ◌∷◌, ◌++◌, codes}
use Rattle.std.specs.Fmt.{decimal}
use Rattle.p2p_sim.specs.declared.fault.Fault.{Fault}
use Rattle.p2p_sim.specs.declared.fault.Fault.TheVariants as fault
use Rattle.p2p_sim.specs.declared.status.Status.{Status}
use Rattle.p2p_sim.specs.declared.status.Status.TheVariants as status

abbrev pub status_of : Fault → Status
status_of fault.NotJson = status.NotJson
status_of fault.NotScript = status.NotScript
status_of (fault.Config i) = status.Config
status_of (fault.Event i) = status.Event

-- one line; 10 is the newline
abbrev pub line_of : Fault → List ℕ
line_of fault.NotJson = codes "{\"error\":\"json\"}" ++ 10 ∷ []
line_of fault.NotScript = codes "{\"error\":\"script\"}" ++ 10 ∷ []
line_of (fault.Config i) = codes "{\"config\":" ++ (decimal i ++ (codes ",\"error\":\"config\"}" ++ 10 ∷ []))
line_of (fault.Event i) = codes "{\"error\":\"event\",\"event\":" ++ (decimal i ++ (codes "}" ++ 10 ∷ []))

-- What an input is due: the tree that is run, or why none is.
use Rattle.std.specs.Prelude.{ℕ, List, Option, Some, None, Result, Ok, Err}
use Rattle.serde_json.specs.Data.{Data}
use Rattle.p2p_sim_script.specs.Input.{json_of}
use Rattle.p2p_sim.specs.Faults.{status_of}
use Rattle.p2p_sim.specs.declared.fault.Fault.{Fault}
use Rattle.p2p_sim.specs.declared.fault.Fault.TheVariants.{NotJson}
use Rattle.p2p_sim.specs.declared.status.Status.{Status}
use Rattle.p2p_sim.specs.declared.status.Status.TheVariants as status

-- a tree that is refused, or not
abbrev pub tree_or_refusal : Data → Option Fault → Result Data Fault
tree_or_refusal tree None = Ok tree
tree_or_refusal tree (Some f) = Err f

-- what was read as JSON, or wasn't
abbrev pub tree_judged : (Data → Option Fault) → Option Data → Result Data Fault
tree_judged refusal_of None = Err NotJson
tree_judged refusal_of (Some tree) = tree_or_refusal tree (refusal_of tree)

-- the tree that is run; first the input has to be JSON, and then the program has to accept its tree
abbrev pub judged : (Data → Option Fault) → List ℕ → Result Data Fault
judged refusal_of input = tree_judged refusal_of (json_of input)

-- the status that tells it
abbrev pub status_due : Result Data Fault → Status
status_due (Ok tree) = status.Ok
status_due (Err f) = status_of f

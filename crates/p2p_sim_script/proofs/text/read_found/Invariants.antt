-- What is found so far is what some members say, and these and then what is left to read are the whole.
use Rattle.std.proofs.Common.{◌≡◌, length}
use Rattle.serde_json.specs.Data.{Members, no_members}
use Rattle.p2p_sim_script.specs.Said.{Says}
use Rattle.p2p_sim_script.specs.Taken.{members_taken}
use Rattle.p2p_sim_script.proofs.text.read_found.Given as goal

abbrev pub invariant-members : goal.invariant-members
invariant-members l =
    (members : Members) × (members_taken 126 no_members l.initial.reader ≡ members_taken 126 members l.reader) × Says l.found members

abbrev pub decreases-members : goal.decreases-members
decreases-members l = length l.reader

-- What is said so far, and then what is left to read, is the whole.
use Rattle.std.proofs.Common.{◌≡◌, ◌≤◌, length}
use Rattle.json.specs.Json.{parse_map}
use Rattle.p2p_sim_script.specs.Taken.{items_taken}
use Rattle.p2p_sim_script.specs.Tree.{each}
use Rattle.p2p_sim_script.proofs.Saying.{each_after}
use Rattle.p2p_sim_script.proofs.each.read_each.Given as goal

abbrev pub invariant-items : goal.invariant-items
invariant-items g l =
    (parse_map (each g.T.FromTree.form) (items_taken l.depth l.initial.reader) ≡ parse_map (each_after g.T.FromTree.form l.list.items) (items_taken l.depth l.reader)) × (length l.reader ≤ length l.initial.reader)

abbrev pub decreases-items : goal.decreases-items
decreases-items g l = length l.reader

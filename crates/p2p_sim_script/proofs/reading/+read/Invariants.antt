-- What is read so far, and then what is left to read, is the whole.
use Rattle.std.proofs.Common.{◌≡◌, ℕ, ◌+◌, ◌*◌, ◌≤◌, length}
use Rattle.json.specs.Json.{parse_map}
use Rattle.serde_json.specs.Data.{no_members}
use Rattle.p2p_sim_script.specs.Taken.{items_taken, members_taken}
use Rattle.p2p_sim_script.specs.View.{members_view}
use Rattle.p2p_sim_script.proofs.Taking.{items_before}
use Rattle.p2p_sim_script.proofs.reading.+read.Given as goal

abbrev pub decreases-read_from : goal.decreases-read_from
decreases-read_from l = 3 * l.depth

abbrev pub decreases-read_value : goal.decreases-read_value
decreases-read_value l = 3 * l.depth + 1

abbrev pub decreases-read_items : goal.decreases-read_items
decreases-read_items l = 3 * l.depth + 2

abbrev pub decreases-read_members : goal.decreases-read_members
decreases-read_members l = 3 * l.depth + 2

abbrev pub invariant-read_items-items : goal.invariant-read_items-items
invariant-read_items-items l =
    (items_taken l.depth l.initial.reader ≡ parse_map (items_before l.found.items) (items_taken l.depth l.reader)) × (length l.reader ≤ length l.initial.reader)

abbrev pub decreases-read_items-items : goal.decreases-read_items-items
decreases-read_items-items l = length l.reader

abbrev pub invariant-read_members-members : goal.invariant-read_members-members
invariant-read_members-members l =
    (members_taken l.depth no_members l.initial.reader ≡ members_taken l.depth (members_view l.found.items) l.reader) × (length l.reader ≤ length l.initial.reader)

abbrev pub decreases-read_members-members : goal.decreases-read_members-members
decreases-read_members-members l = length l.reader

-- What is borrowed so far is what stood before.
use Rattle.std.proofs.Common.{◌≡◌, List, ◌++◌, take, map}
use Rattle.serde_json.specs.View.{view as owned_view, members_view as owned_members}
use Rattle.serde_json.proofs.Views.{Entry as Owned}
use Rattle.p2p_sim_script.specs.View.{view, members_view}
use Rattle.p2p_sim_script.proofs.borrowed.+borrow.Given as goal

abbrev pub invariant-borrowed_items-loop-item : goal.invariant-borrowed_items-loop-item
invariant-borrowed_items-loop-item l = map view l.found.items ≡ map owned_view (take l.item-index l.item-items)

abbrev pub invariant-borrowed_members-loop-key : goal.invariant-borrowed_members-loop-key
invariant-borrowed_members-loop-key l =
    (done : List Owned) × (l.members.entries ≡ done ++ l.key-iterator) × (members_view l.found.items ≡ owned_members done)

-- What is read so far, and then what is left to read, is the whole.
use Rattle.std.proofs.Common.{◌≡◌, ◌++◌, drop, option_map}
use Rattle.p2p_sim_script.specs.View.{items_view}
use Rattle.p2p_sim_script.specs.Tree.{each}
use Rattle.p2p_sim_script.proofs.list.read_each.Given as goal

abbrev pub invariant-loop-item : goal.invariant-loop-item
invariant-loop-item g l = option_map (λ rest. l.list.items ++ rest) (each g.T.FromTree.form (items_view (drop l.item-index l.items))) ≡ each g.T.FromTree.form (items_view l.items)

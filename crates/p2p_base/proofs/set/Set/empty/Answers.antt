use Rattle.std.proofs.Common.{[]}
use Rattle.p2p_base.proofs.SortedLists.{sorted-sorted_once}
use Rattle.p2p_base.proofs.set.Set.empty.Goals as goal

pub invariant_of-result : goal.invariant_of-result
invariant_of-result g c = rw c.new.ensures.items (sorted-sorted_once g.met.P.Ord.total [])

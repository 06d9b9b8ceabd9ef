use Rattle.std.specs.List.Sorted.{IsStrictlySortedBy}
use Rattle.p2p_tracker_directory.proofs.places.Places.new.Goals as goal

pub invariant_of-result : goal.invariant_of-result
unfolding IsStrictlySortedBy
invariant_of-result g c = tt

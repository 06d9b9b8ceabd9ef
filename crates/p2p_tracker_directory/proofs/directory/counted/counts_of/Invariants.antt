use Rattle.std.proofs.Common.{◌-◌, length, take}
use Rattle.p2p_tracker_calls.specs.Heard.{ip_cmp}
use Rattle.p2p_tracker_calls.specs.Sets.{how_many}
use Rattle.p2p_tracker_directory.specs.Indexed.{is_from, Tallies}
use Rattle.p2p_tracker_directory.proofs.directory.counted.counts_of.Given as goal

abbrev pub invariant-loop-source : goal.invariant-loop-source
invariant-loop-source g l = Tallies ip_cmp l.counts.entries (λ ip. how_many (λ e. is_from ip e.0) (take l.at l.sources))

abbrev pub decreases-loop-source : goal.decreases-loop-source
decreases-loop-source g l = length l.sources - l.at

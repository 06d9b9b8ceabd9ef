use Rattle.p2p_tracker_directory.proofs.AddressCounts.{Counted}
use Rattle.p2p_tracker_directory.proofs.directory.counted.blocked_counts.Given as goal

abbrev pub invariant-loop-peer : goal.invariant-loop-peer
invariant-loop-peer g l = Counted g.C.Ord.cmp l.records.entries l.now l.counts.entries l.peer-iterator l.blocks

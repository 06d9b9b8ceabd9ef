use Rattle.std.proofs.Common.{◌≡◌, take}
use Rattle.p2p_tracker_directory.proofs.directory.newcomers.copy_peers.Given as goal

abbrev pub invariant-loop-place : goal.invariant-loop-place
invariant-loop-place g l = l.copies.items ≡ take l.place l.peers

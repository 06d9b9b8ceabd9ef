use Rattle.std.proofs.Common.{◌≡◌, ◌++◌}
use Rattle.std.specs.Prelude.{nat_lt}
use Rattle.std.specs.List.{filter}
use Rattle.std.specs.Map.{keys_of}
use Rattle.p2p_tracker_directory.proofs.directory.lists.blocked.Given as goal

abbrev pub invariant-loop-peer : goal.invariant-loop-peer
invariant-loop-peer g l = l.peers.items ++ keys_of (filter (λ e. nat_lt l.now e.1) l.peer-iterator) ≡ keys_of (filter (λ e. nat_lt l.now e.1) l.blocks)

use Rattle.std.proofs.Common.{◌≡◌, ◌++◌}
use Rattle.std.specs.List.{filter}
use Rattle.std.specs.Map.{keys_of}
use Rattle.p2p_tracker_directory.specs.Listed.{has_role}
use Rattle.p2p_tracker_directory.proofs.directory.lists.peers_with_role.Given as goal

abbrev pub invariant-loop-peer : goal.invariant-loop-peer
invariant-loop-peer g l = l.peers.items ++ keys_of (filter (λ e. has_role e.1 l.is_primary) l.peer-iterator) ≡ keys_of (filter (λ e. has_role e.1 l.is_primary) l.records.entries)

use Rattle.std.proofs.Common.{◌≡◌, ◌++◌}
use Rattle.std.specs.List.{filter}
use Rattle.std.specs.Map.{keys_of}
use Rattle.p2p_discovery_directory.specs.Listed.{is_listed_at}
use Rattle.p2p_discovery_directory.proofs.plain.listing.listed.Given as goal

abbrev pub invariant-loop-peer : goal.invariant-loop-peer
invariant-loop-peer g l = l.peers.items ++ keys_of (filter (λ e. is_listed_at g.P.Ord.cmp l.directory l.now e.0 e.1) l.peer-iterator) ≡ keys_of (filter (λ e. is_listed_at g.P.Ord.cmp l.directory l.now e.0 e.1) l.places.entries)

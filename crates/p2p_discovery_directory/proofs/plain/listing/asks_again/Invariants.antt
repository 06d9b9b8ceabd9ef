use Rattle.std.proofs.Common.{◌≡◌}
use Rattle.p2p_tracker_calls.specs.DialList.{earlier, earliest}
use Rattle.p2p_discovery_directory.specs.Listed.{asks_at}
use Rattle.p2p_discovery_directory.proofs.plain.listing.asks_again.Given as goal

abbrev pub invariant-loop-peer : goal.invariant-loop-peer
invariant-loop-peer g l = earlier l.first (earliest (λ e. asks_at g.P.Ord.cmp l.directory l.now e.0 e.1) l.peer-iterator) ≡ earliest (λ e. asks_at g.P.Ord.cmp l.directory l.now e.0 e.1) l.places.entries

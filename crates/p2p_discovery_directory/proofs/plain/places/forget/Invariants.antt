use Rattle.std.proofs.Common.{◌≡◌, cond, None, length}
use Rattle.std.specs.Map.{lookup}
use Rattle.std.specs.BTreeMap.{is_at}
use Rattle.p2p_discovery_directory.specs.Tests.{knows}
use Rattle.p2p_discovery_directory.proofs.plain.places.forget.Given as goal

abbrev pub invariant-loop-peer : goal.invariant-loop-peer
invariant-loop-peer g l = (q : g.row.P.Denot) → cond (knows g.P.Ord.cmp l.peers q) (lookup (is_at (g.P.Ord.cmp q)) l.places.entries) None ≡ cond (knows g.P.Ord.cmp l.peers q) (lookup (is_at (g.P.Ord.cmp q)) l.fn.places.entries) None

abbrev pub decreases-loop-peer : goal.decreases-loop-peer
decreases-loop-peer g l = length l.places.entries

use Rattle.std.proofs.Common.{◌≡◌, ◌++◌, drop}
use Rattle.p2p_router.specs.Routing.{copies, copies_put}
use Rattle.p2p_router.proofs.routing.route.Given as goal

abbrev pub invariant-loop-peer : goal.invariant-loop-peer
invariant-loop-peer g l =
    (l.routed.items ++ copies g.P.Ord.cmp l.links.entries l.encoded l.priority (drop l.peer-index l.peers) ≡ copies g.P.Ord.cmp l.initial.links.entries l.encoded l.priority l.peers) × (copies_put g.P.Ord.cmp l.links.entries l.encoded l.priority (drop l.peer-index l.peers) ≡ copies_put g.P.Ord.cmp l.initial.links.entries l.encoded l.priority l.peers)

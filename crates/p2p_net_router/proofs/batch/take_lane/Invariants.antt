use Rattle.std.proofs.Common.{ℕ, ◌+◌, ◌≤◌, List, length}
use Rattle.p2p_log.specs.declared.item.Envelope.{Envelope}
use Rattle.p2p_log.specs.Apart.{AreApart}
use Rattle.p2p_net_router.specs.Batches.{AreKept}
use Rattle.p2p_net_router.specs.Holds.{Holds}
use Rattle.p2p_net_router.proofs.Batches.{IsFrontTaken}
use Rattle.p2p_net_router.proofs.batch.take_lane.Given as goal

abbrev pub invariant-loop-index : goal.invariant-loop-index
invariant-loop-index l = record {
  front : (size : ℕ) (items : List Envelope) → Holds size l.initial.router items → AreApart items
      → IsFrontTaken size l.initial.router l.router items l.priority l.conn l._index l.initial.taken l.taken;
  kept : AreKept l.initial.router l.router;
  at_most : length l.taken ≤ length l.initial.taken + l._index;
}

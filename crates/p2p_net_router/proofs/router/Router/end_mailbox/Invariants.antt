use Rattle.std.proofs.Common.{◌≡◌, ◌++◌, List, take}
use Rattle.std.specs.Prelude.{filter, map}
use Rattle.p2p_log.specs.declared.end.Cause.TheVariants as cause
use Rattle.p2p_log.specs.declared.item.Envelope.{Envelope}
use Rattle.p2p_log.specs.declared.queue.Queue.TheVariants as queue
use Rattle.p2p_log.specs.Apart.{AreApart}
use Rattle.p2p_log.specs.Drained.{all_end}
use Rattle.p2p_log.specs.Lines.{name_of, stands_in, stays}
use Rattle.p2p_net_router.specs.Resting.{RouterLeft}
use Rattle.p2p_net_router.proofs.router.Router.end_mailbox.Given as goal

-- so many messages have ended
abbrev pub invariant-loop-index : goal.invariant-loop-index
invariant-loop-index l = record {
  row : (items : List Envelope) → RouterLeft l.initial.self items → AreApart items
      → l.row ≡ record l.initial.row { ends = l.initial.row.ends ++ all_end cause.NodeStopped (take l._index (filter (stands_in (queue.Router l.initial.self.number)) items)) };
  left : (items : List Envelope) → RouterLeft l.initial.self items → AreApart items
      → RouterLeft l.self (filter (stays (map name_of (take l._index (filter (stands_in (queue.Router l.initial.self.number)) items)))) items);
  rest : l.self ≡ record l.initial.self { messenger = record l.initial.self.messenger { binding = l.self.messenger.binding }; names = l.self.names };
}

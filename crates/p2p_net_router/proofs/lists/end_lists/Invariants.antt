use Rattle.std.proofs.Common.{◌≡◌, ◌++◌, List, take}
use Rattle.std.specs.Prelude.{filter, flat_map}
use Rattle.p2p_log.specs.declared.item.Envelope.{Envelope}
use Rattle.p2p_log.specs.Lines.{stays, ended_item}
use Rattle.p2p_log_rules.specs.Effect.{peers_ends}
use Rattle.p2p_log.specs.Apart.{AreApart}
use Rattle.p2p_net_queues.specs.Board.{held}
use Rattle.p2p_net_router.specs.Names.{Agrees, label}
use Rattle.p2p_net_router.proofs.lists.end_lists.Given as goal

abbrev pub invariant-loop-channel : goal.invariant-loop-channel
invariant-loop-channel l = record {
  row : (items : List Envelope) → AreApart items → Agrees l.turn.node label (held l.initial.names) items
      → l.row ≡ record l.initial.row { ends = l.initial.row.ends ++ peers_ends items l.turn.node (take l.channel-index l.channels) };
  names : (items : List Envelope) → AreApart items → Agrees l.turn.node label (held l.initial.names) items
      → Agrees l.turn.node label (held l.names) (filter (stays (flat_map ended_item (peers_ends items l.turn.node (take l.channel-index l.channels)))) items);
}

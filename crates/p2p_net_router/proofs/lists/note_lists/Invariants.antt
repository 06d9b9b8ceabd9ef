use Rattle.std.proofs.Common.{◌≡◌, ℕ, ◌++◌, List, take}
use Rattle.std.specs.Prelude.{map}
use Rattle.p2p_log.specs.declared.item.Envelope.{Envelope}
use Rattle.p2p_log_rules.specs.Effect.{peers_put}
use Rattle.p2p_net_router.specs.Building.{NamesBuild}
use Rattle.p2p_net_router.proofs.lists.note_lists.Given as goal

abbrev pub invariant-loop-channel : goal.invariant-loop-channel
invariant-loop-channel l = record {
  row : l.row ≡ record l.initial.row { puts = l.initial.row.puts ++ map (peers_put l.turn.node l.keys) (take l.channel-index l.channels) };
  names : (n : ℕ) (items : List Envelope) → NamesBuild n l.initial.names items l.turn.entry l.initial.row → NamesBuild n l.names items l.turn.entry l.row;
}

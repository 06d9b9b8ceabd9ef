use Rattle.std.proofs.Common.{◌≡◌, ℕ, ◌++◌, List, take}
use Rattle.std.specs.Prelude.{map}
use Rattle.p2p_log.specs.declared.item.Envelope.{Envelope}
use Rattle.p2p_net_router.specs.Building.{NamesBuild, subscription}
use Rattle.p2p_net_router.proofs.calls.note_subscriptions.Given as goal

abbrev pub invariant-loop-channel : goal.invariant-loop-channel
invariant-loop-channel l = record {
  row : l.row ≡ record l.initial.row { puts = l.initial.row.puts ++ map (subscription l.turn.node) (take l.channel-index l.channels) };
  names : (n : ℕ) (items : List Envelope) → NamesBuild n l.initial.names items l.turn.entry l.initial.row → NamesBuild n l.names items l.turn.entry l.row;
}

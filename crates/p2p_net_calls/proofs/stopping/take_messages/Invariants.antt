use Rattle.std.proofs.Common.{◌≡◌, ◌++◌, length}
use Rattle.p2p_net_calls.specs.Stopping.{messages_handed}
use Rattle.p2p_net_calls.proofs.Stepping.{MessagesLeft}
use Rattle.p2p_net_calls.proofs.stopping.take_messages.Given as goal

-- those that were taken, and then those that are left
abbrev pub invariant-loop-name : goal.invariant-loop-name
invariant-loop-name l = record {
  messages : l.all ++ messages_handed l.turn.node l.links l.node.spawning.names l.node.spawning.mailbox.items ≡ messages_handed l.turn.node l.links l.initial.node.spawning.names l.initial.node.spawning.mailbox.items;
  left : MessagesLeft l.initial.node l.node;
}

abbrev pub decreases-loop-name : goal.decreases-loop-name
decreases-loop-name l = length l.node.spawning.names

use Rattle.std.proofs.Common.{◌≡◌, ◌++◌, length}
use Rattle.p2p_base.proofs.mailbox.refill.Given as goal

abbrev pub invariant-loop-messages : goal.invariant-loop-messages
invariant-loop-messages g l = record {
  same : l.ring.items ++ l.messages.items ≡ l.initial.ring.items ++ l.initial.messages.items;
  capacity : l.ring.capacity ≡ l.initial.ring.capacity;
}

abbrev pub decreases-loop-messages : goal.decreases-loop-messages
decreases-loop-messages g l = length l.messages.items

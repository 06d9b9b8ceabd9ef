use Rattle.std.proofs.Common.{◌≡◌, ◌++◌, length}
use Rattle.p2p_threads.proofs.draining.drained.Given as goal

abbrev pub invariant-loop-message : goal.invariant-loop-message
invariant-loop-message l = l.messages.items ++ l.mailbox.items ≡ l.fn.mailbox.items

abbrev pub decreases-loop-message : goal.decreases-loop-message
decreases-loop-message l = length l.mailbox.items

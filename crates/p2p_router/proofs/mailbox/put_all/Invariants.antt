use Rattle.std.proofs.Common.{◌≡◌, ◌+◌, ◌≤◌, ◌++◌, length, drop, map}
use Rattle.std.specs.VecDeque.{deque_len, deque_capacity}
use Rattle.p2p_router.specs.declared.message.Message.TheVariants as message
use Rattle.p2p_router.proofs.mailbox.put_all.Given as goal

abbrev pub invariant-loop-subscription : goal.invariant-loop-subscription
invariant-loop-subscription g l =
    (deque_len l.messages + length (drop l.subscription-index l.subscriptions) ≤ deque_capacity l.messages) × (l.messages.items ++ map message.SubscribePeers (drop l.subscription-index l.subscriptions) ≡ l.initial.messages.items ++ map message.SubscribePeers l.subscriptions)

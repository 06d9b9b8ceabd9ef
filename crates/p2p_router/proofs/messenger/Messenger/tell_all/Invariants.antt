use Rattle.std.proofs.Common.{◌≡◌, drop, length}
use Rattle.p2p_router.specs.Messenger.{told_all}
use Rattle.p2p_router.proofs.messenger.Messenger.tell_all.Given as goal

abbrev pub invariant-loop-subscription : goal.invariant-loop-subscription
invariant-loop-subscription g l = record {
  told : told_all l.self l.peers (drop l.subscription-index l.subscriptions) ≡ told_all l.initial.self l.peers l.subscriptions;
  subscriptions : length l.self.lists ≡ length l.initial.self.lists;
}

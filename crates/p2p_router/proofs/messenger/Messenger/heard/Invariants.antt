use Rattle.std.proofs.Common.{◌≡◌, take}
use Rattle.std.specs.Prelude.{filter}
use Rattle.p2p_router.specs.Messenger.{is_heard}
use Rattle.p2p_router.proofs.messenger.Messenger.heard.Given as goal

abbrev pub invariant-loop-subscription : goal.invariant-loop-subscription
invariant-loop-subscription g l = l.heard.items ≡ filter (is_heard l.self.lists) (take l.subscription-index l.subscriptions)

use Rattle.std.proofs.Common.{◌≡◌, take}
use Rattle.std.specs.Prelude.{map}
use Rattle.p2p_net_router.specs.Items.{channel_of}
use Rattle.p2p_net_router.proofs.lists.channels_of.Given as goal

abbrev pub invariant-loop-subscription : goal.invariant-loop-subscription
invariant-loop-subscription l = l.found.items ≡ map (channel_of l.channels) (take l.subscription-index l.subscriptions)

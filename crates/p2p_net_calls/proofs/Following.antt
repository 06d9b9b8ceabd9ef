-- What follows an offer follows it on a channel that is registered.
use Rattle.std.proofs.Common.{◌≡◌, ℕ, Option, Some, None, true}
use Rattle.std.specs.Prelude.{is_some}
use Rattle.p2p_log.specs.declared.event.Recipients.{Recipients}
use Rattle.p2p_log_rules.specs.declared.row.Row.{Row}
use Rattle.p2p_net_calls.specs.Offering.{Follows, FollowsOn}
use Rattle.p2p_net_node.specs.declared.node.Node.{Node}
use Rattle.p2p_net_calls.specs.declared.offers.Offered.{Offered}

pub follows_on : (p : Option ℕ) → is_some p ≡ true → (c at : ℕ) (to : Recipients) (Then : Offered → Node → Node → Row → Type 0) (old new : Node) (r : Row) → Follows c at to Then old new r → FollowsOn p c at to Then old new r
follows_on None some c at to Then old new r d = cc
follows_on (Some k) some c at to Then old new r d = d

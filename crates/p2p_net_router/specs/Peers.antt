-- The list of peers that waits for a channel, and the peers that a router has.
use Rattle.std.specs.Prelude.{ℕ, nat_lt, cond, List, [], ◌∷◌, length, Option, Some, None}
use Rattle.std.specs.BTreeMap.{get}
use Rattle.std.specs.Map.{keys_of}
use Rattle.std.specs.Ordering.{nat_cmp}
use Rattle.p2p_base.specs.declared.key.Key.{Key}
use Rattle.p2p_net_router.specs.declared.router.Router.{Router}

-- the name of a list that was taken, where one was
abbrev pub names_taken : Option (ℕ × ℕ) → List (ℕ × ℕ)
names_taken None = []
names_taken (Some name) = name ∷ []

-- the keys of the connections, where the actor has this subscription
abbrev pub peers_by : Router → Option ℕ → List Key
peers_by r None = []
peers_by r (Some s) = cond (nat_lt s (length r.actor.subscriptions)) (keys_of r.actor.links) []

-- the keys of the connections, where the channel's subscription was taken
abbrev pub peers_known : Router → ℕ → List Key
peers_known r c = peers_by r (get nat_cmp r.subscriptions c)

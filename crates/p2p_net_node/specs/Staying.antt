-- What of a node stays as it was.
use Rattle.std.specs.Prelude.{◌≡◌}
use Rattle.p2p_log_rules.specs.declared.row.Row.{Row}
use Rattle.p2p_net_node.specs.declared.node.Node.{Node}
use Rattle.p2p_net_tracker.specs.declared.tracker.Tracker.{Tracker}

-- the node is as it was
abbrev pub Stays : Node → Node → Row → Row → Type 0
Stays old new r s = (r ≡ s) × (new ≡ old)

-- the tracker alone changes
abbrev pub Tracks : Tracker → Node → Node → Type 0
Tracks t old new = (new ≡ record old { tracker = t })

-- what an attempt is told changes the attempts alone
abbrev pub TellsAttempt : Node → Node → Type 0
TellsAttempt old new = (new.dialing.actor ≡ old.dialing.actor) × (new ≡ record old { dialing = new.dialing })

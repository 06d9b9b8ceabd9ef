-- What was requested of a node, by the events alone.
use Rattle.std.specs.Prelude.{◌≡◌, ℕ, ◌+◌, ◌*◌, ◌^◌, ◌<◌, true, false, ◌||◌, List, [], length, Some, slice_get}
use Rattle.std.specs.BTreeMap.{insert_entry}
use Rattle.std.specs.Ordering.{nat_cmp}
use Rattle.p2p_log.specs.declared.config.Config.{Config}
use Rattle.p2p_log.specs.declared.event.Event.{Event}
use Rattle.p2p_log.specs.declared.event.Act.{Act}
use Rattle.p2p_log.specs.declared.event.Act.TheVariants as act
use Rattle.p2p_log.specs.declared.event.Rate.{Rate}
use Rattle.p2p_log_rules.specs.Facts.{has_started, registered, capacity_in, sum_capacities}
use Rattle.p2p_net_queues.specs.Tables as table
use Rattle.p2p_net_node.specs.declared.node.Node.{Node}
use Rattle.p2p_net_node.specs.declared.requested.Requested.{Requested}

abbrev pub nothing_requested : Requested
nothing_requested = record { started = false; capacities = []; total = 0 }

-- a channel more, which would hold so many messages
abbrev pub with_channel : ℕ → ℕ → Requested → Requested
with_channel c k r = record { started = r.started; capacities = insert_entry nat_cmp r.capacities c k; total = r.total + k }

-- how many messages a channel of this rate holds at a node
abbrev pub capacity_by : Node → Rate → ℕ
capacity_by x rate = x.retained * rate.burst

-- what an act requests too
abbrev pub with_request : Node → Act → Requested → Requested
with_request x (act.Register c n rate) r = with_channel c (capacity_by x rate) r
with_request x (act.Start n) r = record r { started = true }
with_request x (act.Stop by_start n) r = record r { started = r.started || by_start }
with_request x _ r = r

-- what a channel would hold that is asked for, and all of them together, can be counted
abbrev pub MayNote : Node → Act → Requested → Type 0
MayNote x (act.Register c n rate) r = (capacity_by x rate < 2 ^ 64) × (r.total + capacity_by x rate < 2 ^ 64)
MayNote x _ r = Unit {0}

-- that is what these events requested of the node
pub record IsRequested (configs : List Config) (events : List Event) (n : ℕ) (r : Requested) : Type 0 where
  pub started : r.started ≡ has_started events n
  pub capacities : (c : ℕ) → table.at r.capacities c ≡ capacity_in (registered configs events n) c
  pub total : r.total ≡ sum_capacities (registered configs events n)

-- and of each node
pub record AreRequested (configs : List Config) (events : List Event) (rs : List Requested) : Type 0 where
  pub long : length rs ≡ length configs
  pub each : (n : ℕ) (r : Requested) → slice_get rs n ≡ Some r → IsRequested configs events n r

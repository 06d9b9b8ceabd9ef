-- What was asked of nodes, by the events alone, as valid input reads it.
use Rattle.std.specs.Prelude.{ℕ, ◌*◌, Bool, false, ◌==◌, ◌&&◌, cond, List, [], ◌∷◌, map, flat_map, Option, Some, None, slice_get}
use Rattle.std.specs.List.{list_any}
use Rattle.p2p_log.specs.declared.config.Config.{Config}
use Rattle.p2p_log.specs.declared.entry.Entry.{Entry}
use Rattle.p2p_log.specs.declared.event.Event.{Event}
use Rattle.p2p_log.specs.declared.event.Rate.{Rate}
use Rattle.p2p_log.specs.declared.event.Act.{Act}
use Rattle.p2p_log.specs.declared.event.Act.TheVariants as act

-- what was asked, in order
abbrev pub events_of : List Entry → List Event
events_of log = map (λ e. e.event) log

abbrev pub starts : ℕ → Act → Bool
starts n (act.Start m) = m == n
starts n (act.Stop by_start m) = by_start && (m == n)
starts n _ = false

-- whether an act stops a node, or turns it on or off
abbrev pub stops : ℕ → Act → Bool
stops n (act.Stop by_start m) = m == n
stops n _ = false

abbrev pub turns : ℕ → Act → Bool
turns n (act.Start m) = m == n
turns n (act.Stop by_start m) = m == n
turns n _ = false

-- whether a node was asked to start
unfoldable pub has_started : List Event → ℕ → Bool
has_started events n = list_any (λ v. starts n v.act) events

-- the retained peers' bursts
abbrev pub capacity_for : Option Config → Rate → ℕ
capacity_for None rate = 0
capacity_for (Some c) rate = (c.max_peers_per_set * c.tracked_peer_sets) * rate.burst

-- the channel that an act registers at a node, with its rate
abbrev pub rates_by : ℕ → Act → List (ℕ × Rate)
rates_by n (act.Register c m rate) = cond (m == n) ((c, rate) ∷ []) []
rates_by n _ = []

-- a channel of a node with its capacity
abbrev pub with_capacity : List Config → ℕ → ℕ × Rate → ℕ × ℕ
with_capacity configs n c = (c.0, capacity_for (slice_get configs n) c.1)

abbrev pub registers_at : List Config → ℕ → Act → List (ℕ × ℕ)
registers_at configs n a = map (with_capacity configs n) (rates_by n a)

-- the channels that were asked for at a node, in order, each with its capacity
unfoldable pub registered : List Config → List Event → ℕ → List (ℕ × ℕ)
registered configs events n = flat_map (λ v. registers_at configs n v.act) events

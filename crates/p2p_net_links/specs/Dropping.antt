-- Which ends of the links were dropped, as values. An end goes by the direction in which it writes.
use Rattle.std.specs.Prelude.{ℕ, Bool, List, is_some}
use Rattle.std.specs.BTreeMap.{insert_entry}
use Rattle.std.specs.Ordering.{nat_cmp}
use Rattle.p2p_log.specs.declared.queue.Side.{Side}
use Rattle.p2p_log.specs.declared.queue.Side.TheVariants as side
use Rattle.p2p_log_rules.specs.Dropping.{other_side}
use Rattle.p2p_net_queues.specs.Tables as table
use Rattle.p2p_net_queues.specs.Tables.{cleared_at}
use Rattle.p2p_net_links.specs.Links.{way_of, with_way}
use Rattle.p2p_net_links.specs.declared.links.Links.{Links}

-- the links whose end that writes in this direction was dropped
abbrev pub dropped_of : Links → Side → List (ℕ × Unit {0})
dropped_of l side.Out = l.dropped_outward
dropped_of l side.In = l.dropped_inward

abbrev pub with_dropped : Links → Side → List (ℕ × Unit {0}) → Links
with_dropped l side.Out ds = record l { dropped_outward = ds }
with_dropped l side.In ds = record l { dropped_inward = ds }

-- whether the end of a link that writes in this direction was dropped
abbrev pub is_dropped_at : Links → Side → ℕ → Bool
is_dropped_at l s link = is_some (table.at (dropped_of l s) link)

-- it is dropped, and nothing is in flight towards it any more
abbrev pub end_dropped : ℕ → Side → Links → Links
end_dropped link s l =
    with_dropped (with_way l (other_side s) (cleared_at (way_of l (other_side s)) link)) s (insert_entry nat_cmp (dropped_of l s) link tt)

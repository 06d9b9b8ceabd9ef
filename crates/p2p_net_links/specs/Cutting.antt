-- Which links were cut, as values, and what a cut makes of the links.
use Rattle.std.specs.Prelude.{ℕ, Bool, ◌&&◌, ◌||◌, not, cond, ◌++◌, is_some}
use Rattle.std.specs.BTreeMap.{insert_entry}
use Rattle.std.specs.Ordering.{nat_cmp}
use Rattle.p2p_log.specs.declared.queue.Side.{Side}
use Rattle.p2p_log.specs.declared.queue.Side.TheVariants as side
use Rattle.p2p_log.specs.declared.end.Cause.TheVariants as cause
use Rattle.p2p_log.specs.declared.entry.Reply.TheVariants as reply
use Rattle.p2p_log.specs.Drained.{all_end}
use Rattle.p2p_log_rules.specs.declared.row.Row.{Row}
use Rattle.p2p_log_rules.specs.Effect.{only}
use Rattle.p2p_net_queues.specs.Tables as table
use Rattle.p2p_net_queues.specs.Tables.{waiting, cleared_at}
use Rattle.p2p_net_links.specs.Dropping.{is_dropped_at}
use Rattle.p2p_net_links.specs.declared.links.Links.{Links}

-- whether a link was cut
abbrev pub is_cut_at : Links → ℕ → Bool
is_cut_at l link = is_some (table.at l.cut link)

-- whether the end of a link that writes in this direction was dropped, or the link was cut
abbrev pub is_broken_at : Links → Side → ℕ → Bool
is_broken_at l s link = is_dropped_at l s link || is_cut_at l link

-- whether it was made, was not cut before, and one of its ends stands
abbrev pub can_be_cut_at : Links → ℕ → Bool
can_be_cut_at l link = is_some (table.at l.dialers link) && not (is_cut_at l link || (is_dropped_at l side.Out link && is_dropped_at l side.In link))

-- what is in flight over a link ends, first what comes from the end that dialed
abbrev pub cut_answer : Links → ℕ → Row
cut_answer l link =
    cond (can_be_cut_at l link) (record (only reply.Ok) { ends = all_end cause.LinkCut (waiting l.outward link) ++ all_end cause.LinkCut (waiting l.inward link) }) (only reply.Gone)

-- a link is cut, and nothing is in flight over it any more
abbrev pub cut_with : ℕ → Links → Links
cut_with link l = record l { outward = cleared_at l.outward link; inward = cleared_at l.inward link; cut = insert_entry nat_cmp l.cut link tt }

-- where it can be cut
abbrev pub cut_after : ℕ → Links → Links
cut_after link l = cond (can_be_cut_at l link) (cut_with link l) l

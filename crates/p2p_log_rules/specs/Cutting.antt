-- The links that were cut, by what was told, and the row of a cut.
use Rattle.std.specs.Prelude.{ℕ, Bool, false, ◌==◌, ◌&&◌, ◌||◌, not, cond, List, [], ◌∷◌, is_some}
use Rattle.std.specs.List.{list_any}
use Rattle.p2p_log.specs.declared.queue.Queue.{Queue}
use Rattle.p2p_log.specs.declared.queue.Queue.TheVariants as queue
use Rattle.p2p_log.specs.declared.queue.Side.{Side}
use Rattle.p2p_log.specs.declared.queue.Side.TheVariants as side
use Rattle.p2p_log.specs.declared.end.Cause.TheVariants as cause
use Rattle.p2p_log.specs.declared.entry.Entry.{Entry}
use Rattle.p2p_log.specs.declared.entry.Reply.TheVariants as reply
use Rattle.p2p_log.specs.Drained.{all_end, drained}
use Rattle.p2p_log.specs.Lines.{live}
use Rattle.p2p_log_rules.specs.declared.row.Row.{Row}
use Rattle.p2p_log_rules.specs.Dialed.{dialer_of}
use Rattle.p2p_log_rules.specs.Dropping.{is_dropped}
use Rattle.p2p_log_rules.specs.Rows.{only}
use Rattle.p2p_log_rules.specs.Tellings.{Telling}
use Rattle.p2p_log_rules.specs.Tellings as telling
use Rattle.p2p_log_rules.specs.Told.{told}

-- whether it is told of this link that it was cut
abbrev pub cuts : ℕ → Telling → Bool
cuts link (telling.link_cut l) = link == l
cuts link _ = false

-- whether a link was cut
unfoldable pub is_cut : List Entry → ℕ → Bool
is_cut log link = list_any (cuts link) (told log)

-- whether nothing goes between an end of a link, which writes in this direction, and the other one any more: that end was dropped, or the
-- link was cut
abbrev pub is_broken : List Entry → ℕ → Side → Bool
is_broken log link s = is_dropped log link s || is_cut log link

-- whether a link can be cut: it was made, it was not cut before, and one of its ends stands
abbrev pub can_be_cut : List Entry → ℕ → Bool
can_be_cut log link = is_some (dialer_of log link) && not (is_cut log link || (is_dropped log link side.Out && is_dropped log link side.In))

-- what is in flight over a link, in both directions
abbrev pub queues_over : ℕ → List Queue
queues_over link = queue.Link link side.Out ∷ queue.Link link side.In ∷ []

-- cut: what is in flight ends untaken, first what comes from the end that dialed
abbrev pub cut_row : List Entry → ℕ → Row
cut_row log link =
    cond (can_be_cut log link)
    (record { reply = reply.Ok; takes = []; puts = []; ends = all_end cause.LinkCut (drained (live log) (queues_over link)) })
    (only reply.Gone)

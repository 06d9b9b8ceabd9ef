-- The end of a connection, by the log: what it takes with it, and who is told.
use Rattle.std.specs.Prelude.{ℕ, List, [], ◌∷◌, ◌++◌, map, filter, flat_map}
use Rattle.p2p_log.specs.declared.queue.Queue.{Queue}
use Rattle.p2p_log.specs.declared.queue.Queue.TheVariants as queue
use Rattle.p2p_log.specs.declared.item.Item.TheVariants as item
use Rattle.p2p_log.specs.declared.item.Envelope.{Envelope}
use Rattle.p2p_log.specs.declared.end.End.{End}
use Rattle.p2p_log.specs.declared.end.End.TheVariants as end
use Rattle.p2p_log.specs.declared.end.Outcome.TheVariants as outcome
use Rattle.p2p_log.specs.declared.end.Cause.{Cause}
use Rattle.p2p_log.specs.declared.end.Cause.TheVariants as cause
use Rattle.p2p_log.specs.declared.entry.Entry.{Entry}
use Rattle.p2p_log.specs.declared.entry.Ended.{Ended}
use Rattle.p2p_log.specs.declared.entry.Reply.TheVariants as reply
use Rattle.p2p_log.specs.Copies.{copies_of}
use Rattle.p2p_log.specs.Drained.{all_end, drained}
use Rattle.p2p_log.specs.Lines.{name_of, live, stays}
use Rattle.p2p_log_rules.specs.declared.row.Half.{Half}
use Rattle.p2p_log_rules.specs.declared.row.Row.{Row}
use Rattle.p2p_log_rules.specs.Dropping.{other_side}

-- what is emptied with a connection, in order: what it has yet to write, what it holds, what it is told, and what is in flight towards it
abbrev pub queues_with : ℕ → ℕ → Half → List Queue
queues_with n conn half =
    queue.High n conn ∷ queue.Low n conn ∷ queue.Held n conn ∷ queue.Control n conn ∷ queue.RouterAnswer n conn
    ∷ queue.Link half.link (other_side half.writes) ∷ []

-- the copies of an item that was taken are dropped for this cause
abbrev pub copies_drop : Cause → Envelope → List End
copies_drop c x = map (λ copy. end.Copy copy.0 copy.1 (outcome.Dropped c)) (copies_of x.item)

-- what stands in queues once these were taken
abbrev pub left_by : List Entry → List Envelope → List Envelope
left_by log taken = filter (stays (map name_of taken)) (live log)

-- a half ends the connection, once it took these, whose copies are dropped for this cause: the rest ends with it, and its router and its
-- tracker are told that its peer is free
abbrev pub end_row : List Entry → ℕ → ℕ → Half → Ended → Cause → List Envelope → Row
end_row log n conn half why c taken = record {
  reply = reply.Ended why;
  takes = map name_of taken;
  puts = (queue.Router n, item.Release half.peer) ∷ (queue.Tracker n, item.Release half.peer) ∷ [];
  ends = flat_map (copies_drop c) taken ++ all_end cause.ConnectionEnded (drained (left_by log taken) (queues_with n conn half));
}

-- What newer items overwrite.
use Rattle.std.specs.Prelude.{ℕ, Bool, true, false, List, [], ◌∷◌, ◌++◌, drop, count_by, Option, Some, None, filter}
use Rattle.p2p_log.specs.declared.queue.Queue.{Queue}
use Rattle.p2p_log.specs.declared.queue.Queue.TheVariants as queue
use Rattle.p2p_log.specs.declared.item.Envelope.{Envelope}
use Rattle.p2p_log.specs.declared.end.End.{End}
use Rattle.p2p_log.specs.QueueCode.{same_queue}
use Rattle.p2p_log.specs.declared.item.Item.{Item}
use Rattle.p2p_log.specs.Lines.{placed, stands_in}
use Rattle.p2p_log_rules.specs.declared.row.Row.{Row}
use Rattle.p2p_log_rules.specs.Rows.{overwritten}
use Rattle.p2p_log_rules.specs.TrackerRows.{rings_of}

-- whether a queue holds one item
abbrev pub is_ring : Queue → Bool
is_ring (queue.Addresses n) = true
is_ring (queue.Blocked n e) = true
is_ring _ = false

-- the ends of what stands in these queues, after one item less in each of those before
unfoldable pub lost : (Queue → List Envelope) → List Queue → List Queue → List End
lost holds before [] = []
lost holds before (q ∷ qs) = overwritten (drop (count_by (λ p. same_queue p q) before) (holds q)) ++ lost holds (before ++ q ∷ []) qs

-- the name of an item
abbrev pub name_first : Option Envelope → Option (ℕ × ℕ)
name_first None = None
name_first (Some x) = Some (x.entry, x.place)

-- a row once these were put in boards that hold this
abbrev pub told_in : (Queue → List Envelope) → List (Queue × Item) → Row → Row
told_in holds puts r = record r { puts = r.puts ++ puts; ends = r.ends ++ lost holds [] (rings_of puts) }

-- what a queue holds once the entry k put these, from this place on
abbrev pub told_to : (Queue → List Envelope) → List (Queue × Item) → ℕ → ℕ → Queue → List Envelope
told_to holds puts k p q = drop (count_by (λ r. same_queue r q) (rings_of puts)) (holds q) ++ filter (stands_in q) (placed k p puts)

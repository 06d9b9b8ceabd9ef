-- Where a copy is, or what became of it.
use Rattle.std.specs.Prelude.{ℕ, ◌+◌, nat_lt, cond, List, [], ◌∷◌, filter, length, Option, Some, None, slice_get}
use Rattle.p2p_log.specs.declared.queue.Queue.{Queue}
use Rattle.p2p_log.specs.declared.item.Envelope.{Envelope}
use Rattle.p2p_log.specs.declared.end.End.{End}
use Rattle.p2p_log.specs.declared.end.End.TheVariants as end
use Rattle.p2p_log.specs.declared.end.Outcome.{Outcome}
use Rattle.p2p_log.specs.declared.end.Outcome.TheVariants as outcome
use Rattle.p2p_log.specs.declared.entry.Entry.{Entry}
use Rattle.p2p_log.specs.declared.report.Fate.{Fate}
use Rattle.p2p_log.specs.declared.report.Fate.TheVariants as fate
use Rattle.p2p_log.specs.Lines.{same_name, live}
use Rattle.p2p_log.specs.Copies.{accepted, carries}

-- how a copy ended among these ends
abbrev pub outcome_in : ℕ × ℕ → List End → Option Outcome
outcome_in copy [] = None
outcome_in copy (end.Item n p ∷ es) = outcome_in copy es
outcome_in copy (end.Copy n p o ∷ es) = cond (same_name copy (n, p)) (Some o) (outcome_in copy es)

-- the first entry that ends the copy, and how, of entries of which the first has the number n
abbrev pub ended_from : ℕ → ℕ × ℕ → List Entry → Option (ℕ × Outcome)
ended_from n copy [] = None
ended_from n copy (e ∷ es) = elim (outcome_in copy e.ends) [ None ↦ ended_from (n + 1) copy es | Some o ↦ Some (n, o) ]

-- the queue in which the item of this name was put
abbrev pub queue_named : List Entry → ℕ × ℕ → Option Queue
queue_named log name =
    elim (slice_get log name.0) [ None ↦ None | Some e ↦ elim (slice_get e.puts name.1) [ None ↦ None | Some x ↦ Some x.0 ] ]

-- the queue of the first item that an entry took
abbrev pub queue_read : List Entry → List (ℕ × ℕ) → Option Queue
queue_read log [] = None
queue_read log (name ∷ _) = queue_named log name

abbrev pub takes_at : List Entry → ℕ → List (ℕ × ℕ)
takes_at log n = elim (slice_get log n) [ None ↦ [] | Some e ↦ e.takes ]

abbrev pub fate_ended : List Entry → ℕ × Outcome → Option Fate
fate_ended log (n, outcome.Dropped c) = Some (fate.Dropped c n)
fate_ended log (n, outcome.Delivered) = elim (queue_read log (takes_at log n)) [ None ↦ None | Some q ↦ Some (fate.Delivered q n) ]

abbrev pub fate_waiting : List Envelope → Option Fate
fate_waiting [] = None
fate_waiting (x ∷ _) = Some (fate.Waiting x.queue)

-- the fate of a copy: its end, or else the queue in which what carries it stands; none where there is no such copy
unfoldable pub fate_of : List Entry → ℕ × ℕ → Option Fate
fate_of log copy =
    cond (nat_lt copy.1 (length (accepted log copy.0)))
    (elim (ended_from 0 copy log) [ None ↦ fate_waiting (filter (carries copy) (live log)) | Some x ↦ fate_ended log x ])
    None

-- What the fate of a copy tells of the log.
use Rattle.std.specs.Prelude.{◌≡◌, ◌↔◌, ℕ, true, nat_lt, List, [], ◌∷◌, length, take, Some, slice_get, is_some}
use Rattle.p2p_log.specs.declared.queue.Queue.{Queue}
use Rattle.p2p_log.specs.declared.item.Envelope.{Envelope}
use Rattle.p2p_log.specs.declared.end.Cause.{Cause}
use Rattle.p2p_log.specs.declared.end.End.TheVariants as end
use Rattle.p2p_log.specs.declared.end.Outcome.{Outcome}
use Rattle.p2p_log.specs.declared.end.Outcome.TheVariants as outcome
use Rattle.p2p_log.specs.declared.entry.Entry.{Entry}
use Rattle.p2p_log.specs.declared.report.Fate.TheVariants as fate
use Rattle.p2p_log.specs.Lines.{name_of, line}
use Rattle.p2p_log.specs.Copies.{accepted, carries}
use Rattle.p2p_log.specs.Fates.{fate_of}

-- what carries the copy stands in the queue
pub record WaitsIn (log : List Entry) (copy : ℕ × ℕ) (q : Queue) : Type 0 where
  pub place : ℕ
  pub carrier : Envelope
  pub stands : slice_get (line log q) place ≡ Some carrier
  pub has_copy : carries copy carrier ≡ true

-- the entry n ends the copy so
pub record EndsAt (log : List Entry) (copy : ℕ × ℕ) (o : Outcome) (n : ℕ) : Type 0 where
  pub entry : Entry
  pub at : slice_get log n ≡ Some entry
  pub place : ℕ
  pub ended : slice_get entry.ends place ≡ Some (end.Copy copy.0 copy.1 o)

-- the entry n ends the copy as delivered, and takes what carries it, the oldest item in the queue
pub record IsReadFrom (log : List Entry) (copy : ℕ × ℕ) (q : Queue) (n : ℕ) : Type 0 where
  pub ends : EndsAt log copy outcome.Delivered n
  pub carrier : Envelope
  pub later : List Envelope
  pub stood : line (take n log) q ≡ carrier ∷ later
  pub takes : ends.entry.takes ≡ name_of carrier ∷ []
  pub has_copy : carries copy carrier ≡ true

-- a copy has a fate exactly where an accepted send has it
abbrev pub EachHasFate : List Entry → Type 0
EachHasFate log = (copy : ℕ × ℕ) → is_some (fate_of log copy) ≡ nat_lt copy.1 (length (accepted log copy.0))

abbrev pub WaitingIsTrue : List Entry → Type 0
WaitingIsTrue log = (copy : ℕ × ℕ) (q : Queue) → (fate_of log copy ≡ Some (fate.Waiting q)) ↔ WaitsIn log copy q

abbrev pub DroppedIsTrue : List Entry → Type 0
DroppedIsTrue log = (copy : ℕ × ℕ) (c : Cause) (n : ℕ) → (fate_of log copy ≡ Some (fate.Dropped c n)) ↔ EndsAt log copy (outcome.Dropped c) n

abbrev pub DeliveredIsTrue : List Entry → Type 0
DeliveredIsTrue log = (copy : ℕ × ℕ) (q : Queue) (n : ℕ) → (fate_of log copy ≡ Some (fate.Delivered q n)) ↔ IsReadFrom log copy q n

-- The order in which items leave a queue.
use Rattle.std.specs.Prelude.{◌≡◌, ℕ, ◌<◌, ◌≤◌, true, List, [], ◌∷◌, take, Option, Some, slice_get}
use Rattle.p2p_log.specs.declared.queue.Queue.{Queue}
use Rattle.p2p_log.specs.declared.item.Envelope.{Envelope}
use Rattle.p2p_log.specs.declared.entry.Entry.{Entry}
use Rattle.p2p_log.specs.Lines.{name_of, line}
use Rattle.p2p_log_laws.specs.Order.{is_before}
use Rattle.p2p_log_laws.specs.Grants.{Granting, IsAmong}

-- the entry n takes the item from the queue
pub record IsTakenFrom (log : List Entry) (q : Queue) (x : Envelope) (n : ℕ) : Type 0 where
  pub entry : Entry
  pub at : slice_get log n ≡ Some entry
  pub stood : IsAmong (line (take n log) q) x
  pub takes : IsAmong entry.takes (name_of x)

-- of two items that were put in a queue, the one put first is not taken after the other
abbrev pub LeaveInOrder : List Entry → Type 0
LeaveInOrder log =
    (q : Queue) (x y : Envelope) (m n : ℕ)
    → IsTakenFrom log q x m → IsTakenFrom log q y n → is_before (name_of x) (name_of y) ≡ true → m ≤ n

-- ---- what connections put

-- whatever tells of a connection of the key is put in the queue while that connection lives
abbrev pub ArePutAlive : Granting → List Entry → Queue → (Envelope → Option ℕ) → Type 0
ArePutAlive g log q conn_of =
    (x : Envelope) (e : Entry) (c : ℕ)
    → slice_get log x.entry ≡ Some e → slice_get e.puts x.place ≡ Some (q, x.item) → x.queue ≡ q → conn_of x ≡ Some c
    → IsAmong (g.alive (take x.entry log)) c

-- then what tells of an older one leaves the queue before what tells of a newer one, if it is taken alone: no release of an
-- old connection is taken after the beginning of a new one, and what went over an old link is read before what went over a
-- new one
abbrev pub OlderLeaveFirst : List Entry → Queue → (Envelope → Option ℕ) → Type 0
OlderLeaveFirst log q conn_of =
    (x y : Envelope) (b c m n : ℕ) (e : Entry)
    → IsTakenFrom log q x m → IsTakenFrom log q y n → slice_get log n ≡ Some e → e.takes ≡ name_of y ∷ []
    → conn_of x ≡ Some b → conn_of y ≡ Some c → b < c → m < n

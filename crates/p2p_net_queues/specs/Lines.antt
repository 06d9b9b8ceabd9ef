-- When a table holds lines of a log.
use Rattle.std.specs.Prelude.{◌≡◌, ℕ, List}
use Rattle.p2p_log.specs.declared.queue.Queue.{Queue}
use Rattle.p2p_log.specs.declared.item.Envelope.{Envelope}
use Rattle.p2p_log.specs.declared.entry.Entry.{Entry}
use Rattle.p2p_log.specs.Lines.{line}
use Rattle.p2p_net_queues.specs.Tables.{waiting}

-- what waits for each key is the line of its queue
abbrev pub HoldsLines : (ℕ → Queue) → List Entry → List (ℕ × List Envelope) → Type 0
HoldsLines queue_of log w = (k : ℕ) → waiting w k ≡ line log (queue_of k)

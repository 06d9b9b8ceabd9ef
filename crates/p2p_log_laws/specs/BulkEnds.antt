-- Many items that end at once: all that stands in some queues, each item's end before those of its copies.
use Rattle.std.specs.Prelude.{◌≡◌, false, List, [], ◌∷◌, ◌++◌, None}
use Rattle.std.specs.List.{AllByRecursion as Each}
use Rattle.p2p_log.specs.declared.queue.Queue.{Queue}
use Rattle.p2p_log.specs.declared.end.Cause.{Cause}
use Rattle.p2p_log.specs.declared.entry.Entry.{Entry}
use Rattle.p2p_log.specs.declared.event.Event.{Event}
use Rattle.p2p_log.specs.QueueCode.{same_queue}
use Rattle.p2p_log.specs.Drained.{drained, all_end}
use Rattle.p2p_log.specs.Lines.{live, line}
use Rattle.p2p_log.specs.Sending.{sending_of}
use Rattle.p2p_log_rules.specs.declared.row.Row.{Row}
use Rattle.p2p_log_rules.specs.Effect.{entry_of}
use Rattle.p2p_log_laws.specs.OneEnd.{EachEndsOnce}

-- the row ends what stands in these queues, one after another, for this cause, and does nothing else
pub record Empties (log : List Entry) (ev : Event) (r : Row) (qs : List Queue) (c : Cause) : Type 0 where
  pub sends : sending_of ev.act r.reply ≡ None
  pub takes : r.takes ≡ []
  pub puts : r.puts ≡ []
  pub ends : r.ends ≡ all_end c (drained (live log) qs)

-- nothing is left in any of the queues
abbrev pub NothingIsLeft : Type 0
NothingIsLeft =
    (log : List Entry) (ev : Event) (r : Row) (q : Queue) (qs : List Queue) (c : Cause)
    → Empties log ev r (q ∷ qs) c
    → Each (λ p. line (log ++ entry_of ev r ∷ []) p ≡ []) (q ∷ qs)

-- all other queues stay as they were
abbrev pub OthersAreLeft : Type 0
OthersAreLeft =
    (log : List Entry) (ev : Event) (r : Row) (qs : List Queue) (c : Cause) (p : Queue)
    → Empties log ev r qs c → Each (λ q. same_queue p q ≡ false) qs → line (log ++ entry_of ev r ∷ []) p ≡ line log p

-- and each copy still has one end, or one item that carries it
abbrev pub EachStillEndsOnce : Type 0
EachStillEndsOnce =
    (log : List Entry) (ev : Event) (r : Row) (qs : List Queue) (c : Cause)
    → Empties log ev r qs c → EachEndsOnce log → EachEndsOnce (log ++ entry_of ev r ∷ [])

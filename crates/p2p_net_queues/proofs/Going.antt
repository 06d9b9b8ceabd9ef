-- What stands in each queue after an entry of which it is known what goes.
use Rattle.std.proofs.Common.{◌≡◌, cond, List, [], ◌∷◌, ◌++◌, length, ap, ◌∙◌}
use Rattle.std.specs.Prelude.{filter}
use Rattle.std.proofs.lemmas.List.Elements.{filter-append}
use Rattle.p2p_log.specs.declared.queue.Queue.{Queue}
use Rattle.p2p_log.specs.declared.item.Envelope.{Envelope}
use Rattle.p2p_log.specs.declared.entry.Entry.{Entry}
use Rattle.p2p_log.specs.QueueCode.{same_queue}
use Rattle.p2p_log.specs.Lines.{name_of, goes, stays, placed, live, stands_in, line}
use Rattle.p2p_log.proofs.Lines.{live-append, filter_stays-nil}
use Rattle.p2p_log.proofs.Names.{AreApart-live_from, filter_stays-first}

-- what the entry puts in a queue
abbrev pub put_in : List Entry → Entry → Queue → List Envelope
put_in log e q = filter (stands_in q) (placed (length log) 0 e.puts)

-- a line is what stays of it, and then what is put there
pub line-append : (log : List Entry) (e : Entry) (q : Queue)
    → line (log ++ e ∷ []) q ≡ filter (stands_in q) (filter (stays (goes e)) (live log)) ++ put_in log e q
unfolding line
line-append log e q =
    ap (filter (stands_in q)) (live-append log e) ∙ filter-append (stands_in q) (filter (stays (goes e)) (live log)) (placed (length log) 0 e.puts)

-- nothing goes
pub line-kept : (log : List Entry) (e : Entry) (q : Queue) → goes e ≡ [] → line (log ++ e ∷ []) q ≡ line log q ++ put_in log e q
unfolding line
line-kept log e q none =
    line-append log e q
    ∙ ap (λ l. l ++ put_in log e q) (ap (λ g. filter (stands_in q) (filter (stays g) (live log))) none ∙ ap (filter (stands_in q)) (filter_stays-nil (live log)))

-- what stands in a queue, once the first of one goes
pub first_left : (log : List Entry) (p : Queue) (x : Envelope) (rest : List Envelope) → line log p ≡ x ∷ rest → (q : Queue)
    → filter (stands_in q) (filter (stays (name_of x ∷ [])) (live log)) ≡ cond (same_queue p q) rest (line log q)
unfolding line
first_left log p x rest first q = filter_stays-first (live log) p q x rest (AreApart-live_from 0 log) first

-- the first of one queue goes
pub line-taken : (log : List Entry) (e : Entry) (p : Queue) (x : Envelope) (rest : List Envelope) (q : Queue) → line log p ≡ x ∷ rest → goes e ≡ name_of x ∷ []
    → line (log ++ e ∷ []) q ≡ cond (same_queue p q) rest (line log q) ++ put_in log e q
line-taken log e p x rest q first gone =
    line-append log e q ∙ ap (λ l. l ++ put_in log e q) (ap (λ g. filter (stands_in q) (filter (stays g) (live log))) gone ∙ first_left log p x rest first q)

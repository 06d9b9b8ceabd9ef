-- The copies on a way of many queues.
use Rattle.std.specs.Prelude.{◌≡◌, ◌⊎◌, ℕ, Bool, List, [], ◌∷◌, ◌++◌, filter, flat_map}
use Rattle.p2p_log.specs.declared.queue.Queue.{Queue}
use Rattle.p2p_log.specs.declared.item.Item.{Item}
use Rattle.p2p_log.specs.declared.item.Envelope.{Envelope}
use Rattle.p2p_log.specs.declared.entry.Entry.{Entry}
use Rattle.p2p_log.specs.declared.event.Event.{Event}
use Rattle.p2p_log.specs.Copies.{copies_of}
use Rattle.p2p_log.specs.Lines.{stands_in, live}
use Rattle.p2p_log_rules.specs.declared.row.Row.{Row}
use Rattle.p2p_log_rules.specs.Effect.{entry_of, goes_to}
use Rattle.p2p_log_rules.specs.Moves.{Moves}

-- the elements of one list are some of another's, in its order
abbrev pub IsSublist : {X : Type 0} → List X → List X → Type 0
IsSublist xs [] = xs ≡ []
IsSublist {X} xs (y ∷ ys) = IsSublist xs ys ⊎ ((rest : List X) × (xs ≡ y ∷ rest) × IsSublist rest ys)

-- what items in queues carry
abbrev pub carried : List Envelope → List (ℕ × ℕ)
carried xs = flat_map (λ x. copies_of x.item) xs

-- what puts carry
abbrev pub put_copies : List (Queue × Item) → List (ℕ × ℕ)
put_copies xs = flat_map (λ x. copies_of x.1) xs

-- the copies that pass the test, of those that stand in the queue
abbrev pub copies_in : (ℕ × ℕ → Bool) → Queue → List Envelope → List (ℕ × ℕ)
copies_in test q items = filter test (carried (filter (stands_in q) items))

-- and of those that are put in the queue
abbrev pub copies_put : (ℕ × ℕ → Bool) → Queue → List (Queue × Item) → List (ℕ × ℕ)
copies_put test q puts = filter test (put_copies (filter (goes_to q) puts))

-- and of those that stand in these queues, one queue after another
abbrev pub stand : (ℕ × ℕ → Bool) → List Queue → List Envelope → List (ℕ × ℕ)
stand test [] items = []
stand test (q ∷ qs) items = copies_in test q items ++ stand test qs items

-- how copies go along a way whose first queue is the last before the reader: `out` left the first queue; what enters each
-- queue left the next, or the next but some in which nothing stands afterwards; and what enters the last is of `source`
abbrev pub Flows : (test : ℕ × ℕ → Bool) (log : List Entry) (ev : Event) (r : Row) → Moves log r → List (ℕ × ℕ) → List (ℕ × ℕ) → List Queue → Type 0
Flows test log ev r m source out [] = IsSublist out source
Flows test log ev r m source out (q ∷ qs) =
    (IsSublist out (copies_in test q m.taken) × Flows test log ev r m source (copies_put test q r.puts) qs)
    ⊎ (copies_in test q (live (log ++ entry_of ev r ∷ [])) ≡ [] × Flows test log ev r m source out qs)

-- then what is delivered, and what stands on the way afterwards, is some of what stood there and of what came, in its order
abbrev pub FlowKeepsOrder : Type 0
FlowKeepsOrder =
    (test : ℕ × ℕ → Bool) (log : List Entry) (ev : Event) (r : Row) (m : Moves log r) (source out : List (ℕ × ℕ)) (qs : List Queue)
    → Flows test log ev r m source out qs
    → IsSublist (out ++ stand test qs (live (log ++ entry_of ev r ∷ []))) (stand test qs (live log) ++ source)

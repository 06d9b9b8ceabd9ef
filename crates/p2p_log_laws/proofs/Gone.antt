-- A line of which all goes is empty.
use Rattle.std.proofs.Common.{◌≡◌, true, false, List, [], ◌∷◌, ◌++◌, map, length, inl, inr, ap, ◌∙◌}
use Rattle.std.specs.Prelude.{◌||◌, not, filter}
use Rattle.std.specs.List.{list_any, AllByRecursion as Each}
use Rattle.p2p_log.specs.declared.queue.Queue.{Queue}
use Rattle.p2p_log.specs.declared.item.Envelope.{Envelope}
use Rattle.p2p_log.specs.declared.entry.Entry.{Entry}
use Rattle.p2p_log.specs.declared.event.Event.{Event}
use Rattle.p2p_log.specs.Lines.{same_name, name_of, placed, stays, stands_in, live, line}
use Rattle.p2p_log.proofs.Each.{Has, Each-from_has}
use Rattle.p2p_log.proofs.Filters.{filter-none, filter-swap}
use Rattle.p2p_log.proofs.Names.{same_name-refl}
use Rattle.p2p_log_rules.specs.declared.row.Row.{Row}
use Rattle.p2p_log_rules.specs.Effect.{entry_of, goes_to}
use Rattle.p2p_log_rules.specs.Moves.{Moves}
use Rattle.p2p_log_rules.proofs.Bools.{or_true}
use Rattle.p2p_log_rules.proofs.Moves.{goes_moved, line-after, none_placed}

-- a name that is among these
pub named : (ys : List Envelope) (y : Envelope) → Has ys y → list_any (same_name (name_of y)) (map name_of ys) ≡ true
named [] y h = absurd h
named (z ∷ ys) y (inl is) = ap (λ b. b || list_any (same_name (name_of y)) (map name_of ys)) (ap (λ (w : Envelope). same_name (name_of y) (name_of w)) is ∙ same_name-refl (name_of y))
named (z ∷ ys) y (inr later) = ap (λ b. same_name (name_of y) (name_of z) || b) (named ys y later) ∙ or_true (same_name (name_of y) (name_of z))

-- no item is left of a line of which all go
pub all_go : (log : List Entry) (ev : Event) (r : Row) (m : Moves log r) (q : Queue) → ((y : Envelope) → Has (line log q) y → Has (m.taken ++ m.ended) y) → Each (λ x. goes_to q x ≡ false) r.puts
    → line (log ++ entry_of ev r ∷ []) q ≡ []
unfolding line
all_go log ev r m q all none =
    line-after log ev r m q
    ∙ (ap (λ l. l ++ filter (stands_in q) (placed (length log) 0 r.puts))
    (ap (λ gone. filter (stands_in q) (filter (stays gone) (live log))) (goes_moved log ev r m)
    ∙ (filter-swap (stands_in q) (stays (map name_of (m.taken ++ m.ended))) (live log)
    ∙ filter-none (stays (map name_of (m.taken ++ m.ended))) (filter (stands_in q) (live log))
    (Each-from_has (λ (y : Envelope). stays (map name_of (m.taken ++ m.ended)) y ≡ false) (filter (stands_in q) (live log)) (λ y has. ap not (named (m.taken ++ m.ended) y (all y has))))))
    ∙ filter-none (stands_in q) (placed (length log) 0 r.puts) (none_placed log ev r m q (length log) 0 r.puts none))

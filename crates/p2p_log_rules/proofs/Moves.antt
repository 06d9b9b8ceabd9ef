-- What an entry moves: the items that it takes, those that it ends, and so what stays in each queue.
use Rattle.std.proofs.Common.{◌≡◌, ℕ, ◌+◌, false, List, [], ◌∷◌, ◌++◌, map, take, length, refl, ap, sym, subst, ◌∙◌, append-nil}
use Rattle.std.specs.Prelude.{filter, flat_map}
use Rattle.std.specs.List.{AllByRecursion as Each}
use Rattle.std.proofs.lemmas.List.{map-append}
use Rattle.std.proofs.lemmas.Grind.{flat_map-append}
use Rattle.std.proofs.lemmas.List.Elements.{filter-append}
use Rattle.p2p_log.specs.declared.queue.Queue.{Queue}
use Rattle.p2p_log.specs.declared.item.Item.{Item}
use Rattle.p2p_log.specs.declared.item.Envelope.{Envelope}
use Rattle.p2p_log.specs.declared.entry.Entry.{Entry}
use Rattle.p2p_log.specs.declared.event.Event.{Event}
use Rattle.p2p_log_rules.specs.declared.row.Row.{Row}
use Rattle.p2p_log_rules.specs.Moves.{Moves}
use Rattle.p2p_log.specs.Lines.{name_of, ended_item, goes, stays, stands_in, placed, live, line, lines_in}
use Rattle.p2p_log.specs.Drained.{drained, drained_with, all_end}
use Rattle.p2p_log.specs.Copies.{copies_of}
use Rattle.p2p_log.specs.declared.end.End.TheVariants as end
use Rattle.p2p_log.specs.declared.end.Cause.{Cause}
use Rattle.p2p_log.specs.declared.end.Outcome.{Outcome}
use Rattle.p2p_log.specs.declared.end.Outcome.TheVariants as outcome
use Rattle.p2p_log_rules.specs.Effect.{entry_of, goes_to, overwritten, ring_ends}
use Rattle.p2p_log.specs.Apart.{AreApart}
use Rattle.p2p_log.proofs.Each.{Each-append, Each-take, Each-weaker}
use Rattle.p2p_log.proofs.QueueNames.{Each-in_queue}
use Rattle.p2p_log.proofs.Filters.{filter-none}
use Rattle.p2p_log.proofs.Lines.{live-append}
use Rattle.p2p_log.proofs.Names.{AreApart-filter, AreApart-live_from}
use Rattle.p2p_log.proofs.Taken.{AreTaken-append, AreTaken-first, AreTaken-take, AreDifferent, Each-taken, line_taken, lines_taken, drained_taken, BringsOthers, drained_with_taken, filter-taken}
use Rattle.p2p_log.specs.Taken.{AreTaken}

module _ (log : List Entry) (ev : Event) (r : Row) (m : Moves log r) where
  pub taken_stood : AreTaken (live log) m.taken
  taken_stood = AreTaken-first (live log) m.taken m.ended m.stood

  -- these go, and no others
  pub goes_moved : goes (entry_of ev r) ≡ map name_of (m.taken ++ m.ended)
  goes_moved =
      ap (λ a. a ++ flat_map ended_item r.ends) m.names ∙ (ap (λ b. map name_of m.taken ++ b) m.gone ∙ sym (map-append name_of m.taken m.ended))

  -- what stays
  abbrev pub kept : List Envelope
  kept = filter (stays (goes (entry_of ev r))) (live log)

  -- a line is what is moved of it, and then what stays
  pub line-moved : (q : Queue) → line log q ≡ filter (stands_in q) (m.taken ++ m.ended) ++ filter (stands_in q) kept
  unfolding line
  line-moved q =
      filter-taken q (live log) (m.taken ++ m.ended) (AreApart-live_from 0 log) m.stood
      ∙ ap (λ gone. filter (stands_in q) (m.taken ++ m.ended) ++ filter (stands_in q) (filter (stays gone) (live log))) (sym goes_moved)

  -- after the entry it is what stays, and then what is put there
  pub line-after : (q : Queue) → line (log ++ entry_of ev r ∷ []) q ≡ filter (stands_in q) kept ++ filter (stands_in q) (placed (length log) 0 r.puts)
  unfolding line
  line-after q =
      ap (filter (stands_in q)) (live-append log (entry_of ev r)) ∙ filter-append (stands_in q) kept (placed (length log) 0 r.puts)

  pub none_placed : (q : Queue) (n p : ℕ) (puts : List (Queue × Item)) → Each (λ x. goes_to q x ≡ false) puts → Each (λ x. stands_in q x ≡ false) (placed n p puts)
  none_placed q n p [] h = tt
  none_placed q n p (x ∷ puts) h = (h.0, none_placed q n (p + 1) puts h.1)

  -- a line in which nothing is moved stays as it was
  pub line-left : (q : Queue) → Each (λ x. stands_in q x ≡ false) (m.taken ++ m.ended) → Each (λ x. goes_to q x ≡ false) r.puts
      → line (log ++ entry_of ev r ∷ []) q ≡ line log q
  line-left q away puts =
      let stay : line log q ≡ filter (stands_in q) kept =
      line-moved q ∙ ap (λ l. l ++ filter (stands_in q) kept) (filter-none (stands_in q) (m.taken ++ m.ended) away)
      in
      let none : filter (stands_in q) (placed (length log) 0 r.puts) ≡ [] =
      filter-none (stands_in q) (placed (length log) 0 r.puts) (none_placed q (length log) 0 r.puts puts)
      in
      line-after q ∙ (ap (λ l. filter (stands_in q) kept ++ l) none ∙ (append-nil (filter (stands_in q) kept) ∙ sym stay))

-- ---- the first of a line, and whole lines

pub one_taken : (log : List Entry) (q : Queue) (x : Envelope) (rest : List Envelope) → line log q ≡ x ∷ rest → x.queue ≡ q
unfolding line
one_taken log q x rest e = (subst (Each (λ y. y.queue ≡ q)) e (Each-in_queue q (live log))).0

-- the first of a line
pub stands_first : (log : List Entry) (q : Queue) (x : Envelope) (rest : List Envelope) → line log q ≡ x ∷ rest → AreTaken (live log) (x ∷ [])
unfolding line
stands_first log q x rest e = (rest, subst (λ p. filter (stands_in p) (live log) ≡ x ∷ rest) (sym (one_taken log q x rest e)) e, tt)

-- what holds of all that stand in queues holds of the first of a line
pub first_has : (P : Envelope → Type 0) (log : List Entry) (q : Queue) (x : Envelope) (rest : List Envelope)
    → Each P (live log) → line log q ≡ x ∷ rest → P x
first_has P log q x rest h e = (Each-taken P (live log) (x ∷ []) h (stands_first log q x rest e)).0

-- a part of what stands in queues of which no two are one, from the front
pub batch_stood : (log : List Entry) (qs : List Queue) (n : ℕ) → AreDifferent qs → AreTaken (live log) (take n (lines_in (live log) qs))
batch_stood log qs n h = AreTaken-take n (live log) (lines_in (live log) qs) (lines_taken (live log) qs (AreApart-live_from 0 log) h)

-- some items, and then all that still stands in some queues
pub rest_stood : (log : List Entry) (taken : List Envelope) (qs : List Queue) → AreTaken (live log) taken
    → AreTaken (live log) (taken ++ drained (filter (stays (map name_of taken)) (live log)) qs)
rest_stood log taken qs stood =
    let left = filter (stays (map name_of taken)) (live log) in
    AreTaken-append (live log) taken (drained left qs) stood (drained_taken left qs (AreApart-filter (stays (map name_of taken)) (live log) (AreApart-live_from 0 log)))

-- the same with those that items bring
pub rest_with_stood : (brings : Envelope → List Queue) (log : List Entry) (taken : List Envelope) (qs : List Queue) → Each (BringsOthers brings) qs → AreTaken (live log) taken
    → AreTaken (live log) (taken ++ drained_with brings (filter (stays (map name_of taken)) (live log)) qs)
rest_with_stood brings log taken qs others stood =
    let left = filter (stays (map name_of taken)) (live log) in
    AreTaken-append (live log) taken (drained_with brings left qs) stood
    (drained_with_taken brings left qs (AreApart-filter (stays (map name_of taken)) (live log) (AreApart-live_from 0 log)) others)

-- ---- items that end with their copies

copies_stay : (o : Outcome) (cs : List (ℕ × ℕ)) → flat_map ended_item (map (λ copy. end.Copy copy.0 copy.1 o) cs) ≡ []
copies_stay o [] = refl
copies_stay o (c ∷ cs) = copies_stay o cs

pub all_end-gone : (c : Cause) (xs : List Envelope) → flat_map ended_item (all_end c xs) ≡ map name_of xs
all_end-gone c [] = refl
all_end-gone c (x ∷ xs) =
    ap (λ l. name_of x ∷ l)
    (flat_map-append ended_item (map (λ copy. end.Copy copy.0 copy.1 (outcome.Dropped c)) (copies_of x.item)) (all_end c xs)
    ∙ (ap (λ l. l ++ flat_map ended_item (all_end c xs)) (copies_stay (outcome.Dropped c) (copies_of x.item)) ∙ all_end-gone c xs))

-- ---- what rings overwrite

-- the items that are overwritten, in order
abbrev pub rings : List Envelope → List Queue → List Envelope
rings items [] = []
rings items (q ∷ qs) =
    let l = filter (stands_in q) items in
    take 1 l ++ rings (filter (stays (flat_map ended_item (overwritten l))) items) qs

overwritten_gone : (l : List Envelope) → flat_map ended_item (overwritten l) ≡ map name_of (take 1 l)
overwritten_gone [] = refl
overwritten_gone (x ∷ xs) = refl

pub rings_gone : (items : List Envelope) (qs : List Queue) → flat_map ended_item (ring_ends items qs) ≡ map name_of (rings items qs)
rings_gone items [] = refl
rings_gone items (q ∷ qs) =
    let l = filter (stands_in q) items in
    let left = filter (stays (flat_map ended_item (overwritten l))) items in
    flat_map-append ended_item (overwritten l) (ring_ends left qs)
    ∙ (ap (λ a. a ++ flat_map ended_item (ring_ends left qs)) (overwritten_gone l)
    ∙ (ap (λ b. map name_of (take 1 l) ++ b) (rings_gone left qs) ∙ sym (map-append name_of (take 1 l) (rings left qs))))

pub rings_taken : (items : List Envelope) (qs : List Queue) → AreApart items → AreTaken items (rings items qs)
rings_taken items [] apart = tt
rings_taken items (q ∷ qs) apart =
    let l = filter (stands_in q) items in
    let left = filter (stays (flat_map ended_item (overwritten l))) items in
    AreTaken-append items (take 1 l) (rings left qs) (AreTaken-take 1 items l (line_taken items q l apart refl))
    (subst (λ gone. AreTaken (filter (stays gone) items) (rings left qs)) (overwritten_gone l)
    (rings_taken left qs (AreApart-filter (stays (flat_map ended_item (overwritten l))) items apart)))

-- each is in one of those queues
pub rings_in : (P : Queue → Type 0) (items : List Envelope) (qs : List Queue) → Each P qs → Each (λ x. P x.queue) (rings items qs)
rings_in P items [] h = tt
rings_in P items (q ∷ qs) h =
    let l = filter (stands_in q) items in
    let left = filter (stays (flat_map ended_item (overwritten l))) items in
    Each-append (λ x. P x.queue) (take 1 l) (rings left qs)
    (Each-take (λ x. P x.queue) 1 l (Each-weaker (λ x. x.queue ≡ q) (λ x. P x.queue) (λ x e. subst P (sym e) h.0) l (Each-in_queue q items)))
    (rings_in P left qs h.1)

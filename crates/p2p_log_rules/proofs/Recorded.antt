-- What stands in a queue is recorded in the log under its name.
use Rattle.std.proofs.Common.{◌≡◌, ℕ, ◌+◌, Bool, true, false, cond, List, [], ◌∷◌, ◌++◌, length, refl, ap, sym, subst, ◌∙◌, append_assoc, length-append, Some}
use Rattle.std.specs.Prelude.{filter, flat_map, map, slice_get}
use Rattle.p2p_log.specs.declared.queue.Queue.{Queue}
use Rattle.p2p_log.specs.declared.item.Item.{Item}
use Rattle.p2p_log.specs.declared.item.Envelope.{Envelope}
use Rattle.p2p_log.specs.declared.entry.Entry.{Entry}
use Rattle.p2p_log.specs.Lines.{name_of, placed, goes, stays, live_from, live, stands_in, line}
use Rattle.p2p_log_rules.specs.Facts.{item_put, item_in, item_named}
use Rattle.p2p_log.proofs.Places.{slice_get-seam}

-- the log has these items under their names
abbrev pub AreRecorded : List Entry → List Envelope → Type 0
AreRecorded log [] = Unit {0}
AreRecorded log (x ∷ xs) = (item_named log (name_of x) ≡ x.item ∷ []) × AreRecorded log xs

pub AreRecorded-filter : (log : List Entry) (p : Envelope → Bool) (xs : List Envelope) → AreRecorded log xs → AreRecorded log (filter p xs)
AreRecorded-filter log p [] h = tt
AreRecorded-filter log p (x ∷ xs) h =
    elim (p x) as (λ b. AreRecorded log (cond b (x ∷ filter p xs) (filter p xs))) [
      | true ↦ (h.0, AreRecorded-filter log p xs h.1)
      | false ↦ AreRecorded-filter log p xs h.1
    ]

pub AreRecorded-append : (log : List Entry) (xs ys : List Envelope) → AreRecorded log xs → AreRecorded log ys → AreRecorded log (xs ++ ys)
AreRecorded-append log [] ys a b = b
AreRecorded-append log (x ∷ xs) ys a b = (a.0, AreRecorded-append log xs ys a.1 b)

AreRecorded-placed :
    (log : List Entry) (n : ℕ) (e : Entry) (front rest : List (Queue × Item))
    → slice_get log n ≡ Some e → e.puts ≡ front ++ rest → AreRecorded log (placed n (length front) rest)
AreRecorded-placed log n e front [] s h = tt
AreRecorded-placed log n e front (x ∷ xs) s h =
    let here : item_named log (n, length front) ≡ x.1 ∷ [] =
    ap (λ o. item_in o (length front)) s
    ∙ (ap (λ puts. item_put (slice_get puts (length front))) h ∙ ap item_put (slice_get-seam front x xs))
    in
    let longer : length (front ++ x ∷ []) ≡ length front + 1 = length-append front (x ∷ []) in (
      here,
      subst (λ k. AreRecorded log (placed n k xs)) longer
          (AreRecorded-placed log n e (front ++ x ∷ []) xs s (h ∙ sym (append_assoc front (x ∷ []) xs))),
    )

AreRecorded-live_from : (before es : List Entry) → AreRecorded (before ++ es) (live_from (length before) es)
unfolding live_from
AreRecorded-live_from before [] = tt
AreRecorded-live_from before (e ∷ es) =
    let log = before ++ e ∷ es in
    let front : AreRecorded log (placed (length before) 0 e.puts) =
    AreRecorded-placed log (length before) e [] e.puts (slice_get-seam before e es) refl
    in
    let longer : length (before ++ e ∷ []) ≡ length before + 1 = length-append before (e ∷ []) in
    let later : AreRecorded log (live_from (length before + 1) es) =
    subst (λ k. AreRecorded log (live_from k es)) longer
    (subst (λ l. AreRecorded l (live_from (length (before ++ e ∷ [])) es)) (append_assoc before (e ∷ []) es)
    (AreRecorded-live_from (before ++ e ∷ []) es))
    in
    AreRecorded-append log (filter (stays (flat_map goes es)) (placed (length before) 0 e.puts)) (live_from (length before + 1) es)
    (AreRecorded-filter log (stays (flat_map goes es)) (placed (length before) 0 e.puts) front) later

-- the items in a queue are the log's, under their names
pub AreRecorded-line : (log : List Entry) (q : Queue) → AreRecorded log (line log q)
unfolding line
AreRecorded-line log q = AreRecorded-filter log (stands_in q) (live log) (AreRecorded-live_from [] log)

abbrev RecordedFirst : List Entry → List Envelope → Type 0
RecordedFirst log [] = Unit {0}
RecordedFirst log (x ∷ xs) = item_named log (name_of x) ≡ x.item ∷ []

recorded_head : (log : List Entry) (xs : List Envelope) → AreRecorded log xs → RecordedFirst log xs
recorded_head log [] h = tt
recorded_head log (x ∷ xs) h = h.0

-- the first item of a queue is the log's under its name
pub item_named-first :
    (log : List Entry) (q : Queue) (x : Envelope) (rest : List Envelope) → line log q ≡ x ∷ rest → item_named log (name_of x) ≡ x.item ∷ []
item_named-first log q x rest h = subst (RecordedFirst log) h (recorded_head log (line log q) (AreRecorded-line log q))

-- the items of these names are these items
pub flat_map_item_named : (log : List Entry) (xs : List Envelope) → AreRecorded log xs → flat_map (item_named log) (map name_of xs) ≡ map (λ x. x.item) xs
flat_map_item_named log [] h = refl
flat_map_item_named log (x ∷ xs) h = ap (λ l. l ++ flat_map (item_named log) (map name_of xs)) h.0 ∙ ap (λ r. x.item ∷ r) (flat_map_item_named log xs h.1)

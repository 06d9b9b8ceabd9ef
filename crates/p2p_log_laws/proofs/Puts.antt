-- What stands in a queue was put there by the entry of its name.
use Rattle.std.proofs.Common.{◌≡◌, ℕ, ◌+◌, List, [], ◌∷◌, ◌++◌, length, Some, refl, ap, sym, subst, ◌∙◌, append_assoc, length-append}
use Rattle.std.specs.Prelude.{filter, flat_map, slice_get}
use Rattle.std.specs.List.{AllByRecursion as Each}
use Rattle.p2p_log.specs.declared.queue.Queue.{Queue}
use Rattle.p2p_log.specs.declared.item.Item.{Item}
use Rattle.p2p_log.specs.declared.item.Envelope.{Envelope}
use Rattle.p2p_log.specs.declared.entry.Entry.{Entry}
use Rattle.p2p_log.specs.Lines.{placed, goes, stays, live_from, live}
use Rattle.p2p_log.proofs.Places.{slice_get-seam}
use Rattle.p2p_log.proofs.Each.{Each-append, Each-filter}

pub record IsPut (log : List Entry) (x : Envelope) : Type 0 where
  pub entry : Entry
  pub at : slice_get log x.entry ≡ Some entry
  pub put : slice_get entry.puts x.place ≡ Some (x.queue, x.item)

placed_put : (log : List Entry) (n : ℕ) (e : Entry) (front rest : List (Queue × Item)) → slice_get log n ≡ Some e → e.puts ≡ front ++ rest
    → Each (IsPut log) (placed n (length front) rest)
placed_put log n e front [] s h = tt
placed_put log n e front (x ∷ xs) s h =
    let here : slice_get e.puts (length front) ≡ Some x = ap (λ (l : List (Queue × Item)). slice_get l (length front)) h ∙ slice_get-seam front x xs in
    let longer : length (front ++ x ∷ []) ≡ length front + 1 = length-append front (x ∷ []) in (
      record { entry = e; at = s; put = here },
      subst (λ (k : ℕ). Each (IsPut log) (placed n k xs)) longer (placed_put log n e (front ++ x ∷ []) xs s (h ∙ sym (append_assoc front (x ∷ []) xs))),
    )

live_put : (before es : List Entry) → Each (IsPut (before ++ es)) (live_from (length before) es)
unfolding live_from
live_put before [] = tt
live_put before (e ∷ es) =
    let log = before ++ e ∷ es in
    let longer : length (before ++ e ∷ []) ≡ length before + 1 = length-append before (e ∷ []) in
    let later : Each (IsPut log) (live_from (length before + 1) es) =
    subst (λ (k : ℕ). Each (IsPut log) (live_from k es)) longer
    (subst (λ (l : List Entry). Each (IsPut l) (live_from (length (before ++ e ∷ [])) es)) (append_assoc before (e ∷ []) es) (live_put (before ++ e ∷ []) es))
    in
    Each-append (IsPut log) (filter (stays (flat_map goes es)) (placed (length before) 0 e.puts)) (live_from (length before + 1) es)
    (Each-filter (IsPut log) (stays (flat_map goes es)) (placed (length before) 0 e.puts) (placed_put log (length before) e [] e.puts (slice_get-seam before e es) refl))
    later

pub each_put : (log : List Entry) → Each (IsPut log) (live log)
each_put log = live_put [] log

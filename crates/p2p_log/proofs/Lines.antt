-- What one more entry makes of the lines.
use Rattle.std.proofs.Common.{◌≡◌, ℕ, ◌+◌, Bool, true, false, List, [], ◌∷◌, ◌++◌, length, refl, ap, sym, ◌∙◌, arith, append_assoc, append-nil}
use Rattle.std.specs.Prelude.{filter, flat_map, ◌&&◌, ◌||◌, not}
use Rattle.std.specs.List.{list_any}
use Rattle.std.proofs.lemmas.List.Elements.{filter-append}
use Rattle.std.proofs.lemmas.List.Folds.{list_any-append}
use Rattle.std.proofs.lemmas.Grind.{flat_map-append}
use Rattle.p2p_log.specs.declared.item.Envelope.{Envelope}
use Rattle.p2p_log.specs.declared.entry.Entry.{Entry}
use Rattle.p2p_log.specs.Lines.{name_of, same_name, placed, goes, stays, live_from, live}
use Rattle.p2p_log.proofs.Filters.{filter-filter, filter-same}

not-or : (a b : Bool) → not (a || b) ≡ (not a && not b)
not-or true b = refl
not-or false b = refl

pub stays-append : (a b : List (ℕ × ℕ)) (x : Envelope) → stays (a ++ b) x ≡ (stays a x && stays b x)
stays-append a b x =
    ap not (list_any-append (same_name (name_of x)) a b) ∙ not-or (list_any (same_name (name_of x)) a) (list_any (same_name (name_of x)) b)

-- to go by two lists of names is to go by one and then by the other
pub filter_stays-append : (a b : List (ℕ × ℕ)) (xs : List Envelope) → filter (stays (a ++ b)) xs ≡ filter (stays b) (filter (stays a) xs)
filter_stays-append a b xs =
    filter-same (stays (a ++ b)) (λ x. stays a x && stays b x) (stays-append a b) xs ∙ sym (filter-filter (stays b) (stays a) xs)

pub filter_stays-nil : (xs : List Envelope) → filter (stays []) xs ≡ xs
filter_stays-nil [] = refl
filter_stays-nil (x ∷ xs) = ap (λ r. x ∷ r) (filter_stays-nil xs)

-- what stands in queues after one more entry: what does not go by it, and what it puts
pub live_from-append :
    (n : ℕ) (es : List Entry) (e : Entry)
    → live_from n (es ++ e ∷ []) ≡ filter (stays (goes e)) (live_from n es) ++ placed (n + length es) 0 e.puts
unfolding live_from
live_from-append n [] e =
    append-nil (filter (stays []) (placed n 0 e.puts)) ∙ (filter_stays-nil (placed n 0 e.puts) ∙ ap (λ k. placed k 0 e.puts) (omega arith))
live_from-append n (d ∷ es) e =
    let front = placed n 0 d.puts in
    let gone = flat_map goes es in
    let later = live_from (n + 1) es in
    let same : filter (stays (flat_map goes (es ++ e ∷ []))) front ≡ filter (stays (goes e)) (filter (stays gone) front) =
    ap (λ g. filter (stays g) front) (flat_map-append goes es (e ∷ []) ∙ ap (λ g. gone ++ g) (append-nil (goes e)))
    ∙ filter_stays-append gone (goes e) front
    in
    let rest : live_from (n + 1) (es ++ e ∷ []) ≡ filter (stays (goes e)) later ++ placed (n + length (d ∷ es)) 0 e.puts =
    live_from-append (n + 1) es e ∙ ap (λ k. filter (stays (goes e)) later ++ placed k 0 e.puts) (grind arith)
    in
    ap (λ a. a ++ live_from (n + 1) (es ++ e ∷ [])) same
    ∙ (ap (λ b. filter (stays (goes e)) (filter (stays gone) front) ++ b) rest
    ∙ (sym (append_assoc (filter (stays (goes e)) (filter (stays gone) front)) (filter (stays (goes e)) later) (placed (n + length (d ∷ es)) 0 e.puts))
    ∙ ap (λ a. a ++ placed (n + length (d ∷ es)) 0 e.puts) (sym (filter-append (stays (goes e)) (filter (stays gone) front) later))))

pub live-append :
    (es : List Entry) (e : Entry) → live (es ++ e ∷ []) ≡ filter (stays (goes e)) (live es) ++ placed (length es) 0 e.puts
live-append es e = live_from-append 0 es e ∙ ap (λ k. filter (stays (goes e)) (live es) ++ placed k 0 e.puts) (omega arith)

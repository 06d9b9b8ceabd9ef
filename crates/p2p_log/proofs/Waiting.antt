-- What of an entry's puts stands comes before what stands of the later entries' puts.
use Rattle.std.proofs.Common.{◌≡◌, ◌+◌, ◌-◌, ◌<◌, ℕ, true, false, List, [], ◌∷◌, ◌++◌, Option, Some, None, ◌∙◌, ap, refl, sym, length, take, drop, get_or}
use Rattle.std.specs.Prelude.{filter, flat_map, is_some}
use Rattle.std.specs.Option.{option_or}
use Rattle.std.proofs.lemmas.Bool.{false≢true}
use Rattle.std.proofs.lemmas.List.{at_drop_more, take_rest}
use Rattle.std.proofs.lemmas.List.Elements.{filter-append}
use Rattle.p2p_log.specs.declared.entry.Entry.{Entry}
use Rattle.p2p_log.specs.declared.item.Envelope.{Envelope}
use Rattle.p2p_log.specs.declared.report.Fate.{Fate}
use Rattle.p2p_log.specs.Lines.{goes, live_from, placed, stays}
use Rattle.p2p_log.specs.Copies.{carries}
use Rattle.p2p_log.specs.Fates.{fate_waiting}

-- where the first of these stands that carries the copy
abbrev pub first_of : ℕ × ℕ → List Envelope → Option Fate
first_of copy xs = fate_waiting (filter (carries copy) xs)

-- what stands of the entry's puts, where these entries come later
abbrev pub stands_of : ℕ → Entry → List Entry → List Envelope
stands_of n e later = filter (stays (flat_map goes later)) (placed n 0 e.puts)

fate_waiting-append : (xs ys : List Envelope) → fate_waiting (xs ++ ys) ≡ option_or (fate_waiting xs) (fate_waiting ys)
fate_waiting-append [] ys = refl
fate_waiting-append (x ∷ xs) ys = refl

pub first_of-live : (copy : ℕ × ℕ) (n : ℕ) (e : Entry) (es : List Entry)
    → first_of copy (live_from n (e ∷ es)) ≡ option_or (first_of copy (stands_of n e es)) (first_of copy (live_from (n + 1) es))
unfolding live_from
first_of-live copy n e es =
    ap fate_waiting (filter-append (carries copy) (stands_of n e es) (live_from (n + 1) es))
    ∙ fate_waiting-append (filter (carries copy) (stands_of n e es)) (filter (carries copy) (live_from (n + 1) es))

pub first_of-none : (copy : ℕ × ℕ) (n : ℕ) → first_of copy (live_from n []) ≡ None
unfolding live_from
first_of-none copy n = refl

-- the next entry's answer, or else that of the entries after it
pub first_of-next : (copy : ℕ × ℕ) (log : List Entry) (n : ℕ) (e : Entry) (found : Option Fate)
    → n < length log
    → e ≡ get_or log n e
    → found ≡ first_of copy (stands_of n e (take (length log - (n + 1)) (drop (n + 1) log)))
    → first_of copy (live_from n (drop n log)) ≡ option_or found (first_of copy (live_from (n + 1) (drop (n + 1) log)))
first_of-next copy log n e found within is answer =
    let from : List Entry → Option Fate = λ xs. first_of copy (live_from n xs) in
    let rest = drop (n + 1) log in
    at_drop_more from log n e within
    ∙ ap (λ x. from (x ∷ rest)) (sym is)
    ∙ first_of-live copy n e rest
    ∙ ap (λ o. option_or o (first_of copy (live_from (n + 1) rest)))
    (sym (answer ∙ ap (λ later. first_of copy (stands_of n e later)) (take_rest log (n + 1))))

pub option_or-some : {T : Type 0} (x y : Option T) → is_some x ≡ true → option_or x y ≡ x
option_or-some None y h = absurd (false≢true h)
option_or-some (Some x) y h = refl

pub option_or-none : {T : Type 0} (x y : Option T) → is_some x ≡ false → option_or x y ≡ y
option_or-none None y h = refl
option_or-none (Some x) y h = absurd (false≢true (sym h))

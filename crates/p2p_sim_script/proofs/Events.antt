-- The events of acts, one act after another.
use Rattle.std.proofs.Common.{◌≡◌, ℕ, ◌+◌, List, [], ◌∷◌, ◌++◌, length, refl, sym, ◌∙◌, ap, arith, append_assoc}
use Rattle.p2p_log.specs.declared.event.Act.{Act}
use Rattle.p2p_log.specs.declared.event.Event.{Event}
use Rattle.p2p_sim_script.specs.Generated.{event_at, events_from}

-- the events of one act more
pub events_from-snoc : (n : ℕ) (acts : List Act) (act : Act) → events_from n (acts ++ act ∷ []) ≡ events_from n acts ++ event_at (n + length acts) act ∷ []
events_from-snoc n [] act = let e : n ≡ n + 0 = omega arith in ap (λ (m : ℕ). event_at m act ∷ []) e
events_from-snoc n (x ∷ xs) act =
    let e : n + 1 + length xs ≡ n + length (x ∷ xs) = omega arith in
    ap (λ (es : List Event). event_at n x ∷ es) (events_from-snoc (n + 1) xs act ∙ ap (λ (m : ℕ). events_from (n + 1) xs ++ event_at m act ∷ []) e)

-- one event more, behind those of the acts so far
pub put-more : (before now later : List Event) (first n : ℕ) (acts : List Act) (act : Act) (e : Event) → now ≡ before ++ events_from first acts → n ≡ first + length acts → e ≡ event_at n act → later ≡ now ++ e ∷ []
    → later ≡ before ++ events_from first (acts ++ act ∷ [])
put-more before now later first n acts act e stands counted is more =
    let there : e ≡ event_at (first + length acts) act = is ∙ ap (λ (m : ℕ). event_at m act) counted in
    more
    ∙ (ap (λ (es : List Event). es ++ e ∷ []) stands
    ∙ (append_assoc before (events_from first acts) (e ∷ [])
    ∙ ap (λ (es : List Event). before ++ es) (ap (λ (v : Event). events_from first acts ++ v ∷ []) there ∙ sym (events_from-snoc first acts act))))

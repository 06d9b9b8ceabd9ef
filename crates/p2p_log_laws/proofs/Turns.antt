-- Grants take turns, and each has one holder or one release that waits.
use Rattle.std.proofs.Common.{◌≡◌, ℕ, ◌+◌, Bool, true, false, cond, List, [], ◌∷◌, ◌++◌, ◌⊎◌, inl, inr, take, refl, ap, sym, ◌∙◌, arith}
use Rattle.std.specs.Prelude.{not, ◌&&◌, ◌||◌, sum_by}
use Rattle.std.specs.List.{list_any}
use Rattle.std.proofs.lemmas.Bool.{false≢true}
use Rattle.std.proofs.lemmas.List.Folds.{list_any-append}
use Rattle.std.proofs.lemmas.List.Sums.{sum_by-append}
use Rattle.p2p_log_rules.proofs.Bools.{or_false, or_true}
use Rattle.p2p_log.specs.declared.entry.Entry.{Entry}
use Rattle.p2p_log_rules.specs.Facts.{history, history_from}
use Rattle.p2p_log_rules.proofs.Facts.{history_from-append}
use Rattle.p2p_log_laws.specs.Grants.{one, Granting, turn_by, turns, alternate, held_after, is_held, is_stopped, times, Hands, Halts, EachIsTurn, GrantsAlternate, HasOneHolder, EachIsReleased}
use Rattle.p2p_log_laws.proofs.Entries.{each_beginning, at_last}

-- ---- one turn more

held_more : (h : Bool) (ts more : List Bool) → held_after h (ts ++ more) ≡ held_after (held_after h ts) more
held_more h [] more = refl
held_more h (t ∷ ts) more = held_more t ts more

and_assoc : (a b c : Bool) → (a && (b && c)) ≡ ((a && b) && c)
and_assoc true b c = refl
and_assoc false b c = refl

alternate_more : (h : Bool) (ts more : List Bool) → alternate h (ts ++ more) ≡ (alternate h ts && alternate (held_after h ts) more)
alternate_more h [] more = refl
alternate_more h (t ∷ ts) more =
    ap (λ b. cond h (not t) t && b) (alternate_more t ts more) ∙ and_assoc (cond h (not t) t) (alternate t ts) (alternate (held_after t ts) more)

both : (a b : Bool) → a ≡ true → b ≡ true → (a && b) ≡ true
both a b h i = ap (λ x. x && b) h ∙ i

or_parts : (a b : Bool) → (a || b) ≡ false → (a ≡ false) × (b ≡ false)
or_parts true b h = absurd (false≢true (sym h))
or_parts false b h = (refl, h)

-- ---- the numbers

-- who holds and what waits, by whether the entry grants and frees, whether the node was stopped, and whether the key was held
counted : (g f s held : Bool) (h w r k v : ℕ)
    → h + one g ≡ k + r → w + r ≡ v + one f → (g ≡ true → held ≡ false) → (s ≡ true → g ≡ false) → (g ≡ true → f ≡ false)
    → h + w ≡ cond s 0 (one held) → k + v ≡ cond s 0 (one (held_after held (cond g (true ∷ []) (cond f (false ∷ []) []))))
counted true f true held h w r k v a b free up apart old = absurd (false≢true (sym (up refl)))
counted true true false held h w r k v a b free up apart old = absurd (false≢true (sym (apart refl)))
counted true false false held h w r k v a b free up apart old = let none : h + w ≡ 0 = old ∙ ap one (free refl) in omega (arith, a, b, none)
counted false true true held h w r k v a b free up apart old = absurd (omega (arith, a, b, old))
counted false true false true h w r k v a b free up apart old = omega (arith, a, b, old)
counted false true false false h w r k v a b free up apart old = absurd (omega (arith, a, b, old))
counted false false s held h w r k v a b free up apart old = omega (arith, a, b, old)

-- a turn is other than the one before it
taken : (g f s held : Bool) (h w r k v : ℕ) → h + one g ≡ k + r → w + r ≡ v + one f → (g ≡ true → held ≡ false) → h + w ≡ cond s 0 (one held)
    → alternate held (cond g (true ∷ []) (cond f (false ∷ []) [])) ≡ true
taken true f s held h w r k v a b free old = ap (λ x. cond x false true && true) (free refl)
taken false true true held h w r k v a b free old = absurd (omega (arith, a, b, old))
taken false true false true h w r k v a b free old = refl
taken false true false false h w r k v a b free old = absurd (omega (arith, a, b, old))
taken false false s held h w r k v a b free old = refl

turns_more : (g : Granting) (before : List Entry) (e : Entry) → turns g (before ++ e ∷ []) ≡ turns g before ++ turn_by g before e
turns_more g before e = history_from-append (turn_by g) [] before e

pub held_next : (g : Granting) (before : List Entry) (e : Entry) → is_held g (before ++ e ∷ []) ≡ held_after (is_held g before) (turn_by g before e)
held_next g before e = ap (held_after false) (turns_more g before e) ∙ held_more false (turns g before) (turn_by g before e)

pub stopped_next : (g : Granting) (before : List Entry) (e : Entry) → is_stopped g (before ++ e ∷ []) ≡ (is_stopped g before || g.stops before e)
stopped_next g before e =
    ap (list_any (λ (b : Bool). b)) (history_from-append (λ before e. g.stops before e ∷ []) [] before e)
    ∙ (list_any-append (λ (b : Bool). b) (history (λ before e. g.stops before e ∷ []) before) (g.stops before e ∷ [])
    ∙ ap (λ b. is_stopped g before || b) (or_false (g.stops before e)))

module _ (g : Granting) (log : List Entry) (each : EachIsTurn g log) where
  times_next : (f : List Entry → Entry → ℕ) (before : List Entry) (e : Entry) → times f (before ++ e ∷ []) ≡ times f before + f before e
  times_next f before e =
      ap (λ l. sum_by (λ (n : ℕ). n) l) (history_from-append (λ before e. f before e ∷ []) [] before e)
      ∙ (sum_by-append (λ (n : ℕ). n) (history (λ before e. f before e ∷ []) before) (f before e ∷ [])
      ∙ ap (λ n. times f before + n) (zero_add (f before e)))
    where
      zero_add : (n : ℕ) → 0 + n ≡ n
      zero_add n = omega arith

  runs_on : (before : List Entry) (e : Entry) → g.stops before e ≡ false → is_stopped g (before ++ e ∷ []) ≡ is_stopped g before
  runs_on before e runs = stopped_next g before e ∙ (ap (λ b. is_stopped g before || b) runs ∙ or_false (is_stopped g before))

  stops_here : (before : List Entry) (e : Entry) → g.stops before e ≡ true → is_stopped g (before ++ e ∷ []) ≡ true
  stops_here before e stops = stopped_next g before e ∙ (ap (λ b. is_stopped g before || b) stops ∙ or_true (is_stopped g before))

  -- ---- one holder

  counted_more : (before : List Entry) (e : Entry) → Hands g before e ⊎ Halts g before e → HasOneHolder g before → HasOneHolder g (before ++ e ∷ [])
  counted_more before e h old = elim h [
    | inl hands ↦
        counted (g.grants before e) (g.frees before e) (is_stopped g before) (is_held g before) (g.holders before) (g.waiting before) (g.released before e)
        (g.holders (before ++ e ∷ [])) (g.waiting (before ++ e ∷ [])) hands.holding hands.waiting hands.free hands.up hands.apart old
        ∙ sym (ap (λ s. cond s 0 (one (is_held g (before ++ e ∷ [])))) (runs_on before e hands.runs)
        ∙ ap (λ b. cond (is_stopped g before) 0 (one b)) (held_next g before e))
    | inr halts ↦
        let none : g.holders (before ++ e ∷ []) + g.waiting (before ++ e ∷ []) ≡ 0 = let a = halts.none_holds in let b = halts.none_waits in omega (arith, a, b) in
        none ∙ sym (ap (λ s. cond s 0 (one (is_held g (before ++ e ∷ [])))) (stops_here before e halts.stops))
  ]

  none_yet : HasOneHolder g []
  unfolding history_from
  none_yet = let a = each.none_holds in let b = each.none_waits in let sum : g.holders [] + g.waiting [] ≡ 0 = omega (arith, a, b) in sum

  pub one_holder_at : (n : ℕ) → HasOneHolder g (take n log)
  one_holder_at n = each_beginning log (HasOneHolder g) none_yet (λ i e at old. counted_more (take i log) e (each.each i e at).hands old) n

  pub one_holder : HasOneHolder g log
  one_holder = at_last log (HasOneHolder g) none_yet (λ i e at old. counted_more (take i log) e (each.each i e at).hands old)

  -- ---- turns

  turn_of : (before : List Entry) (e : Entry) → Hands g before e ⊎ Halts g before e → HasOneHolder g before → alternate (is_held g before) (turn_by g before e) ≡ true
  turn_of before e h old = elim h [
    | inl hands ↦
        taken (g.grants before e) (g.frees before e) (is_stopped g before) (is_held g before) (g.holders before) (g.waiting before) (g.released before e)
        (g.holders (before ++ e ∷ [])) (g.waiting (before ++ e ∷ [])) hands.holding hands.waiting hands.free old
    | inr halts ↦
        ap (λ b. alternate (is_held g before) (cond b (true ∷ []) (cond (g.frees before e) (false ∷ []) []))) halts.no_grant
        ∙ ap (λ b. alternate (is_held g before) (cond b (false ∷ []) [])) halts.no_turn
  ]

  no_turns : GrantsAlternate g []
  unfolding history_from
  no_turns = refl

  pub alternates : GrantsAlternate g log
  alternates =
      at_last log (GrantsAlternate g) no_turns (λ i e at old.
      ap (alternate false) (turns_more g (take i log) e)
      ∙ (alternate_more false (turns g (take i log)) (turn_by g (take i log) e)
      ∙ both (alternate false (turns g (take i log))) (alternate (is_held g (take i log)) (turn_by g (take i log) e)) old
      (turn_of (take i log) e (each.each i e at).hands (one_holder_at i))))

  -- ---- releases

  released_more : (before : List Entry) (e : Entry) → Hands g before e ⊎ Halts g before e → EachIsReleased g before → EachIsReleased g (before ++ e ∷ [])
  released_more before e h old up = elim h [
    | inl hands ↦
        let before_it = old (sym (runs_on before e hands.runs) ∙ up) in
        let granted = times_next (λ before e. one (g.grants before e)) before e in
        let released = times_next g.released before e in
        let holding = hands.holding in
        omega (arith, before_it, granted, released, holding)
    | inr halts ↦ absurd (false≢true (sym up ∙ stops_here before e halts.stops))
  ]

  none_released : EachIsReleased g []
  unfolding history_from
  none_released up = sym (none_held (g.holders []) each.none_holds)
    where
      none_held : (h : ℕ) → h ≡ 0 → h + 0 ≡ 0
      none_held h e = omega (arith, e)

  pub each_released : EachIsReleased g log
  each_released = at_last log (EachIsReleased g) none_released (λ i e at old. released_more (take i log) e (each.each i e at).hands old)

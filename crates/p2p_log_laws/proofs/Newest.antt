-- Of the connections of one key at one node at most one lives, and it is the newest that began.
use Rattle.std.proofs.Common.{◌≡◌, ℕ, suc, zero, ◌+◌, ◌-◌, ◌<◌, ◌≤◌, Bool, true, false, List, [], ◌∷◌, ◌++◌, inl, inr, length, take, Option, Some, None, refl, sym, subst, arith, length-append}
use Rattle.std.specs.Prelude.{cond, slice_get}
use Rattle.std.specs.List.{AllByRecursion as Each}
use Rattle.p2p_log.specs.declared.entry.Entry.{Entry}
use Rattle.p2p_log_rules.specs.Facts.{history, history_from}
use Rattle.p2p_log_rules.proofs.Facts.{history_from-append}
use Rattle.p2p_log.proofs.Each.{Has, Has-first, Has-after, Has-either, Has-get, place_of, Each-append, Each-has, Each-weaker}
use Rattle.p2p_log_laws.specs.Grants.{one, Granting, IsAmong, is_held, is_stopped, IsTurn, EachIsTurn, HasOneHolder, NewestLives}
use Rattle.p2p_log_laws.proofs.Entries.{each_beginning, at_last}
use Rattle.p2p_log_laws.proofs.Prefixes.{take_next, take_no_more}
use Rattle.p2p_log_laws.proofs.Turns.{one_holder_at}

pub among_has : {X : Type 0} (xs : List X) (x : X) → IsAmong xs x → Has xs x
among_has xs x h = Has-get xs h.0 x h.1

pub has_among : {X : Type 0} (xs : List X) (x : X) → Has xs x → IsAmong xs x
has_among xs x h = place_of xs x h

has_length : {X : Type 0} (xs : List X) (x : X) → Has xs x → 1 ≤ length xs
has_length [] x h = absurd h
has_length (y ∷ xs) x h = omega arith

at_most_one : (s b : Bool) (h w : ℕ) → h + w ≡ cond s 0 (one b) → h ≤ 1
at_most_one true b h w e = omega (arith, e)
at_most_one false true h w e = omega (arith, e)
at_most_one false false h w e = omega (arith, e)

module _ (g : Granting) (log : List Entry) (each : EachIsTurn g log) where
  -- all that ever began
  abbrev pub begun : List Entry → List ℕ
  begun before = history g.begins before

  begun_next : (before : List Entry) (e : Entry) → begun (before ++ e ∷ []) ≡ begun before ++ g.begins before e
  begun_next before e = history_from-append g.begins [] before e

  -- what began has an earlier number, and what lives began and is the newest
  pub record AreNewest (before : List Entry) : Type 0 where
    pub below : Each (λ b. b < length before) (begun before)
    pub newest : (c : ℕ) → Has (g.alive before) c → Has (begun before) c × Each (λ b. b ≤ c) (begun before)

  none_newest : AreNewest []
  unfolding history_from
  none_newest = record { below = tt; newest = λ c h. absurd (subst (λ l. Has l c) each.none_lives h) }

  none_begins : (c : ℕ) (kept more : List ℕ) (n : ℕ) → Has kept c → length (kept ++ more) ≤ n → n ≤ 1 → length more ≡ 0
  none_begins c kept more n h fits most =
      let some = has_length kept c h in
      let sum = length-append kept more in
      omega (arith, some, sum, fits, most)

  each_none : (c : ℕ) (l : List ℕ) → length l ≡ 0 → Each (λ b. b ≤ c) l
  each_none c [] h = tt
  each_none c (x ∷ l) h = absurd (omega (arith, h))

  newest_more : (before : List Entry) (e : Entry) → IsTurn g before e → g.holders (before ++ e ∷ []) ≤ 1 → AreNewest before → AreNewest (before ++ e ∷ [])
  newest_more before e t most old =
      let longer : length (before ++ e ∷ []) ≡ length before + 1 = length-append before (e ∷ []) in
      let next = begun_next before e in
      record {
        below = subst (Each (λ b. b < length (before ++ e ∷ []))) (sym next)
            (Each-append (λ (b : ℕ). b < length (before ++ e ∷ [])) (begun before) (g.begins before e)
            (Each-weaker (λ (b : ℕ). b < length before) (λ (b : ℕ). b < length (before ++ e ∷ [])) (λ b i. omega (arith, longer, i)) (begun before) old.below)
            (Each-weaker (λ (b : ℕ). b ≡ length before) (λ (b : ℕ). b < length (before ++ e ∷ [])) (λ b i. omega (arith, longer, i)) (g.begins before e) t.numbered));
        newest = λ c h. elim (Has-either t.kept (g.begins before e) c (subst (λ l. Has l c) t.alive h)) [
          | inl kept ↦
              let lived = among_has (g.alive before) c (Each-has (IsAmong (g.alive before)) t.kept c t.lived kept) in
              let was = old.newest c lived in
              let none = none_begins c t.kept (g.begins before e) (g.holders (before ++ e ∷ [])) kept (subst (λ l. length l ≤ g.holders (before ++ e ∷ [])) t.alive t.hold) most in (
                subst (λ l. Has l c) (sym next) (Has-first (begun before) (g.begins before e) c was.0),
                subst (Each (λ b. b ≤ c)) (sym next) (Each-append (λ (b : ℕ). b ≤ c) (begun before) (g.begins before e) was.1 (each_none c (g.begins before e) none)),
              )
          | inr new ↦
              let here : c ≡ length before = Each-has (λ (b : ℕ). b ≡ length before) (g.begins before e) c t.numbered new in (
                subst (λ l. Has l c) (sym next) (Has-after (begun before) (g.begins before e) c new),
                subst (Each (λ b. b ≤ c)) (sym next)
                    (Each-append (λ (b : ℕ). b ≤ c) (begun before) (g.begins before e)
                    (Each-weaker (λ (b : ℕ). b < length before) (λ (b : ℕ). b ≤ c) (λ b i. omega (arith, here, i)) (begun before) old.below)
                    (Each-weaker (λ (b : ℕ). b ≡ length before) (λ (b : ℕ). b ≤ c) (λ b i. omega (arith, here, i)) (g.begins before e) t.numbered)),
              )
        ];
      }

  holds_once : (before : List Entry) → HasOneHolder g before → g.holders before ≤ 1
  holds_once before h = at_most_one (is_stopped g before) (is_held g before) (g.holders before) (g.waiting before) h

  pub newest_at : (n : ℕ) → AreNewest (take n log)
  newest_at n =
      each_beginning log AreNewest none_newest (λ i e at old.
      newest_more (take i log) e (each.each i e at) (holds_once (take i log ++ e ∷ []) (subst (HasOneHolder g) (take_next log i e at) (one_holder_at g log each (suc i)))) old) n

  pub newest_lives : NewestLives g log
  newest_lives c h =
      ((at_last log AreNewest none_newest (λ i e at old.
      newest_more (take i log) e (each.each i e at) (holds_once (take i log ++ e ∷ []) (subst (HasOneHolder g) (take_next log i e at) (one_holder_at g log each (suc i)))) old)).newest c
      (among_has (g.alive log) c h)).1

  -- what began has begun later too
  begun_on : (n : ℕ) (o : Option Entry) (c : ℕ) → slice_get log n ≡ o → Has (begun (take n log)) c → Has (begun (take (suc n) log)) c
  begun_on n None c at h = subst (λ l. Has (begun l) c) (sym (take_no_more log n at)) h
  begun_on n (Some e) c at h =
      subst (λ l. Has (begun l) c) (sym (take_next log n e at))
      (subst (λ l. Has l c) (sym (begun_next (take n log) e)) (Has-first (begun (take n log)) (g.begins (take n log) e) c h))

  begun_later : (n k c : ℕ) → Has (begun (take n log)) c → Has (begun (take (k + n) log)) c
  begun_later n zero c h = subst (λ i. Has (begun (take i log)) c) (none n) h
    where
      none : (n : ℕ) → n ≡ 0 + n
      none n = omega arith
  begun_later n (suc k) c h = subst (λ i. Has (begun (take i log)) c) (more n k) (begun_on (k + n) (slice_get log (k + n)) c refl (begun_later n k c h))
    where
      more : (n k : ℕ) → suc (k + n) ≡ suc k + n
      more n k = omega arith

  -- of two that live at two times, the one that lives later is not the older
  pub not_older : (m n b c : ℕ) → IsAmong (g.alive (take m log)) c → IsAmong (g.alive (take n log)) b → m ≤ n → c ≤ b
  not_older m n b c h k less =
      let began : Has (begun (take m log)) c = ((newest_at m).newest c (among_has (g.alive (take m log)) c h)).0 in
      let later : Has (begun (take ((n - m) + m) log)) c = begun_later m (n - m) c began in
      let same : (n - m) + m ≡ n = omega (arith, less) in
      Each-has (λ (x : ℕ). x ≤ b) (begun (take n log)) c ((newest_at n).newest b (among_has (g.alive (take n log)) b k)).1 (subst (λ i. Has (begun (take i log)) c) same later)

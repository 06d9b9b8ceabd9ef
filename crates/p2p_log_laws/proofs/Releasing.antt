-- The release of a grant is put by the entry in which its holder ends.
use Rattle.std.proofs.Common.{◌≡◌, ℕ, ◌+◌, ◌≤◌, Bool, true, false, cond, List, [], ◌∷◌, ◌++◌, length, take, inl, inr, ap, sym, subst, ◌∙◌, refl, arith}
use Rattle.std.specs.Prelude.{◌||◌, count_by, filter}
use Rattle.std.specs.List.{list_any}
use Rattle.std.proofs.lemmas.Bool.{false≢true}
use Rattle.std.proofs.lemmas.List.Sums.{sum_by-append, sum_by-cons}
use Rattle.p2p_base.specs.declared.key.Key.{Key}
use Rattle.p2p_log.specs.declared.config.Config.{Config}
use Rattle.p2p_log.specs.declared.entry.Entry.{Entry}
use Rattle.p2p_log.specs.declared.event.Event.{Event}
use Rattle.p2p_log.specs.declared.item.Envelope.{Envelope}
use Rattle.p2p_log.specs.Lines.{goes, stays, live, placed}
use Rattle.p2p_log.proofs.Lines.{live-append}
use Rattle.p2p_log_rules.specs.Effect.{effect}
use Rattle.p2p_log_rules.specs.Lawful.{IsLawful}
use Rattle.p2p_log_laws.specs.Grants.{one, Granting, is_held, is_stopped, Hands, Halts, EachIsTurn}
use Rattle.p2p_log_laws.specs.NodeGrants.{put_of, puts_grant, puts_release, beginners_of, holders_of, waiting_of, granting}
use Rattle.p2p_log_laws.specs.Releasing.{IsReleasedAsItEnds, EachIsReleasedAsItEnds}
use Rattle.p2p_log_laws.proofs.NodeGrants.{each_node_turn}
use Rattle.p2p_log_laws.proofs.Turns.{one_holder_at}
use Rattle.p2p_log_laws.proofs.Weighing.{weight, weight-placed}
use Rattle.p2p_log_laws.proofs.GrantPuts.{granted_is_put}
use Rattle.p2p_log_laws.proofs.Prefixes.{entry_due}

-- what passes is counted
counted : {X : Type 0} (p : X → Bool) (xs : List X) → list_any p xs ≡ true → 1 ≤ count_by p xs
counted p [] any = absurd (false≢true any)
counted p (x ∷ xs) any = by (p x) refl any (counted p xs)
  where
    more : (a b all : ℕ) → all ≡ a + b → a ≡ 1 → 1 ≤ all
    more a b all sum is = omega (arith, sum, is)

    rest : (a b all : ℕ) → all ≡ a + b → 1 ≤ b → 1 ≤ all
    rest a b all sum some = omega (arith, sum, some)

    by : (b : Bool) → p x ≡ b → (b || list_any p xs) ≡ true → (list_any p xs ≡ true → 1 ≤ count_by p xs) → 1 ≤ count_by p (x ∷ xs)
    by true is h later = more (cond (p x) 1 0) (count_by p xs) (count_by p (x ∷ xs)) (sum_by-cons (λ y. cond (p y) 1 0) x xs) (ap (λ b. cond b 1 0) is)
    by false is h later = rest (cond (p x) 1 0) (count_by p xs) (count_by p (x ∷ xs)) (sum_by-cons (λ y. cond (p y) 1 0) x xs) (later h)

module _ (configs : List Config) (n : ℕ) (key : Key) (before : List Entry) (ev : Event) where
  abbrev e : Entry
  e = effect configs before ev

  abbrev g : Granting
  g = granting configs n key

  -- what is granted is held after that
  granted_holds : g.grants before e ≡ true → 1 ≤ holders_of n key configs (before ++ e ∷ [])
  granted_holds grants =
      let kept = filter (stays (goes e)) (live before) in
      let put : 1 ≤ count_by (puts_grant n key) e.puts = counted (puts_grant n key) e.puts (granted_is_put configs before ev n key grants) in
      let stands : weight (puts_grant n key) (live (before ++ e ∷ [])) ≡ weight (puts_grant n key) kept + count_by (puts_grant n key) e.puts =
      ap (λ xs. weight (puts_grant n key) xs) (live-append before e)
      ∙ (sum_by-append (λ x. cond (puts_grant n key (put_of x)) 1 0) kept (placed (length before) 0 e.puts)
      ∙ ap (λ k. weight (puts_grant n key) kept + k) (weight-placed (puts_grant n key) (length before) 0 e.puts))
      in
      some (weight (puts_grant n key) (live (before ++ e ∷ []))) (weight (puts_grant n key) kept) (count_by (puts_grant n key) e.puts) (beginners_of n key configs (before ++ e ∷ [])) stands put
    where
      some : (a b c d : ℕ) → a ≡ b + c → 1 ≤ c → 1 ≤ a + d
      some a b c d sum put = omega (arith, sum, put)

  -- a key that is not held has no holder
  no_holder : (stopped held : Bool) (h w : ℕ) → held ≡ false → h + w ≡ cond stopped 0 (one held) → h ≡ 1 → ⊥
  no_holder true held h w is sum was = omega (arith, sum, was)
  no_holder false true h w is sum was = false≢true (sym is)
  no_holder false false h w is sum was = omega (arith, sum, was)

  -- by how many hold it before and after, and how many releases wait and are put
  ended : (granted stopped held : Bool) (h w k r : ℕ) → h + one granted ≡ k + r → (granted ≡ true → held ≡ false) → h + w ≡ cond stopped 0 (one held) → h ≡ 1 → k ≡ 0 → r ≡ 1
  ended true stopped held h w k r sum free holds was gone = absurd (no_holder stopped held h w (free refl) holds was)
  ended false stopped held h w k r sum free holds was gone = omega (arith, sum, was, gone)

  alone : (granted stopped held : Bool) (h w k r : ℕ) → h + one granted ≡ k + r → (granted ≡ true → 1 ≤ k) → (granted ≡ true → held ≡ false) → h + w ≡ cond stopped 0 (one held) → 1 ≤ r
      → (h ≡ 1) × (k ≡ 0)
  alone granted true held h w k r sum holding free holds put = by granted sum holding
    where
      by : (b : Bool) → h + one b ≡ k + r → (b ≡ true → 1 ≤ k) → (h ≡ 1) × (k ≡ 0)
      by true s after = absurd (let some = after refl in omega (arith, s, some, holds, put))
      by false s after = absurd (omega (arith, s, holds, put))
  alone true false held h w k r sum holding free holds put =
      absurd (let some = holding refl in let none : h + w ≡ 0 = holds ∙ ap one (free refl) in omega (arith, sum, some, none, put))
  alone false false true h w k r sum holding free holds put = (omega (arith, sum, holds, put), omega (arith, sum, holds, put))
  alone false false false h w k r sum holding free holds put = absurd (omega (arith, sum, holds, put))

module _ (configs : List Config) (script : List Event) (log : List Entry) (lawful : IsLawful configs script log) where
  pub each_is_released_as_it_ends : EachIsReleasedAsItEnds configs log
  each_is_released_as_it_ends k n key e here = elim (turns.each k e here).hands [ inl hands ↦ by_hands hands | inr halts ↦ by_halt halts ]
    where
      g : Granting
      g = granting configs n key

      before : List Entry
      before = take k log

      due : (ev : Event) × (e ≡ effect configs before ev)
      due = entry_due configs script log lawful k e here

      turns : EachIsTurn (granting configs n key) log
      turns = each_node_turn configs script log lawful n key

      by_hands : Hands g before e → IsReleasedAsItEnds configs n key before e
      by_hands hands =
          let holds = one_holder_at g log turns k in
          record {
            ended = λ goes ends.
                ended configs n key before due.0 (g.grants before e) (is_stopped g before) (is_held g before) (g.holders before) (g.waiting before) (g.holders (before ++ e ∷ [])) (g.released before e)
                hands.holding hands.free holds ends.0 ends.1;
            alone = λ put.
                alone configs n key before due.0 (g.grants before e) (is_stopped g before) (is_held g before) (g.holders before) (g.waiting before) (g.holders (before ++ e ∷ [])) (g.released before e)
                hands.holding (subst (λ d. (granting configs n key).grants before d ≡ true → 1 ≤ holders_of n key configs (before ++ d ∷ [])) (sym due.1) (granted_holds configs n key before due.0)) hands.free holds put;
          }

      -- what is put waits, and nothing waits once the node has stopped
      put_waits : count_by (puts_release n key) e.puts ≤ waiting_of n key (before ++ e ∷ [])
      put_waits =
          let kept : List Envelope = filter (stays (goes e)) (live before) in
          let all : waiting_of n key (before ++ e ∷ []) ≡ weight (puts_release n key) kept + count_by (puts_release n key) e.puts =
          ap (weight (puts_release n key)) (live-append before e)
          ∙ (sum_by-append (λ x. cond (puts_release n key (put_of x)) 1 0) kept (placed (length before) 0 e.puts) ∙ ap (λ m. weight (puts_release n key) kept + m) (weight-placed (puts_release n key) (length before) 0 e.puts))
          in
          omega (arith, all)

      by_halt : Halts g before e → IsReleasedAsItEnds configs n key before e
      by_halt halts = record {
        ended = λ goes ends. absurd (false≢true (sym goes ∙ halts.stops));
        alone = λ put. absurd (let waits = put_waits in let none = halts.none_waits in omega (arith, put, waits, none));
      }

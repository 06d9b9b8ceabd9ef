-- What a tracker puts, without the kills that come too late, counts as all that it puts, for what is no kill.
use Rattle.std.proofs.Common.{◌≡◌, ℕ, ◌+◌, Bool, true, false, cond, List, [], ◌∷◌, refl, ap, sym, ◌∙◌, arith}
use Rattle.std.specs.Prelude.{◌||◌, not, count_by}
use Rattle.std.specs.List.{AllByRecursion as Each, list_any}
use Rattle.std.proofs.lemmas.List.Sums.{sum_by-cons}
use Rattle.p2p_log.specs.declared.queue.Queue.TheVariants as queue
use Rattle.p2p_log.specs.declared.item.Item.TheVariants as item
use Rattle.p2p_log.proofs.Each.{Each-filter}
use Rattle.p2p_log_rules.specs.TrackerPuts.{Put, kills_ended, heeded}

-- no kill is one of these
abbrev pub HasNoKill : (Put → Bool) → Type 0
HasNoKill test = (n conn : ℕ) → test (queue.Control n conn, item.Kill) ≡ false

module _ (ended : ℕ → Bool) where
  pub Each-heeded : (P : Put → Type 0) (xs : List Put) → Each P xs → Each P (heeded ended xs)
  Each-heeded P xs h = Each-filter P (λ x. not (kills_ended ended x)) xs h

  killed : (test : Put → Bool) → HasNoKill test → (x : Put) → kills_ended ended x ≡ true → test x ≡ false
  killed test h (queue.Control n conn, item.Kill) e = h n conn
  killed test h (q, i) e = absurd (cc)

  counted : (test : Put → Bool) → HasNoKill test → (x : Put) (xs : List Put) → count_by test (heeded ended xs) ≡ count_by test xs → (b : Bool) → kills_ended ended x ≡ b
      → count_by test (cond (not b) (x ∷ heeded ended xs) (heeded ended xs)) ≡ count_by test (x ∷ xs)
  counted test h x xs more true e =
      let one_less : count_by test (x ∷ xs) ≡ 0 + count_by test xs =
      sum_by-cons (λ y. cond (test y) 1 0) x xs ∙ ap (λ b. cond b 1 0 + count_by test xs) (killed test h x e)
      in
      omega (arith, more, one_less)
  counted test h x xs more false e =
      sum_by-cons (λ y. cond (test y) 1 0) x (heeded ended xs) ∙ (ap (λ m. cond (test x) 1 0 + m) more ∙ sym (sum_by-cons (λ y. cond (test y) 1 0) x xs))

  pub count_by-heeded : (test : Put → Bool) → HasNoKill test → (xs : List Put) → count_by test (heeded ended xs) ≡ count_by test xs
  count_by-heeded test h [] = refl
  count_by-heeded test h (x ∷ xs) = counted test h x xs (count_by-heeded test h xs) (kills_ended ended x) refl

  found : (test : Put → Bool) → HasNoKill test → (x : Put) (xs : List Put) → list_any test (heeded ended xs) ≡ list_any test xs → (b : Bool) → kills_ended ended x ≡ b
      → list_any test (cond (not b) (x ∷ heeded ended xs) (heeded ended xs)) ≡ list_any test (x ∷ xs)
  found test h x xs more true e = more ∙ ap (λ b. b || list_any test xs) (sym (killed test h x e))
  found test h x xs more false e = ap (λ b. test x || b) more

  pub list_any-heeded : (test : Put → Bool) → HasNoKill test → (xs : List Put) → list_any test (heeded ended xs) ≡ list_any test xs
  list_any-heeded test h [] = refl
  list_any-heeded test h (x ∷ xs) = found test h x xs (list_any-heeded test h xs) (kills_ended ended x) refl

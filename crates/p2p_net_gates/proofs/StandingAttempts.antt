-- An attempt stands exactly where its name is among those of the attempts that began and have not ended.
use Rattle.std.proofs.Common.{◌≡◌, ℕ, Bool, true, false, cond, List, [], ◌∷◌, refl, ap, sym, ◌∙◌, eqb-true, Option, Some, None}
use Rattle.std.specs.Prelude.{◌==◌, ◌&&◌, ◌||◌, not, filter, is_some}
use Rattle.std.specs.List.{list_any}
use Rattle.std.specs.Option.{option_map}
use Rattle.std.proofs.lemmas.List.Folds.{list_any-append}
use Rattle.p2p_log.specs.declared.config.Config.{Config}
use Rattle.p2p_log.specs.declared.entry.Entry.{Entry}
use Rattle.p2p_log_rules.specs.Attempting.{Attempt, DialRules, dial_rules_at, attempt_in, attempts_of}
use Rattle.p2p_log_rules.specs.Standing.{standing}
use Rattle.p2p_log_rules.specs.Tellings.{Telling, last_told}
use Rattle.p2p_log_rules.specs.Tellings as telling
use Rattle.p2p_log_rules.specs.Told.{Begun, begun_as, ends, begins_attempt, attempts_in, told}
use Rattle.p2p_log_rules.proofs.Attempts.{attempt_one, begun_or, attempt_after, attempt_told, attempt_in-more}
use Rattle.p2p_log_rules.proofs.Standing.{started, stood_after, stood_told, standing-more}

module _ (rules : DialRules) (n k : ℕ) where
  abbrev among : List ℕ → Bool
  among ks = list_any (λ j. k == j) ks

  -- one telling more begins it, or ends it, or does neither
  after : (t : Telling) (o : Option Attempt) → is_some (attempt_after rules n k t o) ≡ (not (ends n k t) && is_some o || is_some (begun_as n k t))
  after t o = by (begun_as n k t) (ends n k t) o
    where
      by : (b : Option Begun) (over : Bool) (o : Option Attempt) → is_some (begun_or rules n k b (cond over None (option_map (attempt_one rules n k t) o))) ≡ (not over && is_some o || is_some b)
      by None true o = refl
      by None false None = refl
      by None false (Some a) = refl
      by (Some b) true o = refl
      by (Some b) false None = refl
      by (Some b) false (Some a) = refl

  -- and so of the names
  without_ended : (t : Telling) (ks : List ℕ) → among (filter (λ j. not (ends n j t)) ks) ≡ (not (ends n k t) && among ks)
  without_ended t [] = by (ends n k t)
    where
      by : (b : Bool) → false ≡ (not b && false)
      by true = refl
      by false = refl
  without_ended t (j ∷ ks) = by (k == j) refl (without_ended t ks)
    where
      kept : List ℕ
      kept = filter (λ i. not (ends n i t)) ks

      itself : (over : Bool) → among kept ≡ (not over && among ks) → among (cond (not over) (j ∷ kept) kept) ≡ (not over && ((k == j) || among ks))
      itself true h = h
      itself false h = ap (λ b. (k == j) || b) h

      other : (over : Bool) → (k == j) ≡ false → among (cond (not over) (j ∷ kept) kept) ≡ among kept
      other true is = refl
      other false is = ap (λ b. b || among kept) is

      by : (same : Bool) → (k == j) ≡ same → among kept ≡ (not (ends n k t) && among ks) → among (cond (not (ends n j t)) (j ∷ kept) kept) ≡ (not (ends n k t) && ((k == j) || among ks))
      by true is rest = ap (λ i. among (cond (not (ends n i t)) (j ∷ kept) kept)) (sym (eqb-true k j is)) ∙ itself (ends n k t) rest
      by false is rest = other (ends n j t) is ∙ (rest ∙ ap (λ b. not (ends n k t) && (b || among ks)) (sym is))

  begun_named : (t : Telling) → among (started (begins_attempt n t)) ≡ is_some (begun_as n k t)
  begun_named (telling.attempt_begun m j key ingress at) = by (m == n) (k == j) refl
    where
      by : (here same : Bool) → (k == j) ≡ same → among (started (cond here (Some j) None)) ≡ is_some {T = Begun} (cond (here && same) (Some (record { key = key; ingress = ingress; at = at })) None)
      by true true is = ap (λ b. b || false) is
      by true false is = ap (λ b. b || false) is
      by false same is = refl
  begun_named _ = refl

  names_after : (t : Telling) (ks : List ℕ) → among (stood_after (begins_attempt n) (ends n) t ks) ≡ (not (ends n k t) && among ks || is_some (begun_as n k t))
  names_after t ks =
      list_any-append (λ j. k == j) (filter (λ j. not (ends n j t)) ks) (started (begins_attempt n t))
      ∙ (ap (λ b. b || among (started (begins_attempt n t))) (without_ended t ks) ∙ ap (λ b. not (ends n k t) && among ks || b) (begun_named t))

  all_after : (ts : List Telling) (o : Option Attempt) (ks : List ℕ) → is_some o ≡ among ks → is_some (attempt_told rules n k ts o) ≡ among (stood_told (begins_attempt n) (ends n) ts ks)
  all_after [] o ks h = h
  all_after (t ∷ ts) o ks h =
      all_after ts (attempt_after rules n k t o) (stood_after (begins_attempt n) (ends n) t ks)
      (after t o ∙ (ap (λ b. not (ends n k t) && b || is_some (begun_as n k t)) h ∙ sym (names_after t ks)))

  told_among : (ts : List Telling) → is_some (attempt_in n k rules ts) ≡ among (attempts_in ts n)
  unfolding standing last_told
  told_among ts =
      ap is_some (attempt_in-more rules n k [] ts)
      ∙ (all_after ts None [] refl ∙ sym (ap among (standing-more (begins_attempt n) (ends n) [] ts)))

pub attempt_among : (configs : List Config) (log : List Entry) (n k : ℕ) → is_some (attempts_of configs log n k) ≡ list_any (λ j. k == j) (attempts_in (told log) n)
unfolding attempts_of
attempt_among configs log n k = told_among (dial_rules_at configs n) n k (told log)

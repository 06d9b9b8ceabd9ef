-- What began and has not ended since, after one telling more.
use Rattle.std.proofs.Common.{◌≡◌, Bool, true, false, cond, List, [], ◌∷◌, ◌++◌, refl, ap, sym, subst, ◌∙◌, append_assoc, append-nil, Option, Some, None, inl}
use Rattle.std.proofs.lemmas.Option.{same_Some}
use Rattle.p2p_log.proofs.Each.{Has, Has-after, Has-first, Each-weaker}
use Rattle.p2p_log.proofs.Filters.{filter-filter, filter-same, filter-none}
use Rattle.std.specs.Prelude.{◌||◌, ◌&&◌, not, filter, is_some}
use Rattle.std.specs.List.{list_any, AllByRecursion as Each}
use Rattle.std.proofs.lemmas.List.Elements.{filter-append}
use Rattle.p2p_log_rules.specs.Standing.{if_stands, standing}
use Rattle.p2p_log_rules.specs.Tellings.{Telling, Last, or_last, last_told}
use Rattle.p2p_log_rules.proofs.Facts.{list_any-last}
use Rattle.p2p_log_rules.proofs.Tellings.{or_left, or_right}

-- the thing that is told to begin
abbrev pub started : {X : Type 0} → Option X → List X
started None = []
started (Some x) = x ∷ []

-- where a telling ends none and begins none
pub same_filter : {X : Type 0} (xs : List X) → filter (λ x. true) xs ≡ xs
same_filter [] = refl
same_filter (x ∷ xs) = ap (λ l. x ∷ l) (same_filter xs)

pub same_stood : {X : Type 0} (xs : List X) → filter (λ x. true) xs ++ [] ≡ xs
same_stood xs = append-nil (filter (λ x. true) xs) ∙ same_filter xs

module _ {X : Type 0} (begins : Telling → Option X) (ends : X → Telling → Bool) where
  -- those that a telling does not end, and the one that it begins
  abbrev pub stood_after : Telling → List X → List X
  stood_after t xs = filter (λ x. not (ends x t)) xs ++ started (begins t)

  abbrev pub stood_told : List Telling → List X → List X
  stood_told [] xs = xs
  stood_told (t ∷ ts) xs = stood_told ts (stood_after t xs)

  if_stands-one : (ts : List Telling) (t : Telling) (o : Option X) → if_stands ends (ts ++ t ∷ []) o ≡ filter (λ x. not (ends x t)) (if_stands ends ts o)
  if_stands-one ts t None = refl
  if_stands-one ts t (Some x) = ap (λ b. cond b [] (x ∷ [])) (list_any-last (ends x) ts t) ∙ by (list_any (ends x) ts) (ends x t) refl
    where
      by : (a b : Bool) → ends x t ≡ b → cond (a || b) [] (x ∷ []) ≡ filter (λ y. not (ends y t)) (cond a [] (x ∷ []))
      by true b is = refl
      by false true is = ap (λ c. cond (not c) (x ∷ []) []) (sym is)
      by false false is = ap (λ c. cond (not c) (x ∷ []) []) (sym is)

  started_now : (o : Option X) → if_stands ends [] o ≡ started o
  started_now None = refl
  started_now (Some x) = refl

  standing-one : (ts : List Telling) (t : Telling) → standing begins ends (ts ++ t ∷ []) ≡ stood_after t (standing begins ends ts)
  unfolding standing
  standing-one [] t = append-nil (if_stands ends [] (begins t)) ∙ started_now (begins t)
  standing-one (u ∷ us) t =
      ap (λ l. l ++ standing begins ends (us ++ t ∷ [])) (if_stands-one us t (begins u))
      ∙ (ap (λ l. filter (λ x. not (ends x t)) (if_stands ends us (begins u)) ++ l) (standing-one us t)
      ∙ (sym (append_assoc (filter (λ x. not (ends x t)) (if_stands ends us (begins u))) (filter (λ x. not (ends x t)) (standing begins ends us)) (started (begins t)))
      ∙ ap (λ l. l ++ started (begins t)) (sym (filter-append (λ x. not (ends x t)) (if_stands ends us (begins u)) (standing begins ends us)))))

  pub standing-more : (ts us : List Telling) → standing begins ends (ts ++ us) ≡ stood_told us (standing begins ends ts)
  standing-more ts [] = ap (standing begins ends) (append-nil ts)
  standing-more ts (u ∷ us) =
      ap (standing begins ends) (sym (append_assoc ts (u ∷ []) us)) ∙ (standing-more (ts ++ u ∷ []) us ∙ ap (stood_told us) (standing-one ts u))

  pub stood_append : (ts us : List Telling) (xs : List X) → stood_told (ts ++ us) xs ≡ stood_told us (stood_told ts xs)
  stood_append [] us xs = refl
  stood_append (t ∷ ts) us xs = stood_append ts us (stood_after t xs)

  -- tellings of other things
  pub others_stood : (about : Telling → Bool) → ((t : Telling) (xs : List X) → about t ≡ false → stood_after t xs ≡ xs) → (ts : List Telling) (xs : List X) → list_any about ts ≡ false → stood_told ts xs ≡ xs
  others_stood about other [] xs h = refl
  others_stood about other (t ∷ ts) xs h = ap (stood_told ts) (other t xs (or_left (about t) (list_any about ts) h)) ∙ others_stood about other ts xs (or_right (about t) (list_any about ts) h)

  -- tellings that begin none leave those that they do not end
  stood_ended : (us : List Telling) (xs : List X) → list_any (λ t. is_some (begins t)) us ≡ false → stood_told us xs ≡ filter (λ x. not (list_any (ends x) us)) xs
  stood_ended [] xs none = sym (same_filter xs)
  stood_ended (t ∷ us) xs none =
      ap (stood_told us) (ap (λ l. filter (λ x. not (ends x t)) xs ++ l) (no_one (begins t) (or_left (is_some (begins t)) (list_any (λ u. is_some (begins u)) us) none)) ∙ append-nil (filter (λ x. not (ends x t)) xs))
      ∙ (stood_ended us (filter (λ x. not (ends x t)) xs) (or_right (is_some (begins t)) (list_any (λ u. is_some (begins u)) us) none)
      ∙ (filter-filter (λ x. not (list_any (ends x) us)) (λ x. not (ends x t)) xs
      ∙ filter-same (λ x. not (ends x t) && not (list_any (ends x) us)) (λ x. not (list_any (ends x) (t ∷ us))) (λ x. neither (ends x t) (list_any (ends x) us)) xs))
    where
      no_one : (o : Option X) → is_some o ≡ false → started o ≡ []
      no_one None h = refl
      no_one (Some x) h = cc

      neither : (a b : Bool) → (not a && not b) ≡ not (a || b)
      neither true b = refl
      neither false b = refl

  -- where they end all, none is left
  pub all_stopped : (us : List Telling) (xs : List X) → list_any (λ t. is_some (begins t)) us ≡ false → Each (λ x. list_any (ends x) us ≡ true) xs → stood_told us xs ≡ []
  all_stopped us xs none each =
      stood_ended us xs none
      ∙ filter-none (λ x. not (list_any (ends x) us)) xs (Each-weaker (λ x. list_any (ends x) us ≡ true) (λ x. not (list_any (ends x) us) ≡ false) (λ x h. ap not h) xs each)

  -- what was told to begin last, and has not ended since, stands
  pub stands_since : {Y : Type 0} (pick : Telling → Option Y) (x : X) → ((t : Telling) (y : Y) → pick t ≡ Some y → begins t ≡ Some x)
      → (ts : List Telling) (l : Last Y) → last_told pick ts ≡ Some l → list_any (ends x) l.since ≡ false → Has (standing begins ends ts) x
  unfolding standing last_told
  stands_since pick x is_it [] l is lives = cc
  stands_since {Y} pick x is_it (t ∷ ts) l is lives = by (last_told pick ts) refl (pick t) refl is (λ m later lasts. stands_since pick x is_it ts m later lasts)
    where
      Later : Type 0
      Later = (m : Last Y) → last_told pick ts ≡ Some m → list_any (ends x) m.since ≡ false → Has (standing begins ends ts) x

      by : (o : Option (Last Y)) → last_told pick ts ≡ o → (p : Option Y) → pick t ≡ p → or_last o p ts ≡ Some l → Later → Has (if_stands ends ts (begins t) ++ standing begins ends ts) x
      by (Some m) later p here is then =
          Has-after (if_stands ends ts (begins t)) (standing begins ends ts) x (then m later (ap (λ (k : Last Y). list_any (ends x) k.since) (same_Some m l is) ∙ lives))
      by None later (Some y) here is then =
          Has-first (if_stands ends ts (begins t)) (standing begins ends ts) x
          (subst (λ o. Has (if_stands ends ts o) x) (sym (is_it t y here))
          (subst (λ b. Has (cond b [] (x ∷ [])) x) (sym (ap (λ (k : Last Y). list_any (ends x) k.since) (same_Some (record { told = y; since = ts }) l is) ∙ lives)) (inl refl)))
      by None later None here is then = cc

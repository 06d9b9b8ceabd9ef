-- What each word leaves alone of tellings that it does not read, and what holds of every log.
use Rattle.std.proofs.Common.{◌≡◌, Bool, true, false, cond, List, [], ◌∷◌, ◌++◌, refl, ap, sym, subst, ◌∙◌, append_assoc, append-nil, Option, Some, None}
use Rattle.std.specs.Prelude.{◌||◌, ◌&&◌, flat_map, is_some, unwrap_or}
use Rattle.std.specs.List.{list_any}
use Rattle.p2p_log.specs.declared.entry.Entry.{Entry}
use Rattle.p2p_log_rules.specs.Tellings.{Telling, last_or, or_new, first_or, any_or}
use Rattle.p2p_log_rules.proofs.Tellings.{or_left, or_right}

-- whether something is read of a telling
abbrev pub reads_some : {X : Type 0} → (Telling → Option X) → Telling → Bool
reads_some pick t = is_some (pick t)

pub last_or-none : {X : Type 0} (x : X) (pick : Telling → Option X) (ts : List Telling) → list_any (reads_some pick) ts ≡ false → last_or x pick ts ≡ x
last_or-none x pick [] h = refl
last_or-none {X = X} x pick (t ∷ ts) h = by (pick t) (or_left (reads_some pick t) (list_any (reads_some pick) ts) h) ∙ last_or-none x pick ts (or_right (reads_some pick t) (list_any (reads_some pick) ts) h)
  where
    by : (o : Option X) → is_some o ≡ false → last_or (unwrap_or o x) pick ts ≡ last_or x pick ts
    by None none = refl
    by (Some y) none = cc

pub first_or-none : {X : Type 0} (o : Option X) (pick : Telling → Option X) (ts : List Telling) → list_any (reads_some pick) ts ≡ false → first_or o pick ts ≡ o
first_or-none o pick [] h = refl
first_or-none {X = X} o pick (t ∷ ts) h = by (pick t) (or_left (reads_some pick t) (list_any (reads_some pick) ts) h) ∙ first_or-none o pick ts (or_right (reads_some pick t) (list_any (reads_some pick) ts) h)
  where
    by : (p : Option X) → is_some p ≡ false → first_or (or_new p o) pick ts ≡ first_or o pick ts
    by None none = refl
    by (Some y) none = cc

-- what is told first stays
pub first_or-some : {X : Type 0} (x : X) (pick : Telling → Option X) (ts : List Telling) → first_or (Some x) pick ts ≡ Some x
first_or-some x pick [] = refl
first_or-some {X = X} x pick (t ∷ ts) = by (pick t) ∙ first_or-some x pick ts
  where
    by : (p : Option X) → first_or (or_new p (Some x)) pick ts ≡ first_or (Some x) pick ts
    by None = refl
    by (Some y) = refl

pub any_or-none : (b : Bool) (test : Telling → Bool) (ts : List Telling) → list_any test ts ≡ false → any_or b test ts ≡ b
any_or-none b test [] h = refl
any_or-none b test (t ∷ ts) h = ap (λ c. any_or (c || b) test ts) (or_left (test t) (list_any test ts) h) ∙ any_or-none b test ts (or_right (test t) (list_any test ts) h)

-- what is collected of each telling
pub flat_map-none : {X : Type 0} (about : Telling → Bool) (f : Telling → List X) → ((t : Telling) → about t ≡ false → f t ≡ []) → (ts : List Telling) → list_any about ts ≡ false → flat_map f ts ≡ []
flat_map-none about f none [] h = refl
flat_map-none about f none (t ∷ ts) h =
    ap (λ l. l ++ flat_map f ts) (none t (or_left (about t) (list_any about ts) h)) ∙ flat_map-none about f none ts (or_right (about t) (list_any about ts) h)

-- a value that is told newly, or the one before
pub unwrap_named : {X : Type 0} (b : Bool) (x o : X) → unwrap_or (cond b (Some x) None) o ≡ cond b x o
unwrap_named true x o = refl
unwrap_named false x o = refl

pub unwrap_at : {X : Type 0} (b c : Bool) (x o : X) → unwrap_or (cond (b && c) (Some x) None) o ≡ cond b (cond c x o) o
unwrap_at true c x o = unwrap_named c x o
unwrap_at false c x o = refl

pub either_same : {X : Type 0} (b : Bool) (o : X) → o ≡ cond b o o
either_same true o = refl
either_same false o = refl

-- what holds of no entry, and of one more where it holds before it, holds of every log
pub by_entries : (P : List Entry → Type 0) → P [] → ((log : List Entry) (e : Entry) → P log → P (log ++ e ∷ [])) → (log : List Entry) → P log
by_entries P first more log = go [] first log
  where
    go : (before : List Entry) → P before → (es : List Entry) → P (before ++ es)
    go before p [] = subst P (sym (append-nil before)) p
    go before p (e ∷ es) = subst P (append_assoc before (e ∷ []) es) (go (before ++ e ∷ []) (more before e p) es)

-- What is read off tellings that are all of other things.
use Rattle.std.proofs.Common.{◌≡◌, Bool, false, List, [], ◌∷◌, ◌++◌, refl, ap, ◌∙◌, Option, None}
use Rattle.std.specs.Prelude.{flat_map, unwrap_or}
use Rattle.std.specs.List.{list_any}
use Rattle.std.proofs.lemmas.Grind.{flat_map-append}
use Rattle.p2p_log_rules.specs.Tellings.{Telling, last_or, or_new, first_or}
use Rattle.p2p_log_rules.proofs.Tellings.{or_left, or_right}

-- nothing is listed of them
pub none_listed : {X : Type 0} (about : Telling → Bool) (pick : Telling → List X) → ((t : Telling) → about t ≡ false → pick t ≡ []) → (ts : List Telling) → list_any about ts ≡ false → flat_map pick ts ≡ []
none_listed about pick none [] h = refl
none_listed about pick none (t ∷ ts) h =
    ap (λ l. l ++ flat_map pick ts) (none t (or_left (about t) (list_any about ts) h)) ∙ none_listed about pick none ts (or_right (about t) (list_any about ts) h)

-- the last of some kind is the one before
pub last_kept : {X : Type 0} (about : Telling → Bool) (pick : Telling → Option X) → ((t : Telling) → about t ≡ false → pick t ≡ None) → (x : X) (ts : List Telling) → list_any about ts ≡ false → last_or x pick ts ≡ x
last_kept about pick none x [] h = refl
last_kept about pick none x (t ∷ ts) h =
    ap (λ o. last_or (unwrap_or o x) pick ts) (none t (or_left (about t) (list_any about ts) h)) ∙ last_kept about pick none x ts (or_right (about t) (list_any about ts) h)

-- and so is the first
pub first_kept : {X : Type 0} (about : Telling → Bool) (pick : Telling → Option X) → ((t : Telling) → about t ≡ false → pick t ≡ None) → (o : Option X) (ts : List Telling) → list_any about ts ≡ false → first_or o pick ts ≡ o
first_kept about pick none o [] h = refl
first_kept about pick none o (t ∷ ts) h =
    ap (λ p. first_or (or_new p o) pick ts) (none t (or_left (about t) (list_any about ts) h)) ∙ first_kept about pick none o ts (or_right (about t) (list_any about ts) h)

-- what is told first is of other things
pub listed_after : {X : Type 0} (pick : Telling → List X) (ts us : List Telling) → flat_map pick ts ≡ [] → flat_map pick (ts ++ us) ≡ flat_map pick us
listed_after pick ts us none = flat_map-append pick ts us ∙ ap (λ l. l ++ flat_map pick us) none

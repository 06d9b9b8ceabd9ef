-- What began and has not ended since, by what was told.
use Rattle.std.specs.Prelude.{Bool, cond, List, [], ◌∷◌, ◌++◌, Option, Some, None}
use Rattle.std.specs.List.{list_any}
use Rattle.p2p_log_rules.specs.Tellings.{Telling}

-- the thing that began, unless these end it
abbrev pub if_stands : {X : Type 0} → (X → Telling → Bool) → List Telling → Option X → List X
if_stands ends ts None = []
if_stands ends ts (Some x) = cond (list_any (ends x) ts) [] (x ∷ [])

-- the things that are told to begin, the oldest first, without each that is told to end later
unfoldable pub standing : {X : Type 0} → (Telling → Option X) → (X → Telling → Bool) → List Telling → List X
standing begins ends [] = []
standing begins ends (t ∷ ts) = if_stands ends ts (begins t) ++ standing begins ends ts

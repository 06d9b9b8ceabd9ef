-- The words of the command line.
use Rattle.std.specs.Prelude.{◌≡◌, ℕ, List, [], ◌∷◌, map, codes, decimal, String}
use Rattle.std.specs.String.{string_bytes}

-- the one word `run`
abbrev pub IsRunCommand : {A : Type 0} → List (String A) → Type 0
IsRunCommand words = map string_bytes words ≡ codes "run" ∷ []

-- the words are the command and the two numbers
abbrev pub Spells : {A : Type 0} → List (String A) → List ℕ → ℕ → ℕ → Type 0
Spells words command n m = map string_bytes words ≡ command ∷ decimal n ∷ decimal m ∷ []

-- The text of what senders sent: a line for each of them. `f_onto out x` is what stands in a text once x is written at its end.
use Rattle.std.specs.Prelude.{ℕ, zero, suc, List, [], ◌∷◌, ◌++◌, codes, decimal}

-- the numbers from 0 on, below n
abbrev pub below : ℕ → List ℕ
below zero = []
below (suc n) = below n ++ n ∷ []

-- each number after a comma
abbrev pub more_onto : List ℕ → List ℕ → List ℕ
more_onto out [] = out
more_onto out (n ∷ ns) = more_onto ((out ++ codes ",") ++ decimal n) ns

abbrev pub numbers_onto : List ℕ → List ℕ → List ℕ
numbers_onto out [] = out
numbers_onto out (n ∷ ns) = more_onto (out ++ decimal n) ns

-- the line of a sender, and a newline: how many calls it made, which sender it is, and the numbers that were taken of it
abbrev pub line_onto : List ℕ → ℕ → ℕ → List ℕ → List ℕ
line_onto out calls sender taken = (numbers_onto (((((out ++ codes "{\"calls\":") ++ decimal calls) ++ codes ",\"sender\":") ++ decimal sender) ++ codes ",\"taken\":[") taken ++ codes "]}") ++ 10 ∷ []

-- the lines of n senders of m messages each, of which all were taken
abbrev pub lines_onto : List ℕ → ℕ → ℕ → List ℕ
lines_onto out zero m = out
lines_onto out (suc n) m = line_onto (lines_onto out n m) m n (below m)

-- the text of n senders of m messages each
unfoldable pub thread_text : ℕ → ℕ → List ℕ
thread_text n m = lines_onto [] n m

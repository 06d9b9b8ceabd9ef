-- The text of plain values. `f_onto out x` is what stands in a text once x is written at the end of `out`.
use Rattle.std.specs.Prelude.{ℕ, Bool, true, false, List, [], ◌∷◌, ◌++◌, codes, decimal}
use Rattle.hex.specs.Hex.{encode_lower}
use Rattle.p2p_base.specs.declared.key.Key.{Key}

abbrev pub number_onto : List ℕ → ℕ → List ℕ
number_onto out n = out ++ decimal n

abbrev pub flag_onto : List ℕ → Bool → List ℕ
flag_onto out true = out ++ codes "true"
flag_onto out false = out ++ codes "false"

abbrev pub key_onto : List ℕ → Key → List ℕ
key_onto out k = number_onto out k.0

-- bytes: hexadecimal in lower case, in quotes
abbrev pub hex_onto : List ℕ → List ℕ → List ℕ
hex_onto out bytes = ((out ++ codes "\"") ++ encode_lower bytes) ++ codes "\""

-- the name of an item or a copy: [a,b]
abbrev pub name_onto : List ℕ → ℕ × ℕ → List ℕ
name_onto out name = number_onto (number_onto (out ++ codes "[") name.0 ++ codes ",") name.1 ++ codes "]"

-- the elements after the first, each after a comma
abbrev pub more_onto : {X : Type 0} → (List ℕ → X → List ℕ) → List ℕ → List X → List ℕ
more_onto onto out [] = out
more_onto onto out (x ∷ xs) = more_onto onto (onto (out ++ codes ",") x) xs

abbrev pub elements_onto : {X : Type 0} → (List ℕ → X → List ℕ) → List ℕ → List X → List ℕ
elements_onto onto out [] = out
elements_onto onto out (x ∷ xs) = more_onto onto (onto out x) xs

-- a list: [x,y,..]
abbrev pub list_onto : {X : Type 0} → (List ℕ → X → List ℕ) → List ℕ → List X → List ℕ
list_onto onto out xs = elements_onto onto (out ++ codes "[") xs ++ codes "]"

-- Two lists of which each place goes together.
use Rattle.std.specs.Prelude.{List, [], ◌∷◌}

abbrev pub Match : {A B : Type 0} → (A → B → Type 0) → List A → List B → Type 0
Match R [] [] = Unit {0}
Match R (x ∷ xs) (y ∷ ys) = R x y × Match R xs ys
Match R _ _ = ⊥

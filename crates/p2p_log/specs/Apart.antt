-- Items that have names of their own.
use Rattle.std.specs.Prelude.{◌≡◌, ℕ, false, List, [], ◌∷◌}
use Rattle.p2p_log.specs.declared.item.Envelope.{Envelope}
use Rattle.p2p_log.specs.Lines.{name_of, same_name}

-- none of these items has this name
abbrev pub NoneNamed : ℕ × ℕ → List Envelope → Type 0
NoneNamed name [] = Unit {0}
NoneNamed name (x ∷ xs) = (same_name (name_of x) name ≡ false) × NoneNamed name xs

-- no two of these items have one name
abbrev pub AreApart : List Envelope → Type 0
AreApart [] = Unit {0}
AreApart (x ∷ xs) = NoneNamed (name_of x) xs × AreApart xs

-- Lists in the order of a comparison, in which each element stands once.
use Rattle.std.specs.Prelude.{Bool, false, ◌||◌, List, [], ◌∷◌}
use Rattle.std.specs.List.{list_any}
use Rattle.std.specs.BTreeMap.{is_at}
use Rattle.std.specs.BTreeSet.{replace_key}
use Rattle.std.specs.declared.cmp.Ordering.{Ordering}

module _ {X : Type 0} (cmp : X → X → Ordering) where
  -- the elements in order; of equal ones the first
  abbrev pub sorted_once : List X → List X
  sorted_once [] = []
  sorted_once (x ∷ xs) = replace_key cmp (sorted_once xs) x

  -- whether two of the elements are equal
  abbrev pub has_repeat : List X → Bool
  has_repeat [] = false
  has_repeat (x ∷ xs) = list_any (is_at (cmp x)) xs || has_repeat xs

-- compares pairs by their keys alone
abbrev pub by_key : {K V : Type 0} → (K → K → Ordering) → K × V → K × V → Ordering
by_key cmp a b = cmp a.0 b.0

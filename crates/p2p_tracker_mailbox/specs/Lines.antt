-- What waits for each of several, by their numbers.
use Rattle.std.specs.Prelude.{ℕ, List, [], ◌∷◌, ◌++◌, Option, Some, None, slice_get, cond, is_some}
use Rattle.std.specs.Map.{lookup, remove_entry, set_value}
use Rattle.std.specs.BTreeMap.{is_at, insert_entry}
use Rattle.std.specs.Ordering.{nat_cmp}

-- each has a number, and its items the oldest first; the numbers rise
abbrev pub Lines : Type 0 → Type 0
Lines X = List (ℕ × List X)

module _ {X : Type 0} where
  -- what waits for the one of a number, if there is one
  abbrev pub line_of : Lines X → ℕ → Option (List X)
  line_of lines n = lookup (is_at (nat_cmp n)) lines

  -- the oldest item
  abbrev pub first_of : Option (List X) → Option X
  first_of None = None
  first_of (Some line) = slice_get line 0

  abbrev pub replaced : Option (List X) → Lines X → ℕ → (List X → List X) → Lines X
  replaced None lines n f = lines
  replaced (Some line) lines n f = set_value (is_at (nat_cmp n)) lines (f line)

  -- once what waits for the one of a number was changed so
  abbrev pub with_line : Lines X → ℕ → (List X → List X) → Lines X
  with_line lines n f = replaced (line_of lines n) lines n f

  -- once an item was put last for it
  abbrev pub with_item : Lines X → ℕ → X → Lines X
  with_item lines n x = with_line lines n (λ line. line ++ x ∷ [])

  -- once the one of a number has begun, unless it had before
  abbrev pub begun : Lines X → ℕ → Lines X
  begun lines n = cond (is_some (line_of lines n)) lines (insert_entry nat_cmp lines n [])

  -- once it has ended
  abbrev pub ended : Lines X → ℕ → Lines X
  ended lines n = remove_entry (is_at (nat_cmp n)) lines

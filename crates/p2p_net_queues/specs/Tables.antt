-- Tables, as the lists of their entries.
use Rattle.std.specs.Prelude.{◌≡◌, ◌==◌, ℕ, Bool, cond, List, [], ◌∷◌, ◌++◌, drop, Option, Some, None}
use Rattle.std.specs.Map.{lookup, set_value}
use Rattle.std.specs.BTreeMap.{is_at, insert_entry}
use Rattle.std.specs.Ordering.{nat_cmp}

-- the value of a key
abbrev pub at : {V : Type 0} → List (ℕ × V) → ℕ → Option V
at m k = lookup (is_at (nat_cmp k)) m

module _ {V : Type 0} where
  -- the table is the other, but for what this key has now
  abbrev pub AreBut : ℕ → Option V → List (ℕ × V) → List (ℕ × V) → Type 0
  AreBut name now old new = (k : ℕ) → at new k ≡ cond (k == name) now (at old k)

  -- with this value of a key, unless that has ended
  abbrev pub kept_with : Bool → ℕ → V → List (ℕ × V) → List (ℕ × V)
  kept_with ended name v m = cond ended m (insert_entry nat_cmp m name v)

module _ {T : Type 0} where
  abbrev pub items_in : Option (List T) → List T
  items_in None = []
  items_in (Some l) = l

  -- what stands in the queue of a key
  abbrev pub waiting : List (ℕ × List T) → ℕ → List T
  waiting m k = items_in (at m k)

  abbrev pub pushed_on : Option (List T) → List (ℕ × List T) → ℕ → T → List (ℕ × List T)
  pushed_on None m k x = insert_entry nat_cmp m k (x ∷ [])
  pushed_on (Some l) m k x = set_value (is_at (nat_cmp k)) m (l ++ x ∷ [])

  -- one more item in the queue of a key
  abbrev pub pushed_at : List (ℕ × List T) → ℕ → T → List (ℕ × List T)
  pushed_at m k x = pushed_on (at m k) m k x

  abbrev pub popped_on : Option (List T) → List (ℕ × List T) → ℕ → List (ℕ × List T)
  popped_on None m k = m
  popped_on (Some l) m k = set_value (is_at (nat_cmp k)) m (drop 1 l)

  -- without the oldest item in the queue of a key
  abbrev pub popped_at : List (ℕ × List T) → ℕ → List (ℕ × List T)
  popped_at m k = popped_on (at m k) m k

  abbrev pub cleared_on : Option (List T) → List (ℕ × List T) → ℕ → List (ℕ × List T)
  cleared_on None m k = m
  cleared_on (Some l) m k = set_value (is_at (nat_cmp k)) m []

  -- without the items in the queue of a key
  abbrev pub cleared_at : List (ℕ × List T) → ℕ → List (ℕ × List T)
  cleared_at m k = cleared_on (at m k) m k

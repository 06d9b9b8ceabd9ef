-- Words for the form of a JSON tree: a form reads a tree, and gives what the tree says where it has that form.
use Prim.Native.String.{String as Name}
use Rattle.std.specs.Prelude.{ℕ, Bool, false, ◌&&◌, nat_le, List, [], ◌∷◌, map, codes, bytes_eq, Option, Some, None, option_and_then, if◌then◌else◌}
use Rattle.std.specs.List.{list_any, list_all}
use Rattle.serde_json.specs.Data.{Data, Items, no_items, item, Members, no_members, member}
use Rattle.serde_json.specs.Find.{get, as_number, as_u64, as_array, as_object}

infixl 10 ◌>>=◌
infixl 10 ◌>>◌
-- first read, then go on with what was read
abbrev pub ◌>>=◌ : {A B : Type 0} → Option A → (A → Option B) → Option B
o >>= f = option_and_then f o

-- first test, then go on where it holds
abbrev pub ◌>>◌ : {B : Type 0} → Bool → Option B → Option B
b >> o = if b then o else None

-- ---- objects

-- the value at this name, in this form
abbrev pub field_at : {A : Type 0} → List ℕ → (Data → Option A) → Data → Option A
field_at name form d = option_and_then form (get name d)

abbrev pub field : {A : Type 0} → Name → (Data → Option A) → Data → Option A
field name form d = field_at (codes name) form d

-- the same for a name that may be absent
abbrev pub form_or : {A : Type 0} → A → (Data → Option A) → Option Data → Option A
form_or default form None = Some default
form_or default form (Some d) = form d

abbrev pub absent_or : {A : Type 0} → A → Name → (Data → Option A) → Data → Option A
absent_or default name form d = form_or default form (get (codes name) d)

abbrev pub names_of : Members → List (List ℕ)
names_of no_members = []
names_of (member name d ms) = name ∷ names_of ms

abbrev pub is_among : List (List ℕ) → List ℕ → Bool
is_among names name = list_any (λ n. bytes_eq n name) names

-- whether the members have no other names than these
abbrev pub has_only : List (List ℕ) → Members → Bool
has_only names ms = list_all (is_among names) (names_of ms)

-- whether this is an object with no other names than these
abbrev pub only_at : List (List ℕ) → Data → Bool
only_at names d = elim (as_object d) [ None ↦ false | Some ms ↦ has_only names ms ]

abbrev pub only : List Name → Data → Bool
only names d = only_at (map codes names) d

-- ---- numbers

-- a whole number of 64 bits
abbrev pub whole : Data → Option ℕ
whole d = do
  n ← as_number d
  as_u64 n

-- a whole number that is not below the first and not above the second
abbrev pub within : ℕ → ℕ → Data → Option ℕ
within least most d = do
  n ← whole d
  nat_le least n && nat_le n most
  Some n

-- ---- arrays

abbrev pub each : {A : Type 0} → (Data → Option A) → Items → Option (List A)
each form no_items = Some []
each form (item d ds) = do
  x ← form d
  xs ← each form ds
  Some (x ∷ xs)

-- an array whose items all have this form
abbrev pub list_of : {A : Type 0} → (Data → Option A) → Data → Option (List A)
list_of form d = do
  ds ← as_array d
  each form ds

-- The rule of the table, and how the steps change what a seat knows.
use Rattle.std.specs.Prelude.{◌≡◌, ◌≢◌, ◌⊎◌, ℕ, ◌+◌, ◌≤◌, true, false, List, [], ◌∷◌, ◌++◌, length, Option, Some, None}
use mathlib.Core.Option.{some, none}
use mathlib.Core.Option as maybe
use mathlib.Core.List.{IsPrefix}
use lib.ListN.{get_elem?}
use Rattle.atomic_table.specs.Seated.{TableId}
use Rattle.atomic_table.specs.Table.{State}
use Rattle.atomic_table.specs.declared.badge.Badge.{Badge}
use Rattle.p2p_threads.specs.declared.board.Cell.{Cell}
use Rattle.p2p_threads.specs.declared.board.Sight.{Sight}
use Rattle.p2p_threads.specs.History.{after, Replays, weight, longer, shorter, times, Stands}

-- the sum over all seats
abbrev pub total : {V : Type 0} → (V → ℕ) → List V → ℕ
total f [] = 0
total f (v ∷ vs) = f v + total f vs

-- how many there are: one or none
abbrev pub amount : {E : Type 0} → Option E → ℕ
amount None = 0
amount (Some e) = 1

module _ {O C R : Type 0} where
  -- the first seat is inside until it has filled the slot
  abbrev pub founding : O → Sight O C R
  founding o = record { first = Some o; table = None; inside = true; kept = Some 0; seen = []; told = []; made = [] }

  -- a seat that has seen as much, and made nothing
  abbrev pub watcher : Sight O C R → Sight O C R
  watcher v = record { first = v.first; table = v.table; inside = false; kept = None; seen = v.seen; told = []; made = [] }

  -- a seat that was joined into another
  abbrev pub spent : Sight O C R
  spent = record { first = None; table = None; inside = false; kept = None; seen = []; told = []; made = [] }

  abbrev pub merged : Sight O C R → Sight O C R → Sight O C R
  merged v w = record { first = v.first; table = v.table; inside = v.inside; kept = v.kept; seen = longer v.seen w.seen; told = shorter v.seen w.seen; made = v.made ++ w.made }

  -- how a seat's view changes: it knows the table; is inside; keeps this length; has joined the slot's seat; has one more call; is outside; is told nothing
  abbrev pub naming : Sight O C R → TableId → Sight O C R
  naming v z = record { first = v.first; table = Some z; inside = v.inside; kept = v.kept; seen = v.seen; told = v.told; made = v.made }

  abbrev pub entering : Sight O C R → Sight O C R
  entering v = record { first = v.first; table = v.table; inside = true; kept = None; seen = v.seen; told = v.told; made = v.made }

  abbrev pub keeping : Sight O C R → ℕ → Sight O C R
  keeping v n = record { first = v.first; table = v.table; inside = v.inside; kept = Some n; seen = v.seen; told = v.told; made = v.made }

  abbrev pub learning : Sight O C R → List (C × R) → Sight O C R
  learning v h = record { first = v.first; table = v.table; inside = v.inside; kept = v.kept; seen = h; told = v.seen; made = v.made }

  abbrev pub recording : Sight O C R → C × R → Sight O C R
  recording v e = record { first = v.first; table = v.table; inside = v.inside; kept = Some (length v.seen + 1); seen = v.seen ++ e ∷ []; told = v.told; made = v.made ++ (length v.seen, e) ∷ [] }

  abbrev pub leaving : Sight O C R → Sight O C R
  leaving v = record { first = v.first; table = v.table; inside = false; kept = None; seen = v.seen; told = []; made = v.made }

  abbrev pub settled : Sight O C R → Sight O C R
  settled v = record { first = v.first; table = v.table; inside = v.inside; kept = v.kept; seen = v.seen; told = []; made = v.made }

  -- what the rule says of one view; whoever is inside and does not know the table is the first seat, and then nobody knows it
  pub record Fits (o : O) (t : Option TableId) (h : List (C × R)) (v : Sight O C R) : Type 0 where
    pub first : (x : O) → v.first ≡ Some x → x ≡ o
    pub table : (z : TableId) → v.table ≡ Some z → t ≡ Some z
    pub opens : v.inside ≡ true → v.table ≡ None → t ≡ None
    pub seen : IsPrefix v.seen h
    pub told : IsPrefix v.told h
    pub kept : (n : ℕ) → v.kept ≡ Some n → (v.inside ≡ true) × (n ≡ length h)
    pub made : Stands v.seen v.made

  -- the seat in the slot is at the table, outside, and has seen this history and made nothing
  pub record Keeps (t : Option TableId) (h : List (C × R)) (b : Badge (Sight O C R)) : Type 0 where
    pub sight : Sight O C R
    pub view : b.views ≡ sight ∷ []
    pub table : t ≡ Some b.table_id
    pub outside : sight.inside ≡ false
    pub seen : sight.seen ≡ h
    pub made : sight.made ≡ []

  abbrev pub inside_of : Sight O C R → ℕ
  inside_of v = weight v.inside

  abbrev pub kept_of : Sight O C R → ℕ
  kept_of v = amount v.kept

  abbrev pub times_of : ℕ → Sight O C R → ℕ
  times_of p v = times p v.made

  module _ (reply : O → C → R) (next : O → C → O) where
    -- the slot is empty until the first seat has filled it, and away while a seat keeps a length; else it has the object after the history, the history, and a seat that has seen it
    abbrev pub IsSlot : O → Option TableId → List (C × R) → ℕ → List (maybe.Option (Option (Cell O C R))) → Type 0
    IsSlot o t h away homes =
        ((homes ≡ some None ∷ []) × (t ≡ None) × (away ≡ 1))
        ⊎ ((homes ≡ none ∷ []) × (t ≢ None) × (away ≡ 1))
        ⊎ ((c : Cell O C R) × (homes ≡ some (Some c) ∷ []) × (away ≡ 0) × (c.object ≡ after reply next o h) × (c.history.items ≡ h) × Keeps t h c.seat)

    pub record Ruled (o : O) (s : State (Option (Cell O C R)) (Sight O C R)) : Type 0 where
      pub history : List (C × R)
      pub table : Option TableId
      pub busy : ℕ
      pub away : ℕ
      pub words : s.words ≡ busy ∷ length history ∷ []
      pub bar : busy ≤ 1
      pub replays : Replays reply next o history
      pub inside : total inside_of s.views ≡ busy
      pub kept : total kept_of s.views ≡ away
      pub once : (p : ℕ) → total (times_of p) s.views ≤ 1
      pub each : (i : ℕ) (v : Sight O C R) → get_elem? s.views i ≡ some v → Fits o table history v
      pub slot : IsSlot o table history away s.homes

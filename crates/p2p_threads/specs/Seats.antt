-- What the functions over a seat ask and tell.
use Rattle.std.specs.Prelude.{◌≡◌, ℕ, ◌+◌, ◌<◌, ◌^◌, true, false, List, [], ◌∷◌, ◌++◌, length, Option, Some}
use mathlib.Core.List.{IsPrefix}
use Rattle.atomic_table.specs.Seated.{TableId}
use Rattle.atomic_table.specs.declared.shared.Seat.{Seat}
use Rattle.p2p_threads.specs.declared.board.Cell.{Cell}
use Rattle.p2p_threads.specs.declared.board.Sight.{Sight}
use Rattle.p2p_threads.specs.History.{after, Replays, Stands, IsEachOnce}
use Rattle.p2p_threads.specs.Steps.{Mine}
use Rattle.p2p_threads.specs.Turns.{Keeps}

module _ {O C R : Type 0} where
  -- the seat is at the table, which has two words and a slot
  abbrev pub IsSeatAt : TableId → Seat (Option (Cell O C R)) (Sight O C R) → Type 0
  IsSeatAt z s = (s.table_id ≡ z) × (z.words ≡ 2) × (z.slots ≡ 1)

  -- the seat knows its table
  abbrev pub KnowsTable : TableId → Seat (Option (Cell O C R)) (Sight O C R) → Type 0
  KnowsTable z s = s.me.0.table ≡ Some z

  abbrev pub IsOutside : Seat (Option (Cell O C R)) (Sight O C R) → Type 0
  IsOutside s = (s.me.0.inside ≡ false) × (s.me.1 ≡ [])

  -- the call was made, at the place
  pub record Called (m m' : Mine O C R) (n : ℕ) (e : C × R) : Type 0 where
    pub before : List (C × R)
    pub begins : IsPrefix m.0.seen before
    pub place : n ≡ length before
    pub seen : m'.0.seen ≡ before ++ e ∷ []
    pub made : m'.0.made ≡ m.0.made ++ (n, e) ∷ []
    pub room : n + 1 < 2 ^ 64

  -- nothing was made, and more of the history may have been seen
  pub record Watched (m m' : Mine O C R) : Type 0 where
    pub begins : IsPrefix m.0.seen m'.0.seen
    pub made : m'.0.made ≡ m.0.made

  module _ (reply : O → C → R) (next : O → C → O) where
    -- the seat is inside and has seen the whole history, and the cell has it, and the object after it
    pub record CanGive (v : Sight O C R) (c : Cell O C R) : Type 0 where
      pub first : O
      pub from : v.first ≡ Some first
      pub inside : v.inside ≡ true
      pub kept : v.kept ≡ Some (length v.seen)
      pub history : c.history.items ≡ v.seen
      pub object : c.object ≡ after reply next first v.seen

    -- the same, and the cell has one call more, and the object after it
    pub record CanRaise (v : Sight O C R) (c : Cell O C R) (e : C × R) : Type 0 where
      pub first : O
      pub from : v.first ≡ Some first
      pub inside : v.inside ≡ true
      pub kept : v.kept ≡ Some (length v.seen)
      pub history : c.history.items ≡ v.seen ++ e ∷ []
      pub replied : e.1 ≡ reply (after reply next first v.seen) e.0
      pub object : c.object ≡ next (after reply next first v.seen) e.0
      pub room : length v.seen + 1 < 2 ^ 64

    -- the cell in hand can be given back, and has a seat that has seen as much
    pub record CanLeave (m : Mine O C R) : Type 0 where
      pub cell : Cell O C R
      pub hand : m.1 ≡ (0, Some cell) ∷ []
      pub gives : CanGive m.0 cell
      pub seat : Keeps m.0.table m.0.seen cell.seat

    -- the seat is outside again, with nothing in hand, and what it has seen replays
    pub record Back (m m' : Mine O C R) : Type 0 where
      pub first : m'.0.first ≡ m.0.first
      pub table : m'.0.table ≡ m.0.table
      pub inside : m'.0.inside ≡ false
      pub told : m'.0.told ≡ []
      pub hand : m'.1 ≡ []
      pub replays : (o : O) → m.0.first ≡ Some o → Replays reply next o m'.0.seen

  -- between two calls of the public functions, a pass at this table with a count of n calls
  pub record IsPass (z : TableId) (m : Mine O C R) (n : ℕ) : Type 0 where
    pub table : m.0.table ≡ Some z
    pub inside : m.0.inside ≡ false
    pub told : m.0.told ≡ []
    pub hand : m.1 ≡ []
    pub made : Stands m.0.seen m.0.made
    pub once : IsEachOnce m.0.made
    pub calls : n ≡ length m.0.made

-- What each step tells.
use Rattle.std.specs.Prelude.{◌≡◌, ◌≢◌, ℕ, ◌≤◌, [], ◌∷◌, ◌++◌, length, Option, Some, None}
use mathlib.Core.Option.{some}
use mathlib.Core.List.{IsPrefix}
use Rattle.atomic_table.specs.Table.{Me, Step, rest}
use Rattle.p2p_threads.specs.declared.board.Cell.{Cell}
use Rattle.p2p_threads.specs.declared.board.Sight.{Sight}
use Rattle.p2p_threads.specs.History.{after, Replays, IsEachOnce}
use Rattle.p2p_threads.specs.Turns.{naming, entering, keeping, recording, leaving, settled, Keeps}

abbrev pub Mine : Type 0 → Type 0 → Type 0 → Type 0
Mine O C R = Me (Option (Cell O C R)) (Sight O C R)

abbrev pub At : Type 0 → Type 0 → Type 0 → Type 0
At O C R = Step (Option (Cell O C R))

module _ {O C R : Type 0} where
  -- the empty slot was taken, and the seat knows the table at which the seat in the announced cell is
  abbrev pub opened : At O C R → Mine O C R → ℕ → Mine O C R → Type 0
  opened st m r m' = (c : Cell O C R) → st.said ≡ some (Some c) → m' ≡ (naming m.0 c.seat.table_id, (0, None) ∷ m.1)

  abbrev pub entered : At O C R → Mine O C R → ℕ → Mine O C R → Type 0
  entered st m r m' = (r ≡ 0 → m' ≡ (entering m.0, m.1)) × (r ≢ 0 → m' ≡ m)

  -- the history has the entry that the cell in hand has
  abbrev pub raised : At O C R → Mine O C R → ℕ → Mine O C R → Type 0
  raised st m r m' = (c : Cell O C R) (e : C × R) → m.1 ≡ (0, Some c) ∷ [] → c.history.items ≡ m.0.seen ++ e ∷ [] → m' ≡ (recording m.0 e, m.1)

  abbrev pub left : At O C R → Mine O C R → ℕ → Mine O C R → Type 0
  left st m r m' = m' ≡ (leaving m.0, rest m.1)

  -- what was told begins the history that was seen, where it is no longer, and no place was made twice
  abbrev pub checked : At O C R → Mine O C R → ℕ → Mine O C R → Type 0
  checked st m r m' =
      (m' ≡ (settled m.0, m.1))
      × (length m.0.seen ≤ r)
      × (length m.0.told ≤ length m.0.seen → IsPrefix m.0.told m.0.seen)
      × IsEachOnce m.0.made

  module _ (reply : O → C → R) (next : O → C → O) where
    -- the cell was taken, which has all the history, the object after it, and a seat that has seen it
    pub record Inside (v : Sight O C R) (c : Cell O C R) : Type 0 where
      pub begins : IsPrefix v.seen c.history.items
      pub object : (o : O) → v.first ≡ Some o → c.object ≡ after reply next o c.history.items
      pub replays : (o : O) → v.first ≡ Some o → Replays reply next o c.history.items
      pub seat : Keeps v.table c.history.items c.seat

    -- the length was read, and the slot taken, with this cell
    abbrev pub Taken : Mine O C R → ℕ → Mine O C R → Cell O C R → Type 0
    Taken m r m' c = (m' ≡ (keeping m.0 r, (0, Some c) ∷ m.1)) × (r ≡ length c.history.items) × Inside m.0 c

    abbrev pub measured : At O C R → Mine O C R → ℕ → Mine O C R → Type 0
    measured st m r m' = (c : Cell O C R) × Taken m r m' c

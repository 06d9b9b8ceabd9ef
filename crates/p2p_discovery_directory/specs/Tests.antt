-- What the tests of a directory see of a key in what a directory of lookup keeps.
use Rattle.std.specs.Prelude.{ℕ, Bool, false, not, ◌&&◌, Option, Some, None, is_some}
use Rattle.std.specs.Map.{lookup}
use Rattle.std.specs.BTreeMap.{is_at}
use Rattle.std.specs.declared.cmp.Ordering.{Ordering}
use Rattle.p2p_tracker_calls.specs.Blocks.{lasts_at, is_over}
use Rattle.p2p_tracker_directory.specs.Recorded.{Recorded, is_inert, is_eligible_in, is_reserved_in}
use Rattle.p2p_tracker_directory.specs.Stands.{Kept}

-- the record that was found is held
abbrev pub is_held_in : Option Recorded → Bool
is_held_in None = false
is_held_in (Some r) = not (is_inert r.status)

module _ {P : Type 0} (cmp : P → P → Ordering) (kept : Kept P) where
  -- the key is held
  abbrev pub holds : P → Bool
  holds q = is_held_in (lookup (is_at (cmp q)) kept.records)

  -- the key is held, and its connection hasn't begun
  abbrev pub reserves : P → Bool
  reserves q = is_reserved_in (lookup (is_at (cmp q)) kept.records)

  -- the key has a record
  abbrev pub knows : P → Bool
  knows q = is_some (lookup (is_at (cmp q)) kept.records)

  -- the key is eligible at a moment
  abbrev pub admits : P → ℕ → Bool
  admits q t = is_eligible_in (lookup (is_at (cmp q)) kept.records) && not (lasts_at (lookup (is_at (cmp q)) kept.blocks) t)

  -- a block of the key is due at a moment
  abbrev pub is_due_in : P → ℕ → Bool
  is_due_in q t = is_over (lookup (is_at (cmp q)) kept.blocks) t

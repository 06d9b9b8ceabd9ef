-- What contracts see of a shared object and of a pass.
use Rattle.std.specs.Prelude.{◌≡◌, ℕ, List, Option, Some}
use Rattle.atomic_table.specs.Seated.{TableId}

-- a shared object: which one it is, and the object before the first call
pub record Origin (O : Type 0) : Type 0 where
  pub table : TableId
  pub first : O

-- what a pass knows: which shared object made it, the object before the first call, a beginning of the history, and the calls that were made with it, each with its place
pub record Account (O C R : Type 0) : Type 0 where
  pub table : TableId
  pub first : Option O
  pub seen : List (C × R)
  pub made : List (ℕ × (C × R))

module _ {O C R : Type 0} where
  -- the shared object made the pass
  abbrev pub IsMadeBy : Origin O → Account O C R → Type 0
  IsMadeBy s p = (p.table ≡ s.table) × (p.first ≡ Some s.first)

  -- both passes were made by one shared object
  abbrev pub IsAlike : Account O C R → Account O C R → Type 0
  IsAlike p q = (q.table ≡ p.table) × (q.first ≡ p.first)

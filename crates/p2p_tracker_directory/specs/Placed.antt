-- Keys at their places, in order: those of no place first, and of equal places by the key.
use Rattle.std.specs.Prelude.{Bool, false, cond, not, List, Option, Some, None}
use Rattle.std.specs.List.{filter, list_any}
use Rattle.std.specs.Option.{option_cmp}
use Rattle.std.specs.Ordering.{is_lt, is_gt, ordering_then}
use Rattle.std.specs.BTreeMap.{is_at}
use Rattle.std.specs.BTreeSet.{insert_key}
use Rattle.std.specs.declared.cmp.Ordering.{Ordering}
use Rattle.p2p_tracker_directory.specs.declared.places.mark.Mark.{Mark}
use Rattle.p2p_tracker_directory.specs.declared.places.mark.Mark.TheVariants as mark

-- the item that is found passes the test
abbrev pub finds : {X : Type 0} → (X → Bool) → Option X → Bool
finds test None = false
finds test (Some x) = test x

module _ {A K : Type 0} (place_cmp : A → A → Ordering) (key_cmp : K → K → Ordering) where
  abbrev pub by_place : Option A × K → Option A × K → Ordering
  by_place x y = ordering_then (option_cmp place_cmp x.0 y.0) (key_cmp x.1 y.1)

  -- the entry comes before what the mark names
  abbrev pub is_passed : Mark A K → Option A × K → Bool
  is_passed (mark.Below p) e = is_lt (option_cmp place_cmp e.0 p)
  is_passed (mark.Through p) e = not (is_gt (option_cmp place_cmp e.0 p))
  is_passed (mark.Before p k) e = is_lt (by_place e (p, k))
  is_passed (mark.Upto p k) e = not (is_gt (by_place e (p, k)))

module _ {A K : Type 0} (place_cmp : A → A → Ordering) (key_cmp : K → K → Ordering) where
  -- the entries without one
  abbrev pub without : Option A × K → List (Option A × K) → List (Option A × K)
  without e es = filter (λ x. not (is_at (by_place place_cmp key_cmp e) x)) es

  -- the entries with one in place of another, where that is among them
  abbrev pub moved : Option A × K → Option A × K → List (Option A × K) → List (Option A × K)
  moved from to es = cond (list_any (is_at (by_place place_cmp key_cmp from)) es) (insert_key (by_place place_cmp key_cmp) (without from es) to) es

-- Keys and their moments, in key order.
use Rattle.std.specs.Prelude.{◌≡◌, ℕ, Bool, false, ◌==◌, List, [], ◌∷◌, Option, Some, None, nat_lt, if◌then◌else◌}
use Rattle.std.specs.Ordering.{nat_cmp, ordering_then}
use Rattle.std.specs.Map.{remove_entry}
use Rattle.std.specs.BTreeMap.{BTreeMap, is_at, get, IsOrdered}
use Rattle.std.specs.BTreeSet.{BTreeSet, contains}
use Rattle.std.specs.declared.cmp.Ordering.{Ordering}

-- the moment is that of the key
abbrev pub is_moment : Option ℕ → ℕ → Bool
is_moment None t = false
is_moment (Some u) t = u == t

module _ {K : Type 0} where
  -- the entry, or another whose moment is less
  abbrev pub sooner : K × ℕ → Option (K × ℕ) → K × ℕ
  sooner e None = e
  sooner e (Some f) = if nat_lt f.1 e.1 then f else e

  -- the entry of the least moment, and of several such the first
  abbrev pub soonest : List (K × ℕ) → Option (K × ℕ)
  soonest [] = None
  soonest (e ∷ es) = Some (sooner e (soonest es))

  -- the entries without that of the key
  abbrev pub without : (K → K → Ordering) → Option (K × ℕ) → List (K × ℕ) → List (K × ℕ)
  without cmp None es = es
  without cmp (Some e) es = remove_entry (is_at (cmp e.0)) es

  -- moments with their keys by the moment, and by the key where moments are equal
  abbrev pub by_moment : (K → K → Ordering) → ℕ × K → ℕ × K → Ordering
  by_moment cmp a b = ordering_then (nat_cmp a.0 b.0) (cmp a.1 b.1)

  -- the queue has the moments of the map, and no others
  pub record Mirrors (cmp : K → K → Ordering) (queue : BTreeSet (ℕ × K)) (moments : BTreeMap K ℕ) : Type 0 where
    pub same : (q : K) (t : ℕ) → contains (by_moment cmp) queue (t, q) ≡ is_moment (get cmp moments q) t
    pub ordered : IsOrdered cmp moments

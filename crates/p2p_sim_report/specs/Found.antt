-- What a walk over a log finds of names: a map and a set of names as functions of the name.
use Rattle.std.specs.Prelude.{◌≡◌, ℕ, Bool, List, Option, Some, None, filter, flat_map}
use Rattle.std.specs.List.{list_any}
use Rattle.std.specs.BTreeMap.{BTreeMap, get}
use Rattle.std.specs.BTreeSet.{BTreeSet, contains}
use Rattle.std.specs.declared.cmp.Ordering.{Ordering}
use Rattle.std.specs.Ordering.{nat_cmp, ordering_then}
use Rattle.p2p_log.specs.declared.end.Outcome.{Outcome}
use Rattle.p2p_log.specs.declared.entry.Entry.{Entry}
use Rattle.p2p_log.specs.declared.item.Envelope.{Envelope}
use Rattle.p2p_log.specs.declared.report.Fate.{Fate}
use Rattle.p2p_log.specs.Lines.{goes, live_from, same_name}
use Rattle.p2p_log.specs.Copies.{carries}
use Rattle.p2p_log.specs.Fates.{ended_from, fate_waiting}

abbrev pub name_cmp : ℕ × ℕ → ℕ × ℕ → Ordering
name_cmp a b = ordering_then (nat_cmp a.0 b.0) (nat_cmp a.1 b.1)

-- what a map has for a name
unfoldable pub value_of : {V : Type 0} → BTreeMap (ℕ × ℕ) V → ℕ × ℕ → Option V
value_of m name = get name_cmp m name

-- whether a set has a name
unfoldable pub has : BTreeSet (ℕ × ℕ) → ℕ × ℕ → Bool
has s name = contains name_cmp s name

-- how a copy ended at the entry n, or else what is known of it from later entries
abbrev pub ended_or : ℕ → Option Outcome → Option (ℕ × Outcome) → Option (ℕ × Outcome)
ended_or n None later = later
ended_or n (Some how) later = Some (n, how)

-- where the first of these stands that carries the copy
abbrev pub first_of : ℕ × ℕ → List Envelope → Option Fate
first_of copy xs = fate_waiting (filter (carries copy) xs)

-- the map has the first end of each copy, of entries of which the first has the number n
abbrev pub HasEnds : BTreeMap (ℕ × ℕ) (ℕ × Outcome) → ℕ → List Entry → Type 0
HasEnds m n log = (copy : ℕ × ℕ) → value_of m copy ≡ ended_from n copy log

-- the map has where the first carrier of each copy stands
abbrev pub HasCarriers : BTreeMap (ℕ × ℕ) Fate → ℕ → List Entry → Type 0
HasCarriers m n log = (copy : ℕ × ℕ) → value_of m copy ≡ first_of copy (live_from n log)

-- the set has the names of the items that go by these entries
abbrev pub HasGone : BTreeSet (ℕ × ℕ) → List Entry → Type 0
HasGone s log = (name : ℕ × ℕ) → has s name ≡ list_any (same_name name) (flat_map goes log)

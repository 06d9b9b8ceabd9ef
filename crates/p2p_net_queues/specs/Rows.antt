-- Parts of rows.
use Rattle.std.specs.Prelude.{ℕ, List, [], ◌∷◌, ◌++◌, flat_map, map}
use Rattle.p2p_base.specs.declared.key.Key.{Key}
use Rattle.p2p_log_rules.specs.declared.row.Row.{Row}
use Rattle.p2p_log.specs.declared.end.End.{End}
use Rattle.p2p_log.specs.declared.end.End.TheVariants as end
use Rattle.p2p_log.specs.declared.end.Cause.{Cause}
use Rattle.p2p_log.specs.declared.end.Outcome.TheVariants as outcome
use Rattle.p2p_log.specs.declared.item.Item.{Item}
use Rattle.p2p_log.specs.Copies.{copies_from, copies_of}
use Rattle.p2p_log.specs.Lines.{ended_item}

-- the names of the items that a row takes or ends
abbrev pub row_goes : Row → List (ℕ × ℕ)
row_goes r = r.takes ++ flat_map ended_item r.ends

-- the ends of the items of these names
abbrev pub item_ends : List (ℕ × ℕ) → List End
item_ends names = map (λ name. end.Item name.0 name.1) names

-- a copy that is dropped
abbrev pub dropped : Cause → ℕ × ℕ → End
dropped c copy = end.Copy copy.0 copy.1 (outcome.Dropped c)

-- the copies of a send to these keys, from this place on, that are dropped
abbrev pub sent_dropped : Cause → ℕ → ℕ → List Key → List End
sent_dropped c send p ks = map (dropped c) (copies_from send p ks)

-- an item of this name that ends untaken, and after it its copies, dropped for this cause
abbrev pub named_ends : Cause → (ℕ × ℕ) × Item → List End
named_ends c x = end.Item x.0.0 x.0.1 ∷ map (dropped c) (copies_of x.1)

-- the same for each of these, one after another
abbrev pub named_end : Cause → List ((ℕ × ℕ) × Item) → List End
named_end c xs = flat_map (named_ends c) xs

-- the row that takes the item of this name too, and drops its copies for this cause
abbrev pub taken_dropped : Cause → (ℕ × ℕ) × Item → Row → Row
taken_dropped c x r = record r { takes = r.takes ++ x.0 ∷ []; ends = r.ends ++ map (dropped c) (copies_of x.1) }

-- the same for each of these, one after another
abbrev pub all_dropped : Cause → List ((ℕ × ℕ) × Item) → Row → Row
all_dropped c [] r = r
all_dropped c (x ∷ xs) r = all_dropped c xs (taken_dropped c x r)

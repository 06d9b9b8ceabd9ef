-- What entries took, and what stands after a log.
use Rattle.std.specs.Prelude.{ℕ, ◌==◌, cond, List, [], ◌∷◌, ◌++◌, flat_map, Option, Some, None, slice_get}
use Rattle.p2p_log.specs.declared.queue.Queue.{Queue}
use Rattle.p2p_log.specs.declared.item.Item.{Item}
use Rattle.p2p_log.specs.declared.entry.Entry.{Entry}

-- ---- what was taken

abbrev pub item_put : Option (Queue × Item) → List Item
item_put None = []
item_put (Some x) = x.1 ∷ []

abbrev pub item_in : Option Entry → ℕ → List Item
item_in None p = []
item_in (Some e) p = item_put (slice_get e.puts p)

-- the item of this name
abbrev pub item_named : List Entry → ℕ × ℕ → List Item
item_named log name = item_in (slice_get log name.0) name.1

-- the items that an entry took, with the entries before it
unfoldable pub taken : List Entry → Entry → List Item
taken before e = flat_map (item_named before) e.takes

-- what each entry adds to a history, given the entries before it
unfoldable pub history_from : {X : Type 0} → (List Entry → Entry → List X) → List Entry → List Entry → List X
history_from adds before [] = []
history_from adds before (e ∷ es) = adds before e ++ history_from adds (before ++ e ∷ []) es

-- what stands after a log, by what each entry makes of it, given the entries before it
unfoldable pub state_from : {X : Type 0} → (List Entry → Entry → X → X) → List Entry → List Entry → X → X
state_from by before [] x = x
state_from by before (e ∷ es) x = state_from by (before ++ e ∷ []) es (by before e x)

-- what has a name, with this in its place
abbrev pub with_named : {X : Type 0} → ℕ → Option X → (ℕ → Option X) → ℕ → Option X
with_named name o xs k = cond (k == name) o (xs k)

-- once the entry of this name may have begun something
abbrev pub with_begun : {X : Type 0} → Option X → ℕ → (ℕ → Option X) → ℕ → Option X
with_begun None name xs k = xs k
with_begun (Some x) name xs k = with_named name (Some x) xs k

abbrev pub history : {X : Type 0} → (List Entry → Entry → List X) → List Entry → List X
history adds log = history_from adds [] log

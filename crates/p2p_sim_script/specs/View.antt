-- The data that a borrowed value stands for.
use Rattle.std.specs.Prelude.{ℕ, List, [], ◌∷◌, map}
use Rattle.std.specs.Borrow.{Bor}
use Rattle.serde_json.specs.Data.{Data, null, boolean, number, string, array, object, Items, no_items, item, Members, no_members, put}
use Rattle.serde_json.specs.View.{items_of, number_view}
use Rattle.p2p_sim_script.specs.declared.value.Value.{Value, fold-Value}
use Rattle.p2p_sim_script.specs.declared.value.Value.TheOpen.{Value-F}

-- these members, put one after another to those that were found before, so that of one name the last stays
abbrev pub put_all : Members → List (Bor (List ℕ) × Data) → Members
put_all found [] = found
put_all found (m ∷ ms) = put_all (put m.0.now m.1 found) ms

-- one level, with each value inside already seen as its data
abbrev pub view_step : Value-F Data → Data
view_step Value-F.Null = null
view_step (Value-F.Bool b) = boolean b
view_step (Value-F.Number n) = number (number_view n)
view_step (Value-F.String s) = string s.now
view_step (Value-F.Array v) = array (items_of v.items)
view_step (Value-F.Object v) = object (put_all no_members v.items)

abbrev pub view : Value → Data
view = fold-Value Data view_step

abbrev pub items_view : List Value → Items
items_view vs = items_of (map view vs)

abbrev pub members_view : List (Bor (List ℕ) × Value) → Members
members_view ms = put_all no_members (map (λ m. (m.0, view m.1)) ms)

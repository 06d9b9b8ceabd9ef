-- What stands at the front of tokens, as serde_json reads it, and the tokens after it.
use Rattle.std.specs.Prelude.{ℕ, List, length, Option}
use Rattle.json.specs.Token.{Token}
use Rattle.json.specs.Json.{items, members, value}
use Rattle.serde_json.specs.Data.{Data, Items, Members}
use Rattle.serde_json.specs.Read.{of_json, of_items, of_members, converted}

-- one value, in which arrays and objects nest no deeper than the number
unfoldable pub value_taken : ℕ → List Token → Option (Data × List Token)
value_taken depth ts = converted of_json (value depth ts)

-- the items that an array has left, and the bracket that closes it
unfoldable pub items_taken : ℕ → List Token → Option (Items × List Token)
items_taken depth ts = converted of_items (items (value depth) (length ts) ts)

-- the members that an object has left, put to those that were found before, and the brace that closes it
unfoldable pub members_taken : ℕ → Members → List Token → Option (Members × List Token)
members_taken depth found ts = converted (λ ms. of_members ms found) (members (value depth) (length ts) ts)

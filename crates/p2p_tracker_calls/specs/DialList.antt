-- Whom to dial, and when to ask for that again, as values.
use Rattle.std.specs.Prelude.{ℕ, Bool, false, cond, not, nat_lt, List, [], ◌∷◌, Option, Some, None}
use Rattle.std.specs.declared.cmp.Ordering.{Ordering}
use Rattle.p2p_tracker_calls.specs.declared.call.Call.{Call}
use Rattle.p2p_tracker_calls.specs.Rules.{Rules}
use Rattle.p2p_tracker_calls.specs.Lists.{is_dialable, next_query}
use Rattle.p2p_tracker_calls.specs.Named.{named_keys, keys_where}

-- the lesser of two moments, or the one that there is
abbrev pub earlier : Option ℕ → Option ℕ → Option ℕ
earlier None b = b
earlier (Some a) None = Some a
earlier (Some a) (Some b) = Some (cond (nat_lt b a) b a)

-- the least moment that the elements give
abbrev pub earliest : {X : Type 0} → (X → Option ℕ) → List X → Option ℕ
earliest f [] = None
earliest f (x ∷ xs) = earlier (f x) (earliest f xs)

-- there is a moment, and it comes no later than the one given
abbrev pub comes_by : Option ℕ → ℕ → Bool
comes_by None t = false
comes_by (Some m) t = not (nat_lt t m)

module _ {P : Type 0} (cmp : P → P → Ordering) (rules : Rules P) where
  -- the keys that are listed for a dial at a moment, in their order
  abbrev pub dialable_keys : List (Call P) → ℕ → List P
  dialable_keys calls t = keys_where cmp (λ q. is_dialable cmp rules calls q t) calls

  -- the least moment at which a key may change that list
  abbrev pub query_again_at : List (Call P) → ℕ → Option ℕ
  query_again_at calls t = earliest (λ q. next_query cmp rules calls q t) (named_keys cmp calls)

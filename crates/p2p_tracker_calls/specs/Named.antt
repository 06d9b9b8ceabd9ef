-- The keys that calls name.
use Rattle.std.specs.Prelude.{◌≡◌, Bool, true, List, [], ◌∷◌, ◌++◌}
use Rattle.std.specs.List.{filter}
use Rattle.std.specs.Map.{keys_of}
use Rattle.std.specs.BTreeMap.{is_at}
use Rattle.std.specs.declared.cmp.Ordering.{Ordering}
use Rattle.p2p_base.specs.Sorted.{sorted_once}
use Rattle.p2p_tracker_calls.specs.declared.call.Call.{Call}
use Rattle.p2p_tracker_calls.specs.declared.call.Call.TheVariants as call

module _ {P : Type 0} where
  -- the keys that a call names
  abbrev pub names : Call P → List P
  names (call.Track index primary secondary) = keys_of primary ++ keys_of secondary
  names (call.Overwrite p address) = p ∷ []
  names (call.Block p at) = p ∷ []
  names (call.UnblockExpired at) = []
  names (call.Dial p at jitter granted) = p ∷ []
  names (call.Listen p at jitter granted) = p ∷ []
  names (call.Connect p at conn) = p ∷ []
  names (call.Release p) = p ∷ []

  -- the keys that one of them names
  unfoldable pub all_names : List (Call P) → List P
  all_names [] = []
  all_names (c ∷ calls) = names c ++ all_names calls

module _ {P : Type 0} (cmp : P → P → Ordering) where
  -- the same in their order, each once
  abbrev pub named_keys : List (Call P) → List P
  named_keys calls = sorted_once cmp (all_names calls)

  -- those of them for which the test holds
  abbrev pub keys_where : (P → Bool) → List (Call P) → List P
  keys_where test calls = filter test (named_keys calls)

  -- keys that compare as equal are one and the same
  abbrev pub EqualKeysAreOne : Type 0
  EqualKeysAreOne = (p q : P) → is_at (cmp p) q ≡ true → p ≡ q

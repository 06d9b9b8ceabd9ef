-- Whom a plain directory lists for a dial by what it keeps, and when to ask again.
use Rattle.std.specs.Prelude.{ℕ, Bool, true, false, cond, not, ◌&&◌, nat_lt, List, Option, Some, None}
use Rattle.std.specs.List.{filter}
use Rattle.std.specs.Map.{lookup, keys_of}
use Rattle.std.specs.BTreeMap.{is_at}
use Rattle.std.specs.declared.cmp.Ordering.{Ordering}
use Rattle.p2p_discovery.specs.declared.info.Info.{Info}
use Rattle.p2p_tracker_calls.specs.Blocks.{is_local, lasts_at}
use Rattle.p2p_tracker_calls.specs.DialList.{earliest}
use Rattle.p2p_tracker_directory.specs.Stands.{Kept}
use Rattle.p2p_tracker_directory.specs.Waiting.{waits_from_in}
use Rattle.p2p_discovery_directory.specs.Allows.{has_valid_ingress}

-- the moment has come
abbrev pub has_come : ℕ → Option ℕ → Bool
has_come t None = false
has_come t (Some m) = not (nat_lt t m)

-- the moment, if it is still to come
abbrev pub to_come : ℕ → Option ℕ → Option ℕ
to_come t None = None
to_come t (Some m) = cond (nat_lt t m) (Some m) None

-- from when the key at a place is listed, if what is kept there may be dialed
abbrev pub waits_at : {P : Type 0} → (P → P → Ordering) → Kept P → P → Option (Info P) → Option ℕ
waits_at cmp kept q place = cond (has_valid_ingress kept.rules.private kept.rules.dns place) (waits_from_in (lookup (is_at (cmp q)) kept.records)) None

module _ {P : Type 0} (cmp : P → P → Ordering) (kept : Kept P) (t : ℕ) where
  abbrev pub is_barred : P → Bool
  is_barred q = lasts_at (lookup (is_at (cmp q)) kept.blocks) t

  -- the key at a place is listed
  abbrev pub is_listed_at : P → Option (Info P) → Bool
  is_listed_at q place = not (is_barred q) && has_come t (waits_at cmp kept q place)

  -- when it may change the list: at the end of its block, or at its next dial moment
  abbrev pub asks_at : P → Option (Info P) → Option ℕ
  asks_at q place = cond (is_barred q) (cond (is_local cmp kept.rules q) None (lookup (is_at (cmp q)) kept.blocks)) (to_come t (waits_at cmp kept q place))

  module _ (places : List (P × Option (Info P))) where
    abbrev pub listed_keys : List P
    listed_keys = keys_of (filter (λ e. is_listed_at e.0 e.1) places)

    abbrev pub asks_again : Option ℕ
    asks_again = earliest (λ e. asks_at e.0 e.1) places

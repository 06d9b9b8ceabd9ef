-- Whom to dial, and when to ask for that again.
use Rattle.std.specs.Prelude.{ℕ, Bool, cond, not, ◌&&◌, nat_lt, List, Option, Some, None}
use Rattle.std.specs.declared.cmp.Ordering.{Ordering}
use Rattle.p2p_tracker_calls.specs.Blocks.{is_local, is_blocked, block_of}
use Rattle.p2p_tracker_calls.specs.DialList.{earliest}
use Rattle.p2p_tracker_calls.specs.Grants.{is_held}
use Rattle.p2p_tracker_calls.specs.Lives.{is_alive, next_dial}
use Rattle.p2p_tracker_calls.specs.Named.{named_keys, keys_where}
use Rattle.p2p_tracker_calls.specs.Rules.{Rules}
use Rattle.p2p_tracker_calls.specs.Sets.{is_primary}
use Rattle.p2p_discovery.specs.declared.info.Info.{Info}
use Rattle.p2p_discovery_directory.specs.declared.call.Call.{Call}
use Rattle.p2p_discovery_directory.specs.AsLookup.{lookup_calls}
use Rattle.p2p_discovery_directory.specs.Infos.{info_of}
use Rattle.p2p_discovery_directory.specs.Allows.{has_valid_ingress}

module _ {P : Type 0} (cmp : P → P → Ordering) (rules : Rules P) (own : Info P) where
  -- the key is another's, primary, not held, and has an ingress that may be dialed
  abbrev pub is_target : List (Call P) → P → Bool
  is_target calls q = not (is_local cmp rules q) && is_primary cmp rules (lookup_calls calls) q && not (is_held cmp (lookup_calls calls) q)
      && has_valid_ingress rules.private rules.dns (info_of cmp rules own calls q)

module _ {P : Type 0} (cmp : P → P → Ordering) (rules : Rules P) (own : Info P) where
  -- the key is listed for a dial at a moment
  abbrev pub is_dialable : List (Call P) → P → ℕ → Bool
  is_dialable calls q t = is_target cmp rules own calls q && not (is_blocked cmp rules (lookup_calls calls) q t) && not (nat_lt t (next_dial cmp rules (lookup_calls calls) q))

  -- when the key may change that list: where it is blocked, at the end of that, if it is another's and tracked or held; else at its next
  -- dial moment, if it waits for that alone
  abbrev pub next_query : List (Call P) → P → ℕ → Option ℕ
  next_query calls q t = cond (is_blocked cmp rules (lookup_calls calls) q t)
      (cond (not (is_local cmp rules q) && is_alive cmp rules (lookup_calls calls) q) (block_of cmp rules (lookup_calls calls) q) None)
      (cond (is_target cmp rules own calls q && nat_lt t (next_dial cmp rules (lookup_calls calls) q)) (Some (next_dial cmp rules (lookup_calls calls) q)) None)

module _ {P : Type 0} (cmp : P → P → Ordering) (rules : Rules P) (own : Info P) where
  -- the keys that are listed at a moment, in their order
  abbrev pub dialable_keys : List (Call P) → ℕ → List P
  dialable_keys calls t = keys_where cmp (λ q. is_dialable cmp rules own calls q t) (lookup_calls calls)

  -- the least moment at which a key may change that list
  abbrev pub query_again_at : List (Call P) → ℕ → Option ℕ
  query_again_at calls t = earliest (λ q. next_query cmp rules own calls q t) (named_keys cmp (lookup_calls calls))

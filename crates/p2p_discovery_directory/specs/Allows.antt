-- When a reservation is granted.
use Rattle.std.specs.Prelude.{ℕ, Bool, false, not, ◌&&◌, nat_lt, List, Option, Some, None}
use Rattle.std.specs.declared.cmp.Ordering.{Ordering}
use Rattle.p2p_address.specs.Addresses.{is_valid}
use Rattle.p2p_tracker_calls.specs.Allows.{is_free}
use Rattle.p2p_tracker_calls.specs.Lives.{cool}
use Rattle.p2p_tracker_calls.specs.Rules.{Rules}
use Rattle.p2p_tracker_calls.specs.Sets.{is_primary}
use Rattle.p2p_discovery.specs.declared.info.Info.{Info}
use Rattle.p2p_discovery_directory.specs.declared.call.Call.{Call}
use Rattle.p2p_discovery_directory.specs.AsLookup.{lookup_calls}
use Rattle.p2p_discovery_directory.specs.Infos.{info_of}

-- an info is kept, and its ingress may be dialed
abbrev pub has_valid_ingress : {P : Type 0} → Bool → Bool → Option (Info P) → Bool
has_valid_ingress private dns None = false
has_valid_ingress private dns (Some i) = is_valid private dns i.ingress

module _ {P : Type 0} (cmp : P → P → Ordering) (rules : Rules P) where
  -- a peer that dialed is taken up, whether or not the key has waited since its last grant, and from whatever address it came
  abbrev pub is_acceptable : List (Call P) → P → ℕ → Bool
  is_acceptable calls q t = is_free cmp rules (lookup_calls calls) q t

module _ {P : Type 0} (cmp : P → P → Ordering) (rules : Rules P) (own : Info P) where
  -- a dial of the key is granted
  abbrev pub allows_dial : List (Call P) → P → ℕ → Bool
  allows_dial calls q t = is_free cmp rules (lookup_calls calls) q t && not (nat_lt t (cool cmp rules (lookup_calls calls) q))
      && is_primary cmp rules (lookup_calls calls) q && has_valid_ingress rules.private rules.dns (info_of cmp rules own calls q)

  -- a listen of the key is granted
  abbrev pub allows_listen : List (Call P) → P → ℕ → Bool
  allows_listen calls q t = is_acceptable cmp rules calls q t && not (nat_lt t (cool cmp rules (lookup_calls calls) q))

-- Where peers are dialed, as far as it was told.
use Rattle.std.specs.Prelude.{Bool, true, cond, ◌&&◌, nat_lt, List, [], ◌∷◌, Option, Some, None}
use Rattle.std.specs.BTreeMap.{is_at}
use Rattle.std.specs.declared.cmp.Ordering.{Ordering}
use Rattle.p2p_tracker_calls.specs.Blocks.{is_local}
use Rattle.p2p_tracker_calls.specs.Lives.{is_alive}
use Rattle.p2p_tracker_calls.specs.Rules.{Rules}
use Rattle.p2p_discovery.specs.declared.info.Info.{Info}
use Rattle.p2p_discovery_directory.specs.declared.call.Call.{Call}
use Rattle.p2p_discovery_directory.specs.declared.call.Call.TheVariants as call
use Rattle.p2p_discovery_directory.specs.AsLookup.{lookup_calls}

module _ {P : Type 0} where
  -- of a later moment than what is kept, if anything is
  abbrev pub is_newer : Info P → Option (Info P) → Bool
  is_newer i None = true
  is_newer i (Some kept) = nat_lt kept.timestamp i.timestamp

module _ {P : Type 0} (cmp : P → P → Ordering) where
  -- what is kept of the key, once it was told an info
  abbrev pub kept_by : P → Info P → Option (Info P) → Option (Info P)
  kept_by q i kept = cond (is_at (cmp i.public_key) q && is_newer i kept) (Some i) kept

  -- once it was told these, in order
  unfoldable pub kept_after : P → List (Info P) → Option (Info P) → Option (Info P)
  kept_after q [] kept = kept
  kept_after q (i ∷ infos) kept = kept_after q infos (kept_by q i kept)

  abbrev pub told_by : Call P → P → Option (Info P) → Option (Info P)
  told_by (call.UpdatePeers infos) q kept = kept_after q infos kept
  told_by _ q kept = kept

module _ {P : Type 0} (cmp : P → P → Ordering) (rules : Rules P) (own : Info P) where
  -- another peer's info is kept as long as its record: while the key is tracked or held
  unfoldable pub info_of : List (Call P) → P → Option (Info P)
  info_of [] q = cond (is_local cmp rules q) (Some own) None
  info_of (c ∷ calls) q = cond (is_local cmp rules q) (Some own)
      (cond (is_alive cmp rules (lookup_calls (c ∷ calls)) q) (told_by cmp c q (info_of calls q)) None)

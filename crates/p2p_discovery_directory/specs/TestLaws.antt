-- A reserved key is held, and a held one has a record.
use Rattle.std.specs.Prelude.{◌≡◌, true, not, Option, Some, None, is_some, refl}
use Rattle.std.specs.Map.{lookup}
use Rattle.std.specs.BTreeMap.{is_at}
use Rattle.std.specs.declared.cmp.Ordering.{Ordering}
use Rattle.p2p_tracker_directory.specs.Recorded.{Recorded, is_inert, is_reserved, is_reserved_in}
use Rattle.p2p_tracker_directory.specs.Stands.{Kept}
use Rattle.p2p_tracker_directory.specs.declared.record.Status.{Status}
use Rattle.p2p_tracker_directory.specs.declared.record.Status.TheVariants as status
use Rattle.p2p_discovery_directory.specs.Tests.{is_held_in, holds, reserves, knows}

held_is_some : (found : Option Recorded) → is_held_in found ≡ true → is_some found ≡ true
held_is_some None e = e
held_is_some (Some r) e = refl

reserved_status : (s : Status) → is_reserved s ≡ true → not (is_inert s) ≡ true
reserved_status status.Inert e = e
reserved_status status.Reserved e = refl
reserved_status status.Active e = refl

reserved_is_held : (found : Option Recorded) → is_reserved_in found ≡ true → is_held_in found ≡ true
reserved_is_held None e = e
reserved_is_held (Some r) e = reserved_status r.status e

module _ {P : Type 0} (cmp : P → P → Ordering) where
  pub held_is_known : (kept : Kept P) (q : P) → holds cmp kept q ≡ true → knows cmp kept q ≡ true
  held_is_known kept q e = held_is_some (lookup (is_at (cmp q)) kept.records) e

  pub reserved_is_held_too : (kept : Kept P) (q : P) → reserves cmp kept q ≡ true → holds cmp kept q ≡ true
  reserved_is_held_too kept q e = reserved_is_held (lookup (is_at (cmp q)) kept.records) e

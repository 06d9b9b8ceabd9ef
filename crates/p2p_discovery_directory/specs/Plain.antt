-- What a plain directory keeps, and the calls that it stands for. By these no key is stale, and no address is tested from which a peer dials.
use Rattle.std.specs.Prelude.{◌≡◌, Bool, true, false, cond, List, Option, Some, None, is_some}
use Rattle.std.specs.Map.{lookup}
use Rattle.std.specs.BTreeMap.{is_at}
use Rattle.std.specs.declared.cmp.Ordering.{Ordering}
use Rattle.p2p_address.specs.Addresses.{is_valid}
use Rattle.p2p_address.specs.declared.peer.Ingress.{Ingress}
use Rattle.p2p_discovery.specs.declared.info.Info.{Info}
use Rattle.p2p_tracker_calls.specs.Blocks.{is_local}
use Rattle.p2p_tracker_calls.specs.Lives.{is_alive, is_stale}
use Rattle.p2p_tracker_directory.specs.Stands.{Kept, StandsFor}
use Rattle.p2p_tracker_directory.specs.Waiting.{waits_from_in}
use Rattle.p2p_discovery_directory.specs.declared.call.Call.{Call}
use Rattle.p2p_discovery_directory.specs.AsLookup.{lookup_calls}
use Rattle.p2p_discovery_directory.specs.Infos.{is_newer, info_of}

-- what a directory of lookup keeps of the peers, the own info, and a place for each peer of which that has a record, with the info that is
-- kept of it
pub record Plain (P : Type 0) : Type 0 where
  pub peers : Kept P
  pub own : Info P
  pub places : List (P × Option (Info P))

-- what is kept at a place, if there is one
abbrev pub info_in : {P : Type 0} → Option (Option (Info P)) → Option (Info P)
info_in None = None
info_in (Some kept) = kept

-- a place is there, and nothing as new is kept at it
abbrev pub is_news : {P : Type 0} → Info P → Option (Option (Info P)) → Bool
is_news i None = false
is_news i (Some kept) = is_newer i kept

module _ {P : Type 0} (cmp : P → P → Ordering) (d : Plain P) where
  -- what is kept of a key: of the own one what it was made with
  abbrev pub info_at : P → Option (Info P)
  info_at q = cond (is_local cmp d.peers.rules q) (Some d.own) (info_in (lookup (is_at (cmp q)) d.places))

-- a directory stands for a list of calls, newest first: what it keeps of peers is told by them, and the infos too, key by key
pub record Represents {P : Type 0} (cmp : P → P → Ordering) (d : Plain P) (calls : List (Call P)) : Type 0 where
  pub peers : StandsFor cmp d.peers (lookup_calls calls)
  pub infos : (q : P) → info_at cmp d q ≡ info_of cmp d.peers.rules d.own calls q

-- the rules and the own info are as before
pub record SameTerms {P : Type 0} (before after : Plain P) : Type 0 where
  pub rules : after.peers.rules ≡ before.peers.rules
  pub own : after.own ≡ before.own

-- what holds of each plain directory: another peer has a place exactly where it has a record
pub record IsPlain {P : Type 0} (cmp : P → P → Ordering) (d : Plain P) : Type 0 where
  pub calls : List (Call P)
  pub stands : Represents cmp d calls
  pub placed : (q : P) → is_local cmp d.peers.rules q ≡ false → is_some (lookup (is_at (cmp q)) d.places) ≡ is_alive cmp d.peers.rules (lookup_calls calls) q
  pub unstale : (q : P) → is_local cmp d.peers.rules q ≡ false → is_stale cmp d.peers.rules (lookup_calls calls) q ≡ false
  pub untested : d.peers.rules.bypass ≡ true

-- ---- whom to dial

-- where the peer of an info is dialed, if that may be dialed
abbrev pub allowed_in : {P : Type 0} → Bool → Bool → Option (Info P) → Option Ingress
allowed_in private dns None = None
allowed_in private dns (Some i) = cond (is_valid private dns i.ingress) (Some i.ingress) None

-- where a peer is dialed that is primary in a set and not held
abbrev pub dialed_at : {P : Type 0} → (P → P → Ordering) → Plain P → P → Option Ingress
dialed_at cmp d q = cond (is_some (waits_from_in (lookup (is_at (cmp q)) d.peers.records)))
    (allowed_in d.peers.rules.private d.peers.rules.dns (info_in (lookup (is_at (cmp q)) d.places))) None

-- What a directory keeps, and the calls that it stands for.
use Rattle.std.specs.Prelude.{◌≡◌, ℕ, Bool, false, cond, List, Option, Some, is_some, not, nat_lt, None}
use Rattle.std.specs.Option.{option_map}
use Rattle.std.specs.List.Sorted.{IsStrictlySortedBy}
use Rattle.std.specs.Map.{lookup, keys_of}
use Rattle.std.specs.BTreeMap.{is_at}
use Rattle.std.specs.declared.cmp.Ordering.{Ordering}
use Rattle.p2p_address.specs.declared.peer.Address.{Address as PeerAddress}
use Rattle.p2p_tracker_calls.specs.Rules.{Rules}
use Rattle.p2p_tracker_calls.specs.Sets.{PeerSet, accepted_sets, kept_sets, latest_index, primary_sets, secondary_sets}
use Rattle.p2p_tracker_calls.specs.Grants.{is_held}
use Rattle.p2p_tracker_calls.specs.Blocks.{is_local, block_of}
use Rattle.p2p_tracker_calls.specs.Lives.{is_alive, address_of, is_stale, cool, next_dial, is_connected}
use Rattle.p2p_tracker_calls.specs.declared.call.Call.{Call}
use Rattle.p2p_tracker_directory.specs.Recorded.{Recorded}
use Rattle.p2p_tracker_directory.specs.declared.record.Address.TheVariants as address
use Rattle.p2p_tracker_directory.specs.declared.record.Status.{Status}
use Rattle.p2p_tracker_directory.specs.declared.record.Status.TheVariants as status

-- what a directory keeps: what it was told, the sets, newest first, the index of the last one that it accepted, a record for each key of
-- which it knows, and the ends of the blocks
pub record Kept (P : Type 0) : Type 0 where
  pub rules : Rules P
  pub sets : List (PeerSet P)
  pub latest : Option ℕ
  pub records : List (P × Recorded)
  pub blocks : List (P × ℕ)

-- the block of an entry has ended at the moment
abbrev pub ends_by : {P : Type 0} → Option (P × ℕ) → ℕ → Bool
ends_by None t = false
ends_by (Some e) t = not (nat_lt t e.1)

abbrev pub status_of : Bool → Bool → Status
status_of held connected = cond held (cond connected status.Active status.Reserved) status.Inert

module _ {P : Type 0} (cmp : P → P → Ordering) (rules : Rules P) where
  -- the own key's record, which is never granted
  abbrev pub own_record : List (Call P) → P → Recorded
  own_record calls q = record {
    address = address.Myself;
    status = status.Inert;
    primary = primary_sets cmp rules calls q;
    secondary = secondary_sets cmp rules calls q;
    is_stale = false;
    cool = 0;
    next_dial = 0;
  }

  -- another peer's record, by the calls alone
  abbrev pub peer_record : List (Call P) → P → PeerAddress → Recorded
  peer_record calls q a = record {
    address = address.Known a;
    status = status_of (is_held cmp calls q) (is_connected cmp rules calls q);
    primary = primary_sets cmp rules calls q;
    secondary = secondary_sets cmp rules calls q;
    is_stale = is_stale cmp rules calls q;
    cool = cool cmp rules calls q;
    next_dial = next_dial cmp rules calls q;
  }

module _ {P : Type 0} (cmp : P → P → Ordering) (rules : Rules P) where
  -- the key's record: one for the own key, and one for each that is tracked or held
  unfoldable pub record_of : List (Call P) → P → Option Recorded
  record_of calls q = cond (is_local cmp rules q) (Some (own_record cmp rules calls q)) (option_map (peer_record cmp rules calls q) (address_of cmp rules calls q))

-- a directory stands for a list of calls, newest first: its sets are those that follow from the calls, its records and blocks too, key by
-- key, the blocks stand in the order of their keys, and each other peer that is tracked or held has an address
pub record StandsFor {P : Type 0} (cmp : P → P → Ordering) (kept : Kept P) (calls : List (Call P)) : Type 0 where
  pub sets : kept.sets ≡ kept_sets cmp kept.rules calls
  pub latest : kept.latest ≡ latest_index (accepted_sets cmp calls)
  pub records : (q : P) → lookup (is_at (cmp q)) kept.records ≡ record_of cmp kept.rules calls q
  pub blocks : (q : P) → lookup (is_at (cmp q)) kept.blocks ≡ block_of cmp kept.rules calls q
  pub ordered : IsStrictlySortedBy cmp (keys_of kept.blocks)
  pub addressed : (q : P) → is_local cmp kept.rules q ≡ false → is_alive cmp kept.rules calls q ≡ is_some (address_of cmp kept.rules calls q)

-- What a directory answers by what it keeps: who is in its sets, who is blocked, whom to dial, and from where peers may come.
use Rattle.std.specs.Prelude.{ℕ, true, false, ◌&&◌, nat_lt, List, Option, filter_map}
use Rattle.std.specs.List.{filter}
use Rattle.std.specs.Option.{option_map}
use Rattle.std.specs.Map.{lookup, keys_of}
use Rattle.std.specs.BTreeMap.{is_at}
use Rattle.std.specs.declared.cmp.Ordering.{Ordering}
use Rattle.p2p_base.specs.Sorted.{sorted_once}
use Rattle.p2p_address.specs.Addresses.{egress_of}
use Rattle.p2p_address.specs.declared.ip.IpAddr.{IpAddr}
use Rattle.p2p_flow.specs.declared.tracked.TrackedPeers.{TrackedPeers}
use Rattle.p2p_flow.specs.declared.update.PeerSetUpdate.{PeerSetUpdate}
use Rattle.p2p_tracker_calls.specs.declared.call.Call.{Call}
use Rattle.p2p_tracker_calls.specs.Blocks.{lasts_at}
use Rattle.p2p_tracker_calls.specs.DialList.{earliest}
use Rattle.p2p_tracker_calls.specs.Heard.{ip_cmp}
use Rattle.p2p_tracker_calls.specs.Lives.{address_of, is_eligible}
use Rattle.p2p_tracker_calls.specs.Named.{keys_where}
use Rattle.p2p_tracker_calls.specs.Peers.{peers_of, newest_of}
use Rattle.p2p_tracker_calls.specs.Rules.{Rules}
use Rattle.p2p_tracker_calls.specs.Sets.{set_at}
use Rattle.p2p_tracker_directory.specs.declared.directory.dials.Dialable.{Dialable}
use Rattle.p2p_tracker_directory.specs.Indexed.{is_from, count_in}
use Rattle.p2p_tracker_directory.specs.Listed.{has_role, heard, outlook, is_now, moment_of}
use Rattle.p2p_tracker_directory.specs.Stands.{Kept}

module _ {P : Type 0} (cmp : P → P → Ordering) (kept : Kept P) where
  abbrev pub blocked_in : ℕ → List P
  blocked_in t = sorted_once cmp (keys_of (filter (λ e. nat_lt t e.1) kept.blocks))

  abbrev pub dialable_in : ℕ → List P
  dialable_in t = keys_of (filter (λ e. is_now (outlook e.1 (lookup (is_at (cmp e.0)) kept.blocks) t kept.rules.private kept.rules.dns)) kept.records)

  abbrev pub query_in : ℕ → Option ℕ
  query_in t = earliest (λ e. moment_of (outlook e.1 (lookup (is_at (cmp e.0)) kept.blocks) t kept.rules.private kept.rules.dns)) kept.records

  abbrev pub addresses_in : ℕ → List IpAddr
  addresses_in t = sorted_once ip_cmp (filter_map (λ e. heard e.1 (lasts_at (lookup (is_at (cmp e.0)) kept.blocks) t) kept.rules.private) kept.records)

  -- how many keys of other peers in sets that aren't blocked dial from the address
  abbrev pub listenable_count_in : IpAddr → ℕ → ℕ
  listenable_count_in ip t = count_in cmp kept.records kept.blocks ip t

  abbrev pub peer_set_in : ℕ → Option (TrackedPeers P)
  peer_set_in index = option_map peers_of (set_at index kept.sets)

  abbrev pub all_in : TrackedPeers P
  all_in = record {
    primary = sorted_once cmp (keys_of (filter (λ e. has_role e.1 true) kept.records));
    secondary = sorted_once cmp (keys_of (filter (λ e. has_role e.1 false) kept.records));
  }

module _ {P : Type 0} (cmp : P → P → Ordering) (kept : Kept P) where
  abbrev pub dial_list_in : ℕ → Dialable P
  dial_list_in t = record { peers = dialable_in cmp kept t; next_query_at = query_in cmp kept t }

  abbrev pub update_in : Option (PeerSetUpdate P)
  update_in = option_map (λ s. record { index = s.index; latest = peers_of s; all = all_in cmp kept }) (newest_of kept.sets)

module _ {P : Type 0} (cmp : P → P → Ordering) (rules : Rules P) where
  -- the keys that are eligible at a moment and dial from the address, in their order
  abbrev pub keys_from : List (Call P) → IpAddr → ℕ → List P
  keys_from calls ip t = keys_where cmp (λ q. is_eligible cmp rules calls q t && is_from ip (option_map egress_of (address_of cmp rules calls q))) calls

-- What a node's tracker puts for what it takes, by the calls of its directory so far.
use Rattle.std.specs.Prelude.{ℕ, Bool, true, false, not, cond, List, [], ◌∷◌, ◌++◌, map, filter, flat_map, Option, Some, None}
use Rattle.std.specs.Option.{option_map}
use Rattle.p2p_base.specs.declared.key.Key.{Key}
use Rattle.p2p_address.specs.Addresses.{ingress_of}
use Rattle.p2p_address.specs.declared.ip.IpAddr.{IpAddr}
use Rattle.p2p_address.specs.declared.peer.Address.{Address}
use Rattle.p2p_address.specs.declared.peer.Ingress.{Ingress}
use Rattle.p2p_flow.specs.declared.update.PeerSetUpdate.{PeerSetUpdate}
use Rattle.p2p_tracker_calls.specs.declared.call.Call.{Call}
use Rattle.p2p_tracker_calls.specs.declared.call.Call.TheVariants as call
use Rattle.p2p_tracker_calls.specs.Allows.{allows_dial, allows_listen, is_acceptable}
use Rattle.p2p_tracker_calls.specs.BlockedKeys.{blocked_keys}
use Rattle.p2p_tracker_calls.specs.Blocks.{is_blockable}
use Rattle.p2p_tracker_calls.specs.DialList.{dialable_keys, query_again_at}
use Rattle.p2p_tracker_calls.specs.Heard.{heard_addresses}
use Rattle.p2p_tracker_calls.specs.Keeping.{kept_of}
use Rattle.p2p_tracker_calls.specs.Kills.{killed_keys}
use Rattle.p2p_tracker_calls.specs.Lives.{accepts, address_of, is_overwritten}
use Rattle.p2p_tracker_calls.specs.Overwrites.{overwritten, overwritten_keys}
use Rattle.p2p_tracker_calls.specs.Peers.{peer_set_of, latest_update}
use Rattle.p2p_tracker_calls.specs.Rules.{Rules}
use Rattle.p2p_tracker_calls.specs.Sets.{is_above, accepted_sets}
use Rattle.p2p_log.specs.declared.queue.Queue.{Queue}
use Rattle.p2p_log.specs.declared.queue.Queue.TheVariants as queue
use Rattle.p2p_log.specs.declared.item.Item.{Item}
use Rattle.p2p_log.specs.declared.item.Item.TheVariants as item
use Rattle.p2p_log.specs.declared.entry.Entry.{Entry}
use Rattle.p2p_log.specs.declared.asked.Asked.TheVariants as ask
use Rattle.p2p_log.specs.declared.event.Act.{Act}
use Rattle.p2p_log.specs.declared.event.Act.TheVariants as act
use Rattle.p2p_log_rules.specs.Handshakes.{is_handshaking, source_at}
use Rattle.p2p_log_rules.specs.Tracking.{key_cmp, asked_by}

abbrev pub Put : Type 0
Put = Queue × Item

abbrev pub is_some_of : {X : Type 0} → List X → Bool
is_some_of [] = false
is_some_of (x ∷ xs) = true

module _ (n : ℕ) where
  -- the kill of a connection, where one is kept
  abbrev pub kill_put : Option ℕ → List Put
  kill_put None = []
  kill_put (Some conn) = (queue.Control n conn, item.Kill) ∷ []

  -- the latest peer sets for each of these subscriptions, where there is one
  abbrev pub update_puts : List ℕ → Option (PeerSetUpdate Key) → List Put
  update_puts es None = []
  update_puts es (Some u) = map (λ e. (queue.PeerSetUpdates n e, item.PeerSetUpdate u)) es

  -- the blocked keys for each of these subscriptions
  abbrev pub set_puts : List ℕ → List Key → List Put
  set_puts es keys = map (λ e. (queue.Blocked n e, item.Blocked keys)) es

module _ (rules : Rules Key) (n at : ℕ) where
  -- the addresses from which peers may come after these calls
  abbrev pub heard_put : List (Call Key) → Put
  heard_put calls = (queue.Addresses n, item.Addresses (heard_addresses key_cmp rules calls at))

  -- the kills of the keys whose address changes, each by the calls before it
  abbrev pub overwrite_kills : List (Key × Address) → List (Call Key) → List Put
  overwrite_kills [] calls = []
  overwrite_kills (e ∷ es) calls =
      cond (is_overwritten key_cmp rules calls e.0 e.1) (kill_put n (kept_of key_cmp rules calls e.0)) []
      ++ overwrite_kills es (call.Overwrite e.0 e.1 ∷ calls)

module _ (rules : Rules Key) (n at : ℕ) (updates sets : List ℕ) (calls : List (Call Key)) where
  -- a set that is accepted: its kills in key order, the addresses, then each subscription
  abbrev pub tracked_puts : Call Key → List Key → List Put
  tracked_puts c killed =
      (flat_map (λ k. kill_put n (kept_of key_cmp rules calls k)) killed ++ heard_put rules n at (c ∷ calls) ∷ [])
      ++ update_puts n updates (latest_update key_cmp rules (c ∷ calls))

  -- a block: where it is new each subscription and the addresses, then the kill
  abbrev pub blocked_puts : Call Key → Key → List Put
  blocked_puts c k =
      cond (is_blockable key_cmp rules calls k at) (set_puts n sets (blocked_keys key_cmp rules (c ∷ calls) at) ++ heard_put rules n at (c ∷ calls) ∷ []) []
      ++ kill_put n (kept_of key_cmp rules calls k)

  -- blocks that ended: the addresses, then each subscription
  abbrev pub unblocked_puts : Call Key → List Put
  unblocked_puts c = heard_put rules n at (c ∷ calls) ∷ set_puts n sets (blocked_keys key_cmp rules (c ∷ calls) at)

module _ (rules : Rules Key) (n at : ℕ) (updates sets : List ℕ) (calls : List (Call Key)) where
  -- what is put for what the event e asked
  abbrev pub asked_puts : ℕ → Option Act → List Put
  asked_puts e (Some (act.Ask (ask.Track index peers) m)) =
      cond (is_above index (accepted_sets key_cmp calls))
      (tracked_puts rules n at updates sets calls (call.Track index peers.primary peers.secondary) (killed_keys key_cmp rules index peers.primary peers.secondary calls))
      []
  asked_puts e (Some (act.Ask (ask.Overwrite peers) m)) =
      overwrite_kills rules n at peers calls
      ++ cond (is_some_of (overwritten_keys key_cmp rules peers calls)) (heard_put rules n at (overwritten peers calls) ∷ []) []
  asked_puts e (Some (act.Ask (ask.Block key) m)) = blocked_puts rules n at updates sets calls (call.Block key at) key
  asked_puts e (Some (act.Ask (ask.PeerSet index) m)) = (queue.PeerSet n e, item.PeerSet (peer_set_of key_cmp rules calls index)) ∷ []
  asked_puts e (Some (act.Ask ask.Subscribe m)) = update_puts n (e ∷ []) (latest_update key_cmp rules calls)
  asked_puts e (Some (act.Ask ask.Blocked m)) = set_puts n (e ∷ []) (blocked_keys key_cmp rules calls at)
  asked_puts e _ = []

  -- whom a dial reserves, and where to dial
  abbrev pub dial_grant : Key → Option (Key × Ingress)
  dial_grant k = cond (allows_dial key_cmp rules calls k at) (option_map (λ a. (k, ingress_of a)) (address_of key_cmp rules calls k)) None

  -- whether the peer of a handshake may connect from where it came, and whether it is reserved
  abbrev pub acceptance : Key → IpAddr → Item
  acceptance key source = item.Acceptable (is_acceptable key_cmp rules calls key source at)

  abbrev pub listen_grant : Key → IpAddr → Item
  listen_grant key source = item.Listen (cond (allows_listen key_cmp rules calls key source at) (Some key) None)

  -- what is told to a handshake that has not ended, of where its peer came from
  abbrev pub handshake_puts : ℕ → (IpAddr → Item) → Bool → Option IpAddr → List Put
  handshake_puts name told true (Some source) = (queue.Handshake n name, told source) ∷ []
  handshake_puts name told _ _ = []

  -- what is put for an item
  abbrev pub item_puts : List Entry → Item → List Put
  item_puts log (item.Call e) = asked_puts e (asked_by log e)
  item_puts log (item.Connect conn key) = cond (accepts key_cmp rules calls key (Some at)) [] (kill_put n (Some conn))
  item_puts log item.AskDialable = (queue.Dialer n, item.Dialable (query_again_at key_cmp rules calls at) (dialable_keys key_cmp rules calls at)) ∷ []
  item_puts log (item.AskDial key) = (queue.Dialer n, item.Dial (dial_grant key)) ∷ []
  item_puts log (item.AskAcceptable name key) = handshake_puts name (acceptance key) (is_handshaking log n name) (source_at log name)
  item_puts log (item.AskListen name key) = handshake_puts name (listen_grant key) (is_handshaking log n name) (source_at log name)
  item_puts log _ = []

-- ---- kills that come too late

-- whether it kills a connection that has ended
abbrev pub kills_ended : (ℕ → Bool) → Put → Bool
kills_ended ended (queue.Control n conn, item.Kill) = ended conn
kills_ended ended _ = false

-- all of these but the kills of connections that have ended
abbrev pub heeded : (ℕ → Bool) → List Put → List Put
heeded ended puts = filter (λ x. not (kills_ended ended x)) puts

-- What holds of each put of a node's tracker, if it holds of each kind of put.
use Rattle.std.proofs.Common.{◌≡◌, ℕ, suc, Bool, true, false, cond, List, [], ◌∷◌, ◌++◌, inl, inr, refl, Option, Some, None}
use Rattle.std.specs.Prelude.{⊤, flat_map, slice_get}
use Rattle.std.specs.List.{AllByRecursion as Each}
use Rattle.p2p_base.specs.declared.key.Key.{Key}
use Rattle.p2p_address.specs.declared.ip.IpAddr.{IpAddr}
use Rattle.p2p_address.specs.declared.peer.Address.{Address}
use Rattle.p2p_flow.specs.declared.update.PeerSetUpdate.{PeerSetUpdate}
use Rattle.p2p_flow.specs.declared.tracked.TrackedPeers.{TrackedPeers}
use Rattle.p2p_tracker_calls.specs.declared.call.Call.{Call}
use Rattle.p2p_tracker_calls.specs.declared.call.Call.TheVariants as call
use Rattle.p2p_tracker_calls.specs.Blocks.{is_blockable}
use Rattle.p2p_tracker_calls.specs.BlockedKeys.{blocked_keys}
use Rattle.p2p_tracker_calls.specs.Heard.{heard_addresses}
use Rattle.p2p_tracker_calls.specs.Keeping.{kept_of}
use Rattle.p2p_tracker_calls.specs.Kills.{killed_keys}
use Rattle.p2p_tracker_calls.specs.Lives.{accepts, is_overwritten}
use Rattle.p2p_tracker_calls.specs.Overwrites.{overwritten, overwritten_keys}
use Rattle.p2p_tracker_calls.specs.Peers.{peer_set_of, latest_update}
use Rattle.p2p_tracker_calls.specs.Rules.{Rules}
use Rattle.p2p_tracker_calls.specs.Sets.{is_above, accepted_sets}
use Rattle.p2p_log.specs.declared.queue.Queue.TheVariants as queue
use Rattle.p2p_log.specs.declared.item.Item.TheVariants as item
use Rattle.p2p_log.specs.declared.asked.Asked.TheVariants as ask
use Rattle.p2p_log.specs.declared.event.Act.{Act}
use Rattle.p2p_log.specs.declared.event.Act.TheVariants as act
use Rattle.p2p_log_rules.specs.Tracking.{key_cmp}
use Rattle.p2p_log_rules.specs.TrackerPuts as puts
use Rattle.p2p_log_rules.specs.TrackerPuts.{Put}
use Rattle.p2p_log_laws.specs.Kills.{IsOverwritten, IsEndedBy}
use Rattle.p2p_log.proofs.Each.{Each-always, Each-append, Each-map}

-- it holds of each kind of put but those for a dialer; of a kill where the connection is one of these
pub record EachKindBy (n : ℕ) (P : Put → Type 0) (Killed : ℕ → Type 0) : Type 0 where
  pub kill : (conn : ℕ) → Killed conn → P (queue.Control n conn, item.Kill)
  pub update : (e : ℕ) (u : PeerSetUpdate Key) → P (queue.PeerSetUpdates n e, item.PeerSetUpdate u)
  pub blocked : (e : ℕ) (keys : List Key) → P (queue.Blocked n e, item.Blocked keys)
  pub heard : (ips : List IpAddr) → P (queue.Addresses n, item.Addresses ips)
  pub answer : (e : ℕ) (o : Option (TrackedPeers Key)) → P (queue.PeerSet n e, item.PeerSet o)

module _ (n : ℕ) (P : Put → Type 0) (Killed : ℕ → Type 0) (kinds : EachKindBy n P Killed) where
  each_kill : (o : Option ℕ) → ((conn : ℕ) → o ≡ Some conn → Killed conn) → Each P (puts.kill_put n o)
  each_kill None why = tt
  each_kill (Some conn) why = (kinds.kill conn (why conn refl), tt)

  each_update : (es : List ℕ) (o : Option (PeerSetUpdate Key)) → Each P (puts.update_puts n es o)
  each_update es None = tt
  each_update es (Some u) = Each-map P (λ e. (queue.PeerSetUpdates n e, item.PeerSetUpdate u)) es (Each-always (λ e. P (queue.PeerSetUpdates n e, item.PeerSetUpdate u)) (λ e. kinds.update e u) es)

  each_set : (es : List ℕ) (keys : List Key) → Each P (puts.set_puts n es keys)
  each_set es keys = Each-map P (λ e. (queue.Blocked n e, item.Blocked keys)) es (Each-always (λ e. P (queue.Blocked n e, item.Blocked keys)) (λ e. kinds.blocked e keys) es)

  if_so : (b : Bool) (xs : List Put) → (b ≡ true → Each P xs) → Each P (cond b xs [])
  if_so true xs h = h refl
  if_so false xs h = tt

  if_each : (b : Bool) (xs : List Put) → Each P xs → Each P (cond b xs [])
  if_each b xs h = if_so b xs (λ is. h)

  module _ (rules : Rules Key) (at : ℕ) where
    heard_there : (calls : List (Call Key)) → P (puts.heard_put rules n at calls)
    heard_there calls = kinds.heard (heard_addresses key_cmp rules calls at)

    each_killed : (calls : List (Call Key)) (ks : List Key) → ((i conn : ℕ) (key : Key) → slice_get ks i ≡ Some key → kept_of key_cmp rules calls key ≡ Some conn → Killed conn)
        → Each P (flat_map (λ k. puts.kill_put n (kept_of key_cmp rules calls k)) ks)
    each_killed calls [] why = tt
    each_killed calls (k ∷ ks) why =
        Each-append P (puts.kill_put n (kept_of key_cmp rules calls k)) (flat_map (λ j. puts.kill_put n (kept_of key_cmp rules calls j)) ks)
        (each_kill (kept_of key_cmp rules calls k) (λ conn kept. why 0 conn k refl kept)) (each_killed calls ks (λ i conn key there kept. why (suc i) conn key there kept))

    each_overwrite : (es : List (Key × Address)) (calls : List (Call Key)) → ((conn : ℕ) → IsOverwritten rules conn es calls → Killed conn) → Each P (puts.overwrite_kills rules n at es calls)
    each_overwrite [] calls why = tt
    each_overwrite (e ∷ es) calls why =
        Each-append P (cond (is_overwritten key_cmp rules calls e.0 e.1) (puts.kill_put n (kept_of key_cmp rules calls e.0)) []) (puts.overwrite_kills rules n at es (call.Overwrite e.0 e.1 ∷ calls))
        (if_so (is_overwritten key_cmp rules calls e.0 e.1) (puts.kill_put n (kept_of key_cmp rules calls e.0)) (λ is. each_kill (kept_of key_cmp rules calls e.0) (λ conn kept. why conn (inl (is, kept)))))
        (each_overwrite es (call.Overwrite e.0 e.1 ∷ calls) (λ conn h. why conn (inr h)))

    module _ (updates sets : List ℕ) (calls : List (Call Key)) where
      each_tracked : (c : Call Key) (killed : List Key) → ((i conn : ℕ) (key : Key) → slice_get killed i ≡ Some key → kept_of key_cmp rules calls key ≡ Some conn → Killed conn)
          → Each P (puts.tracked_puts rules n at updates sets calls c killed)
      each_tracked c killed why =
          let kills = flat_map (λ k. puts.kill_put n (kept_of key_cmp rules calls k)) killed in
          let heard = puts.heard_put rules n at (c ∷ calls) in
          Each-append P (kills ++ heard ∷ []) (puts.update_puts n updates (latest_update key_cmp rules (c ∷ calls)))
          (Each-append P kills (heard ∷ []) (each_killed calls killed why) (heard_there (c ∷ calls), tt))
          (each_update updates (latest_update key_cmp rules (c ∷ calls)))

      each_blocked : (c : Call Key) (k : Key) → ((conn : ℕ) → kept_of key_cmp rules calls k ≡ Some conn → Killed conn) → Each P (puts.blocked_puts rules n at updates sets calls c k)
      each_blocked c k why =
          let keys = blocked_keys key_cmp rules (c ∷ calls) at in
          let heard = puts.heard_put rules n at (c ∷ calls) in
          Each-append P (cond (is_blockable key_cmp rules calls k at) (puts.set_puts n sets keys ++ heard ∷ []) []) (puts.kill_put n (kept_of key_cmp rules calls k))
          (if_each (is_blockable key_cmp rules calls k at) (puts.set_puts n sets keys ++ heard ∷ [])
          (Each-append P (puts.set_puts n sets keys) (heard ∷ []) (each_set sets keys) (heard_there (c ∷ calls), tt)))
          (each_kill (kept_of key_cmp rules calls k) why)

      -- where blocks have ended
      pub each_unblocked_by : (c : Call Key) → Each P (puts.unblocked_puts rules n at updates sets calls c)
      each_unblocked_by c = (heard_there (c ∷ calls), each_set sets (blocked_keys key_cmp rules (c ∷ calls) at))

      -- for what an event asked
      pub each_asked_by : (e : ℕ) (o : Option Act) → ((conn : ℕ) → IsEndedBy rules conn calls o → Killed conn) → Each P (puts.asked_puts rules n at updates sets calls e o)
      each_asked_by e (Some (act.Ask (ask.Track index peers) m)) why =
          let c = call.Track index peers.primary peers.secondary in
          let killed = killed_keys key_cmp rules index peers.primary peers.secondary calls in
          if_so (is_above index (accepted_sets key_cmp calls)) (puts.tracked_puts rules n at updates sets calls c killed)
          (λ above. each_tracked c killed (λ i conn key there kept. why conn (above, i, key, there, kept)))
      each_asked_by e (Some (act.Ask (ask.Overwrite peers) m)) why =
          let all = cond (puts.is_some_of (overwritten_keys key_cmp rules peers calls)) (puts.heard_put rules n at (overwritten peers calls) ∷ []) [] in
          Each-append P (puts.overwrite_kills rules n at peers calls) all (each_overwrite peers calls why)
          (if_each (puts.is_some_of (overwritten_keys key_cmp rules peers calls)) (puts.heard_put rules n at (overwritten peers calls) ∷ []) (heard_there (overwritten peers calls), tt))
      each_asked_by e (Some (act.Ask (ask.Block key) m)) why = each_blocked (call.Block key at) key why
      each_asked_by e (Some (act.Ask (ask.PeerSet index) m)) why = (kinds.answer e (peer_set_of key_cmp rules calls index), tt)
      each_asked_by e (Some (act.Ask ask.Subscribe m)) why = each_update (e ∷ []) (latest_update key_cmp rules calls)
      each_asked_by e (Some (act.Ask ask.Blocked m)) why = each_set (e ∷ []) (blocked_keys key_cmp rules calls at)
      each_asked_by e _ why = tt

      -- for a connection that has begun
      pub each_connected_by : (conn : ℕ) (key : Key) → (accepts key_cmp rules calls key (Some at) ≡ false → Killed conn)
          → Each P (cond (accepts key_cmp rules calls key (Some at)) [] (puts.kill_put n (Some conn)))
      each_connected_by conn key why = unless (accepts key_cmp rules calls key (Some at)) why
        where
          unless : (b : Bool) → (b ≡ false → Killed conn) → Each P (cond b [] (puts.kill_put n (Some conn)))
          unless true why = tt
          unless false why = (kinds.kill conn (why refl), tt)

-- it holds of each of them, whichever connection is killed
abbrev pub EachKind : ℕ → (Put → Type 0) → Type 0
EachKind n P = EachKindBy n P (λ conn. ⊤)

module _ (n : ℕ) (P : Put → Type 0) (kinds : EachKind n P) (rules : Rules Key) (at : ℕ) (updates sets : List ℕ) (calls : List (Call Key)) where
  pub each_unblocked : (c : Call Key) → Each P (puts.unblocked_puts rules n at updates sets calls c)
  each_unblocked c = each_unblocked_by n P (λ conn. ⊤) kinds rules at updates sets calls c

  pub each_asked : (e : ℕ) (o : Option Act) → Each P (puts.asked_puts rules n at updates sets calls e o)
  each_asked e o = each_asked_by n P (λ conn. ⊤) kinds rules at updates sets calls e o (λ conn why. tt)

  pub each_connected : (conn : ℕ) (key : Key) → Each P (cond (accepts key_cmp rules calls key (Some at)) [] (puts.kill_put n (Some conn)))
  each_connected conn key = each_connected_by n P (λ conn. ⊤) kinds rules at updates sets calls conn key (λ why. tt)

-- What the tracker put, as items in queues, is what the log says of the message that it took.
use Rattle.std.proofs.Common.{◌≡◌, ℕ, Bool, true, false, cond, List, [], ◌∷◌, ◌++◌, map, refl, ap, sym, ◌∙◌, Option, Some, None}
use Rattle.std.specs.Prelude.{flat_map, slice_set}
use Rattle.std.specs.Option.{option_map}
use Rattle.p2p_base.specs.declared.key.Key.{Key}
use Rattle.p2p_address.specs.declared.ip.IpAddr.{IpAddr}
use Rattle.p2p_address.specs.declared.peer.Address.{Address}
use Rattle.p2p_address.specs.Addresses.{ingress_of}
use Rattle.p2p_flow.specs.declared.update.PeerSetUpdate.{PeerSetUpdate}
use Rattle.p2p_tracker_calls.specs.declared.call.Call.{Call}
use Rattle.p2p_tracker_calls.specs.declared.call.Call.TheVariants as call
use Rattle.p2p_tracker_calls.specs.Allows.{allows_dial, allows_listen, is_acceptable}
use Rattle.p2p_tracker_calls.specs.BlockedKeys.{blocked_keys}
use Rattle.p2p_tracker_calls.specs.Blocks.{is_blockable}
use Rattle.p2p_tracker_calls.specs.Keeping.{kept_of}
use Rattle.p2p_tracker_calls.specs.Kills.{killed_keys}
use Rattle.p2p_tracker_calls.specs.Lives.{accepts, address_of, is_overwritten}
use Rattle.p2p_tracker_calls.specs.Overwrites.{overwritten, overwritten_keys}
use Rattle.p2p_tracker_calls.specs.Peers.{peer_set_of, latest_update}
use Rattle.p2p_tracker_calls.specs.Rules.{Rules}
use Rattle.p2p_tracker_calls.specs.Sets.{is_above, accepted_sets}
use Rattle.p2p_tracker_directory.specs.Reserved.{peer_of}
use Rattle.p2p_tracker_directory.specs.declared.metadata.Metadata.TheVariants as side
use Rattle.p2p_tracker_mailbox.specs.declared.message.Message.{Message}
use Rattle.p2p_tracker.specs.Putting.{kills_of, overwrite_kills, listen_grant}
use Rattle.p2p_tracker.specs.Steps.{heard_put, registered, blocked, unblocked, puts_for}
use Rattle.p2p_tracker.specs.Telling.{has_any, kill_put, updates_put, told_of_sets, sets_put}
use Rattle.p2p_tracker.specs.declared.stepped.Put.{Put}
use Rattle.p2p_tracker.specs.declared.stepped.Put.TheVariants as put
use Rattle.p2p_log.specs.declared.queue.Queue.{Queue}
use Rattle.p2p_log.specs.declared.queue.Queue.TheVariants as queue
use Rattle.p2p_log.specs.declared.item.Item.{Item}
use Rattle.p2p_log.specs.declared.item.Item.TheVariants as item
use Rattle.p2p_log.specs.declared.entry.Entry.{Entry}
use Rattle.p2p_log.specs.declared.asked.Asked.TheVariants as ask
use Rattle.p2p_log.specs.declared.event.Act.{Act}
use Rattle.p2p_log.specs.declared.event.Act.TheVariants as act
use Rattle.p2p_log_rules.specs.Handshakes.{is_handshaking}
use Rattle.p2p_log_rules.specs.Tracking.{key_cmp}
use Rattle.p2p_log_rules.specs.TrackerPuts as puts
use Rattle.p2p_net_tracker.specs.declared.naming.Tickets.{Tickets}
use Rattle.p2p_net_tracker.specs.Naming.{named_put, before, named_puts, grant_of}
use Rattle.p2p_net_queues.specs.Matching.{Match}
use Rattle.p2p_net_tracker.specs.Stands.{IsTicket, Says, IsMessage}
use Rattle.p2p_net_queues.proofs.Matching.{slice_index-get}

pub has_any-is : {X : Type 0} (xs : List X) → has_any xs ≡ puts.is_some_of xs
has_any-is [] = refl
has_any-is (x ∷ xs) = refl

module _ (n : ℕ) (t : Tickets) where
  pub named-append : (xs ys : List (Put Key)) → named_puts n t (xs ++ ys) ≡ named_puts n t xs ++ named_puts n t ys
  named-append [] ys = refl
  named-append (x ∷ xs) ys = ap (before (named_put n t x)) (named-append xs ys) ∙ onto (named_put n t x)
    where
      onto : (o : Option (Queue × Item)) → before o (named_puts n t xs ++ named_puts n t ys) ≡ before o (named_puts n t xs) ++ named_puts n t ys
      onto None = refl
      onto (Some y) = refl

  named-both : (xs ys : List (Put Key)) (us vs : List (Queue × Item)) → named_puts n t xs ≡ us → named_puts n t ys ≡ vs → named_puts n t (xs ++ ys) ≡ us ++ vs
  named-both xs ys us vs first rest = named-append xs ys ∙ (ap (λ l. l ++ named_puts n t ys) first ∙ ap (λ l. us ++ l) rest)

  named-if : (b : Bool) (xs : List (Put Key)) (us : List (Queue × Item)) → named_puts n t xs ≡ us → named_puts n t (cond b xs []) ≡ cond b us []
  named-if true xs us h = h
  named-if false xs us h = refl

  named-kill : (k : Key) (o : Option ℕ) → named_puts n t (kill_put k o) ≡ puts.kill_put n o
  named-kill k None = refl
  named-kill k (Some conn) = refl

  named-updates : (ts es : List ℕ) (u : PeerSetUpdate Key) → Match (IsTicket t.updates) ts es → named_puts n t (updates_put ts u) ≡ map (λ e. (queue.PeerSetUpdates n e, item.PeerSetUpdate u)) es
  named-updates [] [] u h = refl
  named-updates (k ∷ ts) (e ∷ es) u h =
      ap (λ d. (queue.PeerSetUpdates n d, item.PeerSetUpdate u) ∷ named_puts n t (updates_put ts u)) (slice_index-get t.updates k e 0 h.0)
      ∙ ap (λ l. (queue.PeerSetUpdates n e, item.PeerSetUpdate u) ∷ l) (named-updates ts es u h.1)
  named-updates [] (e ∷ es) u h = absurd h
  named-updates (k ∷ ts) [] u h = absurd h

  named-told : (ts es : List ℕ) (o : Option (PeerSetUpdate Key)) → Match (IsTicket t.updates) ts es → named_puts n t (told_of_sets ts o) ≡ puts.update_puts n es o
  named-told ts es None h = refl
  named-told ts es (Some u) h = named-updates ts es u h

  named-sets : (ts es : List ℕ) (waiting : List (Option (List Key))) (keys : List Key) → Match (IsTicket t.blocked) ts es → named_puts n t (sets_put waiting ts keys) ≡ puts.set_puts n es keys
  named-sets [] [] waiting keys h = refl
  named-sets (k ∷ ts) (e ∷ es) waiting keys h =
      ap (λ d. (queue.Blocked n d, item.Blocked keys) ∷ named_puts n t (sets_put (slice_set waiting k (Some keys)) ts keys)) (slice_index-get t.blocked k e 0 h.0)
      ∙ ap (λ l. (queue.Blocked n e, item.Blocked keys) ∷ l) (named-sets ts es (slice_set waiting k (Some keys)) keys h.1)
  named-sets [] (e ∷ es) waiting keys h = absurd h
  named-sets (k ∷ ts) [] waiting keys h = absurd h

  module _ (rules : Rules Key) (heard : Option (List IpAddr)) (now : ℕ) where
    named-kills : (calls : List (Call Key)) (ks : List Key) → named_puts n t (kills_of key_cmp rules calls ks) ≡ flat_map (λ k. puts.kill_put n (kept_of key_cmp rules calls k)) ks
    named-kills calls [] = refl
    named-kills calls (k ∷ ks) =
        named-both (kill_put k (kept_of key_cmp rules calls k)) (kills_of key_cmp rules calls ks) (puts.kill_put n (kept_of key_cmp rules calls k)) (flat_map (λ j. puts.kill_put n (kept_of key_cmp rules calls j)) ks)
        (named-kill k (kept_of key_cmp rules calls k)) (named-kills calls ks)

    named-overwrites : (es : List (Key × Address)) (calls : List (Call Key)) → named_puts n t (overwrite_kills key_cmp rules es calls) ≡ puts.overwrite_kills rules n now es calls
    named-overwrites [] calls = refl
    named-overwrites (e ∷ es) calls =
        let other = is_overwritten key_cmp rules calls e.0 e.1 in
        let kill = kill_put e.0 (kept_of key_cmp rules calls e.0) in
        let more = call.Overwrite e.0 e.1 ∷ calls in
        named-both (cond other kill []) (overwrite_kills key_cmp rules es more) (cond other (puts.kill_put n (kept_of key_cmp rules calls e.0)) []) (puts.overwrite_kills rules n now es more)
        (named-if other kill (puts.kill_put n (kept_of key_cmp rules calls e.0)) (named-kill e.0 (kept_of key_cmp rules calls e.0))) (named-overwrites es more)

    module _ (updates sets us bs : List ℕ) (waiting : List (Option (List Key))) (told : Match (IsTicket t.updates) updates us) (blocks : Match (IsTicket t.blocked) sets bs) (runs : ℕ → Bool) (calls : List (Call Key)) where
      named-registered : (c : Call Key) (killed : List Key)
          → named_puts n t (registered key_cmp rules updates sets waiting heard calls now c killed) ≡ puts.tracked_puts rules n now us bs calls c killed
      named-registered c killed =
          let kills = kills_of key_cmp rules calls killed in
          let one = heard_put key_cmp rules heard now (c ∷ calls) in
          let last = latest_update key_cmp rules (c ∷ calls) in
          named-both (kills ++ one) (told_of_sets updates last) (flat_map (λ k. puts.kill_put n (kept_of key_cmp rules calls k)) killed ++ puts.heard_put rules n now (c ∷ calls) ∷ []) (puts.update_puts n us last)
          (named-both kills one (flat_map (λ k. puts.kill_put n (kept_of key_cmp rules calls k)) killed) (puts.heard_put rules n now (c ∷ calls) ∷ []) (named-kills calls killed) refl)
          (named-told updates us last told)

      named-blocked : (c : Call Key) (k : Key)
          → named_puts n t (blocked key_cmp rules updates sets waiting heard calls now c k) ≡ puts.blocked_puts rules n now us bs calls c k
      named-blocked c k =
          let new = is_blockable key_cmp rules calls k now in
          let keys = blocked_keys key_cmp rules (c ∷ calls) now in
          let one = heard_put key_cmp rules heard now (c ∷ calls) in
          named-both (cond new (sets_put waiting sets keys ++ one) []) (kill_put k (kept_of key_cmp rules calls k)) (cond new (puts.set_puts n bs keys ++ puts.heard_put rules n now (c ∷ calls) ∷ []) []) (puts.kill_put n (kept_of key_cmp rules calls k))
          (named-if new (sets_put waiting sets keys ++ one) (puts.set_puts n bs keys ++ puts.heard_put rules n now (c ∷ calls) ∷ [])
          (named-both (sets_put waiting sets keys) one (puts.set_puts n bs keys) (puts.heard_put rules n now (c ∷ calls) ∷ []) (named-sets sets bs waiting keys blocks) refl))
          (named-kill k (kept_of key_cmp rules calls k))

      pub named-unblocked : (c : Call Key)
          → named_puts n t (unblocked key_cmp rules updates sets waiting heard calls now c) ≡ puts.unblocked_puts rules n now us bs calls c
      named-unblocked c =
          let keys = blocked_keys key_cmp rules (c ∷ calls) now in
          ap (λ l. puts.heard_put rules n now (c ∷ calls) ∷ l) (named-sets sets bs waiting keys blocks)

      -- what is put for a message is what is put for the act that it is of
      named-message : (e : ℕ) (a : Act) (m : Message Key) → Says t e a m
          → named_puts n t (puts_for key_cmp rules updates sets waiting heard runs calls now m) ≡ puts.asked_puts rules n now us bs calls e (Some a)
      named-message e (act.Ask (ask.Track index peers) k) m h =
          let c = call.Track index peers.primary peers.secondary in
          let killed = killed_keys key_cmp rules index peers.primary peers.secondary calls in
          ap (λ d. named_puts n t (puts_for key_cmp rules updates sets waiting heard runs calls now d)) h.1
          ∙ named-if (is_above index (accepted_sets key_cmp calls)) (registered key_cmp rules updates sets waiting heard calls now c killed) (puts.tracked_puts rules n now us bs calls c killed) (named-registered c killed)
      named-message e (act.Ask (ask.Overwrite peers) k) m h =
          let others = overwritten_keys key_cmp rules peers calls in
          let one = heard_put key_cmp rules heard now (overwritten peers calls) in
          ap (λ d. named_puts n t (puts_for key_cmp rules updates sets waiting heard runs calls now d)) h.1
          ∙ named-both (overwrite_kills key_cmp rules peers calls) (cond (has_any others) one []) (puts.overwrite_kills rules n now peers calls) (cond (puts.is_some_of others) (puts.heard_put rules n now (overwritten peers calls) ∷ []) [])
          (named-overwrites peers calls)
          (named-if (has_any others) one (puts.heard_put rules n now (overwritten peers calls) ∷ []) refl ∙ ap (λ b. cond b (puts.heard_put rules n now (overwritten peers calls) ∷ []) []) (has_any-is others))
      named-message e (act.Ask (ask.Block key) k) m h =
          ap (λ d. named_puts n t (puts_for key_cmp rules updates sets waiting heard runs calls now d)) h.1 ∙ named-blocked (call.Block key now) key
      named-message e (act.Ask (ask.PeerSet index) k) m h =
          ap (λ d. named_puts n t (puts_for key_cmp rules updates sets waiting heard runs calls now d)) h.1
          ∙ ap (λ d. (queue.PeerSet n d, item.PeerSet (peer_set_of key_cmp rules calls index)) ∷ []) (slice_index-get t.questions h.0 e 0 h.2)
      named-message e (act.Ask ask.Subscribe k) m h =
          ap (λ d. named_puts n t (puts_for key_cmp rules updates sets waiting heard runs calls now d)) h.1
          ∙ named-told (h.0 ∷ []) (e ∷ []) (latest_update key_cmp rules calls) (h.2, tt)
      named-message e (act.Ask ask.Blocked k) m h =
          ap (λ d. named_puts n t (puts_for key_cmp rules updates sets waiting heard runs calls now d)) h.1
          ∙ ap (λ d. (queue.Blocked n d, item.Blocked (blocked_keys key_cmp rules calls now)) ∷ []) (slice_index-get t.blocked h.0 e 0 h.2)
      named-message e _ m h = absurd h

      -- and so for the item that it waits under
      pub named-item : (log : List Entry) (i : Item) (m : Message Key) → ((k : ℕ) → runs k ≡ is_handshaking log n k) → IsMessage t log i m
          → named_puts n t (puts_for key_cmp rules updates sets waiting heard runs calls now m) ≡ puts.item_puts rules n now us bs calls log i
      named-item log (item.Call e) m runs_now h = named-message e h.0 m h.2 ∙ ap (λ o. puts.asked_puts rules n now us bs calls e o) (sym h.1)
      named-item log (item.Connect conn key) m runs_now h =
          ap (λ d. named_puts n t (puts_for key_cmp rules updates sets waiting heard runs calls now d)) h ∙ killed (accepts key_cmp rules calls key (Some now))
        where
          killed : (b : Bool) → named_puts n t (cond b [] (put.Kill key conn ∷ [])) ≡ cond b [] (puts.kill_put n (Some conn))
          killed true = refl
          killed false = refl
      named-item log item.AskDialable m runs_now h = ap (λ d. named_puts n t (puts_for key_cmp rules updates sets waiting heard runs calls now d)) h
      named-item log (item.AskDial key) m runs_now h =
          ap (λ d. named_puts n t (puts_for key_cmp rules updates sets waiting heard runs calls now d)) h
          ∙ ap (λ o. (queue.Dialer n, item.Dial o) ∷ []) (granted (allows_dial key_cmp rules calls key now) (address_of key_cmp rules calls key))
        where
          granted : (b : Bool) (o : Option Address) → grant_of (cond b (option_map (λ a. (side.Dialer key, ingress_of a)) o) None) ≡ cond b (option_map (λ a. (key, ingress_of a)) o) None
          granted true (Some a) = refl
          granted true None = refl
          granted false o = refl
      named-item log (item.AskAcceptable name key) m runs_now h =
          ap (λ d. named_puts n t (puts_for key_cmp rules updates sets waiting heard runs calls now d)) h.2
          ∙ (ap (λ b. named_puts n t (cond b (put.Acceptable name (is_acceptable key_cmp rules calls key h.0 now) ∷ []) [])) (runs_now name)
          ∙ (answered (is_handshaking log n name) ∙ ap (puts.handshake_puts rules n now us bs calls name (puts.acceptance rules n now us bs calls key) (is_handshaking log n name)) (sym h.1)))
        where
          answered : (b : Bool) → named_puts n t (cond b (put.Acceptable name (is_acceptable key_cmp rules calls key h.0 now) ∷ []) [])
              ≡ puts.handshake_puts rules n now us bs calls name (puts.acceptance rules n now us bs calls key) b (Some h.0)
          answered true = refl
          answered false = refl
      named-item log (item.AskListen name key) m runs_now h =
          ap (λ d. named_puts n t (puts_for key_cmp rules updates sets waiting heard runs calls now d)) h.2
          ∙ (ap (λ b. named_puts n t (cond b (put.Listen name (listen_grant key_cmp rules calls now key h.0) ∷ []) [])) (runs_now name)
          ∙ (answered (is_handshaking log n name) ∙ ap (puts.handshake_puts rules n now us bs calls name (puts.listen_grant rules n now us bs calls key) (is_handshaking log n name)) (sym h.1)))
        where
          granted : (b : Bool) → option_map peer_of (cond b (Some (side.Listener key)) None) ≡ cond b (Some key) None
          granted true = refl
          granted false = refl

          answered : (b : Bool) → named_puts n t (cond b (put.Listen name (listen_grant key_cmp rules calls now key h.0) ∷ []) [])
              ≡ puts.handshake_puts rules n now us bs calls name (puts.listen_grant rules n now us bs calls key) b (Some h.0)
          answered true = ap (λ o. (queue.Handshake n name, item.Listen o) ∷ []) (granted (allows_listen key_cmp rules calls key h.0 now))
          answered false = refl
      named-item log (item.Release key) m runs_now h = ap (λ d. named_puts n t (puts_for key_cmp rules updates sets waiting heard runs calls now d)) h.2
      named-item log _ m runs_now h = absurd h

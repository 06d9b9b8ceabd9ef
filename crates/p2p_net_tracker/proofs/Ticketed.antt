-- What a step puts for those who asked has tickets that were given.
use Rattle.std.proofs.Common.{ℕ, Bool, true, false, cond, List, [], ◌∷◌, ◌++◌, sym, subst, Option, Some}
use Rattle.std.specs.List.{AllByRecursion as Each}
use Rattle.p2p_address.specs.declared.ip.IpAddr.{IpAddr}
use Rattle.p2p_base.specs.declared.key.Key.{Key}
use Rattle.p2p_tracker_calls.specs.declared.call.Call.{Call}
use Rattle.p2p_tracker_calls.specs.declared.call.Call.TheVariants as call
use Rattle.p2p_tracker_calls.specs.Allows.{is_acceptable}
use Rattle.p2p_tracker_calls.specs.BlockedKeys.{blocked_keys}
use Rattle.p2p_tracker_calls.specs.Blocks.{is_blockable}
use Rattle.p2p_tracker_calls.specs.Keeping.{kept_of}
use Rattle.p2p_tracker_calls.specs.Kills.{killed_keys}
use Rattle.p2p_tracker_calls.specs.Lives.{accepts}
use Rattle.p2p_tracker_calls.specs.Overwrites.{overwritten, overwritten_keys}
use Rattle.p2p_tracker_calls.specs.Peers.{latest_update}
use Rattle.p2p_tracker_calls.specs.Rules.{Rules}
use Rattle.p2p_tracker_calls.specs.Sets.{is_above, accepted_sets}
use Rattle.p2p_tracker_mailbox.specs.declared.message.Message.{Message}
use Rattle.p2p_tracker.specs.Putting.{kills_of, overwrite_kills, listen_grant}
use Rattle.p2p_tracker.specs.Steps.{heard_put, registered, unblocked, puts_for}
use Rattle.p2p_tracker.specs.Telling.{has_any, kill_put, told_of_sets, sets_put}
use Rattle.p2p_tracker.specs.declared.stepped.Put.TheVariants as put
use Rattle.p2p_log.specs.declared.asked.Asked.{Asked}
use Rattle.p2p_log.specs.declared.asked.Asked.TheVariants as ask
use Rattle.p2p_log.specs.declared.entry.Entry.{Entry}
use Rattle.p2p_log.specs.declared.event.Act.{Act}
use Rattle.p2p_log.specs.declared.event.Act.TheVariants as act
use Rattle.p2p_log.specs.declared.item.Item.{Item}
use Rattle.p2p_log.specs.declared.item.Item.TheVariants as item
use Rattle.p2p_log.proofs.Each.{Each-append}
use Rattle.p2p_log_rules.specs.Tracking.{key_cmp}
use Rattle.p2p_net_queues.specs.Matching.{Match}
use Rattle.p2p_net_tracker.specs.declared.naming.Tickets.{Tickets}
use Rattle.p2p_net_tracker.specs.Asking.{message_of}
use Rattle.p2p_net_tracker.specs.Stands.{IsTicket, kind_of, HasTicket, Says, IsMessage}
use Rattle.p2p_net_tracker.proofs.AtDesk.{IsTicketed}
use Rattle.p2p_net_tracker.proofs.Puts.{each_if, each_told, each_set, each_kill, each_kills, each_overwrite}

-- the event of each of these tickets
abbrev IsGiven : List ℕ → ℕ → Type 0
IsGiven events k = (e : ℕ) × IsTicket events k e

each_given : (events ts es : List ℕ) → Match (IsTicket events) ts es → Each (IsGiven events) ts
each_given events [] [] h = tt
each_given events (t ∷ ts) (e ∷ es) h = ((e, h.0), each_given events ts es h.1)
each_given events [] (e ∷ es) h = absurd h
each_given events (t ∷ ts) [] h = absurd h

module _ (t : Tickets) (rules : Rules Key) (updates sets us bs : List ℕ) (waiting : List (Option (List Key))) (told : Match (IsTicket t.updates) updates us) (blocks : Match (IsTicket t.blocked) sets bs) (heard : Option (List IpAddr)) (runs : ℕ → Bool)
    (calls : List (Call Key)) (now : ℕ) where
  set_ticketed : (keys : List Key) → Each (IsTicketed t) (sets_put waiting sets keys)
  set_ticketed keys = each_set (IsTicketed t) (IsGiven t.blocked) (λ ticket ks dropped q. q) waiting sets keys (each_given t.blocked sets bs blocks)

  pub unblocked_ticketed : (c : Call Key) → Each (IsTicketed t) (unblocked key_cmp rules updates sets waiting heard calls now c)
  unblocked_ticketed c = (tt, set_ticketed (blocked_keys key_cmp rules (c ∷ calls) now))

  asked_ticketed : (what : Asked) (ticket e : ℕ) → HasTicket t (kind_of what) ticket e → Each (IsTicketed t) (puts_for key_cmp rules updates sets waiting heard runs calls now (message_of what ticket))
  asked_ticketed (ask.Track index peers) ticket e has =
      let c = call.Track index peers.primary peers.secondary in
      let killed = killed_keys key_cmp rules index peers.primary peers.secondary calls in
      let kills = kills_of key_cmp rules calls killed in
      let one = heard_put key_cmp rules heard now (c ∷ calls) in
      let last = latest_update key_cmp rules (c ∷ calls) in
      each_if (IsTicketed t) (is_above index (accepted_sets key_cmp calls)) (registered key_cmp rules updates sets waiting heard calls now c killed)
      (Each-append (IsTicketed t) (kills ++ one) (told_of_sets updates last) (Each-append (IsTicketed t) kills one (each_kills (IsTicketed t) (λ k conn. tt) rules calls killed) (tt, tt))
      (each_told (IsTicketed t) (IsGiven t.updates) (λ number u q. q) updates last (each_given t.updates updates us told)))
  asked_ticketed (ask.Overwrite peers) ticket e has =
      let kills = overwrite_kills key_cmp rules peers calls in
      let others = has_any (overwritten_keys key_cmp rules peers calls) in
      let one = heard_put key_cmp rules heard now (overwritten peers calls) in
      Each-append (IsTicketed t) kills (cond others one []) (each_overwrite (IsTicketed t) (λ k conn. tt) rules peers calls) (each_if (IsTicketed t) others one (tt, tt))
  asked_ticketed (ask.Block k) ticket e has =
      let c = call.Block k now in
      let new = is_blockable key_cmp rules calls k now in
      let sets_now = sets_put waiting sets (blocked_keys key_cmp rules (c ∷ calls) now) in
      let one = heard_put key_cmp rules heard now (c ∷ calls) in
      Each-append (IsTicketed t) (cond new (sets_now ++ one) []) (kill_put k (kept_of key_cmp rules calls k))
      (each_if (IsTicketed t) new (sets_now ++ one) (Each-append (IsTicketed t) sets_now one (set_ticketed (blocked_keys key_cmp rules (c ∷ calls) now)) (tt, tt)))
      (each_kill (IsTicketed t) (λ peer conn. tt) k (kept_of key_cmp rules calls k))
  asked_ticketed (ask.PeerSet index) ticket e has = ((e, has), tt)
  asked_ticketed ask.Subscribe ticket e has =
      each_told (IsTicketed t) (IsGiven t.updates) (λ number u q. q) (ticket ∷ []) (latest_update key_cmp rules calls) ((e, has), tt)
  asked_ticketed ask.Blocked ticket e has = ((e, has), tt)

  abbrev AreTicketed : Message Key → Type 0
  AreTicketed m = Each (IsTicketed t) (puts_for key_cmp rules updates sets waiting heard runs calls now m)

  says_ticketed : (e : ℕ) (a : Act) (m : Message Key) → Says t e a m → AreTicketed m
  says_ticketed e (act.Ask what n) m h = subst AreTicketed (sym h.1) (asked_ticketed what h.0 e h.2)
  says_ticketed e _ m h = absurd h

  -- what is put for a message
  pub item_ticketed : (log : List Entry) (i : Item) (m : Message Key) → IsMessage t log i m → AreTicketed m
  item_ticketed log (item.Call e) m h = says_ticketed e h.0 m h.2
  item_ticketed log (item.Connect conn key) m h = subst AreTicketed (sym h) (by (accepts key_cmp rules calls key (Some now)))
    where
      by : (b : Bool) → Each (IsTicketed t) (cond b [] (put.Kill key conn ∷ []))
      by true = tt
      by false = (tt, tt)
  item_ticketed log item.AskDialable m h = subst AreTicketed (sym h) (tt, tt)
  item_ticketed log (item.AskDial key) m h = subst AreTicketed (sym h) (tt, tt)
  item_ticketed log (item.AskAcceptable name key) m h = subst AreTicketed (sym h.2) (each_if (IsTicketed t) (runs name) (put.Acceptable name (is_acceptable key_cmp rules calls key h.0 now) ∷ []) (tt, tt))
  item_ticketed log (item.AskListen name key) m h = subst AreTicketed (sym h.2) (each_if (IsTicketed t) (runs name) (put.Listen name (listen_grant key_cmp rules calls now key h.0) ∷ []) (tt, tt))
  item_ticketed log (item.Release key) m h = subst AreTicketed (sym h.2) tt
  item_ticketed log _ m h = absurd h

-- What a node's tracker tells the listener and handshakes.
use Rattle.std.proofs.Common.{◌≡◌, ℕ, ◌+◌, Bool, true, false, cond, List, [], ◌∷◌, ◌++◌, drop, refl, ap, sym, subst, ◌∙◌, arith, append-nil, Option, Some, None, ◌⊎◌, inl, inr}
use Rattle.std.specs.Prelude.{filter, count_by, slice_set, is_some, ◌==◌, ◌&&◌}
use Rattle.std.specs.BTreeMap.{is_at}
use Rattle.std.specs.List.{AllByRecursion as Each}
use Rattle.std.specs.Map.{keys_of}
use Rattle.std.specs.Option.{option_map}
use Rattle.std.specs.Ordering.{nat_cmp}
use Rattle.std.proofs.lemmas.Bool.Decides.{nat_tests}
use Rattle.p2p_address.specs.Addresses.{ingress_of}
use Rattle.p2p_address.specs.declared.ip.IpAddr.{IpAddr}
use Rattle.p2p_address.specs.declared.peer.Address.{Address}
use Rattle.p2p_base.specs.declared.key.Key.{Key}
use Rattle.p2p_flow.specs.declared.update.PeerSetUpdate.{PeerSetUpdate}
use Rattle.p2p_tracker_calls.specs.declared.call.Call.{Call}
use Rattle.p2p_tracker_calls.specs.declared.call.Call.TheVariants as call
use Rattle.p2p_tracker_calls.specs.Allows.{is_acceptable, allows_dial, allows_listen}
use Rattle.p2p_tracker_calls.specs.BlockedKeys.{blocked_keys}
use Rattle.p2p_tracker_calls.specs.Blocks.{is_blockable}
use Rattle.p2p_tracker_calls.specs.Keeping.{kept_of}
use Rattle.p2p_tracker_calls.specs.Kills.{killed_keys}
use Rattle.p2p_tracker_calls.specs.Lives.{address_of, accepts}
use Rattle.p2p_tracker_calls.specs.Overwrites.{overwritten, overwritten_keys}
use Rattle.p2p_tracker_calls.specs.Peers.{latest_update}
use Rattle.p2p_tracker_calls.specs.Rules.{Rules}
use Rattle.p2p_tracker_calls.specs.Sets.{is_above, accepted_sets}
use Rattle.p2p_tracker_mailbox.specs.Lines.{Lines, line_of, with_item}
use Rattle.p2p_tracker_mailbox.specs.Mailboxes.{runs_in}
use Rattle.p2p_tracker_mailbox.specs.declared.answer.HandshakeItem.{HandshakeItem}
use Rattle.p2p_tracker_mailbox.specs.declared.answer.HandshakeItem.TheVariants as shake
use Rattle.p2p_tracker_mailbox.specs.declared.mailbox.Mailbox.{Mailbox}
use Rattle.p2p_tracker_mailbox.specs.declared.message.Message.{Message}
use Rattle.p2p_tracker_mailbox.proofs.Lines.{line_of-with_line}
use Rattle.p2p_tracker_directory.specs.Reserved.{peer_of}
use Rattle.p2p_tracker_directory.specs.declared.metadata.Metadata.{Metadata}
use Rattle.p2p_tracker_directory.specs.declared.metadata.Metadata.TheVariants as metadata
use Rattle.p2p_tracker.specs.Putting.{kills_of, overwrite_kills, listen_grant}
use Rattle.p2p_tracker.specs.Steps.{heard_put, registered, unblocked, puts_for}
use Rattle.p2p_tracker.specs.Telling.{has_any, kill_put, updates_put, told_of_sets, sets_put, after_put, after_puts}
use Rattle.p2p_tracker.specs.declared.stepped.Put.{Put}
use Rattle.p2p_tracker.specs.declared.stepped.Put.TheVariants as put
use Rattle.p2p_log.specs.declared.queue.Queue.{Queue}
use Rattle.p2p_log.specs.declared.queue.Queue.TheVariants as queue
use Rattle.p2p_log.specs.declared.item.Item.{Item}
use Rattle.p2p_log.specs.declared.item.Item.TheVariants as item
use Rattle.p2p_log.specs.declared.item.Envelope.{Envelope}
use Rattle.p2p_log.specs.declared.entry.Entry.{Entry}
use Rattle.p2p_log.specs.declared.asked.Asked.{Asked}
use Rattle.p2p_log.specs.declared.asked.Asked.TheVariants as ask
use Rattle.p2p_log.specs.declared.event.Act.{Act}
use Rattle.p2p_log.specs.declared.event.Act.TheVariants as act
use Rattle.p2p_log.specs.Lines.{placed, stands_in}
use Rattle.p2p_log.proofs.Each.{Each-append, count_by-none}
use Rattle.p2p_log.proofs.Queues.{same_queue-refl}
use Rattle.p2p_log_rules.specs.Tracking.{key_cmp}
use Rattle.p2p_log_rules.specs.TrackerRows.{rings_of}
use Rattle.p2p_net_tracker.specs.declared.naming.Tickets.{Tickets}
use Rattle.p2p_net_tracker.specs.Asking.{message_of}
use Rattle.p2p_net_tracker.specs.Naming.{named_puts, event_at, listened_grant}
use Rattle.p2p_net_tracker.specs.Stands.{Says, IsMessage, HeardStands, IsToldHandshake, HandshakeStands}
use Rattle.p2p_net_tracker.proofs.Dialing.{IsDialed, AreDialed}
use Rattle.p2p_net_tracker.proofs.Distinct.{keys-with_line}
use Rattle.p2p_net_tracker.proofs.Puts.{each_kill, each_kills, each_overwrite}
use Rattle.p2p_net_queues.proofs.Matching.{Match-last}
use Rattle.p2p_net_tracker.proofs.Rings.{is_same, count-first}

-- neither the listener nor a handshake is told this, and it is no grant to the dialer
abbrev pub IsAside : Put Key → Type 0
IsAside (put.Listenable addresses dropped) = ⊥
IsAside (put.Acceptable handshake acceptable) = ⊥
IsAside (put.Listen handshake grant) = ⊥
IsAside (put.Dial grant) = ⊥
IsAside _ = Unit {0}

-- the reservation of a grant is the listener's
abbrev IsListened : Option (Metadata Key) → Type 0
IsListened grant = grant ≡ listened_grant (option_map peer_of grant)

-- the listener is told at most once, no handshake is told anything, and the dialer is granted its own reservations
abbrev pub HearsOnce : List (Put Key) → Type 0
HearsOnce [] = Unit {0}
HearsOnce (put.Listenable addresses dropped ∷ ps) = Each IsAside ps
HearsOnce (put.Acceptable handshake acceptable ∷ ps) = ⊥
HearsOnce (put.Listen handshake grant ∷ ps) = ⊥
HearsOnce (put.Dial grant ∷ ps) = IsDialed grant × HearsOnce ps
HearsOnce (_ ∷ ps) = HearsOnce ps

-- this handshake is told it, and is granted the listener's reservation
abbrev pub IsFor : ℕ → Put Key → Type 0
IsFor h (put.Acceptable handshake acceptable) = handshake ≡ h
IsFor h (put.Listen handshake grant) = (handshake ≡ h) × IsListened grant
IsFor h _ = ⊥

-- or one handshake is told one thing, where it runs, and that is all
abbrev pub TellsFew : (ℕ → Bool) → List (Put Key) → Type 0
TellsFew runs ps = HearsOnce ps ⊎ ((h : ℕ) × (p : Put Key) × IsFor h p × (ps ≡ cond (runs h) (p ∷ []) []))

aside_once : (ps : List (Put Key)) → Each IsAside ps → HearsOnce ps
aside_once [] h = tt
aside_once (put.Listenable addresses dropped ∷ ps) h = absurd h.0
aside_once (put.Acceptable handshake acceptable ∷ ps) h = absurd h.0
aside_once (put.Listen handshake grant ∷ ps) h = absurd h.0
aside_once (put.Dial grant ∷ ps) h = absurd h.0
aside_once (_ ∷ ps) h = aside_once ps h.1

aside_then : (xs ys : List (Put Key)) → Each IsAside xs → HearsOnce ys → HearsOnce (xs ++ ys)
aside_then [] ys h k = k
aside_then (put.Listenable addresses dropped ∷ xs) ys h k = absurd h.0
aside_then (put.Acceptable handshake acceptable ∷ xs) ys h k = absurd h.0
aside_then (put.Listen handshake grant ∷ xs) ys h k = absurd h.0
aside_then (put.Dial grant ∷ xs) ys h k = absurd h.0
aside_then (_ ∷ xs) ys h k = aside_then xs ys h.1 k

then_aside : (xs ys : List (Put Key)) → HearsOnce xs → Each IsAside ys → HearsOnce (xs ++ ys)
then_aside [] ys h k = aside_once ys k
then_aside (put.Listenable addresses dropped ∷ xs) ys h k = Each-append IsAside xs ys h k
then_aside (put.Acceptable handshake acceptable ∷ xs) ys h k = absurd h
then_aside (put.Listen handshake grant ∷ xs) ys h k = absurd h
then_aside (put.Dial grant ∷ xs) ys h k = (h.0, then_aside xs ys h.1 k)
then_aside (_ ∷ xs) ys h k = then_aside xs ys h k

aside_dialed : (ps : List (Put Key)) → Each IsAside ps → AreDialed ps
aside_dialed [] h = tt
aside_dialed (put.Dial grant ∷ ps) h = absurd h.0
aside_dialed (_ ∷ ps) h = aside_dialed ps h.1

once_dialed : (ps : List (Put Key)) → HearsOnce ps → AreDialed ps
once_dialed [] h = tt
once_dialed (put.Listenable addresses dropped ∷ ps) h = aside_dialed ps h
once_dialed (put.Acceptable handshake acceptable ∷ ps) h = absurd h
once_dialed (put.Listen handshake grant ∷ ps) h = absurd h
once_dialed (put.Dial grant ∷ ps) h = (h.0, once_dialed ps h.1)
once_dialed (_ ∷ ps) h = once_dialed ps h

-- what is told so few grants the dialer its own reservations
pub few_dialed : (runs : ℕ → Bool) (ps : List (Put Key)) → TellsFew runs ps → AreDialed ps
few_dialed runs ps few = elim few [ inl once ↦ once_dialed ps once | inr one ↦ subst AreDialed (sym one.3) (by (runs one.0) one.0 one.1 one.2) ]
  where
    by : (b : Bool) (h : ℕ) (p : Put Key) → IsFor h p → AreDialed (cond b (p ∷ []) [])
    by false h p is = tt
    by true h (put.Acceptable g acceptable) is = tt
    by true h (put.Listen g grant) is = tt
    by true h _ is = absurd is

once_if : (b : Bool) (xs : List (Put Key)) → HearsOnce xs → HearsOnce (cond b xs [])
once_if true xs h = h
once_if false xs h = tt

aside_updates : (ts : List ℕ) (u : PeerSetUpdate Key) → Each IsAside (updates_put ts u)
aside_updates [] u = tt
aside_updates (t ∷ ts) u = (tt, aside_updates ts u)

aside_told : (ts : List ℕ) (o : Option (PeerSetUpdate Key)) → Each IsAside (told_of_sets ts o)
aside_told ts None = tt
aside_told ts (Some u) = aside_updates ts u

aside_sets : (waiting : List (Option (List Key))) (ts : List ℕ) (keys : List Key) → Each IsAside (sets_put waiting ts keys)
aside_sets waiting [] keys = tt
aside_sets waiting (t ∷ ts) keys = (tt, aside_sets (slice_set waiting t (Some keys)) ts keys)

module _ (rules : Rules Key) where
  module _ (updates sets : List ℕ) (waiting : List (Option (List Key))) (heard : Option (List IpAddr)) (runs : ℕ → Bool) (calls : List (Call Key)) (now : ℕ) where
    pub unblocked_once : (c : Call Key) → HearsOnce (unblocked key_cmp rules updates sets waiting heard calls now c)
    unblocked_once c = aside_sets waiting sets (blocked_keys key_cmp rules (c ∷ calls) now)

    asked_once : (what : Asked) (ticket : ℕ) → HearsOnce (puts_for key_cmp rules updates sets waiting heard runs calls now (message_of what ticket))
    asked_once (ask.Track index peers) ticket =
        let c = call.Track index peers.primary peers.secondary in
        let killed = killed_keys key_cmp rules index peers.primary peers.secondary calls in
        let kills = kills_of key_cmp rules calls killed in
        let one = heard_put key_cmp rules heard now (c ∷ calls) in
        let last = latest_update key_cmp rules (c ∷ calls) in
        once_if (is_above index (accepted_sets key_cmp calls)) (registered key_cmp rules updates sets waiting heard calls now c killed)
        (then_aside (kills ++ one) (told_of_sets updates last) (aside_then kills one (each_kills IsAside (λ k conn. tt) rules calls killed) tt) (aside_told updates last))
    asked_once (ask.Overwrite peers) ticket =
        let one = heard_put key_cmp rules heard now (overwritten peers calls) in
        let others = has_any (overwritten_keys key_cmp rules peers calls) in
        aside_then (overwrite_kills key_cmp rules peers calls) (cond others one []) (each_overwrite IsAside (λ k conn. tt) rules peers calls) (once_if others one tt)
    asked_once (ask.Block key) ticket =
        let c = call.Block key now in
        let new = is_blockable key_cmp rules calls key now in
        let keys = blocked_keys key_cmp rules (c ∷ calls) now in
        let one = heard_put key_cmp rules heard now (c ∷ calls) in
        then_aside (cond new (sets_put waiting sets keys ++ one) []) (kill_put key (kept_of key_cmp rules calls key))
        (once_if new (sets_put waiting sets keys ++ one) (aside_then (sets_put waiting sets keys) one (aside_sets waiting sets keys) tt))
        (each_kill IsAside (λ k conn. tt) key (kept_of key_cmp rules calls key))
    asked_once (ask.PeerSet index) ticket = tt
    asked_once ask.Subscribe ticket = aside_once (told_of_sets (ticket ∷ []) (latest_update key_cmp rules calls)) (aside_told (ticket ∷ []) (latest_update key_cmp rules calls))
    asked_once ask.Blocked ticket = tt

    abbrev PutsFew : Message Key → Type 0
    PutsFew m = TellsFew runs (puts_for key_cmp rules updates sets waiting heard runs calls now m)

    says_few : (t : Tickets) (e : ℕ) (a : Act) (m : Message Key) → Says t e a m → PutsFew m
    says_few t e (act.Ask what n) m h = subst PutsFew (sym h.1) (inl (asked_once what h.0))
    says_few t e _ m h = absurd h

    -- what is put for a message
    pub item_few : (t : Tickets) (log : List Entry) (i : Item) (m : Message Key) → IsMessage t log i m → PutsFew m
    item_few t log (item.Call e) m h = says_few t e h.0 m h.2
    item_few t log (item.Connect conn key) m h = subst PutsFew (sym h) (inl (killed_once (accepts key_cmp rules calls key (Some now))))
      where
        killed_once : (b : Bool) → HearsOnce (cond b [] (put.Kill key conn ∷ []))
        killed_once true = tt
        killed_once false = tt
    item_few t log item.AskDialable m h = subst PutsFew (sym h) (inl tt)
    item_few t log (item.AskDial key) m h = subst PutsFew (sym h) (inl (dialed (allows_dial key_cmp rules calls key now) (address_of key_cmp rules calls key), tt))
      where
        dialed : (b : Bool) (o : Option Address) → IsDialed (cond b (option_map (λ a. (metadata.Dialer key, ingress_of a)) o) None)
        dialed true None = refl
        dialed true (Some a) = refl
        dialed false o = refl
    item_few t log (item.AskAcceptable name key) m h = subst PutsFew (sym h.2) (inr (name, put.Acceptable name (is_acceptable key_cmp rules calls key h.0 now), refl, refl))
    item_few t log (item.AskListen name key) m h = subst PutsFew (sym h.2) (inr (name, put.Listen name (listen_grant key_cmp rules calls now key h.0), (refl, listened (allows_listen key_cmp rules calls key h.0 now)), refl))
      where
        listened : (b : Bool) → IsListened (cond b (Some (metadata.Listener key)) None)
        listened true = refl
        listened false = refl
    item_few t log (item.Release key) m h = subst PutsFew (sym h.2) (inl tt)
    item_few t log _ m h = absurd h

-- ---- what the mailbox and the lines hold then

aside_heard : (ps : List (Put Key)) (m : Mailbox Key) → Each IsAside ps → (after_puts ps m).heard ≡ m.heard
aside_heard [] m h = refl
aside_heard (put.Listenable addresses dropped ∷ ps) m h = absurd h.0
aside_heard (put.Acceptable handshake acceptable ∷ ps) m h = absurd h.0
aside_heard (put.Listen handshake grant ∷ ps) m h = absurd h.0
aside_heard (p ∷ ps) m h = aside_heard ps (after_put p m) h.1

aside_handshakes : (ps : List (Put Key)) (m : Mailbox Key) → Each IsAside ps → (after_puts ps m).handshakes ≡ m.handshakes
aside_handshakes [] m h = refl
aside_handshakes (put.Listenable addresses dropped ∷ ps) m h = absurd h.0
aside_handshakes (put.Acceptable handshake acceptable ∷ ps) m h = absurd h.0
aside_handshakes (put.Listen handshake grant ∷ ps) m h = absurd h.0
aside_handshakes (p ∷ ps) m h = aside_handshakes ps (after_put p m) h.1

once_handshakes : (ps : List (Put Key)) (m : Mailbox Key) → HearsOnce ps → (after_puts ps m).handshakes ≡ m.handshakes
once_handshakes [] m h = refl
once_handshakes (put.Listenable addresses dropped ∷ ps) m h = aside_handshakes ps (record m { heard = Some addresses }) h
once_handshakes (put.Acceptable handshake acceptable ∷ ps) m h = absurd h
once_handshakes (put.Listen handshake grant ∷ ps) m h = absurd h
once_handshakes (put.Dial grant ∷ ps) m h = once_handshakes ps (after_put (put.Dial grant) m) h.1
once_handshakes (p ∷ ps) m h = once_handshakes ps (after_put p m) h

-- an item that is told to the listener takes the place of one that waits
pub one_waits : (o : Option (List IpAddr)) (l : List Envelope) → HeardStands o l → drop 1 l ≡ []
one_waits None l h = ap (drop 1) h
one_waits (Some ips) l h = ap (drop 1) h.1

-- whether what stands for a handshake says that it runs
pub runs_is : (o : Option (List (HandshakeItem Key))) (b : Bool) (l : List Envelope) → HandshakeStands o b l → is_some o ≡ b
runs_is None b l h = sym h.0
runs_is (Some items) b l h = sym h.0

-- one item more is told to a handshake that runs
one_told : (o : Option (List (HandshakeItem Key))) (b : Bool) (l : List Envelope) (x : Envelope) (i : HandshakeItem Key) → is_some o ≡ true → IsToldHandshake x.item i → HandshakeStands o b l
    → HandshakeStands (option_map (λ line. line ++ i ∷ []) o) b (l ++ x ∷ [])
one_told None b l x i runs is h = cc
one_told (Some items) b l x i runs is h = (h.0, Match-last (λ (y : Envelope) j. IsToldHandshake y.item j) l items x i h.1 is)

-- what waits for each, once this handshake was told one item more
pub item_told : (lines : Lines (HandshakeItem Key)) (h k : ℕ) (b : Bool) (l : List Envelope) (x : Envelope) (i : HandshakeItem Key) → is_some (line_of lines h) ≡ true → IsToldHandshake x.item i → HandshakeStands (line_of lines k) b l
    → HandshakeStands (line_of (with_item lines h i) k) b (l ++ cond (is_at (nat_cmp h) k) (x ∷ []) [])
item_told lines h k b l x i there is s =
    subst (λ o. HandshakeStands o b (l ++ cond (is_at (nat_cmp h) k) (x ∷ []) [])) (sym (line_of-with_line lines h k (λ line. line ++ i ∷ []))) (by (is_at (nat_cmp h) k) refl)
  where
    named : (h k : ℕ) → is_at (nat_cmp h) k ≡ true → k ≡ h
    named h k at = grind (arith, nat_tests)

    by : (c : Bool) → is_at (nat_cmp h) k ≡ c → HandshakeStands (cond c (option_map (λ line. line ++ i ∷ []) (line_of lines k)) (line_of lines k)) b (l ++ cond c (x ∷ []) [])
    by true at = one_told (line_of lines k) b l x i (ap (λ j. is_some (line_of lines j)) (named h k at) ∙ there) is s
    by false at = subst (HandshakeStands (line_of lines k) b) (sym (append-nil l)) s

module _ (n : ℕ) (t : Tickets) (j : ℕ) where
  -- what the entry j puts in a queue, from this place on
  abbrev added : Queue → ℕ → List (Put Key) → List Envelope
  added q p ps = filter (stands_in q) (placed j p (named_puts n t ps))

  -- how often it overwrites what the listener was told
  abbrev overwrites : List (Put Key) → ℕ
  overwrites ps = count_by (is_same (queue.Addresses n)) (rings_of (named_puts n t ps))

  aside_rings : (ps : List (Put Key)) → Each IsAside ps → Each (λ p. is_same (queue.Addresses n) p ≡ false) (rings_of (named_puts n t ps))
  aside_rings [] h = tt
  aside_rings (put.Listenable addresses dropped ∷ ps) h = absurd h.0
  aside_rings (put.Acceptable handshake acceptable ∷ ps) h = absurd h.0
  aside_rings (put.Listen handshake grant ∷ ps) h = absurd h.0
  aside_rings (put.Blocked ticket keys dropped ∷ ps) h = (refl, aside_rings ps h.1)
  aside_rings (_ ∷ ps) h = aside_rings ps h.1

  aside_added : (p : ℕ) (ps : List (Put Key)) → Each IsAside ps → added (queue.Addresses n) p ps ≡ []
  aside_added p [] h = refl
  aside_added p (put.Listenable addresses dropped ∷ ps) h = absurd h.0
  aside_added p (put.Acceptable handshake acceptable ∷ ps) h = absurd h.0
  aside_added p (put.Listen handshake grant ∷ ps) h = absurd h.0
  aside_added p (_ ∷ ps) h = aside_added (p + 1) ps h.1

  aside_to_handshake : (k p : ℕ) (ps : List (Put Key)) → Each IsAside ps → added (queue.Handshake n k) p ps ≡ []
  aside_to_handshake k p [] h = refl
  aside_to_handshake k p (put.Listenable addresses dropped ∷ ps) h = absurd h.0
  aside_to_handshake k p (put.Acceptable handshake acceptable ∷ ps) h = absurd h.0
  aside_to_handshake k p (put.Listen handshake grant ∷ ps) h = absurd h.0
  aside_to_handshake k p (_ ∷ ps) h = aside_to_handshake k (p + 1) ps h.1

  once_to_handshake : (k p : ℕ) (ps : List (Put Key)) → HearsOnce ps → added (queue.Handshake n k) p ps ≡ []
  once_to_handshake k p [] h = refl
  once_to_handshake k p (put.Listenable addresses dropped ∷ ps) h = aside_to_handshake k (p + 1) ps h
  once_to_handshake k p (put.Acceptable handshake acceptable ∷ ps) h = absurd h
  once_to_handshake k p (put.Listen handshake grant ∷ ps) h = absurd h
  once_to_handshake k p (put.Dial grant ∷ ps) h = once_to_handshake k (p + 1) ps h.1
  once_to_handshake k p (_ ∷ ps) h = once_to_handshake k (p + 1) ps h

  once_heard : (p : ℕ) (ps : List (Put Key)) (m : Mailbox Key) (l : List Envelope) → HearsOnce ps → HeardStands m.heard l
      → HeardStands (after_puts ps m).heard (drop (overwrites ps) l ++ added (queue.Addresses n) p ps)
  once_heard p [] m l h s = subst (HeardStands m.heard) (sym (append-nil l)) s
  once_heard p (put.Listenable addresses dropped ∷ ps) m l h s =
      let q = queue.Addresses n in
      let x : Envelope = record { entry = j; place = p; queue = q; item = item.Addresses addresses } in
      let here : is_same q q ≡ true = same_queue-refl q in
      let once : overwrites (put.Listenable addresses dropped ∷ ps) ≡ 1 =
      count-first q q (rings_of (named_puts n t ps))
      ∙ (ap (λ b. cond b 1 0 + overwrites ps) here ∙ ap (λ c. 1 + c) (count_by-none (is_same q) (rings_of (named_puts n t ps)) (aside_rings ps h)))
      in
      let put_now : added q p (put.Listenable addresses dropped ∷ ps) ≡ x ∷ [] =
      ap (λ b. cond b (x ∷ added q (p + 1) ps) (added q (p + 1) ps)) here ∙ ap (λ k. x ∷ k) (aside_added (p + 1) ps h)
      in
      let left : drop (overwrites (put.Listenable addresses dropped ∷ ps)) l ++ added q p (put.Listenable addresses dropped ∷ ps) ≡ x ∷ [] =
      ap (λ c. drop c l ++ added q p (put.Listenable addresses dropped ∷ ps)) once ∙ (ap (λ k. k ++ added q p (put.Listenable addresses dropped ∷ ps)) (one_waits m.heard l s) ∙ put_now)
      in
      subst (λ o. HeardStands o (drop (overwrites (put.Listenable addresses dropped ∷ ps)) l ++ added q p (put.Listenable addresses dropped ∷ ps)))
      (sym (aside_heard ps (record m { heard = Some addresses }) h)) (x, left, refl)
  once_heard p (put.Acceptable handshake acceptable ∷ ps) m l h s = absurd h
  once_heard p (put.Listen handshake grant ∷ ps) m l h s = absurd h
  once_heard p (put.Dial grant ∷ ps) m l h s = once_heard (p + 1) ps (after_put (put.Dial grant) m) l h.1 s
  once_heard p (put.Blocked ticket keys dropped ∷ ps) m l h s =
      let d = put.Blocked ticket keys dropped in
      let same : overwrites (d ∷ ps) ≡ overwrites ps = count-first (queue.Addresses n) (queue.Blocked n (event_at t.blocked ticket)) (rings_of (named_puts n t ps)) ∙ zero_more (overwrites ps) in
      subst (λ c. HeardStands (after_puts ps (after_put d m)).heard (drop c l ++ added (queue.Addresses n) (p + 1) ps)) (sym same) (once_heard (p + 1) ps (after_put d m) l h s)
    where
      zero_more : (c : ℕ) → 0 + c ≡ c
      zero_more c = omega arith
  once_heard p (d ∷ ps) m l h s = once_heard (p + 1) ps (after_put d m) l h s

  abbrev Heard : Mailbox Key → List Envelope → List (Put Key) → Type 0
  Heard m l ps = HeardStands (after_puts ps m).heard (drop (overwrites ps) l ++ added (queue.Addresses n) 0 ps)

  -- what the listener is told
  pub heard-after : (ps : List (Put Key)) (m : Mailbox Key) (l : List Envelope) → TellsFew (runs_in m) ps → HeardStands m.heard l → Heard m l ps
  heard-after ps m l few s = elim few [ inl once ↦ once_heard 0 ps m l once s | inr one ↦ told one.0 one.1 one.2 one.3 ]
    where
      unheard : Heard m l []
      unheard = subst (HeardStands m.heard) (sym (append-nil l)) s

      by_run : (h : ℕ) (p : Put Key) (c : Bool) → IsFor h p → Heard m l (cond c (p ∷ []) [])
      by_run h p false is = unheard
      by_run h (put.Acceptable g b) true is = unheard
      by_run h (put.Listen g grant) true is = unheard
      by_run h _ true is = absurd is

      told : (h : ℕ) (p : Put Key) → IsFor h p → ps ≡ cond (runs_in m h) (p ∷ []) [] → Heard m l ps
      told h p is all = subst (Heard m l) (sym all) (by_run h p (runs_in m h) is)

  -- what handshakes are told
  module _ (m : Mailbox Key) (runs : ℕ → Bool) (l : ℕ → List Envelope) (s : (k : ℕ) → HandshakeStands (line_of m.handshakes k) (runs k) (l k)) where
    abbrev HandshakeTold : ℕ → List (Put Key) → Type 0
    HandshakeTold k ds = HandshakeStands (line_of (after_puts ds m).handshakes k) (runs k) (l k ++ added (queue.Handshake n k) 0 ds)

    none_to_handshake : (k : ℕ) → HandshakeTold k []
    none_to_handshake k = subst (HandshakeStands (line_of m.handshakes k) (runs k)) (sym (append-nil (l k))) (s k)

    once_stands : (k : ℕ) (ps : List (Put Key)) → HearsOnce ps → HandshakeTold k ps
    once_stands k ps once =
        subst (λ d. HandshakeStands (line_of d k) (runs k) (l k ++ added (queue.Handshake n k) 0 ps)) (sym (once_handshakes ps m once))
        (subst (λ d. HandshakeStands (line_of m.handshakes k) (runs k) (l k ++ d)) (sym (once_to_handshake k 0 ps once)) (none_to_handshake k))

    told_here : (h k : ℕ) (i : Item) (a : HandshakeItem Key) → IsToldHandshake i a → runs_in m h ≡ true
        → HandshakeStands (line_of (with_item m.handshakes h a) k) (runs k) (l k ++ cond ((n == n) && (k == h)) (record { entry = j; place = 0; queue = queue.Handshake n h; item = i } ∷ []) [])
    told_here h k i a is there =
        let x : Envelope = record { entry = j; place = 0; queue = queue.Handshake n h; item = i } in
        subst (λ c. HandshakeStands (line_of (with_item m.handshakes h a) k) (runs k) (l k ++ cond c (x ∷ []) [])) (sym (same n k h)) (item_told m.handshakes h k (runs k) (l k) x a there is (s k))
      where
        same : (n k h : ℕ) → ((n == n) && (k == h)) ≡ is_at (nat_cmp h) k
        same n k h = grind (arith, nat_tests)

    told_one : (h k : ℕ) (p : Put Key) → IsFor h p → runs_in m h ≡ true → HandshakeTold k (p ∷ [])
    told_one h k (put.Acceptable g b) is there = told_here g k (item.Acceptable b) (shake.Acceptable b) refl (ap (runs_in m) is ∙ there)
    told_one h k (put.Listen g grant) is there = told_here g k (item.Listen (option_map peer_of grant)) (shake.Listen grant) (ap shake.Listen is.1) (ap (runs_in m) is.0 ∙ there)
    told_one h k _ is there = absurd is

    pub handshakes-after : (ps : List (Put Key)) → TellsFew (runs_in m) ps → (k : ℕ) → HandshakeTold k ps
    handshakes-after ps few k = elim few [ inl once ↦ once_stands k ps once | inr one ↦ told one.0 one.1 one.2 one.3 ]
      where
        by_run : (h : ℕ) (p : Put Key) (c : Bool) → IsFor h p → runs_in m h ≡ c → HandshakeTold k (cond c (p ∷ []) [])
        by_run h p true is there = told_one h k p is there
        by_run h p false is there = none_to_handshake k

        told : (h : ℕ) (p : Put Key) → IsFor h p → ps ≡ cond (runs_in m h) (p ∷ []) [] → HandshakeTold k ps
        told h p is all = subst (HandshakeTold k) (sym all) (by_run h p (runs_in m h) is refl)

-- what is put for handshakes begins and ends none
pub keys-after : (ps : List (Put Key)) (m : Mailbox Key) → keys_of (after_puts ps m).handshakes ≡ keys_of m.handshakes
keys-after [] m = refl
keys-after (p ∷ ps) m = keys-after ps (after_put p m) ∙ one p
  where
    one : (p : Put Key) → keys_of (after_put p m).handshakes ≡ keys_of m.handshakes
    one (put.Acceptable h b) = keys-with_line m.handshakes h (λ line. line ++ shake.Acceptable b ∷ [])
    one (put.Listen h grant) = keys-with_line m.handshakes h (λ line. line ++ shake.Listen grant ∷ [])
    one _ = refl

-- What a message makes of the calls and of the subscriptions is what the log says of the event that it is of.
use Rattle.std.proofs.Common.{◌≡◌, ℕ, Bool, true, false, cond, List, [], ◌∷◌, ◌++◌, refl, ap, ◌∙◌, append-nil, Some, subst, sym}
use Rattle.std.specs.Prelude.{◌&&◌, ◌||◌, not, nat_lt, flat_map, Option, None}
use Rattle.std.specs.List.{list_any}
use Rattle.std.specs.Option.{option_map}
use Rattle.std.specs.Map.{lookup}
use Rattle.std.specs.BTreeMap.{is_at}
use Rattle.p2p_base.specs.declared.key.Key.{Key}
use Rattle.p2p_address.specs.Addresses.{ingress_of, is_valid}
use Rattle.p2p_address.specs.declared.ip.IpAddr.{IpAddr}
use Rattle.p2p_address.specs.declared.peer.Address.{Address}
use Rattle.p2p_tracker_calls.specs.declared.call.Call.{Call}
use Rattle.p2p_tracker_calls.specs.declared.call.Call.TheVariants as call
use Rattle.p2p_tracker_calls.specs.Allows.{allows_dial, allows_listen, has_valid_ingress, is_free}
use Rattle.p2p_tracker_calls.specs.Lives.{address_of, cool}
use Rattle.p2p_tracker_calls.specs.Sets.{is_primary}
use Rattle.p2p_tracker_calls.specs.Rules.{Rules}
use Rattle.p2p_tracker_mailbox.specs.declared.message.Message.{Message}
use Rattle.p2p_tracker_directory.specs.Recorded.{is_reserved_in, is_held_or_unknown}
use Rattle.p2p_tracker_directory.specs.Stands.{Kept}
use Rattle.p2p_tracker.specs.Serving.{calls_after, IsEligible, MayTake}
use Rattle.p2p_tracker.specs.Steps.{updates_for, sets_for}
use Rattle.p2p_log.specs.declared.queue.Queue.TheVariants as queue
use Rattle.p2p_log.specs.declared.item.Item.{Item}
use Rattle.p2p_log.specs.declared.item.Item.TheVariants as item
use Rattle.p2p_log.specs.declared.entry.Entry.{Entry}
use Rattle.p2p_log.specs.declared.asked.Asked.{Asked}
use Rattle.p2p_log.specs.declared.asked.Asked.TheVariants as ask
use Rattle.p2p_log.specs.declared.event.Act.{Act}
use Rattle.p2p_log.specs.declared.event.Act.TheVariants as act
use Rattle.p2p_log_rules.specs.Handshakes.{is_handshaking, source_at}
use Rattle.p2p_log_rules.specs.Tracking.{key_cmp, grants_peer}
use Rattle.p2p_log_rules.proofs.Calls.{asked_calls, item_calls, call_where, subscribes, subscribes_blocked}
use Rattle.p2p_log_rules.specs.TrackerPuts as puts
use Rattle.p2p_log_rules.specs.TrackerPuts.{dial_grant, listen_grant}
use Rattle.p2p_net_tracker.specs.Asking.{message_of}
use Rattle.p2p_net_tracker.specs.declared.naming.Tickets.{Tickets}
use Rattle.p2p_net_queues.specs.Matching.{Match}
use Rattle.p2p_net_tracker.specs.Stands.{IsTicket, Says, kind_of, HasTicket, IsMessage}
use Rattle.p2p_net_queues.proofs.Matching.{Match-last}

message-calls : (rules : Rules Key) (what : Asked) (n ticket now jitter : ℕ) (calls : List (Call Key)) → calls_after key_cmp rules (message_of what ticket) now jitter calls ≡ asked_calls (Some (act.Ask what n)) now calls
message-calls rules (ask.Track index peers) n ticket now jitter calls = refl
message-calls rules _ n ticket now jitter calls = refl

pub says-calls : (rules : Rules Key) (t : Tickets) (e : ℕ) (a : Act) (m : Message Key) (now jitter : ℕ) (calls : List (Call Key)) → Says t e a m
    → calls_after key_cmp rules m now jitter calls ≡ asked_calls (Some a) now calls
says-calls rules t e (act.Ask what n) m now jitter calls h = ap (λ d. calls_after key_cmp rules d now jitter calls) h.1 ∙ message-calls rules what n h.0 now jitter calls
says-calls rules t e _ m now jitter calls h = absurd h

-- a subscription more where the act is one
abbrev pub with_event : (Act → Bool) → Act → ℕ → List ℕ → List ℕ
with_event test a e es = es ++ (cond (test a) (e ∷ []) [] ++ [])

same_events : (R : ℕ → ℕ → Type 0) (ts es : List ℕ) → Match R ts es → Match R ts (es ++ [])
same_events R ts es h = subst (Match R ts) (sym (append-nil es)) h

message-updates : (t : Tickets) (e n ticket : ℕ) (what : Asked) (ts es : List ℕ) → HasTicket t (kind_of what) ticket e → Match (IsTicket t.updates) ts es
    → Match (IsTicket t.updates) (updates_for (message_of what ticket) ts) (with_event subscribes (act.Ask what n) e es)
message-updates t e n ticket ask.Subscribe ts es h s = Match-last (IsTicket t.updates) ts es ticket e s h
message-updates t e n ticket _ ts es h s = same_events (IsTicket t.updates) ts es s

pub says-updates : (t : Tickets) (e : ℕ) (a : Act) (m : Message Key) (ts es : List ℕ) → Says t e a m → Match (IsTicket t.updates) ts es
    → Match (IsTicket t.updates) (updates_for m ts) (with_event subscribes a e es)
says-updates t e (act.Ask what n) m ts es h s =
    subst (λ d. Match (IsTicket t.updates) (updates_for d ts) (with_event subscribes (act.Ask what n) e es)) (sym h.1) (message-updates t e n h.0 what ts es h.2 s)
says-updates t e _ m ts es h s = absurd h

message-sets : (t : Tickets) (e n ticket : ℕ) (what : Asked) (ts es : List ℕ) → HasTicket t (kind_of what) ticket e → Match (IsTicket t.blocked) ts es
    → Match (IsTicket t.blocked) (sets_for (message_of what ticket) ts) (with_event subscribes_blocked (act.Ask what n) e es)
message-sets t e n ticket ask.Blocked ts es h s = Match-last (IsTicket t.blocked) ts es ticket e s h
message-sets t e n ticket _ ts es h s = same_events (IsTicket t.blocked) ts es s

pub says-sets : (t : Tickets) (e : ℕ) (a : Act) (m : Message Key) (ts es : List ℕ) → Says t e a m → Match (IsTicket t.blocked) ts es
    → Match (IsTicket t.blocked) (sets_for m ts) (with_event subscribes_blocked a e es)
says-sets t e (act.Ask what n) m ts es h s =
    subst (λ d. Match (IsTicket t.blocked) (sets_for d ts) (with_event subscribes_blocked (act.Ask what n) e es)) (sym h.1) (message-sets t e n h.0 what ts es h.2 s)
says-sets t e _ m ts es h s = absurd h

-- what an act asks may be taken at any moment
message-may_take : (kept : Kept Key) (what : Asked) (ticket now : ℕ) → MayTake key_cmp kept (message_of what ticket) now
message-may_take kept (ask.Track index peers) ticket now = tt
message-may_take kept _ ticket now = tt

pub says-may_take : (kept : Kept Key) (t : Tickets) (e : ℕ) (a : Act) (m : Message Key) (now : ℕ) → Says t e a m → MayTake key_cmp kept m now
says-may_take kept t e (act.Ask what n) m now h = subst (λ d. MayTake key_cmp kept d now) (sym h.1) (message-may_take kept what h.0 now)
says-may_take kept t e _ m now h = absurd h

-- ---- by the item that is taken

-- once the tracker took this item, which the message is of
pub item-updates : (t : Tickets) (log : List Entry) (i : Item) (m : Message Key) (ts es : List ℕ) → IsMessage t log i m → Match (IsTicket t.updates) ts es
    → Match (IsTicket t.updates) (updates_for m ts) (es ++ flat_map (call_where subscribes log) (i ∷ []))
item-updates t log (item.Call e) m ts es h s =
    subst (λ o. Match (IsTicket t.updates) (updates_for m ts) (es ++ ((elim o [ None ↦ [] | Some b ↦ cond (subscribes b) (e ∷ []) [] ]) ++ []))) (sym h.1) (says-updates t e h.0 m ts es h.2 s)
item-updates t log (item.Connect conn key) m ts es h s = subst (λ d. Match (IsTicket t.updates) (updates_for d ts) (es ++ [])) (sym h) (same_events (IsTicket t.updates) ts es s)
item-updates t log item.AskDialable m ts es h s = subst (λ d. Match (IsTicket t.updates) (updates_for d ts) (es ++ [])) (sym h) (same_events (IsTicket t.updates) ts es s)
item-updates t log (item.AskDial key) m ts es h s = subst (λ d. Match (IsTicket t.updates) (updates_for d ts) (es ++ [])) (sym h) (same_events (IsTicket t.updates) ts es s)
item-updates t log (item.AskAcceptable name key) m ts es h s = subst (λ d. Match (IsTicket t.updates) (updates_for d ts) (es ++ [])) (sym h.2) (same_events (IsTicket t.updates) ts es s)
item-updates t log (item.AskListen name key) m ts es h s = subst (λ d. Match (IsTicket t.updates) (updates_for d ts) (es ++ [])) (sym h.2) (same_events (IsTicket t.updates) ts es s)
item-updates t log (item.Release key) m ts es h s = subst (λ d. Match (IsTicket t.updates) (updates_for d ts) (es ++ [])) (sym h.2) (same_events (IsTicket t.updates) ts es s)
item-updates t log _ m ts es h s = absurd h

pub item-sets : (t : Tickets) (log : List Entry) (i : Item) (m : Message Key) (ts es : List ℕ) → IsMessage t log i m → Match (IsTicket t.blocked) ts es
    → Match (IsTicket t.blocked) (sets_for m ts) (es ++ flat_map (call_where subscribes_blocked log) (i ∷ []))
item-sets t log (item.Call e) m ts es h s =
    subst (λ o. Match (IsTicket t.blocked) (sets_for m ts) (es ++ ((elim o [ None ↦ [] | Some b ↦ cond (subscribes_blocked b) (e ∷ []) [] ]) ++ []))) (sym h.1) (says-sets t e h.0 m ts es h.2 s)
item-sets t log (item.Connect conn key) m ts es h s = subst (λ d. Match (IsTicket t.blocked) (sets_for d ts) (es ++ [])) (sym h) (same_events (IsTicket t.blocked) ts es s)
item-sets t log item.AskDialable m ts es h s = subst (λ d. Match (IsTicket t.blocked) (sets_for d ts) (es ++ [])) (sym h) (same_events (IsTicket t.blocked) ts es s)
item-sets t log (item.AskDial key) m ts es h s = subst (λ d. Match (IsTicket t.blocked) (sets_for d ts) (es ++ [])) (sym h) (same_events (IsTicket t.blocked) ts es s)
item-sets t log (item.AskAcceptable name key) m ts es h s = subst (λ d. Match (IsTicket t.blocked) (sets_for d ts) (es ++ [])) (sym h.2) (same_events (IsTicket t.blocked) ts es s)
item-sets t log (item.AskListen name key) m ts es h s = subst (λ d. Match (IsTicket t.blocked) (sets_for d ts) (es ++ [])) (sym h.2) (same_events (IsTicket t.blocked) ts es s)
item-sets t log (item.Release key) m ts es h s = subst (λ d. Match (IsTicket t.blocked) (sets_for d ts) (es ++ [])) (sym h.2) (same_events (IsTicket t.blocked) ts es s)
item-sets t log _ m ts es h s = absurd h

-- what is released is held or has no record
abbrev pub MayRelease : Kept Key → Item → Type 0
MayRelease kept (item.Release key) = is_held_or_unknown (lookup (is_at (key_cmp key)) kept.records) ≡ true
MayRelease kept _ = Unit {0}

-- a connection that begins is of a key that is reserved, where that is eligible
abbrev pub MayConnect : Kept Key → ℕ → Item → Type 0
MayConnect kept now (item.Connect conn key) = IsEligible key_cmp kept key now → is_reserved_in (lookup (is_at (key_cmp key)) kept.records) ≡ true
MayConnect kept now _ = Unit {0}

pub item-may_take : (kept : Kept Key) (t : Tickets) (log : List Entry) (i : Item) (m : Message Key) (now : ℕ) → IsMessage t log i m → MayRelease kept i → MayConnect kept now i
    → MayTake key_cmp kept m now
item-may_take kept t log (item.Call e) m now h released reserved = says-may_take kept t e h.0 m now h.2
item-may_take kept t log (item.Connect conn key) m now h released reserved = subst (λ k. MayTake key_cmp kept k now) (sym h) reserved
item-may_take kept t log item.AskDialable m now h released reserved = subst (λ k. MayTake key_cmp kept k now) (sym h) tt
item-may_take kept t log (item.AskDial key) m now h released reserved = subst (λ k. MayTake key_cmp kept k now) (sym h) tt
item-may_take kept t log (item.AskAcceptable name key) m now h released reserved = subst (λ k. MayTake key_cmp kept k now) (sym h.2) tt
item-may_take kept t log (item.AskListen name key) m now h released reserved = subst (λ k. MayTake key_cmp kept k now) (sym h.2) tt
item-may_take kept t log (item.Release key) m now h released reserved =
    subst (λ k. MayTake key_cmp kept k now) (sym h.2) (ap (λ k. is_held_or_unknown (lookup (is_at (key_cmp k)) kept.records)) h.1 ∙ released)
item-may_take kept t log _ m now h released reserved = absurd h

-- a dial is granted where the answer reserves someone
dial-granted : (rules : Rules Key) (n : ℕ) (calls : List (Call Key)) (k : Key) (now : ℕ)
    → (grants_peer (queue.Dialer n, item.Dial (dial_grant rules n now [] [] calls k)) || false) ≡ allows_dial key_cmp rules calls k now
dial-granted rules n calls k now =
    by (is_free key_cmp rules calls k now && not (nat_lt now (cool key_cmp rules calls k)) && is_primary key_cmp rules calls k) (address_of key_cmp rules calls k)
  where
    by : (b : Bool) (o : Option Address)
        → (grants_peer (queue.Dialer n, item.Dial (cond (b && has_valid_ingress rules.private rules.dns o) (option_map (λ a. (k, ingress_of a)) o) None)) || false) ≡ (b && has_valid_ingress rules.private rules.dns o)
    by true None = refl
    by false None = refl
    by false (Some a) = refl
    by true (Some a) = by_valid (is_valid rules.private rules.dns (ingress_of a))
      where
        by_valid : (v : Bool) → (grants_peer (queue.Dialer n, item.Dial (cond v (Some (k, ingress_of a)) None)) || false) ≡ v
        by_valid true = refl
        by_valid false = refl

-- and a peer is granted to a handshake where it is told so
listen-granted : (rules : Rules Key) (n : ℕ) (us bs : List ℕ) (calls : List (Call Key)) (name : ℕ) (k : Key) (source : IpAddr) (now : ℕ)
    → (grants_peer (queue.Handshake n name, listen_grant rules n now us bs calls k source) || false) ≡ allows_listen key_cmp rules calls k source now
listen-granted rules n us bs calls name k source now = by (allows_listen key_cmp rules calls k source now)
  where
    by : (b : Bool) → (grants_peer (queue.Handshake n name, item.Listen (cond b (Some k) None)) || false) ≡ b
    by true = refl
    by false = refl

-- a handshake that asks for its peer runs
abbrev pub AskerRuns : List Entry → ℕ → Item → Type 0
AskerRuns log n (item.AskListen name key) = is_handshaking log n name ≡ true
AskerRuns log n _ = Unit {0}

pub item-calls : (rules : Rules Key) (n : ℕ) (t : Tickets) (log : List Entry) (i : Item) (m : Message Key) (now jitter : ℕ) (us bs : List ℕ) (calls : List (Call Key)) → IsMessage t log i m → AskerRuns log n i
    → calls_after key_cmp rules m now jitter calls ≡ item_calls log i now jitter (list_any grants_peer (puts.item_puts rules n now us bs calls log i)) calls
item-calls rules n t log (item.Call e) m now jitter us bs calls h runs = says-calls rules t e h.0 m now jitter calls h.2 ∙ ap (λ o. asked_calls o now calls) (sym h.1)
item-calls rules n t log (item.Connect conn key) m now jitter us bs calls h runs = ap (λ d. calls_after key_cmp rules d now jitter calls) h
item-calls rules n t log item.AskDialable m now jitter us bs calls h runs = ap (λ d. calls_after key_cmp rules d now jitter calls) h
item-calls rules n t log (item.AskDial key) m now jitter us bs calls h runs =
    ap (λ d. calls_after key_cmp rules d now jitter calls) h ∙ ap (λ b. call.Dial key now jitter b ∷ calls) (sym (dial-granted rules n calls key now))
item-calls rules n t log (item.AskAcceptable name key) m now jitter us bs calls h runs = ap (λ d. calls_after key_cmp rules d now jitter calls) h.2
item-calls rules n t log (item.AskListen name key) m now jitter us bs calls h runs =
    let told = listen_grant rules n now us bs calls key in
    let granted : list_any grants_peer (puts.handshake_puts rules n now us bs calls name told (is_handshaking log n name) (source_at log name)) ≡ allows_listen key_cmp rules calls key h.0 now =
    ap (λ b. list_any grants_peer (puts.handshake_puts rules n now us bs calls name told b (source_at log name))) runs
    ∙ (ap (λ o. list_any grants_peer (puts.handshake_puts rules n now us bs calls name told true o)) h.1 ∙ listen-granted rules n us bs calls name key h.0 now)
    in
    ap (λ d. calls_after key_cmp rules d now jitter calls) h.2 ∙ ap (λ b. call.Listen key now jitter b ∷ calls) (sym granted)
item-calls rules n t log (item.Release key) m now jitter us bs calls h runs =
    ap (λ d. calls_after key_cmp rules d now jitter calls) h.2 ∙ ap (λ k. call.Release k ∷ calls) h.1
item-calls rules n t log _ m now jitter us bs calls h runs = absurd h

-- A new tracker stands for no entry, and what waits for one that stands may be taken.
use Rattle.std.proofs.Common.{◌≡◌, ℕ, zero, suc, ◌≤◌, Bool, true, false, cond, List, [], ◌∷◌, ◌++◌, map, length, refl, ap, sym, subst, ◌∙◌, arith, Option, Some, None}
use Rattle.std.specs.Prelude.{flat_map, slice_get, is_some, IfSome, not, ◌&&◌, ◌||◌, ◌==◌}
use Rattle.std.specs.BTreeMap.{is_at}
use Rattle.std.specs.List.{list_any, IsDistinct}
use Rattle.std.specs.Map.{lookup}
use Rattle.std.specs.Option.{option_map}
use Rattle.p2p_address.specs.declared.peer.Address.{Address}
use Rattle.p2p_base.specs.declared.key.Key.{Key}
use Rattle.p2p_tracker_calls.specs.Blocks.{is_local, is_blocked}
use Rattle.p2p_tracker_calls.specs.Grants.{is_held}
use Rattle.p2p_tracker_calls.specs.Keeping.{kept_of}
use Rattle.p2p_tracker_calls.specs.Lives.{address_of, is_connected}
use Rattle.p2p_tracker_calls.specs.Sets.{is_tracked}
use Rattle.p2p_tracker_calls.specs.declared.call.Call.{Call}
use Rattle.p2p_tracker_directory.specs.Recorded.{is_inert, is_reserved, is_reserved_in, is_held_or_unknown}
use Rattle.p2p_tracker_directory.specs.Stands.{Kept, StandsFor, status_of, own_record, peer_record, record_of}
use Rattle.p2p_tracker_mailbox.specs.Desk.{next_message}
use Rattle.p2p_tracker_mailbox.specs.Lines.{line_of}
use Rattle.p2p_tracker_mailbox.specs.declared.message.Message.{Message}
use Rattle.p2p_tracker.specs.Following.{Follows}
use Rattle.p2p_tracker.specs.Serving.{IsEligible, MayTake}
use Rattle.p2p_tracker.specs.Tracking.{Tracking}
use Rattle.p2p_tracker_mailbox.specs.declared.mailbox.Mailbox.{Mailbox}
use Rattle.p2p_tracker_calls.specs.Rules.{Rules}
use Rattle.p2p_net_tracker.specs.declared.naming.Tickets.{Tickets}
use Rattle.p2p_log.specs.declared.config.Config.{Config}
use Rattle.p2p_log.specs.declared.queue.Queue.{Queue}
use Rattle.p2p_log.specs.declared.queue.Queue.TheVariants as queue
use Rattle.p2p_log.specs.declared.item.Item.{Item}
use Rattle.p2p_log.specs.declared.item.Item.TheVariants as item
use Rattle.p2p_log.specs.declared.item.Envelope.{Envelope}
use Rattle.p2p_log.specs.declared.entry.Entry.{Entry}
use Rattle.p2p_log.specs.Lines.{name_of, live_from, line}
use Rattle.p2p_log_rules.specs.Facts.{state_from}
use Rattle.p2p_log_rules.specs.Handshakes.{is_handshaking}
use Rattle.p2p_log_rules.specs.Told.{told}
use Rattle.p2p_log_rules.specs.Tracking.{key_cmp, tracker_rules_of, no_rules, rules_at, calls_of, update_subscriptions, blocked_subscriptions}
use Rattle.p2p_log_rules.specs.TrackerRows.{was_answered}
use Rattle.p2p_log_rules.proofs.Channels.{is_stopped-none}
use Rattle.p2p_log_rules.proofs.Handshakes.{handshakes_of-none}
use Rattle.p2p_net_queues.specs.Board.{held}
use Rattle.p2p_net_queues.specs.Tables as table
use Rattle.p2p_net_tracker.specs.declared.tracker.Tracker.{Tracker}
use Rattle.p2p_net_tracker.specs.AtDesk.{tickets_of, asked_for, queue_for, Rises, blocked_asked}
use Rattle.p2p_net_tracker.specs.declared.question.Question.{Question}
use Rattle.p2p_net_tracker.specs.declared.question.Question.TheVariants as question
use Rattle.p2p_net_tracker.specs.Begins.{IsNew}
use Rattle.p2p_net_tracker.specs.GivenBack.{IsGivenBack}
use Rattle.p2p_net_tracker.specs.Heeding.{is_noted}
use Rattle.p2p_net_queues.specs.Matching.{Match}
use Rattle.p2p_net_tracker.specs.Stands.{IsTicket, IsMessage, IsAnswer, HeardStands, HandshakeStands, AreDistinct, IsHeldByPeer, ReleasesHeld, ConnectsReserved, TrackerStands}
use Rattle.p2p_net_tracker.proofs.Ended.{is_ended-none}
use Rattle.p2p_net_tracker.proofs.Serving.{MayRelease, MayConnect, item-may_take}

no_calls : (configs : List Config) (n : ℕ) → calls_of configs [] n ≡ []
unfolding calls_of told state_from
no_calls configs n = refl

no_line : (q : Queue) → line [] q ≡ []
unfolding line live_from
no_line q = refl

no_updates : (n : ℕ) → update_subscriptions [] n ≡ []
unfolding update_subscriptions told state_from
no_updates n = refl

no_sets : (n : ℕ) → blocked_subscriptions [] n ≡ []
unfolding blocked_subscriptions told state_from
no_sets n = refl

none_distinct : AreDistinct []
unfolding IsDistinct
none_distinct = tt

none_answered : (d : ℕ) → was_answered [] d ≡ false
unfolding was_answered told state_from
none_answered d = refl

follows_none : (d : Kept Key) → StandsFor key_cmp d [] → Follows key_cmp d [] []
unfolding kept_of
follows_none d s = record { stands = s; exactly = λ q. refl; held = λ q h. cc; others = λ q h. cc }

pub tracker_new : (configs : List Config) (n : ℕ) (c : Config) (t : Tracker) → slice_get configs n ≡ Some c → IsNew c t → TrackerStands configs [] n t
tracker_new configs n c t is h =
    let there : rules_at configs n ≡ tracker_rules_of c = ap (λ (o : Option Config). elim o [ None ↦ no_rules | Some d ↦ tracker_rules_of d ]) is in
    record {
      follows = subst (Follows key_cmp t.actor.directory t.actor.controls) (sym (no_calls configs n))
          (subst (λ l. Follows key_cmp t.actor.directory l []) (sym (ap (λ (a : Tracking Key). a.controls) h.actor)) (follows_none t.actor.directory h.stands));
      rules = h.rules ∙ sym there;
      cooldown = ap (λ (a : Tracking Key). a.cooldown) h.actor ∙ sym (ap (λ (r : Rules Key). r.cooldown) there);
      works = ap (λ (a : Tracking Key). a.has_failed) h.actor;
      local = h.local ∙ sym (ap (λ (o : Option Config). elim o [ None ↦ record { 0 = 0 } | Some d ↦ d.public_key ]) is);
      most = h.most ∙ sym (ap (λ (o : Option Config). elim o [ None ↦ 0 | Some d ↦ d.max_peers_per_set ]) is);
      closed = ap (λ (m : Mailbox Key). m.desk.messages.closed) h.mailbox ∙ sym (is_stopped-none n);
      size = ap (λ (m : Mailbox Key). m.desk.messages.capacity) h.mailbox ∙ sym (ap (λ (o : Option Config). elim o [ None ↦ 0 | Some d ↦ d.mailbox_size ]) is);
      names = h.names ∙ sym (ap (λ l. map name_of l) (no_line (queue.Tracker n)));
      messages = subst (λ l. Match (λ x m. IsMessage t.tickets [] x.item m) l t.mailbox.desk.messages.items) (sym (no_line (queue.Tracker n)))
          (subst (Match (λ (x : Envelope) m. IsMessage t.tickets [] x.item m) []) (sym (ap (λ (m : Mailbox Key). m.desk.messages.items) h.mailbox)) tt);
      given_back = subst (λ l. Match (λ x m. IsGivenBack [] x.entry m) l t.mailbox.desk.messages.items) (sym (no_line (queue.Tracker n)))
          (subst (Match (λ (x : Envelope) m. IsGivenBack [] x.entry m) []) (sym (ap (λ (m : Mailbox Key). m.desk.messages.items) h.mailbox)) tt);
      questions = ap (λ (m : Mailbox Key). length m.desk.questions) h.mailbox ∙ sym (ap (λ (k : Tickets). length k.questions) h.tickets);
      updates = ap (λ (m : Mailbox Key). length m.desk.updates) h.mailbox ∙ sym (ap (λ (k : Tickets). length k.updates) h.tickets);
      sets = ap (λ (m : Mailbox Key). length m.desk.sets) h.mailbox ∙ sym (ap (λ (k : Tickets). length k.blocked) h.tickets);
      subscribed = subst (Match (IsTicket t.tickets.updates) t.actor.updates) (sym (no_updates n)) (subst (λ l. Match (IsTicket t.tickets.updates) l []) (sym (ap (λ (a : Tracking Key). a.updates) h.actor)) tt);
      subscribed_blocked = subst (Match (IsTicket t.tickets.blocked) t.actor.sets) (sym (no_sets n)) (subst (λ l. Match (IsTicket t.tickets.blocked) l []) (sym (ap (λ (a : Tracking Key). a.sets) h.actor)) tt);
      rises = subst (λ (m : Mailbox Key). Rises 0 (length m.desk.sets) (t.actor.sets ++ flat_map blocked_asked m.desk.messages.items)) (sym h.mailbox)
          (subst (λ (a : Tracking Key). Rises 0 0 (a.sets ++ [])) (sym h.actor) none_rise);
      tickets = record {
        events = λ e k has. let none : None ≡ Some k = sym (ap (λ l. table.at l e) h.questions) ∙ has in cc;
        numbers = λ kind k e has. absurd (no_ticket kind k e has);
      };
      asked = λ d. ap (λ l. asked_for (table.at l d)) h.questions;
      answered = λ d is. cc;
      fresh = λ d past. (ap (λ l. table.at l d) h.answered, none_answered d);
      ended = λ conn. ap (λ l. is_noted l conn) h.ended ∙ sym (is_ended-none n conn);
      dialer = subst (λ l. Match (λ x a. IsAnswer x.item a) l t.mailbox.dialer) (sym (no_line (queue.Dialer n)))
          (subst (Match (λ (x : Envelope) a. IsAnswer x.item a) []) (sym (ap (λ (m : Mailbox Key). m.dialer) h.mailbox)) tt);
      heard = subst (λ o. HeardStands o (line [] (queue.Addresses n))) (sym (ap (λ (m : Mailbox Key). m.heard) h.mailbox)) (no_line (queue.Addresses n));
      handshakes = λ k.
          subst (λ (m : Mailbox Key). HandshakeStands (line_of m.handshakes k) (is_handshaking [] n k) (line [] (queue.Handshake n k))) (sym h.mailbox)
          (ap (list_any (λ j. k == j)) (handshakes_of-none n), no_line (queue.Handshake n k));
      distinct = subst AreDistinct (sym (ap (λ (m : Mailbox Key). m.handshakes) h.mailbox)) none_distinct;
      polled = record {
        answers = λ k e is. absurd (no_ticket question.PeerSet k e is);
        updates = λ k e is. absurd (no_ticket question.Updates k e is);
        sets = λ k e is. absurd (no_ticket question.Blocked k e is);
        none = λ kind e no. h.told (queue_for n kind e);
      };
      told = λ q own. h.told q ∙ sym (no_line q);
    }
  where
    none_rise : 0 ≤ 0
    none_rise = omega arith

    none_at : (k e : ℕ) → IsTicket [] k e → ⊥
    none_at zero e is = cc
    none_at (suc k) e is = cc

    no_ticket : (kind : Question) (k e : ℕ) → IsTicket (tickets_of t.tickets kind) k e → ⊥
    no_ticket question.PeerSet k e is = none_at k e (subst (λ (ts : Tickets). IsTicket ts.questions k e) h.tickets is)
    no_ticket question.Updates k e is = none_at k e (subst (λ (ts : Tickets). IsTicket ts.updates k e) h.tickets is)
    no_ticket question.Blocked k e is = none_at k e (subst (λ (ts : Tickets). IsTicket ts.blocked k e) h.tickets is)

-- a key that is held, and another's, has a record that says so, or none
held_record : (rules : Rules Key) (calls : List (Call Key)) (key : Key) → is_held key_cmp calls key ≡ true → is_local key_cmp rules key ≡ false → is_held_or_unknown (record_of key_cmp rules calls key) ≡ true
unfolding record_of
held_record rules calls key held others =
    ap (λ b. is_held_or_unknown (cond b (Some (own_record key_cmp rules calls key)) (option_map (peer_record key_cmp rules calls key) (address_of key_cmp rules calls key)))) others
    ∙ by (address_of key_cmp rules calls key)
  where
    by_status : (h c : Bool) → h ≡ true → not (is_inert (status_of h c)) ≡ true
    by_status true true is = refl
    by_status true false is = refl
    by_status false c is = cc

    by : (o : Option Address) → is_held_or_unknown (option_map (peer_record key_cmp rules calls key) o) ≡ true
    by None = refl
    by (Some a) = by_status (is_held key_cmp calls key) (is_connected key_cmp rules calls key) held

-- a key that is another's, held and not connected since has a record that says that it is reserved, where it has one
reserved_record : (rules : Rules Key) (calls : List (Call Key)) (key : Key) → is_local key_cmp rules key ≡ false → is_some (address_of key_cmp rules calls key) ≡ true
    → is_held key_cmp calls key ≡ true → is_connected key_cmp rules calls key ≡ false → is_reserved_in (record_of key_cmp rules calls key) ≡ true
unfolding record_of
reserved_record rules calls key others known held apart =
    ap (λ b. is_reserved_in (cond b (Some (own_record key_cmp rules calls key)) (option_map (peer_record key_cmp rules calls key) (address_of key_cmp rules calls key)))) others
    ∙ by (address_of key_cmp rules calls key) known
  where
    by_status : (h c : Bool) → h ≡ true → c ≡ false → is_reserved (status_of h c) ≡ true
    by_status true false is none = refl
    by_status true true is none = cc
    by_status false c is none = cc

    by : (o : Option Address) → is_some o ≡ true → is_reserved_in (option_map (peer_record key_cmp rules calls key) o) ≡ true
    by None some = cc
    by (Some a) some = by_status (is_held key_cmp calls key) (is_connected key_cmp rules calls key) held apart

-- a directory that stands for calls by which a key is held, and not connected since, has it reserved where it is eligible
pub reserved_there : (kept : Kept Key) (calls : List (Call Key)) (key : Key) (now : ℕ) → StandsFor key_cmp kept calls
    → is_held key_cmp calls key ≡ true → is_connected key_cmp kept.rules calls key ≡ false → IsEligible key_cmp kept key now → is_reserved_in (lookup (is_at (key_cmp key)) kept.records) ≡ true
reserved_there kept calls key now s held apart eligible =
    let others = others_by (is_local key_cmp kept.rules key) (is_tracked key_cmp kept.rules calls key) (not (is_blocked key_cmp kept.rules calls key now)) (eligible calls s) in
    let known = sym (s.addressed key others) ∙ alive_by (is_tracked key_cmp kept.rules calls key) (is_held key_cmp calls key) held in
    ap is_reserved_in (s.records key) ∙ reserved_record kept.rules calls key others known held apart
  where
    others_by : (l t b : Bool) → (not l && t && b) ≡ true → l ≡ false
    others_by true t b h = cc
    others_by false t b h = refl

    alive_by : (t h : Bool) → h ≡ true → (t || h) ≡ true
    alive_by true h is = refl
    alive_by false h is = is

-- the oldest message may be taken, where a release that is oldest is of a key that is held, and a connection that begins of one that is reserved
pub may_take : (configs : List Config) (log : List Entry) (n now : ℕ) (t : Tracker) → TrackerStands configs log n t → ReleasesHeld configs log n → ConnectsReserved configs log n
    → IfSome (next_message t.mailbox.desk) (λ m. MayTake key_cmp t.actor.directory m now)
may_take configs log n now t s released reserved = of_line (line log (queue.Tracker n)) t.mailbox.desk.messages.items s.messages refl
  where
    held_there : (key : Key) → IsHeldByPeer configs log n key → is_held_or_unknown (lookup (is_at (key_cmp key)) t.actor.directory.records) ≡ true
    held_there key h =
        ap is_held_or_unknown (s.follows.stands.records key)
        ∙ held_record t.actor.directory.rules (calls_of configs log n) key h.0 (ap (λ r. is_local key_cmp r key) s.rules ∙ h.1)

    may_release : (x : Envelope) (l : List Envelope) → line log (queue.Tracker n) ≡ x ∷ l → (i : Item) → x.item ≡ i → MayRelease t.actor.directory i
    may_release x l first (item.Release key) is = held_there key (released key x l first is)
    may_release x l first _ is = tt

    may_connect : (x : Envelope) (l : List Envelope) → line log (queue.Tracker n) ≡ x ∷ l → (i : Item) → x.item ≡ i → MayConnect t.actor.directory now i
    may_connect x l first (item.Connect conn key) is =
        let h = reserved conn key x l first is in
        reserved_there t.actor.directory (calls_of configs log n) key now s.follows.stands h.0 (ap (λ r. is_connected key_cmp r (calls_of configs log n) key) s.rules ∙ h.1)
    may_connect x l first _ is = tt

    of_line : (l : List Envelope) (ms : List (Message Key)) → Match (λ x m. IsMessage t.tickets log x.item m) l ms → line log (queue.Tracker n) ≡ l → IfSome (slice_get ms 0) (λ m. MayTake key_cmp t.actor.directory m now)
    of_line [] [] h first = tt
    of_line (x ∷ l) (m ∷ ms) h first = item-may_take t.actor.directory t.tickets log x.item m now h.0 (may_release x l first x.item refl) (may_connect x l first x.item refl)
    of_line [] (m ∷ ms) h first = absurd h
    of_line (x ∷ l) [] h first = absurd h

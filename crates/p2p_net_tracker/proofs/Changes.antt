-- A node's tracker after one more entry: one that leaves it alone, one that asks it, one that leaves its mailbox, and one that reads what it told.
use Rattle.std.proofs.Common.{◌≡◌, ℕ, Bool, true, false, cond, List, [], ◌∷◌, ◌++◌, map, drop, length, Option, Some, None, refl, ap, sym, subst, ◌∙◌, append-nil, eq-eqb}
use Rattle.std.specs.Prelude.{filter, flat_map, slice_get, is_some, if◌then◌else◌}
use Rattle.std.proofs.lemmas.List.{map-append}
use Rattle.p2p_base.specs.declared.key.Key.{Key}
use Rattle.p2p_base.specs.declared.policy.Keep.TheVariants.{Append}
use Rattle.p2p_base.specs.Queue.{enqueued, has_room}
use Rattle.p2p_tracker.specs.Following.{Follows}
use Rattle.p2p_tracker_mailbox.specs.Desk.{Desk}
use Rattle.p2p_tracker_mailbox.specs.Mailboxes.{with_desk}
use Rattle.p2p_tracker_mailbox.specs.declared.message.Message.{Message}
use Rattle.p2p_log.specs.declared.config.Config.{Config}
use Rattle.p2p_log.specs.declared.queue.Queue.{Queue}
use Rattle.p2p_log.specs.declared.queue.Queue.TheVariants as queue
use Rattle.p2p_log.specs.declared.item.Item.{Item}
use Rattle.p2p_log.specs.declared.item.Item.TheVariants as item
use Rattle.p2p_log.specs.declared.item.Envelope.{Envelope}
use Rattle.p2p_log.specs.declared.entry.Entry.{Entry}
use Rattle.p2p_log.specs.declared.event.Act.{Act}
use Rattle.p2p_log.specs.declared.event.Act.TheVariants as act
use Rattle.p2p_log.specs.QueueCode.{same_queue}
use Rattle.p2p_log.specs.Lines.{name_of, ended_item, goes, line, placed, stands_in}
use Rattle.p2p_log.proofs.Queues.{same_queue-refl}
use Rattle.p2p_log.proofs.QueueNames.{queue_from_same}
use Rattle.p2p_log_rules.specs.Connections.{ends_connection}
use Rattle.p2p_log_rules.specs.Facts.{is_stopped}
use Rattle.p2p_log_rules.specs.Handshakes.{handshakes_of}
use Rattle.p2p_log_rules.specs.Tracking.{key_cmp, asked_by, update_subscriptions, blocked_subscriptions}
use Rattle.p2p_net_queues.specs.declared.board.Board.{Board}
use Rattle.p2p_net_queues.specs.Board.{held}
use Rattle.p2p_net_queues.proofs.Going.{put_in, line-kept, line-taken}
use Rattle.p2p_net_queues.proofs.Holding.{TakesFirst}
use Rattle.p2p_log.specs.declared.asked.Asked.{Asked}
use Rattle.p2p_log.specs.declared.asked.Asked.TheVariants as ask
use Rattle.p2p_net_tracker.specs.Asking.{message_of}
use Rattle.p2p_net_tracker.specs.GivenBack.{IsGivenBack}
use Rattle.p2p_net_tracker.specs.declared.naming.Tickets.{Tickets}
use Rattle.p2p_net_tracker.specs.declared.tracker.Tracker.{Tracker}
use Rattle.p2p_log_rules.specs.TrackerRows.{was_answered}
use Rattle.p2p_net_queues.specs.Tables as table
use Rattle.p2p_net_tracker.specs.declared.question.Question.{Question}
use Rattle.p2p_net_tracker.specs.declared.question.Question.TheVariants as question
use Rattle.p2p_net_tracker.specs.declared.question.Ticket.{Ticket}
use Rattle.p2p_net_tracker.specs.AtDesk.{asked_for, TicketsStand, DeskStands, Rises, blocked_asked}
use Rattle.p2p_net_queues.specs.Matching.{Match}
use Rattle.p2p_net_tracker.specs.Stands.{asks_of, asks_at, AreFresh, is_told, IsTicket, kind_of, HasTicket, Says, IsMessage, IsAnswer, HeardStands, TrackerStands}
use Rattle.p2p_net_tracker.proofs.Ended.{noted_stay}
use Rattle.p2p_net_tracker.proofs.GivenBack.{all_given-longer}
use Rattle.p2p_net_tracker.proofs.Facts.{asks_at-kept, fresh-longer, was_answered-kept, calls-kept, update_subscriptions-kept, blocked_subscriptions-kept, asked_by-longer, handshaking-kept, source_at-longer}
use Rattle.p2p_net_queues.proofs.Matching.{Match-weaker, Match-last, slice_get-last}
use Rattle.p2p_log_rules.proofs.Steps.{steps_tracker}
use Rattle.p2p_log_rules.proofs.Answers.{takes_answer}
use Rattle.p2p_net_tracker.proofs.Leaves.{LeavesTracker}

-- the tickets are these, and some more
pub record AreMore (old new : Tickets) : Type 0 where
  pub questions : (t e : ℕ) → slice_get old.questions t ≡ Some e → slice_get new.questions t ≡ Some e
  pub updates : (t e : ℕ) → slice_get old.updates t ≡ Some e → slice_get new.updates t ≡ Some e
  pub blocked : (t e : ℕ) → slice_get old.blocked t ≡ Some e → slice_get new.blocked t ≡ Some e

pub same_tickets : (t : Tickets) → AreMore t t
same_tickets t = record { questions = λ k e h. h; updates = λ k e h. h; blocked = λ k e h. h }

ticket-more : (old new : Tickets) → AreMore old new → (k : Option Question) (ticket e : ℕ) → HasTicket old k ticket e → HasTicket new k ticket e
ticket-more old new more None ticket e h = tt
ticket-more old new more (Some question.PeerSet) ticket e h = more.questions ticket e h
ticket-more old new more (Some question.Updates) ticket e h = more.updates ticket e h
ticket-more old new more (Some question.Blocked) ticket e h = more.blocked ticket e h

Says-more : (old new : Tickets) → AreMore old new → (e : ℕ) (a : Act) (m : Message Key) → Says old e a m → Says new e a m
Says-more old new more e (act.Ask what n) m h = (h.0, h.1, ticket-more old new more (kind_of what) h.0 e h.2)
Says-more old new more e _ m h = absurd h

IsMessage-longer : (old new : Tickets) → AreMore old new → (log more : List Entry) (i : Item) (m : Message Key) → IsMessage old log i m → IsMessage new (log ++ more) i m
IsMessage-longer old new given log more (item.Call e) m h = (h.0, asked_by-longer log more e h.0 h.1, Says-more old new given e h.0 m h.2)
IsMessage-longer old new given log more (item.Connect conn key) m h = h
IsMessage-longer old new given log more item.AskDialable m h = h
IsMessage-longer old new given log more (item.AskDial key) m h = h
IsMessage-longer old new given log more (item.AskAcceptable name key) m h = (h.0, source_at-longer log more name h.0 h.1, h.2)
IsMessage-longer old new given log more (item.AskListen name key) m h = (h.0, source_at-longer log more name h.0 h.1, h.2)
IsMessage-longer old new given log more (item.Release key) m h = h
IsMessage-longer old new given log more _ m h = absurd h

-- who asks by an oracle gives nothing back
asked_gives : (t : Tickets) (e : ℕ) (a : Act) (m : Message Key) → Says t e a m → (log : List Entry) (k : ℕ) → IsGivenBack log k m
asked_gives t e (act.Ask what n) m says log k = subst (IsGivenBack log k) (sym says.1) (by what says.0)
  where
    by : (what : Asked) (ticket : ℕ) → IsGivenBack log k (message_of what ticket)
    by (ask.Track index peers) ticket = tt
    by (ask.Overwrite peers) ticket = tt
    by (ask.Block key) ticket = tt
    by (ask.PeerSet index) ticket = tt
    by ask.Subscribe ticket = tt
    by ask.Blocked ticket = tt
asked_gives t e _ m says log k = absurd says

-- what waits stays what it was
pub messages-longer : (old new : Tickets) → AreMore old new → (log more : List Entry) (xs : List Envelope) (ms : List (Message Key)) → Match (λ x m. IsMessage old log x.item m) xs ms → Match (λ x m. IsMessage new (log ++ more) x.item m) xs ms
messages-longer old new given log more =
    Match-weaker (λ (x : Envelope) m. IsMessage old log x.item m) (λ (x : Envelope) m. IsMessage new (log ++ more) x.item m) (λ x m h. IsMessage-longer old new given log more x.item m h)

-- an entry that leaves it alone
pub tracker_frame : (configs : List Config) (log : List Entry) (e : Entry) (n : ℕ) (t : Tracker) → TrackerStands configs log n t → LeavesTracker log e n → TrackerStands configs (log ++ e ∷ []) n t
tracker_frame configs log e n t s q = record {
  follows = subst (Follows key_cmp t.actor.directory t.actor.controls) (sym (calls-kept configs log e n q.no_step)) s.follows;
  rules = s.rules;
  cooldown = s.cooldown;
  works = s.works;
  local = s.local;
  most = s.most;
  closed = s.closed ∙ sym q.goes_on;
  size = s.size;
  names = s.names ∙ ap (map name_of) (sym q.mailbox);
  messages = subst (λ l. Match (λ x m. IsMessage t.tickets (log ++ e ∷ []) x.item m) l t.mailbox.desk.messages.items) (sym q.mailbox)
      (messages-longer t.tickets t.tickets (same_tickets t.tickets) log (e ∷ []) (line log (queue.Tracker n)) t.mailbox.desk.messages.items s.messages);
  given_back = subst (λ l. Match (λ x m. IsGivenBack (log ++ e ∷ []) x.entry m) l t.mailbox.desk.messages.items) (sym q.mailbox)
      (all_given-longer log (e ∷ []) (line log (queue.Tracker n)) t.mailbox.desk.messages.items s.given_back);
  questions = s.questions;
  updates = s.updates;
  sets = s.sets;
  subscribed = subst (Match (IsTicket t.tickets.updates) t.actor.updates) (sym (update_subscriptions-kept log e n q.no_step)) s.subscribed;
  subscribed_blocked = subst (Match (IsTicket t.tickets.blocked) t.actor.sets) (sym (blocked_subscriptions-kept log e n q.no_step)) s.subscribed_blocked;
  rises = s.rises;
  tickets = s.tickets;
  asked = λ d. s.asked d ∙ sym (asks_at-kept log e n d q.no_question);
  answered = λ d is.
      let before : asks_at log n d ≡ Some question.PeerSet = sym (asks_at-kept log e n d q.no_question) ∙ is in
      s.answered d before ∙ sym (was_answered-kept log e d (q.no_answer d before));
  fresh = fresh-longer log e t.answered s.fresh q.no_late_answer;
  ended = noted_stay log e n t.ended s.ended q.no_end;
  dialer = subst (λ l. Match (λ x a. IsAnswer x.item a) l t.mailbox.dialer) (sym (q.told (queue.Dialer n) (eq-eqb n n refl))) s.dialer;
  heard = subst (HeardStands t.mailbox.heard) (sym (q.told (queue.Addresses n) (eq-eqb n n refl))) s.heard;
  handshakes = handshaking-kept log e n t.mailbox.handshakes q.handshakes (λ k. q.told (queue.Handshake n k) (eq-eqb n n refl)) s.handshakes;
  distinct = s.distinct;
  polled = s.polled;
  told = λ p own. s.told p own ∙ sym (q.told p own);
}

-- ---- a question

-- its mailbox is no queue in which it tells something
pub told_apart : (n m : ℕ) (q : Queue) → is_told n q ≡ true → same_queue q (queue.Tracker m) ≡ false
told_apart n m (queue.Addresses k) h = refl
told_apart n m (queue.Dialer k) h = refl
told_apart n m (queue.Control k e) h = refl
told_apart n m (queue.PeerSet k e) h = refl
told_apart n m (queue.PeerSetUpdates k e) h = refl
told_apart n m (queue.Blocked k e) h = refl
told_apart n m (queue.Handshake k e) h = refl
told_apart n m _ h = cc

-- a mailbox that is open keeps each message
pub kept_open : {T : Type 0} (closed room : Bool) (xs : List T) (m : T) → closed ≡ false → (if closed then xs else (if room then xs ++ m ∷ [] else xs ++ m ∷ [])) ≡ xs ++ m ∷ []
kept_open true room xs m h = cc
kept_open false true xs m h = refl
kept_open false false xs m h = refl

-- the entry asks the tracker, and does no more
pub record Asks (log : List Entry) (e : Entry) (n : ℕ) : Type 0 where
  pub no_step : steps_tracker n e.event.act ≡ false
  pub no_answer : (d : ℕ) → takes_answer d e.event.act e.reply ≡ false
  pub no_end : (conn : ℕ) → ends_connection n conn log e ≡ false
  pub no_admission : handshakes_of (log ++ e ∷ []) n ≡ handshakes_of log n
  pub goes_on : is_stopped (log ++ e ∷ []) n ≡ is_stopped log n
  pub takes : e.takes ≡ []
  pub puts : e.puts ≡ (queue.Tracker n, item.Call (length log)) ∷ []
  pub ends : e.ends ≡ []

asked-now : (log : List Entry) (e : Entry) → asked_by (log ++ e ∷ []) (length log) ≡ Some e.event.act
asked-now log e = ap (λ o. elim o [ None ↦ None | Some d ↦ Some d.event.act ]) (slice_get-last log e)

-- this desk has a place for each of these tickets, and stands for what this board has for them; these messages wait
pub record HasDesk (n : ℕ) (t : Tracker) (desk : Desk Key) (ts : Tickets) (given : List (ℕ × Ticket)) (noted : List (ℕ × Bool)) (board : Board Envelope) (ms : List (Message Key)) : Type 0 where
  pub questions : length desk.questions ≡ length ts.questions
  pub updates : length desk.updates ≡ length ts.updates
  pub sets : length desk.sets ≡ length ts.blocked
  pub rises : Rises 0 (length desk.sets) (t.actor.sets ++ flat_map blocked_asked ms)
  pub tickets : TicketsStand ts given
  pub polled : DeskStands n ts noted (held board) desk

-- with this desk and these tickets, of which the newest message says what the entry asks
pub tracker_asked : (configs : List Config) (log : List Entry) (e : Entry) (n : ℕ) (t : Tracker) (desk : Desk Key) (tickets : Tickets) (given : List (ℕ × Ticket)) (m : Message Key) → TrackerStands configs log n t → is_stopped log n ≡ false → Asks log e n
    → AreMore t.tickets tickets → desk.messages ≡ enqueued Append t.mailbox.desk.messages m → Says tickets (length log) e.event.act m
    → HasDesk n t desk tickets given t.answered t.told (t.mailbox.desk.messages.items ++ m ∷ [])
    → ((d : ℕ) → asked_for (table.at given d) ≡ asks_at (log ++ e ∷ []) n d) → ((d : ℕ) → asks_at (log ++ e ∷ []) n d ≡ Some question.PeerSet → is_some (table.at t.answered d) ≡ was_answered log d)
    → TrackerStands configs (log ++ e ∷ []) n (record t { mailbox = with_desk t.mailbox desk; names = t.names ++ (length log, 0) ∷ []; tickets = tickets; questions = given })
tracker_asked configs log e n t desk tickets given m s lasts q more put says has asked answered =
    let x : Envelope = record { entry = length log; place = 0; queue = queue.Tracker n; item = item.Call (length log) } in
    let none : goes e ≡ [] = ap (λ l. l ++ flat_map ended_item e.ends) q.takes ∙ ap (flat_map ended_item) q.ends in
    let added : (p : Queue) → put_in log e p ≡ cond (same_queue p (queue.Tracker n)) (x ∷ []) [] = λ p. ap (λ l. filter (stands_in p) (placed (length log) 0 l)) q.puts in
    let longer : line (log ++ e ∷ []) (queue.Tracker n) ≡ line log (queue.Tracker n) ++ x ∷ [] =
    line-kept log e (queue.Tracker n) none
    ∙ ap (λ l. line log (queue.Tracker n) ++ l) (added (queue.Tracker n) ∙ ap (λ b. cond b (x ∷ []) []) (same_queue-refl (queue.Tracker n)))
    in
    let same : (p : Queue) → is_told n p ≡ true → line (log ++ e ∷ []) p ≡ line log p = λ p own.
    line-kept log e p none ∙ (ap (λ l. line log p ++ l) (added p ∙ ap (λ b. cond b (x ∷ []) []) (told_apart n n p own)) ∙ append-nil (line log p))
    in
    let items : desk.messages.items ≡ t.mailbox.desk.messages.items ++ m ∷ [] =
    ap (λ r. r.items) put ∙ kept_open t.mailbox.desk.messages.closed (has_room t.mailbox.desk.messages) t.mailbox.desk.messages.items m (s.closed ∙ lasts)
    in
    record {
      follows = subst (Follows key_cmp t.actor.directory t.actor.controls) (sym (calls-kept configs log e n q.no_step)) s.follows;
      rules = s.rules;
      cooldown = s.cooldown;
      works = s.works;
      local = s.local;
      most = s.most;
      closed = ap (λ r. r.closed) put ∙ (s.closed ∙ sym q.goes_on);
      size = ap (λ r. r.capacity) put ∙ s.size;
      names = ap (λ l. l ++ (length log, 0) ∷ []) s.names ∙ (sym (map-append name_of (line log (queue.Tracker n)) (x ∷ [])) ∙ ap (map name_of) (sym longer));
      messages = subst (λ l. Match (λ y k. IsMessage tickets (log ++ e ∷ []) y.item k) l desk.messages.items) (sym longer)
          (subst (λ l. Match (λ y k. IsMessage tickets (log ++ e ∷ []) y.item k) (line log (queue.Tracker n) ++ x ∷ []) l) (sym items)
          (Match-last (λ (y : Envelope) k. IsMessage tickets (log ++ e ∷ []) y.item k) (line log (queue.Tracker n)) t.mailbox.desk.messages.items x m
          (messages-longer t.tickets tickets more log (e ∷ []) (line log (queue.Tracker n)) t.mailbox.desk.messages.items s.messages)
          (e.event.act, asked-now log e, says)));
      given_back = subst (λ l. Match (λ y k. IsGivenBack (log ++ e ∷ []) y.entry k) l desk.messages.items) (sym longer)
          (subst (λ l. Match (λ y k. IsGivenBack (log ++ e ∷ []) y.entry k) (line log (queue.Tracker n) ++ x ∷ []) l) (sym items)
          (Match-last (λ (y : Envelope) k. IsGivenBack (log ++ e ∷ []) y.entry k) (line log (queue.Tracker n)) t.mailbox.desk.messages.items x m
          (all_given-longer log (e ∷ []) (line log (queue.Tracker n)) t.mailbox.desk.messages.items s.given_back)
          (asked_gives tickets (length log) e.event.act m says (log ++ e ∷ []) (length log))));
      questions = has.questions;
      updates = has.updates;
      sets = has.sets;
      subscribed = subst (Match (IsTicket tickets.updates) t.actor.updates) (sym (update_subscriptions-kept log e n q.no_step))
          (Match-weaker (IsTicket t.tickets.updates) (IsTicket tickets.updates) more.updates t.actor.updates (update_subscriptions log n) s.subscribed);
      subscribed_blocked = subst (Match (IsTicket tickets.blocked) t.actor.sets) (sym (blocked_subscriptions-kept log e n q.no_step))
          (Match-weaker (IsTicket t.tickets.blocked) (IsTicket tickets.blocked) more.blocked t.actor.sets (blocked_subscriptions log n) s.subscribed_blocked);
      rises = subst (λ l. Rises 0 (length desk.sets) (t.actor.sets ++ flat_map blocked_asked l)) (sym items) has.rises;
      tickets = has.tickets;
      asked = asked;
      answered = λ d is. answered d is ∙ sym (was_answered-kept log e d (q.no_answer d));
      fresh = fresh-longer log e t.answered s.fresh (λ d past. q.no_answer d);
      ended = noted_stay log e n t.ended s.ended q.no_end;
      dialer = subst (λ l. Match (λ y a. IsAnswer y.item a) l t.mailbox.dialer) (sym (same (queue.Dialer n) (eq-eqb n n refl))) s.dialer;
      heard = subst (HeardStands t.mailbox.heard) (sym (same (queue.Addresses n) (eq-eqb n n refl))) s.heard;
      handshakes = handshaking-kept log e n t.mailbox.handshakes q.no_admission (λ k. same (queue.Handshake n k) (eq-eqb n n refl)) s.handshakes;
      distinct = s.distinct;
      polled = has.polled;
      told = λ p own. s.told p own ∙ sym (same p own);
    }

-- ---- what was asked, was answered and is told

-- an entry that leaves the mailbox, and what waits for the dialer, the listener and the handshakes
pub record LeavesMailbox (log : List Entry) (e : Entry) (n : ℕ) : Type 0 where
  pub no_step : steps_tracker n e.event.act ≡ false
  pub no_end : (conn : ℕ) → ends_connection n conn log e ≡ false
  pub no_admission : handshakes_of (log ++ e ∷ []) n ≡ handshakes_of log n
  pub goes_on : is_stopped (log ++ e ∷ []) n ≡ is_stopped log n
  pub mailbox : line (log ++ e ∷ []) (queue.Tracker n) ≡ line log (queue.Tracker n)
  pub dialer : line (log ++ e ∷ []) (queue.Dialer n) ≡ line log (queue.Dialer n)
  pub listener : line (log ++ e ∷ []) (queue.Addresses n) ≡ line log (queue.Addresses n)
  pub handshakes : (k : ℕ) → line (log ++ e ∷ []) (queue.Handshake n k) ≡ line log (queue.Handshake n k)

-- with what was asked, what was answered, the desk and what is told after it: the same messages wait
pub tracker_kept : (configs : List Config) (log : List Entry) (e : Entry) (n : ℕ) (t : Tracker) (desk : Desk Key) (tickets : Tickets) (given : List (ℕ × Ticket)) (noted : List (ℕ × Bool)) (board : Board Envelope) → TrackerStands configs log n t
    → LeavesMailbox log e n → AreMore t.tickets tickets → desk.messages ≡ t.mailbox.desk.messages
    → HasDesk n t desk tickets given noted board t.mailbox.desk.messages.items
    → ((d : ℕ) → asked_for (table.at given d) ≡ asks_at (log ++ e ∷ []) n d)
    → ((d : ℕ) → asks_at (log ++ e ∷ []) n d ≡ Some question.PeerSet → is_some (table.at noted d) ≡ was_answered (log ++ e ∷ []) d)
    → AreFresh (log ++ e ∷ []) noted
    → ((p : Queue) → is_told n p ≡ true → held board p ≡ line (log ++ e ∷ []) p)
    → TrackerStands configs (log ++ e ∷ []) n (record t { mailbox = with_desk t.mailbox desk; tickets = tickets; questions = given; answered = noted; told = board })
tracker_kept configs log e n t desk tickets given noted board s q more same has asked answered fresh told = record {
  follows = subst (Follows key_cmp t.actor.directory t.actor.controls) (sym (calls-kept configs log e n q.no_step)) s.follows;
  rules = s.rules;
  cooldown = s.cooldown;
  works = s.works;
  local = s.local;
  most = s.most;
  closed = ap (λ r. r.closed) same ∙ (s.closed ∙ sym q.goes_on);
  size = ap (λ r. r.capacity) same ∙ s.size;
  names = s.names ∙ ap (map name_of) (sym q.mailbox);
  messages = subst (λ l. Match (λ y m. IsMessage tickets (log ++ e ∷ []) y.item m) l desk.messages.items) (sym q.mailbox)
      (subst (λ r. Match (λ y m. IsMessage tickets (log ++ e ∷ []) y.item m) (line log (queue.Tracker n)) r.items) (sym same)
      (messages-longer t.tickets tickets more log (e ∷ []) (line log (queue.Tracker n)) t.mailbox.desk.messages.items s.messages));
  given_back = subst (λ l. Match (λ y m. IsGivenBack (log ++ e ∷ []) y.entry m) l desk.messages.items) (sym q.mailbox)
      (subst (λ r. Match (λ y m. IsGivenBack (log ++ e ∷ []) y.entry m) (line log (queue.Tracker n)) r.items) (sym same)
      (all_given-longer log (e ∷ []) (line log (queue.Tracker n)) t.mailbox.desk.messages.items s.given_back));
  questions = has.questions;
  updates = has.updates;
  sets = has.sets;
  subscribed = subst (Match (IsTicket tickets.updates) t.actor.updates) (sym (update_subscriptions-kept log e n q.no_step))
      (Match-weaker (IsTicket t.tickets.updates) (IsTicket tickets.updates) more.updates t.actor.updates (update_subscriptions log n) s.subscribed);
  subscribed_blocked = subst (Match (IsTicket tickets.blocked) t.actor.sets) (sym (blocked_subscriptions-kept log e n q.no_step))
      (Match-weaker (IsTicket t.tickets.blocked) (IsTicket tickets.blocked) more.blocked t.actor.sets (blocked_subscriptions log n) s.subscribed_blocked);
  rises = subst (λ r. Rises 0 (length desk.sets) (t.actor.sets ++ flat_map blocked_asked r.items)) (sym same) has.rises;
  tickets = has.tickets;
  asked = asked;
  answered = answered;
  fresh = fresh;
  ended = noted_stay log e n t.ended s.ended q.no_end;
  dialer = subst (λ l. Match (λ y a. IsAnswer y.item a) l t.mailbox.dialer) (sym q.dialer) s.dialer;
  heard = subst (HeardStands t.mailbox.heard) (sym q.listener) s.heard;
  handshakes = handshaking-kept log e n t.mailbox.handshakes q.no_admission q.handshakes s.handshakes;
  distinct = s.distinct;
  polled = has.polled;
  told = told;
}

-- an entry that takes, puts and ends nothing leaves each line
pub line_left : (log : List Entry) (e : Entry) → e.takes ≡ [] → e.puts ≡ [] → e.ends ≡ [] → (q : Queue) → line (log ++ e ∷ []) q ≡ line log q
line_left log e takes puts ends q =
    line-kept log e q (ap (λ l. l ++ flat_map ended_item e.ends) takes ∙ ap (flat_map ended_item) ends)
    ∙ (ap (λ l. line log q ++ filter (stands_in q) (placed (length log) 0 l)) puts ∙ append-nil (line log q))

-- ---- what was told is read

-- a queue in which it tells one who asked by an oracle
pub record TellsAsker (n : ℕ) (q : Queue) : Type 0 where
  pub own : is_told n q ≡ true
  pub no_dialer : same_queue q (queue.Dialer n) ≡ false
  pub no_listener : same_queue q (queue.Addresses n) ≡ false
  pub no_handshake : (k : ℕ) → same_queue q (queue.Handshake n k) ≡ false

-- the entry takes the first item of a queue in which it told one who asked by an oracle, and does no more; with this desk, and these
-- were answered then
pub tracker_read : (configs : List Config) (log : List Entry) (e : Entry) (n : ℕ) (t u : Tracker) (q : Queue) (x : Envelope) (rest : List Envelope) (desk : Desk Key) (noted : List (ℕ × Bool)) → TrackerStands configs log n t
    → steps_tracker n e.event.act ≡ false → asks_of n e.event.act ≡ None → ((conn : ℕ) → ends_connection n conn log e ≡ false) → handshakes_of (log ++ e ∷ []) n ≡ handshakes_of log n
    → is_stopped (log ++ e ∷ []) n ≡ is_stopped log n → TakesFirst log e q x rest → e.puts ≡ [] → TellsAsker n q
    → u ≡ record t { mailbox = with_desk t.mailbox desk; answered = noted; told = u.told } → desk.messages ≡ t.mailbox.desk.messages
    → HasDesk n t desk t.tickets t.questions noted u.told t.mailbox.desk.messages.items
    → ((d : ℕ) → asks_at log n d ≡ Some question.PeerSet → is_some (table.at noted d) ≡ was_answered (log ++ e ∷ []) d)
    → AreFresh (log ++ e ∷ []) noted
    → ((p : Queue) → held u.told p ≡ (if same_queue q p then drop 1 (held t.told p) else held t.told p)) → TrackerStands configs (log ++ e ∷ []) n u
tracker_read configs log e n t u q x rest desk noted s no_step no_question no_end no_admission goes_on takes none asker same messages has answered fresh pops =
    subst (TrackerStands configs (log ++ e ∷ []) n) (sym same)
    (tracker_kept configs log e n t desk t.tickets t.questions noted u.told s
    (record {
      no_step = no_step;
      no_end = no_end;
      no_admission = no_admission;
      goes_on = goes_on;
      mailbox = other (queue.Tracker n) (told_apart n n q asker.own);
      dialer = other (queue.Dialer n) asker.no_dialer;
      listener = other (queue.Addresses n) asker.no_listener;
      handshakes = λ k. other (queue.Handshake n k) (asker.no_handshake k);
    })
    (same_tickets t.tickets) messages has
    (λ d. s.asked d ∙ sym (asks_at-kept log e n d no_question)) (λ d is. answered d (sym (asks_at-kept log e n d no_question) ∙ is)) fresh
    (λ p here. pops p ∙ (left p here (same_queue q p) refl ∙ sym (after p))))
  where
    after : (p : Queue) → line (log ++ e ∷ []) p ≡ cond (same_queue q p) rest (line log p)
    after p =
        line-taken log e q x rest p takes.first takes.gone
        ∙ (ap (λ l. cond (same_queue q p) rest (line log p) ++ filter (stands_in p) (placed (length log) 0 l)) none ∙ append-nil (cond (same_queue q p) rest (line log p)))

    other : (p : Queue) → same_queue q p ≡ false → line (log ++ e ∷ []) p ≡ line log p
    other p apart = after p ∙ ap (λ b. cond b rest (line log p)) apart

    left : (p : Queue) → is_told n p ≡ true → (b : Bool) → same_queue q p ≡ b → (if b then drop 1 (held t.told p) else held t.told p) ≡ cond b rest (line log p)
    left p here true is = ap (drop 1) (s.told p here ∙ (ap (line log) (queue_from_same q p is) ∙ takes.first))
    left p here false is = s.told p here

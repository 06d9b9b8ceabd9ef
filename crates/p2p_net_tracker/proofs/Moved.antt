-- A node's tracker after an entry that is neither a step of it nor a question of an oracle: what the entry makes of it, and that it stands for the log then.
use Rattle.std.proofs.Common.{◌≡◌, ℕ, Bool, true, false, cond, List, [], ◌∷◌, ◌++◌, map, length, refl, ap, sym, subst, ◌∙◌, append-nil, Option, Some, None}
use Rattle.std.specs.Prelude.{filter, flat_map, is_some, slice_index_or, if◌then◌else◌}
use Rattle.std.proofs.lemmas.Grind.{flat_map-append}
use Rattle.std.proofs.lemmas.List.{map-append}
use Rattle.p2p_base.specs.declared.key.Key.{Key}
use Rattle.p2p_base.specs.Queue.{has_room}
use Rattle.p2p_tracker.specs.Following.{Follows}
use Rattle.p2p_flow.specs.Provided as posed
use Rattle.p2p_tracker_mailbox.specs.Desk.{Desk, with_message, question_at, updates_at, set_of}
use Rattle.p2p_tracker_mailbox.specs.Lines.{line_of}
use Rattle.p2p_tracker_mailbox.specs.declared.message.Message.{Message}
use Rattle.p2p_log.specs.declared.config.Config.{Config}
use Rattle.p2p_log.specs.declared.queue.Queue.{Queue}
use Rattle.p2p_log.specs.declared.queue.Queue.TheVariants as queue
use Rattle.p2p_log.specs.declared.item.Item.{Item}
use Rattle.p2p_log.specs.declared.item.Envelope.{Envelope}
use Rattle.p2p_log.specs.declared.entry.Entry.{Entry}
use Rattle.p2p_log.specs.Lines.{name_of, placed, stands_in, line}
use Rattle.p2p_log.proofs.Queues.{same_queue-refl}
use Rattle.p2p_log_rules.specs.Connections.{is_ended}
use Rattle.p2p_log_rules.specs.Facts.{stops}
use Rattle.p2p_log_rules.proofs.Channels.{is_stopped-kept}
use Rattle.p2p_log_rules.specs.Handshakes.{is_handshaking}
use Rattle.p2p_log_rules.specs.Tracking.{key_cmp}
use Rattle.p2p_net_queues.specs.Board.{held}
use Rattle.p2p_net_queues.specs.Tables as table
use Rattle.p2p_net_queues.proofs.Going.{put_in}
use Rattle.p2p_net_tracker.specs.AtDesk.{AnswerStands, IsUpdate, SetStands, queue_for, Rises, blocked_asked}
use Rattle.p2p_net_tracker.proofs.AtDesk.{is_polled, polled_for}
use Rattle.p2p_net_tracker.specs.Dialed.{asked_puts, names_asked}
use Rattle.p2p_net_tracker.specs.GivenBack.{IsGivenBack}
use Rattle.p2p_net_tracker.specs.Heeding.{is_noted}
use Rattle.p2p_net_tracker.specs.declared.naming.Tickets.{Tickets}
use Rattle.p2p_net_tracker.specs.declared.tracker.Tracker.{Tracker}
use Rattle.p2p_net_queues.specs.Matching.{Match}
use Rattle.p2p_net_tracker.specs.Stands.{asks_of, is_told, IsTicket, IsMessage, IsAnswer, HeardStands, HandshakeStands, AreDistinct, TrackerStands}
use Rattle.p2p_net_tracker.proofs.Changes.{same_tickets, messages-longer, told_apart, kept_open}
use Rattle.p2p_net_tracker.proofs.Facts.{asks_at-kept, fresh-longer, was_answered-kept, calls-kept, update_subscriptions-kept, blocked_subscriptions-kept}
use Rattle.p2p_net_queues.proofs.Matching.{Match-append}
use Rattle.p2p_net_tracker.proofs.GivenBack.{all_given-longer}
use Rattle.p2p_log_rules.proofs.Steps.{steps_tracker}
use Rattle.p2p_log_rules.proofs.Answers.{takes_answer}

-- what the entry makes of the tracker: these messages wait in these envelopes beside those before
pub record TrackerMoves (log : List Entry) (e : Entry) (n : ℕ) (t u : Tracker) (xs : List Envelope) (ms : List (Message Key)) : Type 0 where
  pub no_step : steps_tracker n e.event.act ≡ false
  pub no_question : asks_of n e.event.act ≡ None
  pub no_answer : (d : ℕ) → takes_answer d e.event.act e.reply ≡ false
  pub goes_on : stops n e.event.act ≡ false
  pub rest : u ≡ record t { mailbox = u.mailbox; names = t.names ++ map name_of xs; ended = u.ended; told = u.told }
  pub ended : (conn : ℕ) → is_noted u.ended conn ≡ is_ended (log ++ e ∷ []) n conn
  -- what waits for it
  pub items : u.mailbox.desk.messages.items ≡ t.mailbox.desk.messages.items ++ ms
  pub closed : u.mailbox.desk.messages.closed ≡ t.mailbox.desk.messages.closed
  pub capacity : u.mailbox.desk.messages.capacity ≡ t.mailbox.desk.messages.capacity
  pub questions : u.mailbox.desk.questions ≡ t.mailbox.desk.questions
  pub updates : u.mailbox.desk.updates ≡ t.mailbox.desk.updates
  pub sets : u.mailbox.desk.sets ≡ t.mailbox.desk.sets
  pub none_asked : flat_map blocked_asked ms ≡ []
  pub each : Match (λ x m. IsMessage t.tickets (log ++ e ∷ []) x.item m) xs ms
  pub given : Match (λ x m. IsGivenBack (log ++ e ∷ []) x.entry m) xs ms
  pub waits : line (log ++ e ∷ []) (queue.Tracker n) ≡ line log (queue.Tracker n) ++ xs
  -- what it told: nothing to those who asked by the oracle
  pub asked_told : (p : Queue) → is_polled p ≡ true → held u.told p ≡ held t.told p
  pub dialer : Match (λ x a. IsAnswer x.item a) (line (log ++ e ∷ []) (queue.Dialer n)) u.mailbox.dialer
  pub heard : HeardStands u.mailbox.heard (line (log ++ e ∷ []) (queue.Addresses n))
  pub handshakes : (k : ℕ) → HandshakeStands (line_of u.mailbox.handshakes k) (is_handshaking (log ++ e ∷ []) n k) (line (log ++ e ∷ []) (queue.Handshake n k))
  pub distinct : AreDistinct u.mailbox.handshakes
  pub told : (p : Queue) → is_told n p ≡ true → held u.told p ≡ line (log ++ e ∷ []) p

pub tracker_moved : (configs : List Config) (log : List Entry) (e : Entry) (n : ℕ) (t u : Tracker) (xs : List Envelope) (ms : List (Message Key)) → TrackerStands configs log n t → TrackerMoves log e n t u xs ms
    → TrackerStands configs (log ++ e ∷ []) n u
tracker_moved configs log e n t u xs ms s q =
    subst (TrackerStands configs (log ++ e ∷ []) n) (sym q.rest) (record {
      follows = subst (Follows key_cmp t.actor.directory t.actor.controls) (sym (calls-kept configs log e n q.no_step)) s.follows;
      rules = s.rules;
      cooldown = s.cooldown;
      works = s.works;
      local = s.local;
      most = s.most;
      closed = q.closed ∙ (s.closed ∙ sym (is_stopped-kept log e n q.goes_on));
      size = q.capacity ∙ s.size;
      names = ap (λ l. l ++ map name_of xs) s.names ∙ (sym (map-append name_of (line log (queue.Tracker n)) xs) ∙ ap (map name_of) (sym q.waits));
      messages = subst (λ l. Match (λ x m. IsMessage t.tickets (log ++ e ∷ []) x.item m) l u.mailbox.desk.messages.items) (sym q.waits)
          (subst (Match (λ (x : Envelope) m. IsMessage t.tickets (log ++ e ∷ []) x.item m) (line log (queue.Tracker n) ++ xs)) (sym q.items)
          (Match-append (λ (x : Envelope) m. IsMessage t.tickets (log ++ e ∷ []) x.item m) (line log (queue.Tracker n)) xs t.mailbox.desk.messages.items ms
          (messages-longer t.tickets t.tickets (same_tickets t.tickets) log (e ∷ []) (line log (queue.Tracker n)) t.mailbox.desk.messages.items s.messages) q.each));
      given_back = subst (λ l. Match (λ x m. IsGivenBack (log ++ e ∷ []) x.entry m) l u.mailbox.desk.messages.items) (sym q.waits)
          (subst (Match (λ (x : Envelope) m. IsGivenBack (log ++ e ∷ []) x.entry m) (line log (queue.Tracker n) ++ xs)) (sym q.items)
          (Match-append (λ (x : Envelope) m. IsGivenBack (log ++ e ∷ []) x.entry m) (line log (queue.Tracker n)) xs t.mailbox.desk.messages.items ms
          (all_given-longer log (e ∷ []) (line log (queue.Tracker n)) t.mailbox.desk.messages.items s.given_back) q.given));
      questions = ap length q.questions ∙ s.questions;
      updates = ap length q.updates ∙ s.updates;
      sets = ap length q.sets ∙ s.sets;
      subscribed = subst (Match (IsTicket t.tickets.updates) t.actor.updates) (sym (update_subscriptions-kept log e n q.no_step)) s.subscribed;
      subscribed_blocked = subst (Match (IsTicket t.tickets.blocked) t.actor.sets) (sym (blocked_subscriptions-kept log e n q.no_step)) s.subscribed_blocked;
      rises = subst (λ l. Rises 0 (length u.mailbox.desk.sets) (t.actor.sets ++ l))
          (sym (ap (flat_map blocked_asked) q.items ∙ (flat_map-append blocked_asked t.mailbox.desk.messages.items ms ∙ (ap (λ l. flat_map blocked_asked t.mailbox.desk.messages.items ++ l) q.none_asked ∙ append-nil (flat_map blocked_asked t.mailbox.desk.messages.items)))))
          (subst (λ l. Rises 0 (length l) (t.actor.sets ++ flat_map blocked_asked t.mailbox.desk.messages.items)) (sym q.sets) s.rises);
      tickets = s.tickets;
      asked = λ d. s.asked d ∙ sym (asks_at-kept log e n d q.no_question);
      answered = λ d is. s.answered d (sym (asks_at-kept log e n d q.no_question) ∙ is) ∙ sym (was_answered-kept log e d (q.no_answer d));
      fresh = fresh-longer log e t.answered s.fresh (λ d past. q.no_answer d);
      ended = q.ended;
      dialer = q.dialer;
      heard = q.heard;
      handshakes = q.handshakes;
      distinct = q.distinct;
      polled = record {
        answers = λ k d is.
            subst (λ l. AnswerStands (slice_index_or l k posed.given) (is_some (table.at t.answered d)) (held u.told (queue.PeerSet n d))) (sym q.questions)
            (subst (AnswerStands (question_at t.mailbox.desk k) (is_some (table.at t.answered d))) (sym (q.asked_told (queue.PeerSet n d) refl)) (s.polled.answers k d is));
        updates = λ k d is.
            subst (λ l. Match IsUpdate (held u.told (queue.PeerSetUpdates n d)) (slice_index_or l k [])) (sym q.updates)
            (subst (λ l. Match IsUpdate l (updates_at t.mailbox.desk k)) (sym (q.asked_told (queue.PeerSetUpdates n d) refl)) (s.polled.updates k d is));
        sets = λ k d is.
            subst (λ l. SetStands (slice_index_or l k None) (held u.told (queue.Blocked n d))) (sym q.sets)
            (subst (SetStands (set_of t.mailbox.desk k)) (sym (q.asked_told (queue.Blocked n d) refl)) (s.polled.sets k d is));
        none = λ kind d no. q.asked_told (queue_for n kind d) (polled_for n kind d) ∙ s.polled.none kind d no;
      };
      told = q.told;
    })

-- what a board holds and a line change alike
pub by_place : (f : List Envelope → List Envelope) (b : Bool) (h l : List Envelope) → h ≡ l → (if b then f h else h) ≡ cond b (f l) l
by_place f true h l is = ap f is
by_place f false h l is = is

-- ---- something may be asked of it, by the entry k

-- it waits under the name of the entry
abbrev pub asked_line : ℕ → ℕ → Option Item → List Envelope
asked_line n k None = []
asked_line n k (Some i) = record { entry = k; place = 0; queue = queue.Tracker n; item = i } ∷ []

pub names_are : (n k : ℕ) (asked : Option Item) → map name_of (asked_line n k asked) ≡ names_asked k asked
names_are n k None = refl
names_are n k (Some i) = refl

-- an entry that asks this puts it in the mailbox, and nothing where the tracker tells something
pub asked_in : (log : List Entry) (e : Entry) (n : ℕ) (asked : Option Item) → e.puts ≡ asked_puts n asked → put_in log e (queue.Tracker n) ≡ asked_line n (length log) asked
asked_in log e n asked is = ap (λ l. filter (stands_in (queue.Tracker n)) (placed (length log) 0 l)) is ∙ by asked
  where
    by : (o : Option Item) → filter (stands_in (queue.Tracker n)) (placed (length log) 0 (asked_puts n o)) ≡ asked_line n (length log) o
    by None = refl
    by (Some i) = ap (λ b. cond b (asked_line n (length log) (Some i)) []) (same_queue-refl (queue.Tracker n))

pub asked_quiet : (log : List Entry) (e : Entry) (n : ℕ) (asked : Option Item) → e.puts ≡ asked_puts n asked → (p : Queue) → is_told n p ≡ true → put_in log e p ≡ []
asked_quiet log e n asked is p own = ap (λ l. filter (stands_in p) (placed (length log) 0 l)) is ∙ by asked
  where
    by : (o : Option Item) → filter (stands_in p) (placed (length log) 0 (asked_puts n o)) ≡ []
    by None = refl
    by (Some i) = ap (λ b. cond b (asked_line n (length log) (Some i)) []) (told_apart n n p own)

-- as a message in the mailbox
abbrev pub asked_messages : Option (Message Key) → List (Message Key)
asked_messages None = []
asked_messages (Some m) = m ∷ []

abbrev pub asked_desk : Desk Key → Option (Message Key) → Desk Key
asked_desk d None = d
asked_desk d (Some m) = with_message d m

-- the message is that of the item
abbrev pub IsAsked : Tickets → List Entry → Option Item → Option (Message Key) → Type 0
IsAsked t log None None = Unit {0}
IsAsked t log (Some i) (Some m) = IsMessage t log i m
IsAsked t log _ _ = ⊥

pub asked_match : (t : Tickets) (log : List Entry) (n k : ℕ) (asked : Option Item) (put : Option (Message Key)) → IsAsked t log asked put
    → Match (λ x m. IsMessage t log x.item m) (asked_line n k asked) (asked_messages put)
asked_match t log n k None None h = tt
asked_match t log n k (Some i) (Some m) h = (h, tt)
asked_match t log n k None (Some m) h = absurd h
asked_match t log n k (Some i) None h = absurd h

-- what it gives back is of the side that the entry tells
abbrev pub IsAskedBack : List Entry → ℕ → Option (Message Key) → Type 0
IsAskedBack log k None = Unit {0}
IsAskedBack log k (Some m) = IsGivenBack log k m

pub asked_back : (t : Tickets) (log later : List Entry) (n k : ℕ) (asked : Option Item) (put : Option (Message Key)) → IsAsked t log asked put → IsAskedBack later k put
    → Match (λ x m. IsGivenBack later x.entry m) (asked_line n k asked) (asked_messages put)
asked_back t log later n k None None h given = tt
asked_back t log later n k (Some i) (Some m) h given = (given, tt)
asked_back t log later n k None (Some m) h given = absurd h
asked_back t log later n k (Some i) None h given = absurd h

-- a desk with these messages more
pub record GrowsDesk (old new : Desk Key) (ms : List (Message Key)) : Type 0 where
  pub items : new.messages.items ≡ old.messages.items ++ ms
  pub closed : new.messages.closed ≡ old.messages.closed
  pub capacity : new.messages.capacity ≡ old.messages.capacity
  pub questions : new.questions ≡ old.questions
  pub updates : new.updates ≡ old.updates
  pub sets : new.sets ≡ old.sets

pub desk_grows : (d : Desk Key) (put : Option (Message Key)) → (is_some put ≡ true → d.messages.closed ≡ false) → GrowsDesk d (asked_desk d put) (asked_messages put)
desk_grows d None is_open = record { items = sym (append-nil d.messages.items); closed = refl; capacity = refl; questions = refl; updates = refl; sets = refl }
desk_grows d (Some m) is_open =
    record { items = kept_open d.messages.closed (has_room d.messages) d.messages.items m (is_open refl); closed = refl; capacity = refl; questions = refl; updates = refl; sets = refl }

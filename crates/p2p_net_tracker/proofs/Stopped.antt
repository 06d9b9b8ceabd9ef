-- A node's tracker while its node stops, and once it has stopped.
use Rattle.std.proofs.Common.{◌≡◌, ℕ, ◌≤◌, Bool, true, false, List, [], ◌∷◌, ◌++◌, map, length, length-append, append-nil, eq-eqb, refl, ap, sym, subst, ◌∙◌, arith, Option, Some, None}
use Rattle.std.specs.Prelude.{◌==◌, filter, flat_map, is_some, if◌then◌else◌}
use Rattle.std.specs.List.{IsDistinct, list_any}
use Rattle.p2p_base.specs.declared.key.Key.{Key}
use Rattle.p2p_tracker.specs.Following.{Follows}
use Rattle.p2p_tracker_mailbox.specs.Desk.{question_at, updates_at, set_of}
use Rattle.p2p_tracker_mailbox.specs.Lines.{line_of}
use Rattle.p2p_tracker_mailbox.specs.Mailboxes.{closed_mailbox}
use Rattle.p2p_tracker_mailbox.specs.declared.answer.HandshakeItem.{HandshakeItem}
use Rattle.p2p_log.specs.declared.config.Config.{Config}
use Rattle.p2p_log.specs.declared.queue.Queue.{Queue}
use Rattle.p2p_log.specs.declared.queue.Queue.TheVariants as queue
use Rattle.p2p_log.specs.declared.item.Envelope.{Envelope}
use Rattle.p2p_log.specs.declared.end.End.TheVariants as end
use Rattle.p2p_log.specs.declared.entry.Entry.{Entry}
use Rattle.p2p_log.specs.Apart.{AreApart}
use Rattle.p2p_log.specs.Lines.{name_of, stands_in, stays, live, line}
use Rattle.p2p_log.specs.QueueCode.{same_queue}
use Rattle.p2p_log.proofs.Queues.{same_queue-sym}
use Rattle.p2p_log.proofs.QueueNames.{queue_from_same}
use Rattle.p2p_log_rules.specs.Attempting.{left_ends}
use Rattle.p2p_log_rules.specs.Connections.{is_ended}
use Rattle.p2p_log_rules.specs.Facts.{is_stopped}
use Rattle.p2p_log_rules.specs.Handshakes.{is_handshaking}
use Rattle.p2p_log_rules.specs.Tracking.{key_cmp, calls_of, update_subscriptions, blocked_subscriptions}
use Rattle.p2p_log_rules.specs.TrackerRows.{was_answered}
use Rattle.p2p_log_rules.proofs.Answers.{takes_answer}
use Rattle.p2p_log_rules.proofs.Steps.{steps_tracker}
use Rattle.p2p_log_rules.proofs.Channels.{IsStopOf, is_stopped-stops}
use Rattle.p2p_log_rules.proofs.Handshakes.{handshakes_of-stopped}
use Rattle.p2p_log_rules.proofs.Left.{without, line_gone, line_kept}
use Rattle.p2p_net_queues.specs.Board.{held}
use Rattle.p2p_net_queues.specs.Tables as table
use Rattle.p2p_net_queues.specs.Matching.{Match}
use Rattle.p2p_net_queues.specs.Rows.{item_ends}
use Rattle.p2p_net_tracker.specs.GivenBack.{IsGivenBack}
use Rattle.p2p_net_tracker.specs.Heeding.{is_noted}
use Rattle.p2p_net_tracker.specs.Stands.{asks_of, asks_at, is_told, IsTicket, IsMessage, IsAnswer, HandshakeStands, AreDistinct, TrackerStands}
use Rattle.p2p_net_tracker.specs.Stopping.{TrackerLeft}
use Rattle.p2p_net_tracker.specs.AtDesk.{AnswerStands, IsUpdate, SetStands, queue_for, Rises, blocked_asked}
use Rattle.p2p_net_tracker.specs.declared.question.Question.{Question}
use Rattle.p2p_net_tracker.specs.declared.question.Question.TheVariants as question
use Rattle.p2p_net_tracker.specs.declared.tracker.Tracker.{Tracker}
use Rattle.p2p_net_tracker.proofs.AtDesk.{is_polled, polled_for}
use Rattle.p2p_net_tracker.proofs.SetsOnce.{rises_first}
use Rattle.p2p_net_tracker.proofs.Changes.{told_apart}
use Rattle.p2p_net_tracker.proofs.Facts.{asks_at-kept, was_answered-kept, calls-kept, update_subscriptions-kept, blocked_subscriptions-kept}

-- ---- what is left while the node's queues are emptied, one after another

-- all of it before
pub tracker_left_of : (configs : List Config) (log : List Entry) (n : ℕ) (t : Tracker) → TrackerStands configs log n t → TrackerLeft n t (live log)
unfolding line
tracker_left_of configs log n t s = record { names = s.names; told = s.told }

-- the tracker tells something in the one queue and not in the other
told_elsewhere : (n : ℕ) (q p : Queue) → is_told n q ≡ false → is_told n p ≡ true → same_queue q p ≡ false
told_elsewhere n q p other own = by (same_queue q p) refl
  where
    by : (b : Bool) → same_queue q p ≡ b → b ≡ false
    by false is = refl
    by true is = let own_here : is_told n q ≡ true = ap (is_told n) (sym (queue_from_same q p is)) ∙ own in cc

-- another's queue is emptied
pub tracker_left_other : (n : ℕ) (t : Tracker) (items : List Envelope) (q : Queue) → same_queue (queue.Tracker n) q ≡ false → is_told n q ≡ false → AreApart items → TrackerLeft n t items
    → TrackerLeft n t (filter (stays (map name_of (filter (stands_in q) items))) items)
tracker_left_other n t items q mailbox other apart l = record {
  names = l.names ∙ ap (map name_of) (sym (line_kept q (queue.Tracker n) items apart (same_queue-sym q (queue.Tracker n) ∙ mailbox)));
  told = λ p own. l.told p own ∙ sym (line_kept q p items apart (told_elsewhere n q p other own));
}

-- by their names these are the ends of items
names_end : (xs : List Envelope) → item_ends (map name_of xs) ≡ left_ends xs
names_end [] = refl
names_end (x ∷ xs) = ap (λ l. end.Item x.entry x.place ∷ l) (names_end xs)

-- its mailbox is emptied
pub mailbox_left : (n : ℕ) (old : Tracker) (items : List Envelope) → TrackerLeft n old items → AreApart items
    → TrackerLeft n (record old { names = [] }) (filter (stays (map name_of (filter (stands_in (queue.Tracker n)) items))) items)
    × (item_ends old.names ≡ left_ends (filter (stands_in (queue.Tracker n)) items))
mailbox_left n old items l apart =
    let mine = queue.Tracker n in (
      record {
        names = sym (ap (map name_of) (line_gone items mine));
        told = λ p own. l.told p own ∙ sym (line_kept mine p items apart (same_queue-sym mine p ∙ told_apart n n p own));
      },
      ap item_ends l.names ∙ names_end (filter (stands_in mine) items),
    )

-- a queue in which it told something is emptied
pub queue_left : (n : ℕ) (old new : Tracker) (items : List Envelope) (q : Queue) → is_told n q ≡ true
    → ((p : Queue) → held new.told p ≡ (if same_queue q p then [] else held old.told p)) → new ≡ record old { told = new.told }
    → TrackerLeft n old items → AreApart items
    → TrackerLeft n new (filter (stays (map name_of (filter (stands_in q) items))) items)
    × (left_ends (held old.told q) ≡ left_ends (filter (stands_in q) items))
queue_left n old new items q own ended rest l apart = (
  record {
    names = ap (λ (t : Tracker). t.names) rest ∙ (l.names ∙ ap (map name_of) (sym (line_kept q (queue.Tracker n) items apart (told_apart n n q own))));
    told = λ p here. ended p ∙ by p here (same_queue q p) refl;
  },
  ap left_ends (l.told q own),
)
  where
    by : (p : Queue) → is_told n p ≡ true → (b : Bool) → same_queue q p ≡ b → (if b then [] else held old.told p) ≡ filter (stands_in p) (without q items)
    by p here true is = sym (ap (λ r. filter (stands_in r) (without q items)) (queue_from_same q p is) ∙ line_gone items q)
    by p here false is = l.told p here ∙ sym (line_kept q p items apart is)

-- nothing else of it counts there
pub tracker_left_kept : (n : ℕ) (old new : Tracker) (items : List Envelope) → new.names ≡ old.names → new.told ≡ old.told → TrackerLeft n old items → TrackerLeft n new items
tracker_left_kept n old new items names told l = record {
  names = names ∙ l.names;
  told = λ p own. ap (λ b. held b p) told ∙ l.told p own;
}

-- ---- once it has stopped

-- the new tracker is the old one, of which the mailbox has closed
pub record IsEmptied (old new : Tracker) : Type 0 where
  pub actor : new.actor ≡ old.actor
  pub mailbox : new.mailbox ≡ closed_mailbox old.mailbox
  pub oracle : new.oracle ≡ old.oracle
  pub names : new.names ≡ []
  pub tickets : new.tickets ≡ old.tickets
  pub questions : new.questions ≡ old.questions
  pub answered : new.answered ≡ old.answered

pub emptied_by : (old new : Tracker) → new ≡ record old { mailbox = closed_mailbox old.mailbox; names = []; ended = new.ended; told = new.told } → IsEmptied old new
emptied_by old new is = record {
  actor = ap (λ (t : Tracker). t.actor) is;
  mailbox = ap (λ (t : Tracker). t.mailbox) is;
  oracle = ap (λ (t : Tracker). t.oracle) is;
  names = ap (λ (t : Tracker). t.names) is;
  tickets = ap (λ (t : Tracker). t.tickets) is;
  questions = ap (λ (t : Tracker). t.questions) is;
  answered = ap (λ (t : Tracker). t.answered) is;
}

-- what an entry leaves that stops the node, by the log
pub record StopsTracker (configs : List Config) (log : List Entry) (e : Entry) (n : ℕ) : Type 0 where
  pub over : is_stopped (log ++ e ∷ []) n ≡ true
  pub calls : calls_of configs (log ++ e ∷ []) n ≡ calls_of configs log n
  pub updates : update_subscriptions (log ++ e ∷ []) n ≡ update_subscriptions log n
  pub sets : blocked_subscriptions (log ++ e ∷ []) n ≡ blocked_subscriptions log n
  pub asked : (d : ℕ) → asks_at (log ++ e ∷ []) n d ≡ asks_at log n d
  pub answered : (d : ℕ) → was_answered (log ++ e ∷ []) d ≡ was_answered log d
  pub mailbox : line (log ++ e ∷ []) (queue.Tracker n) ≡ []
  pub listener : line (log ++ e ∷ []) (queue.Addresses n) ≡ []
  pub dialer : line (log ++ e ∷ []) (queue.Dialer n) ≡ []
  pub handshakes : (k : ℕ) → line (log ++ e ∷ []) (queue.Handshake n k) ≡ []
  pub polled : (q : Queue) → is_polled q ≡ true → line (log ++ e ∷ []) q ≡ line log q
  pub no_handshake : (k : ℕ) → is_handshaking (log ++ e ∷ []) n k ≡ false

-- its lines are left to show
pub stop_leaves : (configs : List Config) (log : List Entry) (e : Entry) (n : ℕ) → IsStopOf log e n
    → line (log ++ e ∷ []) (queue.Tracker n) ≡ [] → line (log ++ e ∷ []) (queue.Addresses n) ≡ [] → line (log ++ e ∷ []) (queue.Dialer n) ≡ []
    → ((k : ℕ) → line (log ++ e ∷ []) (queue.Handshake n k) ≡ []) → ((q : Queue) → is_polled q ≡ true → line (log ++ e ∷ []) q ≡ line log q) → StopsTracker configs log e n
stop_leaves configs log e n stop mailbox listener dialer handshakes polled =
    let no_step : steps_tracker n e.event.act ≡ false = ap (steps_tracker n) stop.acts in
    record {
      over = is_stopped-stops log e n stop.by_start stop.acts;
      calls = calls-kept configs log e n no_step;
      updates = update_subscriptions-kept log e n no_step;
      sets = blocked_subscriptions-kept log e n no_step;
      asked = λ d. asks_at-kept log e n d (ap (asks_of n) stop.acts);
      answered = λ d. was_answered-kept log e d (ap (λ a. takes_answer d a e.reply) stop.acts);
      mailbox = mailbox;
      listener = listener;
      dialer = dialer;
      handshakes = handshakes;
      polled = polled;
      no_handshake = λ k. ap (list_any (λ j. k == j)) (handshakes_of-stopped log e n stop);
    }

-- nothing waits for a handshake that does not run
pub none_waits : (configs : List Config) (log : List Entry) (n k : ℕ) (t : Tracker) → TrackerStands configs log n t → is_handshaking log n k ≡ false → line log (queue.Handshake n k) ≡ []
none_waits configs log n k t s rests = by (line_of t.mailbox.handshakes k) (s.handshakes k)
  where
    by : (o : Option (List (HandshakeItem Key))) → HandshakeStands o (is_handshaking log n k) (line log (queue.Handshake n k)) → line log (queue.Handshake n k) ≡ []
    by None h = h.1
    by (Some items) h = let runs : is_handshaking log n k ≡ true = h.0 in cc

none_distinct : AreDistinct []
unfolding IsDistinct
none_distinct = tt

-- the tracker as a whole
whole : (old new : Tracker) → IsEmptied old new → new ≡ record old { mailbox = closed_mailbox old.mailbox; names = []; ended = new.ended; told = new.told }
whole old new i =
    ap (λ x. record new { actor = x }) i.actor
    ∙ (ap (λ x. record new { actor = old.actor; mailbox = x }) i.mailbox
    ∙ (ap (λ x. record new { actor = old.actor; mailbox = closed_mailbox old.mailbox; oracle = x }) i.oracle
    ∙ (ap (λ x. record new { actor = old.actor; mailbox = closed_mailbox old.mailbox; oracle = old.oracle; names = x }) i.names
    ∙ (ap (λ x. record new { actor = old.actor; mailbox = closed_mailbox old.mailbox; oracle = old.oracle; names = []; tickets = x }) i.tickets
    ∙ (ap (λ x. record old { mailbox = closed_mailbox old.mailbox; names = []; questions = x; answered = new.answered; ended = new.ended; told = new.told }) i.questions
    ∙ ap (λ x. record old { mailbox = closed_mailbox old.mailbox; names = []; answered = x; ended = new.ended; told = new.told }) i.answered)))))

-- it stands as one that runs
pub tracker_stopped : (configs : List Config) (log : List Entry) (e : Entry) (n : ℕ) (old new : Tracker) → TrackerStands configs log n old → IsEmptied old new → TrackerLeft n new (live (log ++ e ∷ []))
    → StopsTracker configs log e n → ((conn : ℕ) → is_noted new.ended conn ≡ is_ended (log ++ e ∷ []) n conn) → TrackerStands configs (log ++ e ∷ []) n new
unfolding line
tracker_stopped configs log e n old new s is left q ended =
    let t = old in
    subst (TrackerStands configs (log ++ e ∷ []) n) (sym (whole old new is)) (record {
      follows = subst (Follows key_cmp t.actor.directory t.actor.controls) (sym q.calls) s.follows;
      rules = s.rules;
      cooldown = s.cooldown;
      works = s.works;
      local = s.local;
      most = s.most;
      closed = sym q.over;
      size = s.size;
      names = sym (ap (map name_of) q.mailbox);
      messages = subst (λ l. Match (λ x m. IsMessage t.tickets (log ++ e ∷ []) x.item m) l []) (sym q.mailbox) tt;
      given_back = subst (λ l. Match (λ x m. IsGivenBack (log ++ e ∷ []) x.entry m) l []) (sym q.mailbox) tt;
      questions = s.questions;
      updates = s.updates;
      sets = s.sets;
      subscribed = subst (Match (IsTicket t.tickets.updates) t.actor.updates) (sym q.updates) s.subscribed;
      subscribed_blocked = subst (Match (IsTicket t.tickets.blocked) t.actor.sets) (sym q.sets) s.subscribed_blocked;
      rises = subst (Rises 0 (length t.mailbox.desk.sets)) (sym (append-nil t.actor.sets)) (rises_first 0 (length t.mailbox.desk.sets) t.actor.sets (flat_map blocked_asked t.mailbox.desk.messages.items) s.rises);
      tickets = s.tickets;
      asked = λ d. s.asked d ∙ sym (q.asked d);
      answered = λ d wants. s.answered d (sym (q.asked d) ∙ wants) ∙ sym (q.answered d);
      fresh = λ d past.
          let long = length-append log (e ∷ []) in
          let before : length log ≤ d = omega (arith, long) in
          let was = s.fresh d before in
          (was.0, q.answered d ∙ was.1);
      ended = ended;
      dialer = subst (λ l. Match (λ x a. IsAnswer x.item a) l []) (sym q.dialer) tt;
      heard = q.listener;
      handshakes = λ k. (q.no_handshake k, q.handshakes k);
      distinct = none_distinct;
      polled = record {
        answers = λ k d is. subst (AnswerStands (question_at t.mailbox.desk k) (is_some (table.at t.answered d))) (sym (same (queue.PeerSet n d) refl (eq-eqb n n refl))) (s.polled.answers k d is);
        updates = λ k d is. subst (λ l. Match IsUpdate l (updates_at t.mailbox.desk k)) (sym (same (queue.PeerSetUpdates n d) refl (eq-eqb n n refl))) (s.polled.updates k d is);
        sets = λ k d is. subst (SetStands (set_of t.mailbox.desk k)) (sym (same (queue.Blocked n d) refl (eq-eqb n n refl))) (s.polled.sets k d is);
        none = λ kind d no. same (queue_for n kind d) (polled_for n kind d) (own_for n kind d) ∙ s.polled.none kind d no;
      };
      told = left.told;
    })
  where
    own_for : (n : ℕ) (kind : Question) (d : ℕ) → is_told n (queue_for n kind d) ≡ true
    own_for n question.PeerSet d = eq-eqb n n refl
    own_for n question.Updates d = eq-eqb n n refl
    own_for n question.Blocked d = eq-eqb n n refl

    -- what waits for those who asked stays
    same : (p : Queue) → is_polled p ≡ true → is_told n p ≡ true → held new.told p ≡ held old.told p
    same p asked own = left.told p own ∙ (q.polled p asked ∙ sym (s.told p own))

-- A step of a handshake of a node's listener takes the oldest of what it was told, or the handshake ends, and it may ask the tracker something: the tracker stands for the log with that entry.
use Rattle.std.proofs.Common.{◌≡◌, ℕ, Bool, true, false, cond, List, [], ◌∷◌, ◌++◌, drop, length, refl, ap, sym, subst, ◌∙◌, arith, eq-eqb, Option, Some, None}
use Rattle.std.specs.Prelude.{◌==◌, ◌&&◌, not, if◌then◌else◌, flat_map}
use Rattle.std.specs.BTreeMap.{is_at}
use Rattle.std.specs.List.{list_any}
use Rattle.std.specs.Option.{option_map}
use Rattle.std.specs.Ordering.{nat_cmp}
use Rattle.std.proofs.lemmas.Bool.Decides.{nat_tests}
use Rattle.std.proofs.lemmas.Cmp.{eq_by_cmp_equiv, nat_cmp_total}
use Rattle.std.proofs.lemmas.Map.{lookup-remove_entry}
use Rattle.p2p_base.specs.declared.key.Key.{Key}
use Rattle.p2p_tracker_mailbox.specs.Lines.{Lines, line_of, with_line, ended}
use Rattle.p2p_tracker_mailbox.specs.declared.answer.HandshakeItem.{HandshakeItem}
use Rattle.p2p_tracker_mailbox.specs.declared.message.Message.{Message}
use Rattle.p2p_tracker_mailbox.proofs.Lines.{line_of-with_line}
use Rattle.p2p_log.specs.declared.config.Config.{Config}
use Rattle.p2p_log.specs.declared.queue.Queue.{Queue}
use Rattle.p2p_log.specs.declared.queue.Queue.TheVariants as queue
use Rattle.p2p_log.specs.declared.item.Item.{Item}
use Rattle.p2p_log.specs.declared.item.Envelope.{Envelope}
use Rattle.p2p_log.specs.declared.entry.Entry.{Entry}
use Rattle.p2p_log.specs.QueueCode.{same_queue}
use Rattle.p2p_log.specs.Lines.{line}
use Rattle.p2p_log_rules.specs.Connections.{ends_connection}
use Rattle.p2p_log_rules.specs.Facts.{is_stopped, stops}
use Rattle.p2p_log_rules.specs.Handshakes.{handshakes_of, is_handshaking}
use Rattle.p2p_log_rules.proofs.Handshakes.{without_name, among-without}
use Rattle.p2p_net_queues.specs.Board.{held}
use Rattle.p2p_net_tracker.specs.AtDesk.{blocked_asked}
use Rattle.p2p_net_tracker.specs.Dialed.{names_asked}
use Rattle.p2p_net_tracker.specs.declared.tracker.Tracker.{Tracker}
use Rattle.p2p_net_queues.specs.Matching.{Match}
use Rattle.p2p_net_tracker.specs.Stands.{asks_of, is_told, IsAnswer, HeardStands, IsToldHandshake, HandshakeStands, AreDistinct, TrackerStands}
use Rattle.p2p_net_tracker.proofs.Distinct.{distinct-with_line}
use Rattle.p2p_net_tracker.proofs.Ended.{noted_stay}
use Rattle.p2p_net_queues.proofs.Matching.{Match-drop}
use Rattle.p2p_net_tracker.proofs.AtDesk.{polled_apart}
use Rattle.p2p_net_tracker.proofs.Moved.{tracker_moved, by_place, asked_line, names_are, asked_messages, asked_desk, IsAsked, asked_match, IsAskedBack, asked_back, desk_grows}
use Rattle.p2p_log_rules.proofs.Steps.{steps_tracker}
use Rattle.p2p_log_rules.proofs.Answers.{takes_answer}

-- what is left for a handshake of which a step took its oldest item, or which ended
abbrev pub after_step : Bool → Option (List (HandshakeItem Key)) → Option (List (HandshakeItem Key))
after_step true o = None
after_step false o = option_map (drop 1) o

abbrev pub left_after : Bool → List Envelope → List Envelope
left_after true l = []
left_after false l = drop 1 l

-- what a step of the handshake h makes of the tracker, which took its oldest item or ended, and asked this with this message
pub record HandshakeMoves (log : List Entry) (e : Entry) (n h : ℕ) (t u : Tracker) (ended : Bool) (asked : Option Item) (put : Option (Message Key)) : Type 0 where
  pub no_step : steps_tracker n e.event.act ≡ false
  pub no_question : asks_of n e.event.act ≡ None
  pub no_answer : (d : ℕ) → takes_answer d e.event.act e.reply ≡ false
  pub goes_on : stops n e.event.act ≡ false
  pub no_end : (conn : ℕ) → ends_connection n conn log e ≡ false
  pub names : handshakes_of (log ++ e ∷ []) n ≡ cond ended (without_name h (handshakes_of log n)) (handshakes_of log n)
  pub rest : u ≡ record t { mailbox = record t.mailbox { desk = asked_desk t.mailbox.desk put; handshakes = u.mailbox.handshakes }; names = t.names ++ names_asked (length log) asked; told = u.told }
  pub waiting : (k : ℕ) → line_of u.mailbox.handshakes k ≡ cond (k == h) (after_step ended (line_of t.mailbox.handshakes h)) (line_of t.mailbox.handshakes k)
  pub distinct : AreDistinct u.mailbox.handshakes
  pub lasts : is_stopped log n ≡ false
  pub none_asked : flat_map blocked_asked (asked_messages put) ≡ []
  pub says : IsAsked t.tickets (log ++ e ∷ []) asked put
  pub given : IsAskedBack (log ++ e ∷ []) (length log) put
  pub mailbox : line (log ++ e ∷ []) (queue.Tracker n) ≡ line log (queue.Tracker n) ++ asked_line n (length log) asked
  pub lines : (p : Queue) → is_told n p ≡ true → line (log ++ e ∷ []) p ≡ cond (same_queue (queue.Handshake n h) p) (left_after ended (line log p)) (line log p)
  pub told : (p : Queue) → held u.told p ≡ (if same_queue (queue.Handshake n h) p then left_after ended (held t.told p) else held t.told p)

-- of one handshake, which may be the one of the step
stepped_stands : (ended here : Bool) (o : Option (List (HandshakeItem Key))) (b : Bool) (l : List Envelope) → HandshakeStands o b l
    → HandshakeStands (cond here (after_step ended o) o) (cond ended (not here && b) b) (cond here (left_after ended l) l)
stepped_stands true true o b l h = (refl, refl)
stepped_stands true false o b l h = h
stepped_stands false false o b l h = h
stepped_stands false true None b l h = (h.0, ap (drop 1) h.1)
stepped_stands false true (Some items) b l h = (h.0, Match-drop (λ (x : Envelope) i. IsToldHandshake x.item i) l items h.1)

pub tracker_after_handshake : (configs : List Config) (log : List Entry) (e : Entry) (n h : ℕ) (t u : Tracker) (ended : Bool) (asked : Option Item) (put : Option (Message Key)) → TrackerStands configs log n t
    → HandshakeMoves log e n h t u ended asked put
    → TrackerStands configs (log ++ e ∷ []) n u
tracker_after_handshake configs log e n h t u ended asked put s q =
    let now : Tracker =
    record t { mailbox = record t.mailbox { desk = asked_desk t.mailbox.desk put; handshakes = u.mailbox.handshakes }; names = t.names ++ names_asked (length log) asked; told = u.told } in
    let grows = desk_grows t.mailbox.desk put (λ some. s.closed ∙ q.lasts) in
    subst (TrackerStands configs (log ++ e ∷ []) n) (sym q.rest) (tracker_moved configs log e n t now (asked_line n (length log) asked) (asked_messages put) s (record {
      no_step = q.no_step;
      no_question = q.no_question;
      no_answer = q.no_answer;
      goes_on = q.goes_on;
      ended = noted_stay log e n t.ended s.ended q.no_end;
      rest = ap (λ l. record now { names = t.names ++ l }) (sym (names_are n (length log) asked));
      items = grows.items;
      closed = grows.closed;
      capacity = grows.capacity;
      questions = grows.questions;
      updates = grows.updates;
      sets = grows.sets;
      none_asked = q.none_asked;
      each = asked_match t.tickets (log ++ e ∷ []) n (length log) asked put q.says;
      given = asked_back t.tickets (log ++ e ∷ []) (log ++ e ∷ []) n (length log) asked put q.says q.given;
      waits = q.mailbox;
      asked_told = λ p asked. q.told p ∙ ap (λ b. if b then left_after ended (held t.told p) else held t.told p) (polled_apart (queue.Handshake n h) p asked refl);
      dialer = subst (λ l. Match (λ x a. IsAnswer x.item a) l t.mailbox.dialer) (sym (q.lines (queue.Dialer n) (eq-eqb n n refl))) s.dialer;
      heard = subst (HeardStands t.mailbox.heard) (sym (q.lines (queue.Addresses n) (eq-eqb n n refl))) s.heard;
      handshakes = told_now;
      distinct = q.distinct;
      told = λ p own. q.told p ∙ (by_place (left_after ended) (same_queue (queue.Handshake n h) p) (held t.told p) (line log p) (s.told p own) ∙ sym (q.lines p own));
    }))
  where
    same : (n h k : ℕ) → same_queue (queue.Handshake n h) (queue.Handshake n k) ≡ (k == h)
    same n h k = grind (arith, nat_tests)

    -- which handshakes run
    running_by : (b : Bool) (k : ℕ) → list_any (λ j. k == j) (cond b (without_name h (handshakes_of log n)) (handshakes_of log n)) ≡ cond b (not (k == h) && is_handshaking log n k) (is_handshaking log n k)
    running_by true k = among-without h k (handshakes_of log n)
    running_by false k = refl

    running : (k : ℕ) → is_handshaking (log ++ e ∷ []) n k ≡ cond ended (not (k == h) && is_handshaking log n k) (is_handshaking log n k)
    running k = ap (list_any (λ j. k == j)) q.names ∙ running_by ended k

    -- what waits for each
    waits_by : (b : Bool) (k : ℕ) → (k == h) ≡ b → cond b (after_step ended (line_of t.mailbox.handshakes h)) (line_of t.mailbox.handshakes k) ≡ cond b (after_step ended (line_of t.mailbox.handshakes k)) (line_of t.mailbox.handshakes k)
    waits_by true k is = ap (λ j. after_step ended (line_of t.mailbox.handshakes j)) (found h k is)
      where
        found : (h k : ℕ) → (k == h) ≡ true → h ≡ k
        found h k is = grind (arith, nat_tests)
    waits_by false k is = refl

    told_now : (k : ℕ) → HandshakeStands (line_of u.mailbox.handshakes k) (is_handshaking (log ++ e ∷ []) n k) (line (log ++ e ∷ []) (queue.Handshake n k))
    told_now k =
        let o = line_of t.mailbox.handshakes k in
        let before = line log (queue.Handshake n k) in
        subst (HandshakeStands (line_of u.mailbox.handshakes k) (is_handshaking (log ++ e ∷ []) n k))
        (sym (q.lines (queue.Handshake n k) (eq-eqb n n refl) ∙ ap (λ b. cond b (left_after ended before) before) (same n h k)))
        (subst (λ b. HandshakeStands (line_of u.mailbox.handshakes k) b (cond (k == h) (left_after ended before) before)) (sym (running k))
        (subst (λ (w : Option (List (HandshakeItem Key))). HandshakeStands w (cond ended (not (k == h) && is_handshaking log n k) (is_handshaking log n k)) (cond (k == h) (left_after ended before) before))
        (sym (q.waiting k ∙ waits_by (k == h) k refl))
        (stepped_stands ended (k == h) o (is_handshaking log n k) before (s.handshakes k))))

-- ---- what waits for each handshake, once one was taken from, or ended

same_number : (h k : ℕ) → is_at (nat_cmp h) k ≡ (k == h)
same_number h k = grind (arith, nat_tests)

pub line_of-dropped : (lines : Lines (HandshakeItem Key)) (h k : ℕ) → line_of (with_line lines h (drop 1)) k ≡ cond (k == h) (option_map (drop 1) (line_of lines h)) (line_of lines k)
line_of-dropped lines h k =
    line_of-with_line lines h k (drop 1)
    ∙ (ap (λ b. cond b (option_map (drop 1) (line_of lines k)) (line_of lines k)) (same_number h k) ∙ by (k == h) refl)
  where
    found : (h k : ℕ) → (k == h) ≡ true → k ≡ h
    found h k is = grind (arith, nat_tests)

    by : (b : Bool) → (k == h) ≡ b → cond b (option_map (drop 1) (line_of lines k)) (line_of lines k) ≡ cond b (option_map (drop 1) (line_of lines h)) (line_of lines k)
    by true is = ap (λ j. option_map (drop 1) (line_of lines j)) (found h k is)
    by false is = refl

-- each stands once, so nothing is left of it
pub line_of-ended : (lines : Lines (HandshakeItem Key)) (h k : ℕ) → AreDistinct lines → line_of (ended lines h) k ≡ cond (k == h) None (line_of lines k)
line_of-ended lines h k distinct =
    lookup-remove_entry (eq_by_cmp_equiv nat_cmp_total) (is_at (nat_cmp h)) (λ x y is. (eq_by_cmp_equiv nat_cmp_total).congr h x y is) k lines distinct
    ∙ ap (λ b. cond b None (line_of lines k)) (same_number h k)

pub line_of-dropped_ended : (lines : Lines (HandshakeItem Key)) (h k : ℕ) → AreDistinct lines → line_of (ended (with_line lines h (drop 1)) h) k ≡ cond (k == h) None (line_of lines k)
line_of-dropped_ended lines h k distinct =
    line_of-ended (with_line lines h (drop 1)) h k (distinct-with_line lines h (drop 1) distinct)
    ∙ (ap (λ o. cond (k == h) None o) (line_of-dropped lines h k) ∙ by (k == h))
  where
    by : (b : Bool) → cond b None (cond b (option_map (drop 1) (line_of lines h)) (line_of lines k)) ≡ cond b None (line_of lines k)
    by true = refl
    by false = refl

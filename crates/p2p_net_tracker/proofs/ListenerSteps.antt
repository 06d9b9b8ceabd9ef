-- A node's listener takes what it was told, or asks for a handshake whether its peer may connect: the tracker stands for the log with that entry.
use Rattle.std.proofs.Common.{◌≡◌, ℕ, ◌≤◌, Bool, true, false, cond, List, [], ◌∷◌, ◌++◌, drop, length, refl, ap, sym, subst, ◌∙◌, arith, append-nil, eq-eqb, Option, Some, None}
use Rattle.std.specs.Prelude.{◌==◌, ◌||◌, is_some, if◌then◌else◌}
use Rattle.std.specs.BTreeMap.{is_at, insert_entry}
use Rattle.std.specs.List.{list_any}
use Rattle.std.specs.Ordering.{nat_cmp}
use Rattle.std.proofs.lemmas.Bool.Decides.{nat_tests}
use Rattle.std.proofs.lemmas.List.Folds.{list_any-append}
use Rattle.p2p_log_rules.proofs.Bools.{or_true}
use Rattle.p2p_address.specs.declared.ip.IpAddr.{IpAddr}
use Rattle.p2p_base.specs.declared.key.Key.{Key}
use Rattle.p2p_tracker_mailbox.specs.Lines.{Lines, line_of, begun}
use Rattle.p2p_tracker_mailbox.specs.declared.answer.HandshakeItem.{HandshakeItem}
use Rattle.p2p_tracker_mailbox.specs.declared.message.Message.TheVariants as message
use Rattle.p2p_log.specs.declared.config.Config.{Config}
use Rattle.p2p_log.specs.declared.queue.Queue.{Queue}
use Rattle.p2p_log.specs.declared.queue.Queue.TheVariants as queue
use Rattle.p2p_log.specs.declared.item.Item.TheVariants as item
use Rattle.p2p_log.specs.declared.item.Envelope.{Envelope}
use Rattle.p2p_log.specs.declared.entry.Entry.{Entry}
use Rattle.p2p_log.specs.QueueCode.{same_queue}
use Rattle.p2p_log.specs.Lines.{line}
use Rattle.p2p_log.proofs.Queues.{same_queue-refl}
use Rattle.p2p_log_rules.specs.Connections.{ends_connection}
use Rattle.p2p_log_rules.specs.Facts.{stops}
use Rattle.p2p_log_rules.specs.Handshakes.{handshakes_of, is_handshaking, source_at}
use Rattle.p2p_log_rules.proofs.Handshakes.{none_later}
use Rattle.p2p_net_queues.specs.Board.{held}
use Rattle.p2p_net_queues.proofs.Tables.{lookup-insert_entry}
use Rattle.p2p_net_tracker.specs.declared.tracker.Tracker.{Tracker}
use Rattle.p2p_net_queues.specs.Matching.{Match}
use Rattle.p2p_net_tracker.specs.Stands.{asks_of, is_told, IsAnswer, HeardStands, IsToldHandshake, HandshakeStands, TrackerStands}
use Rattle.p2p_net_tracker.proofs.Distinct.{distinct-begun}
use Rattle.p2p_net_tracker.proofs.Ended.{noted_stay}
use Rattle.p2p_net_tracker.proofs.Facts.{handshaking-kept}
use Rattle.p2p_net_tracker.proofs.Hearing.{one_waits}
use Rattle.p2p_net_tracker.proofs.AtDesk.{polled_apart}
use Rattle.p2p_net_tracker.proofs.Moved.{tracker_moved, by_place}
use Rattle.p2p_log_rules.proofs.Steps.{steps_tracker}
use Rattle.p2p_log_rules.proofs.Answers.{takes_answer}

-- ---- it takes what it was told

-- what a step that takes the update makes of the tracker
pub record UpdateMoves (log : List Entry) (e : Entry) (n : ℕ) (t u : Tracker) : Type 0 where
  pub no_step : steps_tracker n e.event.act ≡ false
  pub no_question : asks_of n e.event.act ≡ None
  pub no_answer : (d : ℕ) → takes_answer d e.event.act e.reply ≡ false
  pub goes_on : stops n e.event.act ≡ false
  pub no_end : (conn : ℕ) → ends_connection n conn log e ≡ false
  pub no_admission : handshakes_of (log ++ e ∷ []) n ≡ handshakes_of log n
  pub rest : u ≡ record t { mailbox = record t.mailbox { heard = None }; told = u.told }
  pub mailbox : line (log ++ e ∷ []) (queue.Tracker n) ≡ line log (queue.Tracker n)
  pub lines : (p : Queue) → is_told n p ≡ true → line (log ++ e ∷ []) p ≡ cond (same_queue (queue.Addresses n) p) (drop 1 (line log p)) (line log p)
  pub told : (p : Queue) → held u.told p ≡ (if same_queue (queue.Addresses n) p then drop 1 (held t.told p) else held t.told p)

pub tracker_updated : (configs : List Config) (log : List Entry) (e : Entry) (n : ℕ) (t u : Tracker) → TrackerStands configs log n t → UpdateMoves log e n t u → TrackerStands configs (log ++ e ∷ []) n u
tracker_updated configs log e n t u s q =
    let now : Tracker = record t { mailbox = record t.mailbox { heard = None }; told = u.told } in
    subst (TrackerStands configs (log ++ e ∷ []) n) (sym q.rest) (tracker_moved configs log e n t now [] [] s (record {
      no_step = q.no_step;
      no_question = q.no_question;
      no_answer = q.no_answer;
      goes_on = q.goes_on;
      ended = noted_stay log e n t.ended s.ended q.no_end;
      rest = ap (λ l. record now { names = l }) (sym (append-nil t.names));
      items = sym (append-nil t.mailbox.desk.messages.items);
      closed = refl;
      capacity = refl;
      questions = refl;
      updates = refl;
      sets = refl;
      none_asked = refl;
      each = tt;
      given = tt;
      waits = q.mailbox ∙ sym (append-nil (line log (queue.Tracker n)));
      asked_told = λ p asked. q.told p ∙ ap (λ b. if b then drop 1 (held t.told p) else held t.told p) (polled_apart (queue.Addresses n) p asked refl);
      dialer = subst (λ l. Match (λ x a. IsAnswer x.item a) l t.mailbox.dialer) (sym (q.lines (queue.Dialer n) (eq-eqb n n refl))) s.dialer;
      heard =
          q.lines (queue.Addresses n) (eq-eqb n n refl)
          ∙ (ap (λ b. cond b (drop 1 (line log (queue.Addresses n))) (line log (queue.Addresses n))) (same_queue-refl (queue.Addresses n)) ∙ one_waits t.mailbox.heard (line log (queue.Addresses n)) s.heard);
      handshakes = handshaking-kept log e n t.mailbox.handshakes q.no_admission (λ k. q.lines (queue.Handshake n k) (eq-eqb n n refl)) s.handshakes;
      distinct = s.distinct;
      told = λ p own. q.told p ∙ (by_place (drop 1) (same_queue (queue.Addresses n) p) (held t.told p) (line log p) (s.told p own) ∙ sym (q.lines p own));
    }))

-- ---- it asks for a handshake

-- what a step that admits a peer of this key, which came from this address, makes of the tracker: a handshake of the name of the entry begins
pub record AskMoves (log : List Entry) (e : Entry) (n : ℕ) (t u : Tracker) (key : Key) (source : IpAddr) : Type 0 where
  pub no_step : steps_tracker n e.event.act ≡ false
  pub no_question : asks_of n e.event.act ≡ None
  pub no_answer : (d : ℕ) → takes_answer d e.event.act e.reply ≡ false
  pub goes_on : stops n e.event.act ≡ false
  pub no_end : (conn : ℕ) → ends_connection n conn log e ≡ false
  pub admits : handshakes_of (log ++ e ∷ []) n ≡ handshakes_of log n ++ length log ∷ []
  pub source_is : source_at (log ++ e ∷ []) (length log) ≡ Some source
  pub rest : u ≡ record t { mailbox = record t.mailbox { desk = u.mailbox.desk; handshakes = begun t.mailbox.handshakes (length log) }; names = t.names ++ (length log, 0) ∷ [] }
  pub items : u.mailbox.desk.messages.items ≡ t.mailbox.desk.messages.items ++ message.Acceptable key source (length log) ∷ []
  pub closed : u.mailbox.desk.messages.closed ≡ t.mailbox.desk.messages.closed
  pub capacity : u.mailbox.desk.messages.capacity ≡ t.mailbox.desk.messages.capacity
  pub questions : u.mailbox.desk.questions ≡ t.mailbox.desk.questions
  pub updates : u.mailbox.desk.updates ≡ t.mailbox.desk.updates
  pub sets : u.mailbox.desk.sets ≡ t.mailbox.desk.sets
  pub waits : line (log ++ e ∷ []) (queue.Tracker n) ≡ line log (queue.Tracker n) ++ record { entry = length log; place = 0; queue = queue.Tracker n; item = item.AskAcceptable (length log) key } ∷ []
  pub lines : (p : Queue) → is_told n p ≡ true → line (log ++ e ∷ []) p ≡ line log p

-- nothing waits for a handshake that doesn't run
none_waits : (o : Option (List (HandshakeItem Key))) (b : Bool) (l : List Envelope) → b ≡ false → HandshakeStands o b l → (o ≡ None) × (l ≡ [])
none_waits None b l none h = (refl, h.1)
none_waits (Some items) b l none h = absurd (both b none h.0)
  where
    both : (b : Bool) → b ≡ false → b ≡ true → ⊥
    both b none is = cc

-- a handshake of a new name begins
line_of-begun : (lines : Lines (HandshakeItem Key)) (m k : ℕ) → line_of lines m ≡ None → line_of (begun lines m) k ≡ cond (k == m) (Some []) (line_of lines k)
line_of-begun lines m k none =
    ap (λ (o : Option (List (HandshakeItem Key))). line_of (cond (is_some o) lines (insert_entry nat_cmp lines m [])) k) none
    ∙ (lookup-insert_entry m k [] lines ∙ ap (λ b. cond b (Some []) (line_of lines k)) (same k m))
  where
    same : (k m : ℕ) → is_at (nat_cmp k) m ≡ (k == m)
    same k m = grind (arith, nat_tests)

begun_stands : (o : Option (List (HandshakeItem Key))) (b c : Bool) (l : List Envelope) → (c ≡ true → b ≡ false) → HandshakeStands o b l → HandshakeStands (cond c (Some []) o) (b || (c || false)) l
begun_stands o b false l fresh h = subst (λ d. HandshakeStands o d l) (or_false b) h
  where
    or_false : (b : Bool) → b ≡ (b || false)
    or_false true = refl
    or_false false = refl
begun_stands o b true l fresh h = (or_true b, subst (λ (k : List Envelope). Match (λ (x : Envelope) i. IsToldHandshake x.item i) k []) (sym (none_waits o b l (fresh refl) h).1) tt)

pub tracker_asked : (configs : List Config) (log : List Entry) (e : Entry) (n : ℕ) (t u : Tracker) (key : Key) (source : IpAddr) → TrackerStands configs log n t → AskMoves log e n t u key source
    → TrackerStands configs (log ++ e ∷ []) n u
tracker_asked configs log e n t u key source s q =
    let x : Envelope = record { entry = length log; place = 0; queue = queue.Tracker n; item = item.AskAcceptable (length log) key } in
    let now : Tracker = record t { mailbox = record t.mailbox { desk = u.mailbox.desk; handshakes = begun t.mailbox.handshakes (length log) }; names = t.names ++ (length log, 0) ∷ [] } in
    subst (TrackerStands configs (log ++ e ∷ []) n) (sym q.rest) (tracker_moved configs log e n t now (x ∷ []) (message.Acceptable key source (length log) ∷ []) s (record {
      no_step = q.no_step;
      no_question = q.no_question;
      no_answer = q.no_answer;
      goes_on = q.goes_on;
      ended = noted_stay log e n t.ended s.ended q.no_end;
      rest = refl;
      items = q.items;
      closed = q.closed;
      capacity = q.capacity;
      questions = q.questions;
      updates = q.updates;
      sets = q.sets;
      none_asked = refl;
      each = ((source, q.source_is, refl), tt);
      given = (tt, tt);
      waits = q.waits;
      asked_told = λ p asked. refl;
      dialer = subst (λ l. Match (λ y a. IsAnswer y.item a) l t.mailbox.dialer) (sym (q.lines (queue.Dialer n) (eq-eqb n n refl))) s.dialer;
      heard = subst (HeardStands t.mailbox.heard) (sym (q.lines (queue.Addresses n) (eq-eqb n n refl))) s.heard;
      handshakes = told_now;
      distinct = distinct-begun t.mailbox.handshakes (length log) none s.distinct;
      told = λ p own. s.told p own ∙ sym (q.lines p own);
    }))
  where
    here : (l : ℕ) → l ≤ l
    here l = omega arith

    late : (k l : ℕ) → (k == l) ≡ true → l ≤ k
    late k l h = grind (arith, nat_tests)

    none : line_of t.mailbox.handshakes (length log) ≡ None
    none =
        let k = length log in
        (none_waits (line_of t.mailbox.handshakes k) (is_handshaking log n k) (line log (queue.Handshake n k)) (none_later log n k (here k)) (s.handshakes k)).0

    running : (k : ℕ) → is_handshaking (log ++ e ∷ []) n k ≡ (is_handshaking log n k || ((k == length log) || false))
    running k = ap (list_any (λ j. k == j)) q.admits ∙ list_any-append (λ j. k == j) (handshakes_of log n) (length log ∷ [])

    told_now : (k : ℕ) → HandshakeStands (line_of (begun t.mailbox.handshakes (length log)) k) (is_handshaking (log ++ e ∷ []) n k) (line (log ++ e ∷ []) (queue.Handshake n k))
    told_now k =
        let before = line log (queue.Handshake n k) in
        subst (HandshakeStands (line_of (begun t.mailbox.handshakes (length log)) k) (is_handshaking (log ++ e ∷ []) n k)) (sym (q.lines (queue.Handshake n k) (eq-eqb n n refl)))
        (subst (λ b. HandshakeStands (line_of (begun t.mailbox.handshakes (length log)) k) b before) (sym (running k))
        (subst (λ (o : Option (List (HandshakeItem Key))). HandshakeStands o (is_handshaking log n k || ((k == length log) || false)) before) (sym (line_of-begun t.mailbox.handshakes (length log) k none))
        (begun_stands (line_of t.mailbox.handshakes k) (is_handshaking log n k) (k == length log) before (λ same. none_later log n k (late k (length log) same)) (s.handshakes k))))

-- The exchange of keys over a link ends, of which a handshake of a node's listener is told: the tracker stands for the log with that entry.
use Rattle.std.proofs.Common.{◌≡◌, ℕ, Bool, true, false, cond, List, [], ◌∷◌, ◌++◌, length, refl, ap, sym, subst, ◌∙◌, arith, append-nil, eq-eqb, None}
use Rattle.std.specs.Prelude.{◌==◌, is_some, if◌then◌else◌}
use Rattle.std.specs.BTreeMap.{is_at}
use Rattle.std.specs.List.{list_any}
use Rattle.std.specs.Ordering.{nat_cmp}
use Rattle.std.proofs.lemmas.Bool.Decides.{nat_tests}
use Rattle.p2p_tracker_mailbox.specs.Lines.{line_of, with_item}
use Rattle.p2p_tracker_mailbox.specs.Mailboxes.{with_item_in}
use Rattle.p2p_tracker_mailbox.specs.declared.answer.HandshakeItem.TheVariants as shake
use Rattle.p2p_log.specs.declared.config.Config.{Config}
use Rattle.p2p_log.specs.declared.queue.Queue.{Queue}
use Rattle.p2p_log.specs.declared.queue.Queue.TheVariants as queue
use Rattle.p2p_log.specs.declared.item.Envelope.{Envelope}
use Rattle.p2p_log.specs.declared.entry.Entry.{Entry}
use Rattle.p2p_log.specs.QueueCode.{same_queue}
use Rattle.p2p_log.specs.Lines.{line}
use Rattle.p2p_log_rules.specs.Connections.{ends_connection}
use Rattle.p2p_log_rules.specs.Facts.{stops}
use Rattle.p2p_log_rules.specs.Handshakes.{handshakes_of, is_handshaking}
use Rattle.p2p_net_queues.specs.Board.{held}
use Rattle.p2p_net_tracker.specs.Finishing.{told_finished}
use Rattle.p2p_net_tracker.specs.declared.tracker.Tracker.{Tracker}
use Rattle.p2p_net_queues.specs.Matching.{Match}
use Rattle.p2p_net_tracker.specs.Stands.{asks_of, is_told, IsAnswer, HeardStands, HandshakeStands, TrackerStands}
use Rattle.p2p_net_tracker.proofs.Distinct.{distinct-with_line}
use Rattle.p2p_net_tracker.proofs.Ended.{noted_stay}
use Rattle.p2p_net_tracker.proofs.Hearing.{runs_is, item_told}
use Rattle.p2p_net_tracker.proofs.AtDesk.{polled_apart}
use Rattle.p2p_net_tracker.proofs.Moved.{tracker_moved, by_place}
use Rattle.p2p_log_rules.proofs.Steps.{steps_tracker}
use Rattle.p2p_log_rules.proofs.Answers.{takes_answer}

-- what the entry makes of the tracker: at this place it tells the handshake h, which runs, whether its keys were exchanged
pub record FinishMoves (log : List Entry) (e : Entry) (n h place : ℕ) (ok : Bool) (t u : Tracker) : Type 0 where
  pub no_step : steps_tracker n e.event.act ≡ false
  pub no_question : asks_of n e.event.act ≡ None
  pub no_answer : (d : ℕ) → takes_answer d e.event.act e.reply ≡ false
  pub goes_on : stops n e.event.act ≡ false
  pub no_end : (conn : ℕ) → ends_connection n conn log e ≡ false
  pub names : handshakes_of (log ++ e ∷ []) n ≡ handshakes_of log n
  pub runs : is_handshaking log n h ≡ true
  pub rest : u ≡ record t { mailbox = with_item_in t.mailbox h (shake.Finished ok); told = u.told }
  pub mailbox : line (log ++ e ∷ []) (queue.Tracker n) ≡ line log (queue.Tracker n)
  pub lines : (p : Queue) → is_told n p ≡ true
      → line (log ++ e ∷ []) p ≡ cond (same_queue (queue.Handshake n h) p) (line log p ++ told_finished n h ok (length log) place ∷ []) (line log p)
  pub told : (p : Queue) → held u.told p ≡ (if same_queue (queue.Handshake n h) p then held t.told p ++ told_finished n h ok (length log) place ∷ [] else held t.told p)

pub tracker_after_finish : (configs : List Config) (log : List Entry) (e : Entry) (n h place : ℕ) (ok : Bool) (t u : Tracker) → TrackerStands configs log n t → FinishMoves log e n h place ok t u
    → TrackerStands configs (log ++ e ∷ []) n u
tracker_after_finish configs log e n h place ok t u s q =
    let now : Tracker = record t { mailbox = with_item_in t.mailbox h (shake.Finished ok); told = u.told } in
    subst (TrackerStands configs (log ++ e ∷ []) n) (sym q.rest) (tracker_moved configs log e n t now [] [] s (record {
      no_step = q.no_step;
      no_question = q.no_question;
      no_answer = q.no_answer;
      goes_on = q.goes_on;
      ended = noted_stay log e n t.ended s.ended q.no_end;
      rest = ap (λ l. record now { names = l }) (sym (append-nil t.names));
      items = sym (append-nil t.mailbox.desk.messages.items);
      closed = refl;
      capacity = refl;
      questions = refl;
      updates = refl;
      sets = refl;
      none_asked = refl;
      each = tt;
      given = tt;
      waits = q.mailbox ∙ sym (append-nil (line log (queue.Tracker n)));
      asked_told = λ p asked. q.told p ∙ ap (λ b. if b then held t.told p ++ told_finished n h ok (length log) place ∷ [] else held t.told p) (polled_apart (queue.Handshake n h) p asked refl);
      dialer = subst (λ l. Match (λ y a. IsAnswer y.item a) l t.mailbox.dialer) (sym (q.lines (queue.Dialer n) (eq-eqb n n refl))) s.dialer;
      heard = subst (HeardStands t.mailbox.heard) (sym (q.lines (queue.Addresses n) (eq-eqb n n refl))) s.heard;
      handshakes = told_now;
      distinct = distinct-with_line t.mailbox.handshakes h (λ l. l ++ shake.Finished ok ∷ []) s.distinct;
      told = λ p own. q.told p ∙ (by_place (λ l. l ++ x ∷ []) (same_queue (queue.Handshake n h) p) (held t.told p) (line log p) (s.told p own) ∙ sym (q.lines p own));
    }))
  where
    x : Envelope
    x = told_finished n h ok (length log) place

    same : (n h k : ℕ) → same_queue (queue.Handshake n h) (queue.Handshake n k) ≡ is_at (nat_cmp h) k
    same n h k = grind (arith, nat_tests)

    there : is_some (line_of t.mailbox.handshakes h) ≡ true
    there = runs_is (line_of t.mailbox.handshakes h) (is_handshaking log n h) (line log (queue.Handshake n h)) (s.handshakes h) ∙ q.runs

    last : (b : Bool) (l : List Envelope) → cond b (l ++ x ∷ []) l ≡ l ++ cond b (x ∷ []) []
    last true l = refl
    last false l = sym (append-nil l)

    line_is : (k : ℕ) → line (log ++ e ∷ []) (queue.Handshake n k) ≡ line log (queue.Handshake n k) ++ cond (is_at (nat_cmp h) k) (x ∷ []) []
    line_is k =
        let l = line log (queue.Handshake n k) in
        q.lines (queue.Handshake n k) (eq-eqb n n refl) ∙ (ap (λ b. cond b (l ++ x ∷ []) l) (same n h k) ∙ last (is_at (nat_cmp h) k) l)

    told_now : (k : ℕ) → HandshakeStands (line_of (with_item t.mailbox.handshakes h (shake.Finished ok)) k) (is_handshaking (log ++ e ∷ []) n k) (line (log ++ e ∷ []) (queue.Handshake n k))
    told_now k =
        let o = line_of (with_item t.mailbox.handshakes h (shake.Finished ok)) k in
        subst (HandshakeStands o (is_handshaking (log ++ e ∷ []) n k)) (sym (line_is k))
        (subst (λ l. HandshakeStands o (list_any (λ j. k == j) l) (line log (queue.Handshake n k) ++ cond (is_at (nat_cmp h) k) (x ∷ []) [])) (sym q.names)
        (item_told t.mailbox.handshakes h k (is_handshaking log n k) (line log (queue.Handshake n k)) x (shake.Finished ok) there refl (s.handshakes k)))

-- A node's dialer takes an answer, or none, and asks something, or nothing: the tracker stands for the log with that entry.
use Rattle.std.proofs.Common.{◌≡◌, ℕ, Bool, true, false, cond, List, [], ◌∷◌, ◌++◌, map, drop, refl, ap, sym, subst, ◌∙◌, append-nil, eq-eqb, None}
use Rattle.std.specs.Prelude.{filter, ◌&&◌, if◌then◌else◌, flat_map}
use Rattle.p2p_log_rules.proofs.Bools.{and_false}
use Rattle.p2p_base.specs.declared.key.Key.{Key}
use Rattle.p2p_tracker_mailbox.specs.declared.message.Message.{Message}
use Rattle.p2p_log.specs.declared.config.Config.{Config}
use Rattle.p2p_log.specs.declared.queue.Queue.{Queue}
use Rattle.p2p_log.specs.declared.queue.Queue.TheVariants as queue
use Rattle.p2p_log.specs.declared.item.Envelope.{Envelope}
use Rattle.p2p_log.specs.declared.entry.Entry.{Entry}
use Rattle.p2p_log.specs.QueueCode.{same_queue}
use Rattle.p2p_log.specs.Lines.{name_of, goes, line, live, stays, stands_in}
use Rattle.p2p_log.proofs.QueueNames.{queue_from_same}
use Rattle.p2p_log.proofs.Queues.{same_queue-refl}
use Rattle.p2p_log_rules.specs.Connections.{ends_connection}
use Rattle.p2p_log_rules.specs.Facts.{stops}
use Rattle.p2p_log_rules.specs.Handshakes.{handshakes_of}
use Rattle.p2p_net_queues.specs.Board.{held}
use Rattle.p2p_net_queues.proofs.Going.{put_in, line-append, first_left}
use Rattle.p2p_net_tracker.specs.AtDesk.{blocked_asked}
use Rattle.p2p_net_tracker.specs.GivenBack.{IsGivenBack}
use Rattle.p2p_net_tracker.specs.declared.tracker.Tracker.{Tracker}
use Rattle.p2p_net_queues.specs.Matching.{Match}
use Rattle.p2p_net_tracker.specs.Stands.{asks_of, is_told, IsMessage, IsAnswer, HeardStands, TrackerStands}
use Rattle.p2p_net_tracker.proofs.Changes.{same_tickets, messages-longer}
use Rattle.p2p_net_tracker.proofs.Ended.{noted_stay}
use Rattle.p2p_net_tracker.proofs.Facts.{handshaking-kept}
use Rattle.p2p_net_queues.proofs.Matching.{Match-drop}
use Rattle.p2p_net_tracker.proofs.AtDesk.{polled_apart}
use Rattle.p2p_net_tracker.proofs.Moved.{tracker_moved, by_place}
use Rattle.p2p_net_tracker.proofs.ToldLines.{away_none}
use Rattle.p2p_log_rules.proofs.Steps.{steps_tracker}
use Rattle.p2p_log_rules.proofs.Answers.{takes_answer}

-- the queue is the dialer's line, of which the first item is taken
abbrev pub is_taken_of : Bool → ℕ → Queue → Bool
is_taken_of took n p = took && same_queue (queue.Dialer n) p

-- what a step of the dialer makes of the tracker: these messages wait in these envelopes beside those before
pub record DialerMoves (log : List Entry) (e : Entry) (n : ℕ) (t u : Tracker) (took : Bool) (xs : List Envelope) (ms : List (Message Key)) : Type 0 where
  pub no_step : steps_tracker n e.event.act ≡ false
  pub no_question : asks_of n e.event.act ≡ None
  pub no_answer : (d : ℕ) → takes_answer d e.event.act e.reply ≡ false
  pub goes_on : stops n e.event.act ≡ false
  pub no_end : (conn : ℕ) → ends_connection n conn log e ≡ false
  pub no_admission : handshakes_of (log ++ e ∷ []) n ≡ handshakes_of log n
  pub rest : u ≡ record t { mailbox = record t.mailbox { desk = u.mailbox.desk; dialer = u.mailbox.dialer }; names = t.names ++ map name_of xs; told = u.told }
  pub items : u.mailbox.desk.messages.items ≡ t.mailbox.desk.messages.items ++ ms
  pub closed : u.mailbox.desk.messages.closed ≡ t.mailbox.desk.messages.closed
  pub capacity : u.mailbox.desk.messages.capacity ≡ t.mailbox.desk.messages.capacity
  pub questions : u.mailbox.desk.questions ≡ t.mailbox.desk.questions
  pub updates : u.mailbox.desk.updates ≡ t.mailbox.desk.updates
  pub sets : u.mailbox.desk.sets ≡ t.mailbox.desk.sets
  pub none_asked : flat_map blocked_asked ms ≡ []
  pub each : Match (λ x m. IsMessage t.tickets log x.item m) xs ms
  pub given : Match (λ x m. IsGivenBack (log ++ e ∷ []) x.entry m) xs ms
  pub waits : line (log ++ e ∷ []) (queue.Tracker n) ≡ line log (queue.Tracker n) ++ xs
  pub lines : (p : Queue) → is_told n p ≡ true → line (log ++ e ∷ []) p ≡ cond (is_taken_of took n p) (drop 1 (line log p)) (line log p)
  pub answered : u.mailbox.dialer ≡ cond took (drop 1 t.mailbox.dialer) t.mailbox.dialer
  pub told : (p : Queue) → held u.told p ≡ (if is_taken_of took n p then drop 1 (held t.told p) else held t.told p)

-- nothing is taken
pub none_left : (log : List Entry) (n : ℕ) (p : Queue) → filter (stands_in p) (filter (stays []) (live log)) ≡ cond (is_taken_of false n p) (drop 1 (line log p)) (line log p)
none_left log n p = away_none log p

-- the dialer's oldest answer is taken
pub answer_left : (log : List Entry) (n : ℕ) (x : Envelope) (rest : List Envelope) → line log (queue.Dialer n) ≡ x ∷ rest → (p : Queue)
    → filter (stands_in p) (filter (stays (name_of x ∷ [])) (live log)) ≡ cond (is_taken_of true n p) (drop 1 (line log p)) (line log p)
answer_left log n x rest first p = first_left log (queue.Dialer n) x rest first p ∙ by (same_queue (queue.Dialer n) p) refl
  where
    by : (b : Bool) → same_queue (queue.Dialer n) p ≡ b → cond b rest (line log p) ≡ cond b (drop 1 (line log p)) (line log p)
    by true is = sym (ap (drop 1) (ap (line log) (queue_from_same (queue.Dialer n) p is) ∙ first))
    by false is = refl

and_true : (b c : Bool) → c ≡ true → (b && c) ≡ b
and_true true c h = h
and_true false c h = refl

-- the lines after an entry that takes this of the dialer's line and puts these in the mailbox
module _ (log : List Entry) (e : Entry) (n : ℕ) (took : Bool) (xs : List Envelope)
    (left : (p : Queue) → filter (stands_in p) (filter (stays (goes e)) (live log)) ≡ cond (is_taken_of took n p) (drop 1 (line log p)) (line log p))
    (asked : put_in log e (queue.Tracker n) ≡ xs) (quiet : (p : Queue) → is_told n p ≡ true → put_in log e p ≡ []) where
  line_after : (p : Queue) → line (log ++ e ∷ []) p ≡ cond (is_taken_of took n p) (drop 1 (line log p)) (line log p) ++ put_in log e p
  line_after p = line-append log e p ∙ ap (λ l. l ++ put_in log e p) (left p)

  pub told_moved : (p : Queue) → is_told n p ≡ true → line (log ++ e ∷ []) p ≡ cond (is_taken_of took n p) (drop 1 (line log p)) (line log p)
  told_moved p own =
      line_after p ∙ (ap (λ l. cond (is_taken_of took n p) (drop 1 (line log p)) (line log p) ++ l) (quiet p own) ∙ append-nil (cond (is_taken_of took n p) (drop 1 (line log p)) (line log p)))

  pub mailbox_moved : line (log ++ e ∷ []) (queue.Tracker n) ≡ line log (queue.Tracker n) ++ xs
  mailbox_moved =
      line_after (queue.Tracker n)
      ∙ (ap (λ b. cond b (drop 1 (line log (queue.Tracker n))) (line log (queue.Tracker n)) ++ put_in log e (queue.Tracker n)) (and_false took) ∙ ap (λ l. line log (queue.Tracker n) ++ l) asked)

pub tracker_dialed : (configs : List Config) (log : List Entry) (e : Entry) (n : ℕ) (t u : Tracker) (took : Bool) (xs : List Envelope) (ms : List (Message Key)) → TrackerStands configs log n t → DialerMoves log e n t u took xs ms
    → TrackerStands configs (log ++ e ∷ []) n u
tracker_dialed configs log e n t u took xs ms s q =
    let now : Tracker = record t { mailbox = record t.mailbox { desk = u.mailbox.desk; dialer = u.mailbox.dialer }; names = t.names ++ map name_of xs; told = u.told } in
    subst (TrackerStands configs (log ++ e ∷ []) n) (sym q.rest) (tracker_moved configs log e n t now xs ms s (record {
      no_step = q.no_step;
      no_question = q.no_question;
      no_answer = q.no_answer;
      goes_on = q.goes_on;
      ended = noted_stay log e n t.ended s.ended q.no_end;
      rest = refl;
      items = q.items;
      closed = q.closed;
      capacity = q.capacity;
      questions = q.questions;
      updates = q.updates;
      sets = q.sets;
      none_asked = q.none_asked;
      each = messages-longer t.tickets t.tickets (same_tickets t.tickets) log (e ∷ []) xs ms q.each;
      given = q.given;
      waits = q.waits;
      asked_told = λ p asked.
          q.told p
          ∙ (ap (λ b. if took && b then drop 1 (held t.told p) else held t.told p) (polled_apart (queue.Dialer n) p asked refl) ∙ ap (λ b. if b then drop 1 (held t.told p) else held t.told p) (and_false took));
      dialer = subst (λ l. Match (λ x a. IsAnswer x.item a) l u.mailbox.dialer) (sym (q.lines (queue.Dialer n) (eq-eqb n n refl)))
          (subst (Match (λ (x : Envelope) a. IsAnswer x.item a) (cond (is_taken_of took n (queue.Dialer n)) (drop 1 (line log (queue.Dialer n))) (line log (queue.Dialer n)))) (sym q.answered)
          (subst (λ b. Match (λ (x : Envelope) a. IsAnswer x.item a) (cond b (drop 1 (line log (queue.Dialer n))) (line log (queue.Dialer n))) (cond took (drop 1 t.mailbox.dialer) t.mailbox.dialer))
          (sym (and_true took (same_queue (queue.Dialer n) (queue.Dialer n)) (same_queue-refl (queue.Dialer n)))) (by_taken took)));
      heard = subst (HeardStands t.mailbox.heard) (sym (other (queue.Addresses n) (eq-eqb n n refl) refl)) s.heard;
      handshakes = handshaking-kept log e n t.mailbox.handshakes q.no_admission (λ k. other (queue.Handshake n k) (eq-eqb n n refl) refl) s.handshakes;
      distinct = s.distinct;
      told = λ p own. q.told p ∙ (by_place (drop 1) (is_taken_of took n p) (held t.told p) (line log p) (s.told p own) ∙ sym (q.lines p own));
    }))
  where
    other : (p : Queue) → is_told n p ≡ true → same_queue (queue.Dialer n) p ≡ false → line (log ++ e ∷ []) p ≡ line log p
    other p own apart = q.lines p own ∙ ap (λ b. cond b (drop 1 (line log p)) (line log p)) (ap (λ b. took && b) apart ∙ and_false took)

    by_taken : (b : Bool) → Match (λ x a. IsAnswer x.item a) (cond b (drop 1 (line log (queue.Dialer n))) (line log (queue.Dialer n))) (cond b (drop 1 t.mailbox.dialer) t.mailbox.dialer)
    by_taken true = Match-drop (λ (x : Envelope) a. IsAnswer x.item a) (line log (queue.Dialer n)) t.mailbox.dialer s.dialer
    by_taken false = s.dialer

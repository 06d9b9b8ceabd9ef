-- What those who asked a node's tracker take: the row is the log's, and the tracker stands for the log with that entry.
use Rattle.std.proofs.Common.{◌≡◌, ℕ, zero, suc, ◌<◌, ◌≤◌, Bool, true, false, cond, List, [], ◌∷◌, ◌++◌, drop, length, refl, ap, sym, subst, ◌∙◌, arith, eq-eqb, length-append, Option, Some, None, ◌⊎◌, inl, inr}
use Rattle.std.specs.Prelude.{flat_map, slice_get, is_some, nat_lt, IsTrue, ◌==◌, ◌&&◌, ◌||◌, if◌then◌else◌}
use Rattle.std.proofs.lemmas.List.{length-set}
use Rattle.std.specs.BTreeMap.{is_at}
use Rattle.std.specs.Ordering.{nat_cmp}
use Rattle.std.proofs.lemmas.Bool.Decides.{nat_tests}
use Rattle.std.proofs.lemmas.Option.{slice_get_past}
use Rattle.p2p_log_rules.proofs.Bools.{and_false, or_true}
use Rattle.p2p_base.specs.declared.key.Key.{Key}
use Rattle.p2p_flow.specs.Provided.{unanswered, answered, given, is_open, answer_of}
use Rattle.p2p_flow.specs.Provided.{Question as Posed}
use Rattle.p2p_flow.specs.Subscribed.{next_item}
use Rattle.p2p_flow.specs.declared.tracked.TrackedPeers.{TrackedPeers}
use Rattle.p2p_tracker_mailbox.specs.Desk.{Desk, question_at, answer_taken, updates_at, update_taken, set_of, set_taken}
use Rattle.p2p_tracker_mailbox.specs.Mailboxes.{with_desk}
use Rattle.p2p_log.specs.declared.config.Config.{Config}
use Rattle.p2p_log.specs.declared.queue.Queue.{Queue}
use Rattle.p2p_log.specs.declared.queue.Queue.TheVariants as queue
use Rattle.p2p_log.specs.declared.item.Envelope.{Envelope}
use Rattle.p2p_log.specs.declared.entry.Entry.{Entry}
use Rattle.p2p_log.specs.declared.entry.Reply.{Reply}
use Rattle.p2p_log.specs.declared.entry.Reply.TheVariants as reply
use Rattle.p2p_log.specs.declared.asked.Asked.TheVariants as ask
use Rattle.p2p_log.specs.declared.event.Act.{Act}
use Rattle.p2p_log.specs.declared.event.Act.TheVariants as act
use Rattle.p2p_log.specs.QueueCode.{same_queue}
use Rattle.p2p_log.specs.Lines.{ended_item, line}
use Rattle.p2p_log.proofs.QueueNames.{queue_from_same}
use Rattle.p2p_log_rules.specs.declared.row.Row.{Row}
use Rattle.p2p_log_rules.specs.Effect.{entry_of}
use Rattle.p2p_log_rules.specs.Facts.{is_stopped, stops}
use Rattle.p2p_log_rules.specs.Rows.{only}
use Rattle.p2p_log_rules.proofs.Families.{kinds_of, are_apart}
use Rattle.p2p_log_rules.proofs.Channels.{is_stopped-kept}
use Rattle.p2p_log_rules.proofs.Handshakes.{handshake_kinds, handshakes_of-apart}
use Rattle.p2p_log_rules.specs.Tracking.{asked_by}
use Rattle.p2p_log_rules.specs.TrackerRows.{was_answered, oldest_row, none_next, answer_at, answer_by, answer_row, next_by, next_row}
use Rattle.p2p_net_queues.specs.Board.{held}
use Rattle.p2p_net_queues.specs.Tables as table
use Rattle.p2p_net_queues.proofs.Tables.{lookup-insert_entry}
use Rattle.p2p_net_tracker.specs.declared.question.Question.{Question}
use Rattle.p2p_net_tracker.specs.declared.question.Question.TheVariants as question
use Rattle.p2p_net_tracker.specs.declared.question.Ticket.{Ticket}
use Rattle.p2p_net_tracker.specs.declared.tracker.Tracker.{Tracker}
use Rattle.p2p_net_tracker.specs.AtDesk.{IsTicket, tickets_of, asked_for, AnswerStands, Rises, blocked_asked}
use Rattle.p2p_net_tracker.specs.Reading.{answer_said, update_said, set_said, polled_row, MayRead, MayAnswer, Pops, ReadsFrom, noted, ReadsUpdate, ReadsSet, AnswersBy, Answers, ContinuesBy, Continues}
use Rattle.p2p_net_tracker.specs.Stands.{asks_of, asks_at, AreFresh, is_told, TrackerStands}
use Rattle.p2p_net_tracker.proofs.Changes.{same_tickets, HasDesk, tracker_frame, tracker_kept, line_left, TellsAsker, tracker_read}
use Rattle.p2p_net_tracker.proofs.Ended.{may_end_here, no_end-act}
use Rattle.p2p_net_tracker.proofs.Polls.{answer_row_is, update_row_is, set_row_is, answer_left, update_left, set_left}
use Rattle.p2p_net_tracker.proofs.Facts.{asks_at-kept, fresh-longer, was_answered-kept}
use Rattle.p2p_log_rules.proofs.Steps.{steps_tracker}
use Rattle.p2p_log_rules.proofs.Answers.{takes_answer, was_answered-append}
use Rattle.p2p_log_rules.specs.Puts.{is_peer_set}

-- what was asked of a node, by the act that asked
pub asks-asked : (log : List Entry) (n e : ℕ) (a : Act) → asked_by log e ≡ Some a → asks_at log n e ≡ asks_of n a
asks-asked log n e a h = go (slice_get log e) h
  where
    go : (o : Option Entry) → (elim o [ None ↦ None | Some d ↦ Some d.event.act ]) ≡ Some a → (elim o [ None ↦ None | Some d ↦ asks_of n d.event.act ]) ≡ asks_of n a
    go None k = cc
    go (Some d) k = let same : d.event.act ≡ a = cc in ap (asks_of n) same

module _ (configs : List Config) (log : List Entry) (at seed n : ℕ) (a : Act) (t u : Tracker) (r : Row) (s : TrackerStands configs log n t) (no_step : steps_tracker n a ≡ false) (no_ending : may_end_here n a ≡ false)
    (no_admission : are_apart (kinds_of a) handshake_kinds ≡ true) (no_stop : stops n a ≡ false) (no_question : asks_of n a ≡ None) where
  abbrev e : Entry
  e = entry_of (record { at = at; seed = seed; act = a }) r

  -- it moves nothing where it only answers
  only_left : (rep : Reply) → r ≡ only rep → (q : Queue) → line (log ++ e ∷ []) q ≡ line log q
  only_left rep is = line_left log e (ap (λ (k : Row). k.takes) is) (ap (λ (k : Row). k.puts) is) (ap (λ (k : Row). k.ends) is)

  -- nothing is popped where nothing waits
  popped_none : (q : Queue) → Pops q t u → line log q ≡ [] → (p : Queue) → is_told n p ≡ true → held u.told p ≡ line log p
  popped_none q pops empty p here = pops p ∙ by (same_queue q p) refl
    where
      by : (b : Bool) → same_queue q p ≡ b → (if b then drop 1 (held t.told p) else held t.told p) ≡ line log p
      by false is = s.told p here
      by true is = let none : line log p ≡ [] = ap (line log) (queue_from_same q p is) ∙ empty in ap (drop 1) (s.told p here ∙ none) ∙ sym none

  -- it is as it was, and this is answered
  pub still_stands : (rep : Reply) → r ≡ only rep → ((d : ℕ) → takes_answer d a rep ≡ false) → u ≡ t → TrackerStands configs (log ++ e ∷ []) n u
  still_stands rep is none same =
      let no_answer : (d : ℕ) → takes_answer d a r.reply ≡ false = λ d. ap (λ (k : Row). takes_answer d a k.reply) is ∙ none d in
      subst (TrackerStands configs (log ++ e ∷ []) n) (sym same) (tracker_frame configs log e n t s (record {
        no_step = no_step;
        no_question = no_question;
        no_answer = λ d wants. no_answer d;
        no_late_answer = λ d past. no_answer d;
        no_end = no_end-act n log e no_ending;
        goes_on = is_stopped-kept log e n no_stop;
        handshakes = handshakes_of-apart log e n no_admission;
        mailbox = only_left rep is (queue.Tracker n);
        told = λ p own. only_left rep is p;
      }))

  -- the oldest item of a queue is taken, or this is answered, with this desk, and with these answered then
  pub read_stands : (empty : Reply) (q : Queue) (l : List Envelope) (desk : Desk Key) (noted_now : List (ℕ × Bool)) → line log q ≡ l → TellsAsker n q → r ≡ oldest_row empty l
      → Pops q t u → u ≡ record t { mailbox = with_desk t.mailbox desk; answered = noted_now; told = u.told } → desk.messages ≡ t.mailbox.desk.messages
      → HasDesk n t desk t.tickets t.questions noted_now u.told t.mailbox.desk.messages.items
      → ((d : ℕ) → asks_at log n d ≡ Some question.PeerSet → is_some (table.at noted_now d) ≡ was_answered (log ++ e ∷ []) d) → AreFresh (log ++ e ∷ []) noted_now → TrackerStands configs (log ++ e ∷ []) n u
  read_stands empty q [] desk noted_now none asker is pops same messages has noted_all fresh =
      subst (TrackerStands configs (log ++ e ∷ []) n) (sym same)
      (tracker_kept configs log e n t desk t.tickets t.questions noted_now u.told s
      (record {
        no_step = no_step;
        no_end = no_end-act n log e no_ending;
        no_admission = handshakes_of-apart log e n no_admission;
        goes_on = is_stopped-kept log e n no_stop;
        mailbox = only_left empty is (queue.Tracker n);
        dialer = only_left empty is (queue.Dialer n);
        listener = only_left empty is (queue.Addresses n);
        handshakes = λ k. only_left empty is (queue.Handshake n k);
      })
      (same_tickets t.tickets) messages has
      (λ d. s.asked d ∙ sym (asks_at-kept log e n d no_question)) (λ d wants. noted_all d (sym (asks_at-kept log e n d no_question) ∙ wants)) fresh
      (λ p own. popped_none q pops none p own ∙ sym (only_left empty is p)))
  read_stands empty q (x ∷ rest) desk noted_now first asker is pops same messages has noted_all fresh =
      tracker_read configs log e n t u q x rest desk noted_now s no_step no_question (no_end-act n log e no_ending) (handshakes_of-apart log e n no_admission) (is_stopped-kept log e n no_stop)
      (record { first = first; gone = ap (λ (k : Row). k.takes ++ flat_map ended_item k.ends) is }) (ap (λ (k : Row). k.puts) is) asker same messages has noted_all fresh pops

-- ---- the answer to a question for a peer set

no_answer_gone : (d e : ℕ) → takes_answer d (act.Answer e) reply.Gone ≡ false
no_answer_gone d e = and_false (e == d)

note_taken : (l : List (ℕ × Bool)) (was taken : Bool) (e d : ℕ) → is_some (table.at l d) ≡ was → is_some (table.at (noted taken e l) d) ≡ (was || ((e == d) && taken))
note_taken l was false e d h = h ∙ by was (e == d)
  where
    by : (w c : Bool) → w ≡ (w || (c && false))
    by true c = refl
    by false c = sym (and_false c)
note_taken l was true e d h = ap is_some (lookup-insert_entry e d true l) ∙ by (is_at (nat_cmp d) e) (e == d) (same e d)
  where
    same : (e d : ℕ) → is_at (nat_cmp d) e ≡ (e == d)
    same e d = grind (arith, nat_tests)

    by : (b c : Bool) → b ≡ c → is_some (cond b (Some true) (table.at l d)) ≡ (was || (c && true))
    by true true k = sym (or_true was)
    by false false k = h ∙ or_false was
      where
        or_false : (w : Bool) → w ≡ (w || false)
        or_false true = refl
        or_false false = refl
    by true false k = cc
    by false true k = cc

-- a question that was asked is of an earlier event
asked_before : (log : List Entry) (e : ℕ) (a : Act) → asked_by log e ≡ Some a → e < length log
asked_before log e a h = go (nat_lt e (length log)) refl
  where
    go : (b : Bool) → nat_lt e (length log) ≡ b → e < length log
    go true lt = grind (arith, nat_tests)
    go false lt =
        let past : length log ≤ e = grind (arith, nat_tests) in
        let none : asked_by log e ≡ None = ap (λ (o : Option Entry). elim o [ None ↦ None | Some d ↦ Some d.event.act ]) (slice_get_past log e past) in
        cc

apart : (e d l : ℕ) → e < l → l ≤ d → (e == d) ≡ false
apart e d l lt le = grind (arith, nat_tests)

note_other : (l : List (ℕ × Bool)) (taken : Bool) (e d : ℕ) → (e == d) ≡ false → table.at (noted taken e l) d ≡ table.at l d
note_other l false e d h = refl
note_other l true e d h = lookup-insert_entry e d true l ∙ ap (λ b. cond b (Some true) (table.at l d)) (other e d h)
  where
    other : (e d : ℕ) → (e == d) ≡ false → is_at (nat_cmp d) e ≡ false
    other e d h = grind (arith, nat_tests)

-- what is told is what the oracle answered
polled_reply : (said : Reply) (o : Option Envelope) → (polled_row said o).reply ≡ said
polled_reply said None = refl
polled_reply said (Some x) = refl

-- what an event asked, and under which number it was given a ticket
asked_ticket : (configs : List Config) (log : List Entry) (n e : ℕ) (kind : Question) (t : Tracker) → TrackerStands configs log n t → asks_at log n e ≡ Some kind
    → (number : ℕ) × (table.at t.questions e ≡ Some (record { question = kind; number = number })) × IsTicket (tickets_of t.tickets kind) number e
asked_ticket configs log n e kind t s asks = by (table.at t.questions e) refl (s.asked e ∙ asks)
  where
    by : (o : Option Ticket) → table.at t.questions e ≡ o → asked_for o ≡ Some kind → (number : ℕ) × (table.at t.questions e ≡ Some (record { question = kind; number = number })) × IsTicket (tickets_of t.tickets kind) number e
    by None is h = cc
    by (Some k) is h =
        let kind_is : k.question ≡ kind = some_is h in
        (k.number, is ∙ ap (λ q. Some (record { question = q; number = k.number })) kind_is, subst (λ q. IsTicket (tickets_of t.tickets q) k.number e) kind_is (s.tickets.events e k is))
      where
        some_is : Some k.question ≡ Some kind → k.question ≡ kind
        some_is h = cc

module _ (configs : List Config) (log : List Entry) (n e : ℕ) (t : Tracker) (s : TrackerStands configs log n t) where
  -- what it asked of this node
  asks_set : (index : ℕ) → asked_by log e ≡ Some (act.Ask (ask.PeerSet index) n) → asks_at log n e ≡ Some question.PeerSet
  asks_set index asked = asks-asked log n e (act.Ask (ask.PeerSet index) n) asked ∙ ap (λ b. cond b (Some question.PeerSet) None) (eq-eqb n n refl)

  asks_updates : asked_by log e ≡ Some (act.Ask ask.Subscribe n) → asks_at log n e ≡ Some question.Updates
  asks_updates asked = asks-asked log n e (act.Ask ask.Subscribe n) asked ∙ ap (λ b. cond b (Some question.Updates) None) (eq-eqb n n refl)

  asks_blocked : asked_by log e ≡ Some (act.Ask ask.Blocked n) → asks_at log n e ≡ Some question.Blocked
  asks_blocked asked = asks-asked log n e (act.Ask ask.Blocked n) asked ∙ ap (λ b. cond b (Some question.Blocked) None) (eq-eqb n n refl)

  -- the oracle may be polled for it
  pub may_answer : (index : ℕ) → asked_by log e ≡ Some (act.Ask (ask.PeerSet index) n) → MayAnswer (is_some (table.at t.answered e)) (table.at t.questions e) t.mailbox.desk
  may_answer index asked = by (is_some (table.at t.answered e)) refl
    where
      ticket : (number : ℕ) × (table.at t.questions e ≡ Some (record { question = question.PeerSet; number = number })) × IsTicket t.tickets.questions number e
      ticket = asked_ticket configs log n e question.PeerSet t s (asks_set index asked)

      open_question : (q : Posed (Option (TrackedPeers Key))) (b : Bool) (xs : List Envelope) → AnswerStands q b xs → b ≡ false → IsTrue (is_open q)
      open_question unanswered b xs h none = refl
      open_question (answered peers) b xs h none = refl
      open_question given b xs h none = let both : true ≡ false = sym h ∙ none in cc

      by : (b : Bool) → is_some (table.at t.answered e) ≡ b → MayAnswer b (table.at t.questions e) t.mailbox.desk
      by true is = tt
      by false is =
          subst (λ o. MayRead o t.mailbox.desk) (sym ticket.1)
          (open_question (question_at t.mailbox.desk ticket.0) (is_some (table.at t.answered e)) (held t.told (queue.PeerSet n e)) (s.polled.answers ticket.0 e ticket.2) is)

  pub may_continue : (asked_by log e ≡ Some (act.Ask ask.Subscribe n)) ⊎ (asked_by log e ≡ Some (act.Ask ask.Blocked n)) → MayRead (table.at t.questions e) t.mailbox.desk
  may_continue either = elim either [ inl updates ↦ of_updates updates | inr blocked ↦ of_blocked blocked ]
    where
      below : (xs : List ℕ) (k e : ℕ) → slice_get xs k ≡ Some e → k < length xs
      below [] zero e h = cc
      below [] (suc k) e h = cc
      below (x ∷ xs) zero e h = first (length xs)
        where
          first : (l : ℕ) → 0 < suc l
          first l = omega arith
      below (x ∷ xs) (suc k) e h = next k (length xs) (below xs k e h)
        where
          next : (k l : ℕ) → k < l → suc k < suc l
          next k l h = omega (arith, h)

      of_updates : asked_by log e ≡ Some (act.Ask ask.Subscribe n) → MayRead (table.at t.questions e) t.mailbox.desk
      of_updates asked =
          let ticket = asked_ticket configs log n e question.Updates t s (asks_updates asked) in
          subst (λ o. MayRead o t.mailbox.desk) (sym ticket.1) (subst (λ l. ticket.0 < l) (sym s.updates) (below t.tickets.updates ticket.0 e ticket.2))

      of_blocked : asked_by log e ≡ Some (act.Ask ask.Blocked n) → MayRead (table.at t.questions e) t.mailbox.desk
      of_blocked asked =
          let ticket = asked_ticket configs log n e question.Blocked t s (asks_blocked asked) in
          subst (λ o. MayRead o t.mailbox.desk) (sym ticket.1) (subst (λ l. ticket.0 < l) (sym s.sets) (below t.tickets.blocked ticket.0 e ticket.2))

pub tracker_answers : (configs : List Config) (log : List Entry) (at seed n e index : ℕ) (t u : Tracker) (r : Row) → TrackerStands configs log n t → asked_by log e ≡ Some (act.Ask (ask.PeerSet index) n) → Answers n e t u r
    → (r ≡ answer_row log e) × TrackerStands configs (log ++ entry_of (record { at = at; seed = seed; act = act.Answer e }) r ∷ []) n u
tracker_answers configs log at seed n e index t u r s asked h =
    by_taken (is_some (table.at t.answered e)) refl (subst (λ o. AnswersBy (is_some (table.at t.answered e)) o n e t u r) ticket.1 h)
  where
    here : asks_at log n e ≡ Some question.PeerSet
    here = asks_set configs log n e t s index asked

    ticket : (number : ℕ) × (table.at t.questions e ≡ Some (record { question = question.PeerSet; number = number })) × IsTicket t.tickets.questions number e
    ticket = asked_ticket configs log n e question.PeerSet t s here

    row_is : answer_row log e ≡ answer_at log n e
    row_is = ap (answer_by log e) asked

    at_is : (b : Bool) → is_some (table.at t.answered e) ≡ b → answer_at log n e ≡ cond b (only reply.Gone) (oldest_row (cond (is_stopped log n) (reply.PeerSet None) reply.Pending) (line log (queue.PeerSet n e)))
    at_is b is = ap (λ c. cond c (only reply.Gone) (oldest_row (cond (is_stopped log n) (reply.PeerSet None) reply.Pending) (line log (queue.PeerSet n e)))) (sym (s.answered e here) ∙ is)

    Done : Type 0
    Done = (r ≡ answer_row log e) × TrackerStands configs (log ++ entry_of (record { at = at; seed = seed; act = act.Answer e }) r ∷ []) n u

    by_taken : (b : Bool) → is_some (table.at t.answered e) ≡ b → AnswersBy b (Some (record { question = question.PeerSet; number = ticket.0 })) n e t u r → Done
    by_taken true is only_gone = (
      only_gone.0 ∙ sym (row_is ∙ at_is true is),
      still_stands configs log at seed n (act.Answer e) t u r s refl refl refl refl refl reply.Gone only_gone.0 (λ d. no_answer_gone d e) only_gone.1,
    )
    by_taken false is reads =
        let q = queue.PeerSet n e in
        let d = t.mailbox.desk in
        let said = answer_said (answer_of d.messages.closed (question_at d ticket.0)) in
        let entry = entry_of (record { at = at; seed = seed; act = act.Answer e }) r in
        let waits : held t.told q ≡ line log q = s.told q (eq-eqb n n refl) in
        let first : r ≡ oldest_row (cond (is_stopped log n) (reply.PeerSet None) reply.Pending) (line log q) =
        reads.0.0
        ∙ (answer_row_is (question_at d ticket.0) (is_some (table.at t.answered e)) d.messages.closed (held t.told q) (s.polled.answers ticket.0 e ticket.2) is
        ∙ (ap (λ c. oldest_row (cond c (reply.PeerSet None) reply.Pending) (held t.told q)) s.closed ∙ ap (oldest_row (cond (is_stopped log n) (reply.PeerSet None) reply.Pending)) waits))
        in
        let said_is : r.reply ≡ said = ap (λ (k : Row). k.reply) reads.0.0 ∙ polled_reply said (slice_get (held t.told q) 0) in
        let now = noted (is_peer_set said) e t.answered in (
          first ∙ sym (row_is ∙ at_is false is),
          read_stands configs log at seed n (act.Answer e) t u r s refl refl refl refl refl (cond (is_stopped log n) (reply.PeerSet None) reply.Pending) q (line log q) (answer_taken d ticket.0) now refl
              (record { own = eq-eqb n n refl; no_dialer = refl; no_listener = refl; no_handshake = λ k. refl }) first reads.0.1.0
              (reads.0.1.1 ∙ ap (λ l. record t { mailbox = with_desk t.mailbox (answer_taken d ticket.0); answered = l; told = u.told }) reads.1) refl
              (record {
                questions = length-set d.questions ticket.0 _ ∙ s.questions;
                updates = s.updates;
                sets = s.sets;
                rises = s.rises;
                tickets = s.tickets;
                polled = answer_left n t.tickets t.questions s.tickets t.answered (held t.told) (held u.told) d s.polled e ticket.0 ticket.2 is s.questions reads.0.1.0;
              })
              (λ i wants.
              ap (λ b. is_some (table.at (noted b e t.answered) i)) (ap is_peer_set (sym said_is))
              ∙ (note_taken t.answered (was_answered log i) (is_peer_set r.reply) e i (s.answered i wants) ∙ sym (was_answered-append log entry i)))
              (λ i past.
              let long = length-append log (entry ∷ []) in
              let before : length log ≤ i = omega (arith, long) in
              let other : (e == i) ≡ false = apart e i (length log) (asked_before log e (act.Ask (ask.PeerSet index) n) asked) before in
              let was = s.fresh i before in (
                note_other t.answered (is_peer_set said) e i other ∙ was.0,
                was_answered-append log entry i ∙ (ap (λ b. b || ((e == i) && is_peer_set r.reply)) was.1 ∙ ap (λ b. b && is_peer_set r.reply) other),
              )),
        )

-- ---- what comes next for a subscription

module _ (configs : List Config) (log : List Entry) (at seed n e : ℕ) (t u : Tracker) (r : Row) (s : TrackerStands configs log n t) where
  abbrev d : Desk Key
  d = t.mailbox.desk

  abbrev entry : Entry
  entry = entry_of (record { at = at; seed = seed; act = act.Next e }) r

  reads_on : (q : Queue) (desk : Desk Key) (said : Reply) → TellsAsker n q → ReadsFrom q said desk t u r → u.answered ≡ t.answered → desk.messages ≡ d.messages
      → polled_row said (slice_get (held t.told q) 0) ≡ oldest_row (cond d.messages.closed reply.StreamEnded reply.Pending) (held t.told q)
      → HasDesk n t desk t.tickets t.questions t.answered u.told d.messages.items
      → (r ≡ oldest_row (none_next log n) (line log q)) × TrackerStands configs (log ++ entry ∷ []) n u
  reads_on q desk said asker reads still messages row has =
      let first : r ≡ oldest_row (none_next log n) (line log q) =
      reads.0
      ∙ (row ∙ (ap (λ c. oldest_row (cond c reply.StreamEnded reply.Pending) (held t.told q)) s.closed ∙ ap (oldest_row (none_next log n)) (s.told q asker.own)))
      in (
        first,
        read_stands configs log at seed n (act.Next e) t u r s refl refl refl refl refl (none_next log n) q (line log q) desk t.answered refl asker first reads.1.0
            (reads.1.1 ∙ ap (λ l. record t { mailbox = with_desk t.mailbox desk; answered = l; told = u.told }) still) messages has
            (λ i wants. s.answered i wants ∙ sym (was_answered-kept log entry i refl))
            (fresh-longer log entry t.answered s.fresh (λ i past. refl)),
      )

  pub tracker_updates : asked_by log e ≡ Some (act.Ask ask.Subscribe n) → Continues n e t u r → (r ≡ next_row log e) × TrackerStands configs (log ++ entry ∷ []) n u
  tracker_updates asked h =
      let q = queue.PeerSetUpdates n e in
      let ticket = asked_ticket configs log n e question.Updates t s (asks_updates configs log n e t s asked) in
      let number = ticket.0 in
      let reads : ReadsUpdate n e number t u r = subst (λ o. ContinuesBy o n e t u r) ticket.1 h in
      let done =
      reads_on q (update_taken d number) (update_said (next_item d.messages.closed (slice_get (updates_at d number) 0))) (record { own = eq-eqb n n refl; no_dialer = refl; no_listener = refl; no_handshake = λ k. refl }) reads.0 reads.1 refl
      (update_row_is (updates_at d number) d.messages.closed (held t.told q) (s.polled.updates number e ticket.2))
      (record {
        questions = s.questions;
        updates = length-set d.updates number _ ∙ s.updates;
        sets = s.sets;
        rises = s.rises;
        tickets = s.tickets;
        polled = update_left n t.tickets t.questions s.tickets t.answered (held t.told) (held u.told) d s.polled e number ticket.2 s.updates reads.0.1.0;
      })
      in
      (done.0 ∙ sym (ap (next_by log e) asked), done.1)

  pub tracker_sets : asked_by log e ≡ Some (act.Ask ask.Blocked n) → Continues n e t u r → (r ≡ next_row log e) × TrackerStands configs (log ++ entry ∷ []) n u
  tracker_sets asked h =
      let q = queue.Blocked n e in
      let ticket = asked_ticket configs log n e question.Blocked t s (asks_blocked configs log n e t s asked) in
      let number = ticket.0 in
      let reads : ReadsSet n e number t u r = subst (λ o. ContinuesBy o n e t u r) ticket.1 h in
      let done =
      reads_on q (set_taken d number) (set_said (next_item d.messages.closed (set_of d number))) (record { own = eq-eqb n n refl; no_dialer = refl; no_listener = refl; no_handshake = λ k. refl }) reads.0 reads.1 refl
      (set_row_is (set_of d number) d.messages.closed (held t.told q) (s.polled.sets number e ticket.2))
      (record {
        questions = s.questions;
        updates = s.updates;
        sets = length-set d.sets number _ ∙ s.sets;
        rises = subst (λ l. Rises 0 l (t.actor.sets ++ flat_map blocked_asked d.messages.items)) (sym (length-set d.sets number None)) s.rises;
        tickets = s.tickets;
        polled = set_left n t.tickets t.questions s.tickets t.answered (held t.told) (held u.told) d s.polled e number ticket.2 s.sets reads.0.1.0;
      })
      in
      (done.0 ∙ sym (ap (next_by log e) asked), done.1)

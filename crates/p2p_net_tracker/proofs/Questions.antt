-- A node's tracker is asked: the row is the log's, and it stands for the log with that entry.
use Rattle.std.proofs.Common.{◌≡◌, ℕ, ◌+◌, ◌≤◌, Bool, true, false, cond, List, [], ◌∷◌, ◌++◌, length, refl, ap, sym, subst, ◌∙◌, arith, eq-eqb, length-append, append-nil, append_assoc, Option, Some, None}
use Rattle.std.specs.Prelude.{flat_map, slice_get, slice_index_or, nat_lt, nat_le, not, is_some, ◌==◌, if◌then◌else◌}
use Rattle.std.proofs.lemmas.Grind.{flat_map-append}
use Rattle.std.specs.Map.{keys_of}
use Rattle.std.specs.BTreeMap.{is_at, insert_entry}
use Rattle.std.specs.Ordering.{nat_cmp}
use Rattle.std.proofs.lemmas.Bool.Decides.{nat_tests}
use Rattle.p2p_base.specs.declared.key.Key.{Key}
use Rattle.p2p_base.specs.Queue as base
use Rattle.p2p_base.specs.Queue.{with_items, enqueued, overflow_items, has_room}
use Rattle.p2p_base.specs.declared.outcome.Feedback.{Feedback}
use Rattle.p2p_base.specs.declared.outcome.Feedback.TheVariants as feedback
use Rattle.p2p_base.specs.declared.policy.Keep.TheVariants.{Append}
use Rattle.p2p_flow.specs.Provided as posed
use Rattle.p2p_flow.specs.SetSize.{set_size}
use Rattle.p2p_flow.specs.declared.addressable.AddressableTrackedPeers.{AddressableTrackedPeers}
use Rattle.p2p_tracker_mailbox.specs.Mailboxes.{with_desk}
use Rattle.p2p_tracker_mailbox.specs.Desk.{Desk, told_of, with_message, asked, subscribed, blocked_subscribed}
use Rattle.p2p_tracker_mailbox.specs.declared.message.Message.{Message}
use Rattle.p2p_tracker_mailbox.specs.declared.message.Message.TheVariants as message
use Rattle.p2p_log.specs.declared.config.Config.{Config}
use Rattle.p2p_log.specs.declared.queue.Queue.{Queue}
use Rattle.p2p_log.specs.declared.queue.Queue.TheVariants as queue
use Rattle.p2p_log.specs.declared.item.Item.TheVariants as item
use Rattle.p2p_log.specs.declared.entry.Entry.{Entry}
use Rattle.p2p_log.specs.declared.entry.Reply.{Reply}
use Rattle.p2p_log.specs.declared.entry.Reply.TheVariants as reply
use Rattle.p2p_log.specs.declared.asked.Asked.{Asked}
use Rattle.p2p_log.specs.declared.asked.Asked.TheVariants as ask
use Rattle.p2p_log.specs.declared.event.Act.{Act}
use Rattle.p2p_log.specs.declared.event.Act.TheVariants as act
use Rattle.p2p_log.specs.Lines.{line}
use Rattle.p2p_log_rules.specs.declared.row.Row.{Row}
use Rattle.p2p_log_rules.specs.Effect.{entry_of}
use Rattle.p2p_log_rules.specs.Facts.{is_stopped}
use Rattle.p2p_log_rules.specs.Full.{is_full}
use Rattle.p2p_log_rules.specs.Rows.{only, mailbox_size_at}
use Rattle.p2p_log_rules.proofs.Channels.{is_stopped-kept}
use Rattle.p2p_log_rules.proofs.Handshakes.{handshakes_of-apart}
use Rattle.p2p_log_rules.specs.Tracking.{key_cmp}
use Rattle.p2p_log_rules.specs.TrackerRows.{was_answered, feedback_by, asked_row, most_peers_at, size_at, track_row, ask_row}
use Rattle.p2p_net_queues.specs.Board.{held}
use Rattle.p2p_net_queues.specs.Matching.{Match}
use Rattle.p2p_net_queues.specs.Tables as table
use Rattle.p2p_net_queues.proofs.Tables.{lookup-insert_entry}
use Rattle.p2p_net_tracker.specs.declared.naming.Tickets.{Tickets}
use Rattle.p2p_net_tracker.specs.declared.question.Question.{Question}
use Rattle.p2p_net_tracker.specs.declared.question.Ticket.{Ticket}
use Rattle.p2p_net_tracker.specs.declared.question.Question.TheVariants as question
use Rattle.p2p_net_tracker.specs.declared.tracker.Tracker.{Tracker}
use Rattle.p2p_net_tracker.specs.Asking.{asking_row, names_told, asks_for, size_by, track_answer, tracked_by, ask_answer, after_asking}
use Rattle.p2p_net_tracker.specs.AtDesk.{AnswerStands, IsUpdate, SetStands, asked_for, Rises, blocked_asked}
use Rattle.p2p_net_tracker.specs.Stands.{kind_of, asks_of, asks_at, Says, TrackerStands}
use Rattle.p2p_net_tracker.proofs.AskedDesk.{given_to, still_given, tickets_more, asked_peers, asked_updates, asked_sets}
use Rattle.p2p_net_tracker.proofs.Changes.{AreMore, same_tickets, Asks, HasDesk, LeavesMailbox, tracker_frame, tracker_asked, tracker_kept, line_left}
use Rattle.p2p_net_tracker.proofs.Ended.{no_end-act}
use Rattle.p2p_net_tracker.proofs.SetsOnce.{rises_longer, rises_more}
use Rattle.p2p_net_tracker.proofs.Facts.{asks_at-past, asks_at-longer, asks_at-kept, fresh-longer, was_answered-kept}
use Rattle.p2p_net_queues.proofs.Matching.{Match-long, slice_get-last}

-- what the mailbox tells is what the log says
told_is : (closed : Bool) (items capacity waiting size : ℕ) → closed ≡ false → waiting ≡ items → capacity ≡ size
    → (if closed then feedback.Closed else (if nat_lt items capacity then feedback.Ok else feedback.Backoff)) ≡ feedback_by (nat_le size waiting)
told_is true items capacity waiting size h long wide = cc
told_is false items capacity waiting size h long wide =
    ap (λ n. if nat_lt n capacity then feedback.Ok else feedback.Backoff) (sym long)
    ∙ (ap (λ n. if nat_lt waiting n then feedback.Ok else feedback.Backoff) wide ∙ (ap (λ b. if b then feedback.Ok else feedback.Backoff) (free waiting size) ∙ same (nat_le size waiting)))
  where
    free : (i j : ℕ) → nat_lt i j ≡ not (nat_le j i)
    free i j = grind (arith, nat_tests)

    same : (full : Bool) → (if not full then feedback.Ok else feedback.Backoff) ≡ feedback_by full
    same true = refl
    same false = refl

-- a mailbox that is open takes the message, and one that has closed takes none
abbrev takes_row : ℕ → ℕ → Feedback → Row
takes_row n k told = record { reply = reply.Feedback told; takes = []; puts = (queue.Tracker n, item.Call k) ∷ []; ends = [] }

taken_when : (n k : ℕ) (closed room : Bool) → closed ≡ false
    → let told = if closed then feedback.Closed else (if room then feedback.Ok else feedback.Backoff) in (asking_row told n k ≡ takes_row n k told) × (names_told told k ≡ (k, 0) ∷ [])
taken_when n k true room h = cc
taken_when n k false true h = (refl, refl)
taken_when n k false false h = (refl, refl)

refused_when : (closed room : Bool) → closed ≡ true → (if closed then feedback.Closed else (if room then feedback.Ok else feedback.Backoff)) ≡ feedback.Closed
refused_when true room h = refl
refused_when false room h = cc

closed_keeps : {T : Type 0} (q : base.Queue T) (m : T) → q.closed ≡ true → enqueued Append q m ≡ q
closed_keeps q m h = ap (λ b. with_items q (if b then q.items else (if has_room q then q.items ++ m ∷ [] else overflow_items Append q m))) h

-- what an act asks of its own node
asks_here : (n : ℕ) (what : Asked) → asks_of n (act.Ask what n) ≡ kind_of what
asks_here n what = ap (λ b. cond b (kind_of what) None) (eq-eqb n n refl)

module _ (configs : List Config) (log : List Entry) (at seed n : ℕ) (what : Asked) (t u : Tracker) (r : Row) (s : TrackerStands configs log n t) where
  abbrev a : Act
  a = act.Ask what n

  abbrev e : Entry
  e = entry_of (record { at = at; seed = seed; act = a }) r

  abbrev l : ℕ
  l = length log

  abbrev d : Desk Key
  d = t.mailbox.desk

  abbrev Done : Row → Type 0
  Done due = (r ≡ due) × TrackerStands configs (log ++ e ∷ []) n u

  -- ---- the ticket, where it is given one

  -- nobody has the number of the event yet
  fresh_event : table.at t.questions l ≡ None
  fresh_event = by (table.at t.questions l) (s.asked l ∙ asks_at-past log n l (here l))
    where
      here : (i : ℕ) → i ≤ i
      here i = omega arith

      by : (o : Option Ticket) → asked_for o ≡ None → o ≡ None
      by None h = refl
      by (Some k) h = cc

  kind_kept : (k : Ticket) → kind_of what ≡ Some k.question → (i : ℕ) → asked_for (table.at (insert_entry nat_cmp t.questions l k) i) ≡ asks_at (log ++ e ∷ []) n i
  kind_kept k is i =
      ap asked_for (lookup-insert_entry l i k t.questions)
      ∙ (by (is_at (nat_cmp i) l)
      ∙ (ap (λ o. cond (is_at (nat_cmp i) l) (Some k.question) o) (s.asked i)
      ∙ (ap (λ b. cond b (Some k.question) (asks_at log n i)) (same i l)
      ∙ (ap (λ o. cond (i == l) o (asks_at log n i)) (sym (asks_here n what ∙ is)) ∙ sym (asks_at-longer log e n i)))))
    where
      same : (i j : ℕ) → is_at (nat_cmp i) j ≡ (i == j)
      same i j = grind (arith, nat_tests)

      by : (b : Bool) → asked_for (cond b (Some k) (table.at t.questions i)) ≡ cond b (Some k.question) (asked_for (table.at t.questions i))
      by true = refl
      by false = refl

  -- no question was answered before it was asked
  unanswered : (i : ℕ) → asks_at (log ++ e ∷ []) n i ≡ Some question.PeerSet → is_some (table.at t.answered i) ≡ was_answered log i
  unanswered i wants = by (i == l) refl
    where
      past : (i l : ℕ) → (i == l) ≡ true → l ≤ i
      past i l h = grind (arith, nat_tests)

      by : (b : Bool) → (i == l) ≡ b → is_some (table.at t.answered i) ≡ was_answered log i
      by true same = let fresh = s.fresh i (past i l same) in ap is_some fresh.0 ∙ sym fresh.1
      by false other = s.answered i (sym (asks_at-longer log e n i ∙ ap (λ b. cond b (asks_of n a) (asks_at log n i)) other) ∙ wants)

  unnoted : table.at t.answered l ≡ None
  unnoted = (s.fresh l (here l)).0
    where
      here : (i : ℕ) → i ≤ i
      here i = omega arith

  -- the subscriptions that wait, with this message
  rise_with : (m : Message Key) → blocked_asked m ≡ [] → Rises 0 (length d.sets) (t.actor.sets ++ flat_map blocked_asked (d.messages.items ++ m ∷ []))
  rise_with m none =
      subst (λ xs. Rises 0 (length d.sets) (t.actor.sets ++ xs))
      (sym (flat_map-append blocked_asked d.messages.items (m ∷ []) ∙ (ap (λ xs. flat_map blocked_asked d.messages.items ++ (xs ++ [])) none ∙ append-nil (flat_map blocked_asked d.messages.items)))) s.rises

  longer : {X Y : Type 0} (xs : List X) (ys : List Y) (x : X) (y : Y) → length xs ≡ length ys → length (xs ++ x ∷ []) ≡ length (ys ++ y ∷ [])
  longer xs ys x y same = length-append xs (x ∷ []) ∙ (ap (λ k. k + 1) same ∙ sym (length-append ys (y ∷ [])))

  one_longer : {X : Type 0} (xs : List X) (x : X) → length (xs ++ x ∷ []) ≡ length xs + 1
  one_longer xs x = length-append xs (x ∷ [])

  -- what the desk has then, by the messages that wait for the actor
  peers_desk : (index : ℕ) (ms : List (Message Key)) → Rises 0 (length d.sets) (t.actor.sets ++ flat_map blocked_asked ms)
      → HasDesk n t (asked d index) (given_to t.tickets question.PeerSet l) (insert_entry nat_cmp t.questions l (record { question = question.PeerSet; number = length d.questions })) t.answered t.told ms
  peers_desk index ms rises = record {
    questions = longer d.questions t.tickets.questions posed.unanswered l s.questions;
    updates = s.updates;
    sets = s.sets;
    rises = rises;
    tickets = tickets_more t.tickets t.questions s.tickets l fresh_event question.PeerSet (length d.questions) s.questions;
    polled = asked_peers t.tickets t.questions s.tickets l fresh_event n t.answered (held t.told) d s.polled (asked d index).messages s.questions unnoted;
  }

  updates_desk : (ms : List (Message Key)) → Rises 0 (length d.sets) (t.actor.sets ++ flat_map blocked_asked ms)
      → HasDesk n t (subscribed d) (given_to t.tickets question.Updates l) (insert_entry nat_cmp t.questions l (record { question = question.Updates; number = length d.updates })) t.answered t.told ms
  updates_desk ms rises = record {
    questions = s.questions;
    updates = longer d.updates t.tickets.updates [] l s.updates;
    sets = s.sets;
    rises = rises;
    tickets = tickets_more t.tickets t.questions s.tickets l fresh_event question.Updates (length d.updates) s.updates;
    polled = asked_updates t.tickets t.questions s.tickets l fresh_event n t.answered (held t.told) d s.polled (subscribed d).messages s.updates;
  }

  sets_desk : (ms : List (Message Key)) → Rises 0 (length d.sets + 1) (t.actor.sets ++ flat_map blocked_asked ms)
      → HasDesk n t (blocked_subscribed d) (given_to t.tickets question.Blocked l) (insert_entry nat_cmp t.questions l (record { question = question.Blocked; number = length d.sets })) t.answered t.told ms
  sets_desk ms rises = record {
    questions = s.questions;
    updates = s.updates;
    sets = longer d.sets t.tickets.blocked None l s.sets;
    rises = subst (λ i. Rises 0 i (t.actor.sets ++ flat_map blocked_asked ms)) (sym (one_longer d.sets None)) rises;
    tickets = tickets_more t.tickets t.questions s.tickets l fresh_event question.Blocked (length d.sets) s.sets;
    polled = asked_sets t.tickets t.questions s.tickets l fresh_event n t.answered (held t.told) d s.polled (blocked_subscribed d).messages s.sets;
  }

  same_desk : (desk : Desk Key) (ms : List (Message Key)) → desk.questions ≡ d.questions → desk.updates ≡ d.updates → desk.sets ≡ d.sets → Rises 0 (length d.sets) (t.actor.sets ++ flat_map blocked_asked ms)
      → HasDesk n t desk t.tickets t.questions t.answered t.told ms
  same_desk desk ms questions updates sets rises = record {
    questions = ap length questions ∙ s.questions;
    updates = ap length updates ∙ s.updates;
    sets = ap length sets ∙ s.sets;
    rises = subst (λ xs. Rises 0 (length xs) (t.actor.sets ++ flat_map blocked_asked ms)) (sym sets) rises;
    tickets = s.tickets;
    polled = record {
      answers = λ k i is. subst (λ qs. AnswerStands (slice_index_or qs k posed.given) (is_some (table.at t.answered i)) (held t.told (queue.PeerSet n i))) (sym questions) (s.polled.answers k i is);
      updates = λ k i is. subst (λ us. Match IsUpdate (held t.told (queue.PeerSetUpdates n i)) (slice_index_or us k [])) (sym updates) (s.polled.updates k i is);
      sets = λ k i is. subst (λ xs. SetStands (slice_index_or xs k None) (held t.told (queue.Blocked n i))) (sym sets) (s.polled.sets k i is);
      none = s.polled.none;
    };
  }

  -- ---- of a node that runs

  module _ (lasts : is_stopped log n ≡ false) (is : r ≡ asking_row (told_of d) n l) where
    taken : (asking_row (told_of d) n l ≡ takes_row n l (told_of d)) × (names_told (told_of d) l ≡ (l, 0) ∷ [])
    taken = taken_when n l d.messages.closed (has_room d.messages) (s.closed ∙ lasts)

    row_is : r ≡ asked_row configs log n
    row_is =
        let q = d.messages in
        is
        ∙ (taken.0
        ∙ (ap (takes_row n l)
        (told_is q.closed (length q.items) q.capacity (length (line log (queue.Tracker n))) (mailbox_size_at configs n) (s.closed ∙ lasts) (Match-long _ (line log (queue.Tracker n)) q.items s.messages) s.size)
        ∙ ap (λ b. cond b (only (reply.Feedback feedback.Closed)) (takes_row n l (feedback_by (is_full configs log (queue.Tracker n))))) (sym lasts)))

    asks : Asks log e n
    asks = record {
      no_step = refl;
      no_answer = λ i. refl;
      no_end = no_end-act n log e refl;
      no_admission = handshakes_of-apart log e n refl;
      goes_on = is_stopped-kept log e n refl;
      takes = ap (λ (k : Row). k.takes) (is ∙ taken.0);
      puts = ap (λ (k : Row). k.puts) (is ∙ taken.0);
      ends = ap (λ (k : Row). k.ends) (is ∙ taken.0);
    }

    asked_stands : (desk : Desk Key) (tickets : Tickets) (of : List (ℕ × Ticket)) (m : Message Key) → AreMore t.tickets tickets → desk.messages ≡ enqueued Append d.messages m → Says tickets l a m
        → HasDesk n t desk tickets of t.answered t.told (d.messages.items ++ m ∷ []) → ((i : ℕ) → asked_for (table.at of i) ≡ asks_at (log ++ e ∷ []) n i)
        → u ≡ record t { mailbox = with_desk t.mailbox desk; names = t.names ++ names_told (told_of d) l; tickets = tickets; questions = of } → Done (asked_row configs log n)
    asked_stands desk tickets of m more put says has asked_now same = (
      row_is,
      subst (TrackerStands configs (log ++ e ∷ []) n) (sym (same ∙ ap (λ ns. record t { mailbox = with_desk t.mailbox desk; names = t.names ++ ns; tickets = tickets; questions = of }) taken.1))
          (tracker_asked configs log e n t desk tickets of m s lasts asks more put says has asked_now unanswered),
    )

  -- ---- of a node that has stopped

  module _ (stops : is_stopped log n ≡ true) (is : r ≡ asking_row (told_of d) n l) where
    refused : told_of d ≡ feedback.Closed
    refused = refused_when d.messages.closed (has_room d.messages) (s.closed ∙ stops)

    only_is : r ≡ only (reply.Feedback feedback.Closed)
    only_is = is ∙ ap (λ f. asking_row f n l) refused

    left : (p : Queue) → line (log ++ e ∷ []) p ≡ line log p
    left = line_left log e (ap (λ (k : Row). k.takes) only_is) (ap (λ (k : Row). k.puts) only_is) (ap (λ (k : Row). k.ends) only_is)

    leaves : LeavesMailbox log e n
    leaves = record {
      no_step = refl;
      no_end = no_end-act n log e refl;
      no_admission = handshakes_of-apart log e n refl;
      goes_on = is_stopped-kept log e n refl;
      mailbox = left (queue.Tracker n);
      dialer = left (queue.Dialer n);
      listener = left (queue.Addresses n);
      handshakes = λ k. left (queue.Handshake n k);
    }

    closed_is : r ≡ asked_row configs log n
    closed_is = only_is ∙ ap (λ b. cond b (only (reply.Feedback feedback.Closed)) (takes_row n l (feedback_by (is_full configs log (queue.Tracker n))))) (sym stops)

    closed_stands : (desk : Desk Key) (tickets : Tickets) (of : List (ℕ × Ticket)) (m : Message Key) → AreMore t.tickets tickets → desk.messages ≡ enqueued Append d.messages m
        → HasDesk n t desk tickets of t.answered t.told d.messages.items → ((i : ℕ) → asked_for (table.at of i) ≡ asks_at (log ++ e ∷ []) n i)
        → u ≡ record t { mailbox = with_desk t.mailbox desk; names = t.names ++ names_told (told_of d) l; tickets = tickets; questions = of } → Done (asked_row configs log n)
    closed_stands desk tickets of m more put has asked_now same = (
      closed_is,
      subst (TrackerStands configs (log ++ e ∷ []) n)
          (sym (same
          ∙ (ap (λ f. record t { mailbox = with_desk t.mailbox desk; names = t.names ++ names_told f l; tickets = tickets; questions = of }) refused
          ∙ ap (λ ns. record t { mailbox = with_desk t.mailbox desk; names = ns; tickets = tickets; questions = of }) (append-nil t.names))))
          (tracker_kept configs log e n t desk tickets of t.answered t.told s leaves more (put ∙ closed_keeps d.messages m (s.closed ∙ stops)) has asked_now
          (λ i wants. unanswered i wants ∙ sym (was_answered-kept log e i refl)) (fresh-longer log e t.answered s.fresh (λ i past. refl)) (λ p own. s.told p own ∙ sym (left p))),
    )

  -- ---- whether it runs or not

  more_given : (kind : Question) → AreMore t.tickets (given_to t.tickets kind l)
  more_given kind = record {
    questions = λ k i h. still_given t.tickets t.questions s.tickets l fresh_event kind question.PeerSet k i h;
    updates = λ k i h. still_given t.tickets t.questions s.tickets l fresh_event kind question.Updates k i h;
    blocked = λ k i h. still_given t.tickets t.questions s.tickets l fresh_event kind question.Blocked k i h;
  }

  -- with a desk that has a place for what is asked, whatever waits for the actor
  ask_done : (desk : Desk Key) (tickets : Tickets) (of : List (ℕ × Ticket)) (m : Message Key) → r ≡ asking_row (told_of d) n l → AreMore t.tickets tickets → desk.messages ≡ enqueued Append d.messages m → Says tickets l a m
      → HasDesk n t desk tickets of t.answered t.told (d.messages.items ++ m ∷ []) → HasDesk n t desk tickets of t.answered t.told d.messages.items → ((i : ℕ) → asked_for (table.at of i) ≡ asks_at (log ++ e ∷ []) n i)
      → u ≡ record t { mailbox = with_desk t.mailbox desk; names = t.names ++ names_told (told_of d) l; tickets = tickets; questions = of } → Done (asked_row configs log n)
  ask_done desk tickets of m is more put says has left asked_now same = by (is_stopped log n) refl
    where
      by : (b : Bool) → is_stopped log n ≡ b → Done (asked_row configs log n)
      by false lasts = asked_stands lasts is desk tickets of m more put says has asked_now same
      by true stops = closed_stands stops is desk tickets of m more put left asked_now same

  -- a message that nobody is told of
  pub message_asked : (m : Message Key) → r ≡ asking_row (told_of d) n l → kind_of what ≡ None → Says t.tickets l a m → blocked_asked m ≡ [] → u ≡ asks_for t l (with_message d m) → Done (asked_row configs log n)
  message_asked m is no_question says none same =
      ask_done (with_message d m) t.tickets t.questions m is (same_tickets t.tickets) refl says
      (same_desk (with_message d m) (d.messages.items ++ m ∷ []) refl refl refl (rise_with m none)) (same_desk (with_message d m) d.messages.items refl refl refl s.rises)
      (λ i. s.asked i ∙ sym (asks_at-kept log e n i (asks_here n what ∙ no_question))) same

  -- it is as it was, and this is answered
  pub nothing_asked : (rep : Reply) → r ≡ only rep → kind_of what ≡ None → u ≡ t → TrackerStands configs (log ++ e ∷ []) n u
  nothing_asked rep is no_question same =
      let lines : (p : Queue) → line (log ++ e ∷ []) p ≡ line log p = line_left log e (ap (λ (k : Row). k.takes) is) (ap (λ (k : Row). k.puts) is) (ap (λ (k : Row). k.ends) is) in
      subst (TrackerStands configs (log ++ e ∷ []) n) (sym same) (tracker_frame configs log e n t s (record {
        no_step = refl;
        no_question = asks_here n what ∙ no_question;
        no_answer = λ i wants. refl;
        no_late_answer = λ i past. refl;
        no_end = no_end-act n log e refl;
        goes_on = is_stopped-kept log e n refl;
        handshakes = handshakes_of-apart log e n refl;
        mailbox = lines (queue.Tracker n);
        told = λ p own. lines p;
      }))

-- ---- each of them

-- its ticket is the next one
next_ticket : {X : Type 0} (places : List X) (events : List ℕ) (l : ℕ) → length places ≡ length events → slice_get (events ++ l ∷ []) (length places) ≡ Some l
next_ticket places events l same = ap (slice_get (events ++ l ∷ [])) same ∙ slice_get-last events l

-- a set is asked for, unless it is too large
track_asked : (configs : List Config) (log : List Entry) (at seed n index : ℕ) (peers : AddressableTrackedPeers Key) (t u : Tracker) (r : Row) → TrackerStands configs log n t
    → r ≡ track_answer t n (length log) peers → u ≡ tracked_by t (length log) index peers
    → (r ≡ track_row configs log n peers) × TrackerStands configs (log ++ entry_of (record { at = at; seed = seed; act = act.Ask (ask.Track index peers) n }) r ∷ []) n u
track_asked configs log at seed n index peers t u r s is same = by (nat_lt t.oracle.max_peers_per_set (size_by t peers)) refl is same
  where
    size : size_by t peers ≡ size_at configs n peers
    size = ap (λ k. set_size key_cmp k (keys_of peers.primary) (keys_of peers.secondary)) s.local

    test : (b : Bool) → nat_lt t.oracle.max_peers_per_set (size_by t peers) ≡ b → nat_lt (most_peers_at configs n) (size_at configs n peers) ≡ b
    test b h = sym (ap (λ m. nat_lt m (size_by t peers)) s.most ∙ ap (nat_lt (most_peers_at configs n)) size) ∙ h

    row_is : (b : Bool) → nat_lt t.oracle.max_peers_per_set (size_by t peers) ≡ b
        → track_row configs log n peers ≡ cond b (only (reply.PeerSetTooLarge (size_at configs n peers) (most_peers_at configs n))) (asked_row configs log n)
    row_is b h = ap (λ c. cond c (only (reply.PeerSetTooLarge (size_at configs n peers) (most_peers_at configs n))) (asked_row configs log n)) (test b h)

    by : (b : Bool) → nat_lt t.oracle.max_peers_per_set (size_by t peers) ≡ b
        → r ≡ cond b (only (reply.PeerSetTooLarge (size_by t peers) t.oracle.max_peers_per_set)) (asking_row (told_of t.mailbox.desk) n (length log))
        → u ≡ cond b t (asks_for t (length log) (with_message t.mailbox.desk (message.Register index peers)))
        → (r ≡ track_row configs log n peers) × TrackerStands configs (log ++ entry_of (record { at = at; seed = seed; act = act.Ask (ask.Track index peers) n }) r ∷ []) n u
    by true large is same = (
      is ∙ (ap (λ k. only (reply.PeerSetTooLarge k t.oracle.max_peers_per_set)) size ∙ (ap (λ k. only (reply.PeerSetTooLarge (size_at configs n peers) k)) s.most ∙ sym (row_is true large))),
      nothing_asked configs log at seed n (ask.Track index peers) t u r s (reply.PeerSetTooLarge (size_by t peers) t.oracle.max_peers_per_set) is refl same,
    )
    by false fits is same =
        let done = message_asked configs log at seed n (ask.Track index peers) t u r s (message.Register index peers) is refl (0, refl, tt) refl same in
        (done.0 ∙ sym (row_is false fits), done.1)

pub ask_stands : (configs : List Config) (log : List Entry) (at seed n : ℕ) (what : Asked) (t u : Tracker) (r : Row) → TrackerStands configs log n t
    → r ≡ ask_answer t n (length log) what → u ≡ after_asking t (length log) what
    → (r ≡ ask_row configs log n what) × TrackerStands configs (log ++ entry_of (record { at = at; seed = seed; act = act.Ask what n }) r ∷ []) n u
ask_stands configs log at seed n (ask.Track index peers) t u r s is same = track_asked configs log at seed n index peers t u r s is same
ask_stands configs log at seed n (ask.PeerSet index) t u r s is same =
    let w = ask.PeerSet index in
    let l = length log in
    let d = t.mailbox.desk in
    let m : Message Key = message.PeerSet index (length d.questions) in
    let k : Ticket = record { question = question.PeerSet; number = length d.questions } in
    ask_done configs log at seed n w t u r s (asked d index) (given_to t.tickets question.PeerSet l) (insert_entry nat_cmp t.questions l k) m is (more_given configs log at seed n w t u r s question.PeerSet) refl
    (length d.questions, refl, next_ticket d.questions t.tickets.questions l s.questions)
    (peers_desk configs log at seed n w t u r s index (d.messages.items ++ m ∷ []) (rise_with configs log at seed n w t u r s m refl)) (peers_desk configs log at seed n w t u r s index d.messages.items s.rises)
    (kind_kept configs log at seed n w t u r s k refl) same
ask_stands configs log at seed n ask.Subscribe t u r s is same =
    let w = ask.Subscribe in
    let l = length log in
    let d = t.mailbox.desk in
    let m : Message Key = message.Subscribe (length d.updates) in
    let k : Ticket = record { question = question.Updates; number = length d.updates } in
    ask_done configs log at seed n w t u r s (subscribed d) (given_to t.tickets question.Updates l) (insert_entry nat_cmp t.questions l k) m is (more_given configs log at seed n w t u r s question.Updates) refl
    (length d.updates, refl, next_ticket d.updates t.tickets.updates l s.updates)
    (updates_desk configs log at seed n w t u r s (d.messages.items ++ m ∷ []) (rise_with configs log at seed n w t u r s m refl)) (updates_desk configs log at seed n w t u r s d.messages.items s.rises)
    (kind_kept configs log at seed n w t u r s k refl) same
ask_stands configs log at seed n ask.Blocked t u r s is same =
    let w = ask.Blocked in
    let l = length log in
    let d = t.mailbox.desk in
    let m : Message Key = message.SubscribeBlocked (length d.sets) in
    let k : Ticket = record { question = question.Blocked; number = length d.sets } in
    let waits = flat_map blocked_asked d.messages.items in
    ask_done configs log at seed n w t u r s (blocked_subscribed d) (given_to t.tickets question.Blocked l) (insert_entry nat_cmp t.questions l k) m is (more_given configs log at seed n w t u r s question.Blocked) refl
    (length d.sets, refl, next_ticket d.sets t.tickets.blocked l s.sets)
    (sets_desk configs log at seed n w t u r s (d.messages.items ++ m ∷ [])
    (subst (λ xs. Rises 0 (length d.sets + 1) (t.actor.sets ++ xs)) (sym (flat_map-append blocked_asked d.messages.items (m ∷ [])))
    (subst (Rises 0 (length d.sets + 1)) (append_assoc t.actor.sets waits (length d.sets ∷ [])) (rises_more 0 (length d.sets) (t.actor.sets ++ waits) s.rises))))
    (sets_desk configs log at seed n w t u r s d.messages.items (rises_longer 0 (length d.sets) (t.actor.sets ++ waits) s.rises)) (kind_kept configs log at seed n w t u r s k refl) same
ask_stands configs log at seed n (ask.Overwrite peers) t u r s is same = message_asked configs log at seed n (ask.Overwrite peers) t u r s (message.Overwrite peers) is refl (0, refl, tt) refl same
ask_stands configs log at seed n (ask.Block key) t u r s is same = message_asked configs log at seed n (ask.Block key) t u r s (message.Block key) is refl (0, refl, tt) refl same

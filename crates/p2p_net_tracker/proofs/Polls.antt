-- What those who asked by the oracle are answered is the oldest item of their queue, and the desk stands for what is left.
use Rattle.std.proofs.Common.{◌≡◌, ℕ, Bool, true, false, cond, List, [], ◌∷◌, drop, length, refl, ap, sym, subst, ◌∙◌, arith, eq-eqb, eqb-true, Option, Some, None}
use Rattle.std.specs.Prelude.{is_some, slice_get, ◌==◌, ◌&&◌, if◌then◌else◌}
use Rattle.std.specs.BTreeMap.{is_at, insert_entry}
use Rattle.std.specs.Ordering.{nat_cmp}
use Rattle.std.proofs.lemmas.Bool.Decides.{nat_tests}
use Rattle.p2p_base.specs.declared.key.Key.{Key}
use Rattle.p2p_flow.specs.Provided.{unanswered, answered, given, answer_of, question_after}
use Rattle.p2p_flow.specs.Provided.{Question as Posed}
use Rattle.p2p_flow.specs.Subscribed.{next_item}
use Rattle.p2p_flow.specs.declared.tracked.TrackedPeers.{TrackedPeers}
use Rattle.p2p_flow.specs.declared.update.PeerSetUpdate.{PeerSetUpdate}
use Rattle.p2p_tracker_mailbox.specs.Desk.{Desk, question_at, answer_taken, updates_at, update_taken, set_of, set_taken}
use Rattle.p2p_log.specs.declared.entry.Reply.TheVariants as reply
use Rattle.p2p_log.specs.declared.item.Envelope.{Envelope}
use Rattle.p2p_log.specs.declared.queue.Queue.{Queue}
use Rattle.p2p_log.specs.declared.queue.Queue.TheVariants as queue
use Rattle.p2p_log.specs.QueueCode.{same_queue}
use Rattle.p2p_log_rules.specs.Puts.{is_peer_set}
use Rattle.p2p_log_rules.specs.TrackerRows.{taken_with, told_of, oldest_row}
use Rattle.p2p_net_queues.specs.Matching.{Match}
use Rattle.p2p_net_queues.specs.Tables as table
use Rattle.p2p_net_queues.proofs.Matching.{Match-drop}
use Rattle.p2p_net_queues.proofs.Tables.{lookup-insert_entry}
use Rattle.p2p_net_tracker.specs.AtDesk.{IsTicket, TicketsStand, AnswerStands, IsUpdate, SetStands, queue_for, DeskStands}
use Rattle.p2p_net_tracker.specs.Reading.{answer_said, update_said, set_said, polled_row, noted}
use Rattle.p2p_net_tracker.specs.declared.naming.Tickets.{Tickets}
use Rattle.p2p_net_tracker.specs.declared.question.Question.TheVariants as question
use Rattle.p2p_net_tracker.specs.declared.question.Ticket.{Ticket}
use Rattle.p2p_net_tracker.proofs.AtDesk.{set_other, set_here, has_place, same_ticket}

-- ---- the row

-- the answer is the oldest item, where none was given yet
pub answer_row_is : (q : Posed (Option (TrackedPeers Key))) (b closed : Bool) (xs : List Envelope) → AnswerStands q b xs → b ≡ false
    → polled_row (answer_said (answer_of closed q)) (slice_get xs 0) ≡ oldest_row (cond closed (reply.PeerSet None) reply.Pending) xs
answer_row_is unanswered b true xs s none = ap (λ l. polled_row (reply.PeerSet None) (slice_get l 0)) s.1 ∙ sym (ap (oldest_row (reply.PeerSet None)) s.1)
answer_row_is unanswered b false xs s none = ap (λ l. polled_row reply.Pending (slice_get l 0)) s.1 ∙ sym (ap (oldest_row reply.Pending) s.1)
answer_row_is (answered peers) b closed xs s none =
    let x = s.1.0 in
    ap (λ l. polled_row (answer_said (answer_of closed (answered peers))) (slice_get l 0)) s.1.2
    ∙ (by closed ∙ (ap (λ i. taken_with (told_of i) x) (sym s.1.3) ∙ sym (ap (oldest_row (cond closed (reply.PeerSet None) reply.Pending)) s.1.2)))
  where
    by : (c : Bool) → polled_row (answer_said (answer_of c (answered peers))) (Some s.1.0) ≡ taken_with (reply.PeerSet peers) s.1.0
    by true = refl
    by false = refl
answer_row_is given b closed xs s none = let both : true ≡ false = sym s ∙ none in cc

pub update_row_is : (us : List (PeerSetUpdate Key)) (closed : Bool) (xs : List Envelope) → Match IsUpdate xs us
    → polled_row (update_said (next_item closed (slice_get us 0))) (slice_get xs 0) ≡ oldest_row (cond closed reply.StreamEnded reply.Pending) xs
update_row_is [] true [] h = refl
update_row_is [] false [] h = refl
update_row_is (u ∷ us) true (x ∷ xs) h = ap (λ i. taken_with (told_of i) x) (sym h.0)
update_row_is (u ∷ us) false (x ∷ xs) h = ap (λ i. taken_with (told_of i) x) (sym h.0)
update_row_is [] closed (x ∷ xs) h = absurd h
update_row_is (u ∷ us) closed [] h = absurd h

pub set_row_is : (o : Option (List Key)) (closed : Bool) (xs : List Envelope) → SetStands o xs → polled_row (set_said (next_item closed o)) (slice_get xs 0) ≡ oldest_row (cond closed reply.StreamEnded reply.Pending) xs
set_row_is None true xs s = ap (λ l. polled_row reply.StreamEnded (slice_get l 0)) s ∙ sym (ap (oldest_row reply.StreamEnded) s)
set_row_is None false xs s = ap (λ l. polled_row reply.Pending (slice_get l 0)) s ∙ sym (ap (oldest_row reply.Pending) s)
set_row_is (Some keys) closed xs s =
    ap (λ l. polled_row (set_said (next_item closed (Some keys))) (slice_get l 0)) s.1 ∙ (by closed ∙ (ap (λ i. taken_with (told_of i) s.0) (sym s.2) ∙ sym (ap (oldest_row (cond closed reply.StreamEnded reply.Pending)) s.1)))
  where
    by : (c : Bool) → polled_row (set_said (next_item c (Some keys))) (Some s.0) ≡ taken_with (reply.Blocked keys) s.0
    by true = refl
    by false = refl

-- ---- what is left

-- where nothing stood, nothing stands
none_left : (q : Queue) (old new : Queue → List Envelope) → ((p : Queue) → new p ≡ (if same_queue q p then drop 1 (old p) else old p)) → (p : Queue) → old p ≡ [] → new p ≡ []
none_left q old new pops p empty = pops p ∙ by (same_queue q p)
  where
    by : (b : Bool) → (if b then drop 1 (old p) else old p) ≡ []
    by true = ap (drop 1) empty
    by false = empty

turned_names : (n e i : ℕ) → ((n == n) && (e == i)) ≡ (i == e)
turned_names n e i = grind (arith, nat_tests)

module _ (n : ℕ) (t : Tickets) (of : List (ℕ × Ticket)) (s : TicketsStand t of) (nt : List (ℕ × Bool)) (old new : Queue → List Envelope) (d : Desk Key) (stands : DeskStands n t nt old d) (e number : ℕ) where
  -- an answer is given out
  pub answer_left : IsTicket t.questions number e → is_some (table.at nt e) ≡ false → length d.questions ≡ length t.questions
      → ((p : Queue) → new p ≡ (if same_queue (queue.PeerSet n e) p then drop 1 (old p) else old p))
      → DeskStands n t (noted (is_peer_set (answer_said (answer_of d.messages.closed (question_at d number)))) e nt) new (answer_taken d number)
  answer_left one unnoted long pops = record {
    answers = λ k i is. by_number k i is (number == k) refl;
    updates = λ k i is. subst (λ l. Match IsUpdate l (updates_at d k)) (sym (pops (queue.PeerSetUpdates n i))) (stands.updates k i is);
    sets = λ k i is. subst (SetStands (set_of d k)) (sym (pops (queue.Blocked n i))) (stands.sets k i is);
    none = λ kind i no. none_left (queue.PeerSet n e) old new pops (queue_for n kind i) (stands.none kind i no);
  }
    where
      told : Bool
      told = is_peer_set (answer_said (answer_of d.messages.closed (question_at d number)))

      after : List (ℕ × Bool)
      after = noted told e nt

      here : is_some (table.at (insert_entry nat_cmp nt e true) e) ≡ true
      here = ap is_some (lookup-insert_entry e e true nt) ∙ ap (λ b. is_some (cond b (Some true) (table.at nt e))) (at_itself e)
        where
          at_itself : (l : ℕ) → is_at (nat_cmp l) l ≡ true
          at_itself l = grind (arith, nat_tests)

      -- by the question, and by whether the tracker has ended
      of_it : (q : Posed (Option (TrackedPeers Key))) (closed : Bool) (xs : List Envelope) → AnswerStands q (is_some (table.at nt e)) xs
          → AnswerStands (question_after closed q) (is_some (table.at (noted (is_peer_set (answer_said (answer_of closed q))) e nt) e)) (drop 1 xs)
      of_it unanswered true xs a = here
      of_it unanswered false xs a = (a.0, ap (drop 1) a.1)
      of_it (answered peers) true xs a = here
      of_it (answered peers) false xs a = here
      of_it given true xs a = a
      of_it given false xs a = a

      not_noted : (b : Bool) (i : ℕ) → (i == e) ≡ false → table.at (noted b e nt) i ≡ table.at nt i
      not_noted false i other = refl
      not_noted true i other = lookup-insert_entry e i true nt ∙ ap (λ b. cond b (Some true) (table.at nt i)) (apart i other)
        where
          apart : (i : ℕ) → (i == e) ≡ false → is_at (nat_cmp i) e ≡ false
          apart i other = grind (arith, nat_tests)

      by_number : (k i : ℕ) → IsTicket t.questions k i → (b : Bool) → (number == k) ≡ b → AnswerStands (question_at (answer_taken d number) k) (is_some (table.at after i)) (new (queue.PeerSet n i))
      by_number k i is true same =
          let is_number : number ≡ k = eqb-true number k same in
          let event : i ≡ e = eqb-true i e (same_ticket t of s question.PeerSet number k e i one is ∙ same) in
          let placed : is_some (slice_get d.questions k) ≡ true = has_place d.questions t.questions k i long is in
          subst (λ j. AnswerStands (question_at (answer_taken d number) k) (is_some (table.at after j)) (new (queue.PeerSet n j))) (sym event)
          (subst (AnswerStands (question_at (answer_taken d number) k) (is_some (table.at after e))) (sym (pops (queue.PeerSet n e) ∙ ap (λ b. if b then drop 1 (old (queue.PeerSet n e)) else old (queue.PeerSet n e)) (turned_names n e e ∙ eq-eqb e e refl)))
          (subst (λ q. AnswerStands q (is_some (table.at after e)) (drop 1 (old (queue.PeerSet n e))))
          (sym (ap (λ j. question_at (answer_taken d j) k) is_number ∙ (set_here d.questions k (question_after d.messages.closed (question_at d k)) given placed ∙ ap (λ j. question_after d.messages.closed (question_at d j)) (sym is_number))))
          (of_it (question_at d number) d.messages.closed (old (queue.PeerSet n e)) (stands.answers number e one))))
      by_number k i is false other =
          let apart : (i == e) ≡ false = same_ticket t of s question.PeerSet number k e i one is ∙ other in
          subst (λ q. AnswerStands q (is_some (table.at after i)) (new (queue.PeerSet n i))) (sym (set_other d.questions number k (question_after d.messages.closed (question_at d number)) given other))
          (subst (AnswerStands (question_at d k) (is_some (table.at after i))) (sym (pops (queue.PeerSet n i) ∙ ap (λ b. if b then drop 1 (old (queue.PeerSet n i)) else old (queue.PeerSet n i)) (turned_names n e i ∙ apart)))
          (subst (λ o. AnswerStands (question_at d k) (is_some o) (old (queue.PeerSet n i))) (sym (not_noted told i apart)) (stands.answers k i is)))

  -- an update is taken
  pub update_left : IsTicket t.updates number e → length d.updates ≡ length t.updates
      → ((p : Queue) → new p ≡ (if same_queue (queue.PeerSetUpdates n e) p then drop 1 (old p) else old p)) → DeskStands n t nt new (update_taken d number)
  update_left one long pops = record {
    answers = λ k i is. subst (AnswerStands (question_at d k) (is_some (table.at nt i))) (sym (pops (queue.PeerSet n i))) (stands.answers k i is);
    updates = λ k i is. by_number k i is (number == k) refl;
    sets = λ k i is. subst (SetStands (set_of d k)) (sym (pops (queue.Blocked n i))) (stands.sets k i is);
    none = λ kind i no. none_left (queue.PeerSetUpdates n e) old new pops (queue_for n kind i) (stands.none kind i no);
  }
    where
      by_number : (k i : ℕ) → IsTicket t.updates k i → (b : Bool) → (number == k) ≡ b → Match IsUpdate (new (queue.PeerSetUpdates n i)) (updates_at (update_taken d number) k)
      by_number k i is true same =
          let is_number : number ≡ k = eqb-true number k same in
          let event : i ≡ e = eqb-true i e (same_ticket t of s question.Updates number k e i one is ∙ same) in
          let placed : is_some (slice_get d.updates k) ≡ true = has_place d.updates t.updates k i long is in
          subst (λ j. Match IsUpdate (new (queue.PeerSetUpdates n j)) (updates_at (update_taken d number) k)) (sym event)
          (subst (λ l. Match IsUpdate l (updates_at (update_taken d number) k))
          (sym (pops (queue.PeerSetUpdates n e) ∙ ap (λ b. if b then drop 1 (old (queue.PeerSetUpdates n e)) else old (queue.PeerSetUpdates n e)) (turned_names n e e ∙ eq-eqb e e refl)))
          (subst (Match IsUpdate (drop 1 (old (queue.PeerSetUpdates n e))))
          (sym (ap (λ j. updates_at (update_taken d j) k) is_number ∙ (set_here d.updates k (drop 1 (updates_at d k)) [] placed ∙ ap (λ j. drop 1 (updates_at d j)) (sym is_number))))
          (Match-drop IsUpdate (old (queue.PeerSetUpdates n e)) (updates_at d number) (stands.updates number e one))))
      by_number k i is false other =
          let apart : (i == e) ≡ false = same_ticket t of s question.Updates number k e i one is ∙ other in
          subst (Match IsUpdate (new (queue.PeerSetUpdates n i))) (sym (set_other d.updates number k (drop 1 (updates_at d number)) [] other))
          (subst (λ l. Match IsUpdate l (updates_at d k))
          (sym (pops (queue.PeerSetUpdates n i) ∙ ap (λ b. if b then drop 1 (old (queue.PeerSetUpdates n i)) else old (queue.PeerSetUpdates n i)) (turned_names n e i ∙ apart))) (stands.updates k i is))

  -- a set is taken
  pub set_left : IsTicket t.blocked number e → length d.sets ≡ length t.blocked
      → ((p : Queue) → new p ≡ (if same_queue (queue.Blocked n e) p then drop 1 (old p) else old p)) → DeskStands n t nt new (set_taken d number)
  set_left one long pops = record {
    answers = λ k i is. subst (AnswerStands (question_at d k) (is_some (table.at nt i))) (sym (pops (queue.PeerSet n i))) (stands.answers k i is);
    updates = λ k i is. subst (λ l. Match IsUpdate l (updates_at d k)) (sym (pops (queue.PeerSetUpdates n i))) (stands.updates k i is);
    sets = λ k i is. by_number k i is (number == k) refl;
    none = λ kind i no. none_left (queue.Blocked n e) old new pops (queue_for n kind i) (stands.none kind i no);
  }
    where
      emptied : (o : Option (List Key)) (xs : List Envelope) → SetStands o xs → drop 1 xs ≡ []
      emptied None xs h = ap (drop 1) h
      emptied (Some keys) xs h = ap (drop 1) h.1

      by_number : (k i : ℕ) → IsTicket t.blocked k i → (b : Bool) → (number == k) ≡ b → SetStands (set_of (set_taken d number) k) (new (queue.Blocked n i))
      by_number k i is true same =
          let is_number : number ≡ k = eqb-true number k same in
          let event : i ≡ e = eqb-true i e (same_ticket t of s question.Blocked number k e i one is ∙ same) in
          let placed : is_some (slice_get d.sets k) ≡ true = has_place d.sets t.blocked k i long is in
          subst (λ j. SetStands (set_of (set_taken d number) k) (new (queue.Blocked n j))) (sym event)
          (subst (λ o. SetStands o (new (queue.Blocked n e))) (sym (ap (λ j. set_of (set_taken d j) k) is_number ∙ set_here d.sets k None None placed))
          (pops (queue.Blocked n e) ∙ (ap (λ b. if b then drop 1 (old (queue.Blocked n e)) else old (queue.Blocked n e)) (turned_names n e e ∙ eq-eqb e e refl) ∙ emptied (set_of d number) (old (queue.Blocked n e)) (stands.sets number e one))))
      by_number k i is false other =
          let apart : (i == e) ≡ false = same_ticket t of s question.Blocked number k e i one is ∙ other in
          subst (λ o. SetStands o (new (queue.Blocked n i))) (sym (set_other d.sets number k None None other))
          (subst (SetStands (set_of d k)) (sym (pops (queue.Blocked n i) ∙ ap (λ b. if b then drop 1 (old (queue.Blocked n i)) else old (queue.Blocked n i)) (turned_names n e i ∙ apart))) (stands.sets k i is))

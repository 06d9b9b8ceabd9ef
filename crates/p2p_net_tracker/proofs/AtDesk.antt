-- What a step puts at the desk of a node's tracker, beside the names of it: the desk stands for what waits there.
use Rattle.std.proofs.Common.{◌≡◌, ℕ, zero, suc, ◌+◌, Bool, true, false, cond, List, [], ◌∷◌, ◌++◌, drop, length, refl, ap, sym, subst, ◌∙◌, arith, eq-eqb, eqb-true, append-nil, Option, Some, None}
use Rattle.std.specs.Prelude.{filter, count_by, is_some, slice_get, slice_index_or, slice_set, ◌==◌, ◌&&◌}
use Rattle.std.specs.List.{AllByRecursion as Each}
use Rattle.std.specs.Option.{option_map}
use Rattle.std.proofs.lemmas.Bool.Decides.{nat_tests}
use Rattle.p2p_base.specs.declared.key.Key.{Key}
use Rattle.p2p_flow.specs.Provided.{unanswered, answered, given}
use Rattle.p2p_flow.specs.Provided.{Question as Posed}
use Rattle.p2p_flow.specs.declared.tracked.TrackedPeers.{TrackedPeers}
use Rattle.p2p_flow.specs.declared.update.PeerSetUpdate.{PeerSetUpdate}
use Rattle.p2p_tracker_mailbox.specs.Desk.{Desk, with_answer, question_at, updates_at, set_of}
use Rattle.p2p_tracker_mailbox.specs.declared.mailbox.Mailbox.{Mailbox}
use Rattle.p2p_tracker_directory.specs.Reserved.{peer_of}
use Rattle.p2p_tracker.specs.Telling.{after_put, after_puts}
use Rattle.p2p_tracker.specs.declared.stepped.Put.{Put}
use Rattle.p2p_tracker.specs.declared.stepped.Put.TheVariants as put
use Rattle.p2p_log.specs.declared.queue.Queue.{Queue}
use Rattle.p2p_log.specs.declared.queue.Queue.TheVariants as queue
use Rattle.p2p_log.specs.declared.item.Item.{Item}
use Rattle.p2p_log.specs.declared.item.Item.TheVariants as item
use Rattle.p2p_log.specs.declared.item.Envelope.{Envelope}
use Rattle.p2p_log.specs.Lines.{placed, stands_in}
use Rattle.p2p_log.specs.QueueCode.{same_queue}
use Rattle.p2p_log.proofs.Each.{Each-append, count_by-none}
use Rattle.p2p_log.proofs.Queues.{same_queue-refl, same_queue-sym}
use Rattle.p2p_log.proofs.QueueNames.{queue_from_same}
use Rattle.p2p_log_rules.specs.TrackerRows.{ring_of, rings_of}
use Rattle.p2p_log_rules.proofs.Bools.{and_false}
use Rattle.p2p_net_queues.specs.Matching.{Match}
use Rattle.p2p_net_queues.specs.Tables as table
use Rattle.p2p_net_queues.proofs.Matching.{Match-last, slice_index-get}
use Rattle.p2p_net_tracker.specs.declared.naming.Tickets.{Tickets}
use Rattle.p2p_net_tracker.specs.declared.question.Question.{Question}
use Rattle.p2p_net_tracker.specs.declared.question.Question.TheVariants as question
use Rattle.p2p_net_tracker.specs.declared.question.Ticket.{Ticket}
use Rattle.p2p_net_tracker.specs.AtDesk.{IsTicket, tickets_of, TicketsStand, AnswerStands, IsUpdate, SetStands, queue_for, DeskStands}
use Rattle.p2p_net_tracker.specs.Naming.{event_at, grant_of, named_put, before, named_puts}
use Rattle.p2p_net_tracker.specs.Telling.{is_ring, told_to}
use Rattle.p2p_net_tracker.proofs.Rings.{is_same, count-first, put_one_more}
use Rattle.p2p_net_tracker.proofs.SetsOnce.{IsNotSet, SetsOnce}

-- ---- a place of a list

pub set_other : {X : Type 0} (xs : List X) (j k : ℕ) (v d : X) → (j == k) ≡ false → slice_index_or (slice_set xs j v) k d ≡ slice_index_or xs k d
set_other [] zero k v d h = refl
set_other [] (suc j) k v d h = refl
set_other (x ∷ xs) zero zero v d h = cc
set_other (x ∷ xs) zero (suc k) v d h = refl
set_other (x ∷ xs) (suc j) zero v d h = refl
set_other (x ∷ xs) (suc j) (suc k) v d h = set_other xs j k v d (before j k h)
  where
    before : (j k : ℕ) → (suc j == suc k) ≡ false → (j == k) ≡ false
    before j k h = grind (arith, nat_tests)

pub set_here : {X : Type 0} (xs : List X) (k : ℕ) (v d : X) → is_some (slice_get xs k) ≡ true → slice_index_or (slice_set xs k v) k d ≡ v
set_here [] zero v d h = cc
set_here [] (suc k) v d h = cc
set_here (x ∷ xs) zero v d h = refl
set_here (x ∷ xs) (suc k) v d h = set_here xs k v d h

pub set_there : {X : Type 0} (xs : List X) (j k : ℕ) (v : X) → is_some (slice_get (slice_set xs j v) k) ≡ is_some (slice_get xs k)
set_there [] zero k v = refl
set_there [] (suc j) k v = refl
set_there (x ∷ xs) zero zero v = refl
set_there (x ∷ xs) zero (suc k) v = refl
set_there (x ∷ xs) (suc j) zero v = refl
set_there (x ∷ xs) (suc j) (suc k) v = set_there xs j k v

-- as many tickets as places: each ticket has one
pub has_place : {X : Type 0} (xs : List X) (events : List ℕ) (k e : ℕ) → length xs ≡ length events → IsTicket events k e → is_some (slice_get xs k) ≡ true
has_place [] [] zero e long is = cc
has_place [] [] (suc k) e long is = cc
has_place (x ∷ xs) (d ∷ events) zero e long is = refl
has_place (x ∷ xs) (d ∷ events) (suc k) e long is = has_place xs events k e (as_long (length xs) (length events) long) is
  where
    as_long : (m n : ℕ) → suc m ≡ suc n → m ≡ n
    as_long m n h = omega (arith, h)
has_place [] (d ∷ events) k e long is = cc
has_place (x ∷ xs) [] k e long is = cc

-- the desk stands for what is held alike
pub desk-held : (n : ℕ) (t : Tickets) (noted : List (ℕ × Bool)) (old new : Queue → List Envelope) (d : Desk Key) → ((q : Queue) → new q ≡ old q) → DeskStands n t noted old d → DeskStands n t noted new d
desk-held n t noted old new d same s = record {
  answers = λ k e one. subst (AnswerStands (question_at d k) (is_some (table.at noted e))) (sym (same (queue.PeerSet n e))) (s.answers k e one);
  updates = λ k e one. subst (λ l. Match IsUpdate l (updates_at d k)) (sym (same (queue.PeerSetUpdates n e))) (s.updates k e one);
  sets = λ k e one. subst (SetStands (set_of d k)) (sym (same (queue.Blocked n e))) (s.sets k e one);
  none = λ kind e no. same (queue_for n kind e) ∙ s.none kind e no;
}

-- ---- the queues of those who asked by the oracle

abbrev pub is_polled : Queue → Bool
is_polled (queue.PeerSet m e) = true
is_polled (queue.PeerSetUpdates m e) = true
is_polled (queue.Blocked m e) = true
is_polled _ = false

pub polled_for : (n : ℕ) (kind : Question) (e : ℕ) → is_polled (queue_for n kind e) ≡ true
polled_for n question.PeerSet e = refl
polled_for n question.Updates e = refl
polled_for n question.Blocked e = refl

pub polled_apart : (q p : Queue) → is_polled p ≡ true → is_polled q ≡ false → same_queue q p ≡ false
polled_apart q p asked other = by (same_queue q p) refl
  where
    by : (b : Bool) → same_queue q p ≡ b → b ≡ false
    by false is = refl
    by true is = let both : true ≡ false = sym asked ∙ (ap is_polled (queue_from_same q p is) ∙ other) in cc

-- ---- one ticket

module _ (t : Tickets) (of : List (ℕ × Ticket)) (s : TicketsStand t of) where
  -- two numbers are of one event exactly where they are the same
  pub same_ticket : (kind : Question) (j k d e : ℕ) → IsTicket (tickets_of t kind) j d → IsTicket (tickets_of t kind) k e → (e == d) ≡ (j == k)
  same_ticket kind j k d e first second = by (j == k) (e == d) refl refl
    where
      by : (b c : Bool) → (j == k) ≡ b → (e == d) ≡ c → c ≡ b
      by true true is of_one = refl
      by false false is of_one = refl
      by true false is of_one =
          let both : Some d ≡ Some e = sym first ∙ (ap (slice_get (tickets_of t kind)) (eqb-true j k is) ∙ second) in
          let same : d ≡ e = value both in
          let twice : (e == d) ≡ true = eq-eqb e d (sym same) in
          cc
        where
          value : Some d ≡ Some e → d ≡ e
          value h = cc
      by false true is of_one =
          let there : table.at of e ≡ Some (ticket_of j) = ap (table.at of) (eqb-true e d of_one) ∙ s.numbers kind j d first in
          let here : table.at of e ≡ Some (ticket_of k) = s.numbers kind k e second in
          let both : Some (ticket_of j) ≡ Some (ticket_of k) = sym there ∙ here in
          let same : j ≡ k = ap number_in both in
          let twice : (j == k) ≡ true = eq-eqb j k same in
          cc
        where
          ticket_of : ℕ → Ticket
          ticket_of number = record { question = kind; number = number }

          number_in : Option Ticket → ℕ
          number_in None = 0
          number_in (Some ticket) = ticket.number

-- ---- all that is put, where each thing that is put keeps this

-- what is put for one who asked has a ticket that was given
abbrev pub IsTicketed : Tickets → Put Key → Type 0
IsTicketed t (put.Update ticket update) = (e : ℕ) × IsTicket t.updates ticket e
IsTicketed t (put.Blocked ticket keys dropped) = (e : ℕ) × IsTicket t.blocked ticket e
IsTicketed t (put.PeerSet ticket peers) = (e : ℕ) × IsTicket t.questions ticket e
IsTicketed t _ = Unit {0}

module _ (n : ℕ) (t : Tickets) (q : Queue) (j : ℕ) (S : Mailbox Key → List Envelope → Type 0)
    (step : (p : Put Key) (m : Mailbox Key) (h : List Envelope) (i : ℕ) → IsTicketed t p → S m h → S (after_put p m) (h ++ filter (stands_in q) (placed j i (before (named_put n t p) [])))) where
  all_put : (ps : List (Put Key)) (m : Mailbox Key) (h : List Envelope) (i : ℕ) → Each (IsTicketed t) ps → S m h → S (after_puts ps m) (h ++ filter (stands_in q) (placed j i (named_puts n t ps)))
  all_put [] m h i each s = subst (S m) (sym (append-nil h)) s
  all_put (p ∷ ps) m h i each s = by (named_put n t p) (λ now k then. all_put ps (after_put p m) now k each.1 then) (step p m h i each.0 s)
    where
      by : (o : Option (Queue × Item)) → ((now : List Envelope) (k : ℕ) → S (after_put p m) now → S (after_puts ps (after_put p m)) (now ++ filter (stands_in q) (placed j k (named_puts n t ps))))
          → S (after_put p m) (h ++ filter (stands_in q) (placed j i (before o [])))
          → S (after_puts ps (after_put p m)) (h ++ filter (stands_in q) (placed j i (before o (named_puts n t ps))))
      by None rest then = rest h i (subst (S (after_put p m)) (append-nil h) then)
      by (Some x) rest then =
          let now = h ++ filter (stands_in q) (placed j i (x ∷ [])) in
          subst (S (after_puts ps (after_put p m))) (put_one_more q j i x (named_puts n t ps) h now (i + 1) refl refl) (rest now (i + 1) then)

-- ---- the answers to questions for peer sets

-- the first answer stays
grown_answer : (qs : List (Posed (Option (TrackedPeers Key)))) (k : ℕ) (a : Option (TrackedPeers Key)) (b : Bool) (h : List Envelope) (x : Envelope) → x.item ≡ item.PeerSet a → AnswerStands (slice_index_or qs k given) b h
    → AnswerStands (slice_index_or (slice_set qs k (with_answer (slice_index_or qs k given) a)) k given) b (h ++ x ∷ [])
grown_answer [] zero a b h x is s = s
grown_answer [] (suc k) a b h x is s = s
grown_answer (q ∷ qs) zero a b h x is s = by q s
  where
    by : (q : Posed (Option (TrackedPeers Key))) → AnswerStands q b h → AnswerStands (with_answer q a) b (h ++ x ∷ [])
    by unanswered s = (s.0, (x, [], ap (λ l. l ++ x ∷ []) s.1, is))
    by (answered peers) s = (s.0, (s.1.0, s.1.1 ++ x ∷ [], ap (λ l. l ++ x ∷ []) s.1.2, s.1.3))
    by given s = s
grown_answer (q ∷ qs) (suc k) a b h x is s = grown_answer qs k a b h x is s

answered_if : (qs : List (Posed (Option (TrackedPeers Key)))) (j k : ℕ) (a : Option (TrackedPeers Key)) (b c : Bool) (h : List Envelope) (x : Envelope) → (j == k) ≡ c → x.item ≡ item.PeerSet a
    → AnswerStands (slice_index_or qs k given) b h → AnswerStands (slice_index_or (slice_set qs j (with_answer (slice_index_or qs j given) a)) k given) b (h ++ cond c (x ∷ []) [])
answered_if qs j k a b true h x same is s =
    subst (λ i. AnswerStands (slice_index_or (slice_set qs i (with_answer (slice_index_or qs i given) a)) k given) b (h ++ x ∷ [])) (sym (eqb-true j k same)) (grown_answer qs k a b h x is s)
answered_if qs j k a b false h x same is s =
    subst (AnswerStands (slice_index_or (slice_set qs j (with_answer (slice_index_or qs j given) a)) k given) b) (sym (append-nil h))
    (subst (λ q. AnswerStands q b h) (sym (set_other qs j k (with_answer (slice_index_or qs j given) a) given same)) s)

module _ (n : ℕ) (t : Tickets) (of : List (ℕ × Ticket)) (s : TicketsStand t of) (j : ℕ) where
  own_place : (kind : Question) (i k d e : ℕ) → IsTicket (tickets_of t kind) i d → IsTicket (tickets_of t kind) k e → ((n == n) && (e == d)) ≡ (i == k)
  own_place kind i k d e first second = ap (λ b. b && (e == d)) (eq-eqb n n refl) ∙ same_ticket t of s kind i k d e first second

  module _ (k e : ℕ) (is : IsTicket t.questions k e) (b : Bool) where
    abbrev Answered : Mailbox Key → List Envelope → Type 0
    Answered m h = AnswerStands (question_at m.desk k) b h

    answer_step : (p : Put Key) (m : Mailbox Key) (h : List Envelope) (i : ℕ) → IsTicketed t p → Answered m h
        → Answered (after_put p m) (h ++ filter (stands_in (queue.PeerSet n e)) (placed j i (before (named_put n t p) [])))
    answer_step (put.PeerSet ticket peers) m h i of_one a =
        let x : ℕ → Envelope = λ d. record { entry = j; place = i; queue = queue.PeerSet n d; item = item.PeerSet peers } in
        let after = after_put (put.PeerSet ticket peers) m in
        subst (λ d. Answered after (h ++ cond ((n == n) && (e == d)) (x d ∷ []) [])) (sym (slice_index-get t.questions ticket of_one.0 0 of_one.1))
        (subst (λ c. Answered after (h ++ cond c (x of_one.0 ∷ []) [])) (sym (own_place question.PeerSet ticket k of_one.0 e of_one.1 is))
        (answered_if m.desk.questions ticket k peers b (ticket == k) h (x of_one.0) refl refl a))
    answer_step (put.Update ticket update) m h i of_one a = subst (Answered m) (sym (append-nil h)) a
    answer_step (put.Blocked ticket keys dropped) m h i of_one a = subst (Answered m) (sym (append-nil h)) a
    answer_step (put.Kill peer conn) m h i of_one a = subst (Answered m) (sym (append-nil h)) a
    answer_step (put.Listenable addresses dropped) m h i of_one a = subst (Answered m) (sym (append-nil h)) a
    answer_step (put.Dialable list) m h i of_one a = subst (Answered m) (sym (append-nil h)) a
    answer_step (put.Dial grant) m h i of_one a = subst (Answered m) (sym (append-nil h)) a
    answer_step (put.Acceptable handshake acceptable) m h i of_one a = subst (Answered m) (sym (append-nil h)) a
    answer_step (put.Listen handshake grant) m h i of_one a = subst (Answered m) (sym (append-nil h)) a

  -- ---- the updates of subscriptions

  module _ (k e : ℕ) (is : IsTicket t.updates k e) where
    abbrev Updated : Mailbox Key → List Envelope → Type 0
    Updated m h = (is_some (slice_get m.desk.updates k) ≡ true) × Match IsUpdate h (updates_at m.desk k)

    updated_if : (us : List (List (PeerSetUpdate Key))) (i : ℕ) (u : PeerSetUpdate Key) (c : Bool) (h : List Envelope) (x : Envelope) → (i == k) ≡ c → x.item ≡ item.PeerSetUpdate u → is_some (slice_get us k) ≡ true
        → Match IsUpdate h (slice_index_or us k []) → Match IsUpdate (h ++ cond c (x ∷ []) []) (slice_index_or (slice_set us i (slice_index_or us i [] ++ u ∷ [])) k [])
    updated_if us i u true h x same item_is there a =
        subst (λ o. Match IsUpdate (h ++ x ∷ []) (slice_index_or (slice_set us o (slice_index_or us o [] ++ u ∷ [])) k [])) (sym (eqb-true i k same))
        (subst (Match IsUpdate (h ++ x ∷ [])) (sym (set_here us k (slice_index_or us k [] ++ u ∷ []) [] there)) (Match-last IsUpdate h (slice_index_or us k []) x u a item_is))
    updated_if us i u false h x same item_is there a =
        subst (λ l. Match IsUpdate l (slice_index_or (slice_set us i (slice_index_or us i [] ++ u ∷ [])) k [])) (sym (append-nil h))
        (subst (Match IsUpdate h) (sym (set_other us i k (slice_index_or us i [] ++ u ∷ []) [] same)) a)

    update_step : (p : Put Key) (m : Mailbox Key) (h : List Envelope) (i : ℕ) → IsTicketed t p → Updated m h
        → Updated (after_put p m) (h ++ filter (stands_in (queue.PeerSetUpdates n e)) (placed j i (before (named_put n t p) [])))
    update_step (put.Update ticket update) m h i of_one a =
        let x : ℕ → Envelope = λ d. record { entry = j; place = i; queue = queue.PeerSetUpdates n d; item = item.PeerSetUpdate update } in
        let after = after_put (put.Update ticket update) m in (
          set_there m.desk.updates ticket k (updates_at m.desk ticket ++ update ∷ []) ∙ a.0,
          subst (λ d. Match IsUpdate (h ++ cond ((n == n) && (e == d)) (x d ∷ []) []) (updates_at after.desk k)) (sym (slice_index-get t.updates ticket of_one.0 0 of_one.1))
              (subst (λ c. Match IsUpdate (h ++ cond c (x of_one.0 ∷ []) []) (updates_at after.desk k)) (sym (own_place question.Updates ticket k of_one.0 e of_one.1 is))
              (updated_if m.desk.updates ticket update (ticket == k) h (x of_one.0) refl refl a.0 a.1)),
        )
    update_step (put.PeerSet ticket peers) m h i of_one a = subst (Updated m) (sym (append-nil h)) a
    update_step (put.Blocked ticket keys dropped) m h i of_one a = subst (Updated m) (sym (append-nil h)) a
    update_step (put.Kill peer conn) m h i of_one a = subst (Updated m) (sym (append-nil h)) a
    update_step (put.Listenable addresses dropped) m h i of_one a = subst (Updated m) (sym (append-nil h)) a
    update_step (put.Dialable list) m h i of_one a = subst (Updated m) (sym (append-nil h)) a
    update_step (put.Dial grant) m h i of_one a = subst (Updated m) (sym (append-nil h)) a
    update_step (put.Acceptable handshake acceptable) m h i of_one a = subst (Updated m) (sym (append-nil h)) a
    update_step (put.Listen handshake grant) m h i of_one a = subst (Updated m) (sym (append-nil h)) a

  -- ---- the sets of subscriptions to the blocked keys: of each at most one is put

  module _ (k e : ℕ) (is : IsTicket t.blocked k e) where
    abbrev ring : Queue
    ring = queue.Blocked n e

    -- how often the ring is overwritten, and what is put there
    abbrev overwrites : List (Put Key) → ℕ
    overwrites ps = count_by (is_same ring) (rings_of (named_puts n t ps))

    abbrev added : ℕ → List (Put Key) → List Envelope
    added i ps = filter (stands_in ring) (placed j i (named_puts n t ps))

    -- one that is put for another subscription
    other_ring : (ticket d : ℕ) → IsTicket t.blocked ticket d → (ticket == k) ≡ false → ((n == n) && (event_at t.blocked ticket == e)) ≡ false
    other_ring ticket d of_one other =
        ap (λ i. (n == n) && (i == e)) (slice_index-get t.blocked ticket d 0 of_one) ∙ (turned n d e ∙ (own_place question.Blocked ticket k d e of_one is ∙ other))
      where
        turned : (n d e : ℕ) → ((n == n) && (d == e)) ≡ ((n == n) && (e == d))
        turned n d e = grind (arith, nat_tests)

    other_place : (ticket d : ℕ) → IsTicket t.blocked ticket d → (ticket == k) ≡ false → ((n == n) && (e == event_at t.blocked ticket)) ≡ false
    other_place ticket d of_one other =
        ap (λ i. (n == n) && (e == i)) (slice_index-get t.blocked ticket d 0 of_one) ∙ (own_place question.Blocked ticket k d e of_one is ∙ other)

    none_put : (ps : List (Put Key)) (i : ℕ) → Each (IsTicketed t) ps → Each (IsNotSet k) ps → added i ps ≡ []
    none_put [] i of_each each = refl
    none_put (put.Blocked ticket keys dropped ∷ ps) i of_each each =
        ap (λ c. cond c (record { entry = j; place = i; queue = queue.Blocked n (event_at t.blocked ticket); item = item.Blocked keys } ∷ added (i + 1) ps) (added (i + 1) ps))
        (other_place ticket of_each.0.0 of_each.0.1 each.0)
        ∙ none_put ps (i + 1) of_each.1 each.1
    none_put (_ ∷ ps) i of_each each = none_put ps (i + 1) of_each.1 each.1

    none_overwritten : (ps : List (Put Key)) → Each (IsTicketed t) ps → Each (IsNotSet k) ps → Each (λ p. is_same ring p ≡ false) (rings_of (named_puts n t ps))
    none_overwritten [] of_each each = tt
    none_overwritten (put.Blocked ticket keys dropped ∷ ps) of_each each = (other_ring ticket of_each.0.0 of_each.0.1 each.0, none_overwritten ps of_each.1 each.1)
    none_overwritten (put.Listenable addresses dropped ∷ ps) of_each each = (refl, none_overwritten ps of_each.1 each.1)
    none_overwritten (_ ∷ ps) of_each each = none_overwritten ps of_each.1 each.1

    none_kept : (ps : List (Put Key)) (m : Mailbox Key) → Each (IsNotSet k) ps → set_of (after_puts ps m).desk k ≡ set_of m.desk k
    none_kept [] m each = refl
    none_kept (put.Blocked ticket keys dropped ∷ ps) m each = none_kept ps (after_put (put.Blocked ticket keys dropped) m) each.1 ∙ set_other m.desk.sets ticket k (Some keys) None each.0
    none_kept (put.Kill peer conn ∷ ps) m each = none_kept ps m each.1
    none_kept (put.Listenable addresses dropped ∷ ps) m each = none_kept ps (after_put (put.Listenable addresses dropped) m) each.1
    none_kept (put.Update ticket update ∷ ps) m each = none_kept ps (after_put (put.Update ticket update) m) each.1
    none_kept (put.PeerSet ticket peers ∷ ps) m each = none_kept ps (after_put (put.PeerSet ticket peers) m) each.1
    none_kept (put.Dialable list ∷ ps) m each = none_kept ps (after_put (put.Dialable list) m) each.1
    none_kept (put.Dial grant ∷ ps) m each = none_kept ps (after_put (put.Dial grant) m) each.1
    none_kept (put.Acceptable handshake acceptable ∷ ps) m each = none_kept ps (after_put (put.Acceptable handshake acceptable) m) each.1
    none_kept (put.Listen handshake grant ∷ ps) m each = none_kept ps (after_put (put.Listen handshake grant) m) each.1

    abbrev Newest : List (Put Key) → ℕ → Mailbox Key → List Envelope → Type 0
    Newest ps i m h = SetStands (set_of (after_puts ps m).desk k) (drop (overwrites ps) h ++ added i ps)

    one_left : (o : Option (List Key)) (h : List Envelope) → SetStands o h → drop 1 h ≡ []
    one_left None h s = ap (drop 1) s
    one_left (Some keys) h s = ap (drop 1) s.1

    zero_more : (c : ℕ) → 0 + c ≡ c
    zero_more c = omega arith

    -- it is the one that is put, and the one that stood there is gone
    set_now : (ticket d : ℕ) (keys : List Key) (dropped : Option (List Key)) (ps : List (Put Key)) (i : ℕ) (m : Mailbox Key) (h : List Envelope) → IsTicket t.blocked ticket d → (ticket == k) ≡ true → Each (IsTicketed t) ps
        → Each (IsNotSet ticket) ps → is_some (slice_get m.desk.sets k) ≡ true → SetStands (set_of m.desk k) h → Newest (put.Blocked ticket keys dropped ∷ ps) i m h
    set_now ticket d keys dropped ps i m h of_one same of_each each there s =
        let p = put.Blocked ticket keys dropped in
        let is_it : ticket ≡ k = eqb-true ticket k same in
        let others : Each (IsNotSet k) ps = subst (λ o. Each (IsNotSet o) ps) is_it each in
        let event : event_at t.blocked ticket ≡ e = slice_index-get t.blocked ticket e 0 (subst (λ o. IsTicket t.blocked o e) (sym is_it) is) in
        let x : Envelope = record { entry = j; place = i; queue = queue.Blocked n (event_at t.blocked ticket); item = item.Blocked keys } in
        let mine : is_same ring (queue.Blocked n (event_at t.blocked ticket)) ≡ true = ap (λ o. is_same ring (queue.Blocked n o)) event ∙ same_queue-refl ring in
        let once : overwrites (p ∷ ps) ≡ 1 =
        count-first ring (queue.Blocked n (event_at t.blocked ticket)) (rings_of (named_puts n t ps))
        ∙ (ap (λ b. cond b 1 0 + overwrites ps) mine ∙ ap (λ c. 1 + c) (count_by-none (is_same ring) (rings_of (named_puts n t ps)) (none_overwritten ps of_each others)))
        in
        let put_now : added i (p ∷ ps) ≡ x ∷ [] =
        ap (λ o. cond (same_queue ring (queue.Blocked n o)) (x ∷ added (i + 1) ps) (added (i + 1) ps)) event
        ∙ (ap (λ b. cond b (x ∷ added (i + 1) ps) (added (i + 1) ps)) (same_queue-refl ring) ∙ ap (λ l. x ∷ l) (none_put ps (i + 1) of_each others))
        in
        let left : drop (overwrites (p ∷ ps)) h ++ added i (p ∷ ps) ≡ x ∷ [] = ap (λ c. drop c h ++ added i (p ∷ ps)) once ∙ (ap (λ l. l ++ added i (p ∷ ps)) (one_left (set_of m.desk k) h s) ∙ put_now) in
        let kept : set_of (after_puts ps (after_put p m)).desk k ≡ Some keys =
        none_kept ps (after_put p m) others ∙ (ap (λ o. slice_index_or (slice_set m.desk.sets o (Some keys)) k None) is_it ∙ set_here m.desk.sets k (Some keys) None there)
        in
        subst (λ o. SetStands o (drop (overwrites (p ∷ ps)) h ++ added i (p ∷ ps))) (sym kept) (x, left, refl)

    set_after : (ps : List (Put Key)) (i : ℕ) (m : Mailbox Key) (h : List Envelope) → Each (IsTicketed t) ps → SetsOnce ps → is_some (slice_get m.desk.sets k) ≡ true → SetStands (set_of m.desk k) h → Newest ps i m h
    set_after [] i m h of_each once there s = subst (SetStands (set_of m.desk k)) (sym (append-nil h)) s
    set_after (put.Blocked ticket keys dropped ∷ ps) i m h of_each once there s =
        by (ticket == k) refl
        (λ other.
        set_after ps (i + 1) (after_put (put.Blocked ticket keys dropped) m) h of_each.1 once.1 (set_there m.desk.sets ticket k (Some keys) ∙ there)
        (subst (λ o. SetStands o h) (sym (set_other m.desk.sets ticket k (Some keys) None other)) s))
      where
        p : Put Key
        p = put.Blocked ticket keys dropped

        by : (b : Bool) → (ticket == k) ≡ b → ((ticket == k) ≡ false → Newest ps (i + 1) (after_put p m) h) → Newest (p ∷ ps) i m h
        by true same rest = set_now ticket of_each.0.0 keys dropped ps i m h of_each.0.1 same of_each.1 once.0 there s
        by false other rest =
            let fewer : overwrites (p ∷ ps) ≡ overwrites ps =
            count-first ring (queue.Blocked n (event_at t.blocked ticket)) (rings_of (named_puts n t ps))
            ∙ (ap (λ b. cond b 1 0 + overwrites ps) (other_ring ticket of_each.0.0 of_each.0.1 other) ∙ zero_more (overwrites ps))
            in
            let x : Envelope = record { entry = j; place = i; queue = queue.Blocked n (event_at t.blocked ticket); item = item.Blocked keys } in
            let put_later : added i (p ∷ ps) ≡ added (i + 1) ps = ap (λ b. cond b (x ∷ added (i + 1) ps) (added (i + 1) ps)) (other_place ticket of_each.0.0 of_each.0.1 other) in
            subst (λ l. SetStands (set_of (after_puts ps (after_put p m)).desk k) (drop (overwrites (p ∷ ps)) h ++ l)) (sym put_later)
            (subst (λ c. SetStands (set_of (after_puts ps (after_put p m)).desk k) (drop c h ++ added (i + 1) ps)) (sym fewer) (rest other))
    set_after (put.Listenable addresses dropped ∷ ps) i m h of_each once there s =
        let p = put.Listenable addresses dropped in
        let fewer : overwrites (p ∷ ps) ≡ overwrites ps = count-first ring (queue.Addresses n) (rings_of (named_puts n t ps)) ∙ zero_more (overwrites ps) in
        subst (λ c. SetStands (set_of (after_puts ps (after_put p m)).desk k) (drop c h ++ added (i + 1) ps)) (sym fewer) (set_after ps (i + 1) (after_put p m) h of_each.1 once there s)
    set_after (put.Kill peer conn ∷ ps) i m h of_each once there s = set_after ps (i + 1) m h of_each.1 once there s
    set_after (put.Update ticket update ∷ ps) i m h of_each once there s = set_after ps (i + 1) (after_put (put.Update ticket update) m) h of_each.1 once there s
    set_after (put.PeerSet ticket peers ∷ ps) i m h of_each once there s = set_after ps (i + 1) (after_put (put.PeerSet ticket peers) m) h of_each.1 once there s
    set_after (put.Dialable list ∷ ps) i m h of_each once there s = set_after ps (i + 1) (after_put (put.Dialable list) m) h of_each.1 once there s
    set_after (put.Dial grant ∷ ps) i m h of_each once there s = set_after ps (i + 1) (after_put (put.Dial grant) m) h of_each.1 once there s
    set_after (put.Acceptable handshake acceptable ∷ ps) i m h of_each once there s = set_after ps (i + 1) (after_put (put.Acceptable handshake acceptable) m) h of_each.1 once there s
    set_after (put.Listen handshake grant ∷ ps) i m h of_each once there s = set_after ps (i + 1) (after_put (put.Listen handshake grant) m) h of_each.1 once there s

  -- ---- an event without a ticket

  module _ (kind : Question) (e : ℕ) (no : (k : ℕ) → IsTicket (tickets_of t kind) k e → ⊥) where
    abbrev its : Queue
    its = queue_for n kind e

    -- what goes elsewhere
    elsewhere : (q : Queue) → is_polled q ≡ false → same_queue its q ≡ false
    elsewhere q other = same_queue-sym its q ∙ polled_apart q its (polled_for n kind e) other

    -- a ticket of its kind is another's
    another : (d : ℕ) → ((k : ℕ) → IsTicket (tickets_of t kind) k d → (e == d) ≡ false)
    another d k has = by (e == d) refl
      where
        by : (b : Bool) → (e == d) ≡ b → b ≡ false
        by false is = refl
        by true is = absurd (no k (subst (IsTicket (tickets_of t kind) k) (sym (eqb-true e d is)) has))

    told_peers : (q : Question) → q ≡ kind → (ticket d : ℕ) → IsTicket t.questions ticket d → same_queue (queue_for n q e) (queue.PeerSet n d) ≡ false
    told_peers question.PeerSet is ticket d has = ap (λ b. (n == n) && b) (another d ticket (subst (λ o. IsTicket (tickets_of t o) ticket d) is has)) ∙ and_false (n == n)
    told_peers question.Updates is ticket d has = refl
    told_peers question.Blocked is ticket d has = refl

    told_updates : (q : Question) → q ≡ kind → (ticket d : ℕ) → IsTicket t.updates ticket d → same_queue (queue_for n q e) (queue.PeerSetUpdates n d) ≡ false
    told_updates question.Updates is ticket d has = ap (λ b. (n == n) && b) (another d ticket (subst (λ o. IsTicket (tickets_of t o) ticket d) is has)) ∙ and_false (n == n)
    told_updates question.PeerSet is ticket d has = refl
    told_updates question.Blocked is ticket d has = refl

    told_blocked : (q : Question) → q ≡ kind → (ticket d : ℕ) → IsTicket t.blocked ticket d → same_queue (queue_for n q e) (queue.Blocked n d) ≡ false
    told_blocked question.Blocked is ticket d has = ap (λ b. (n == n) && b) (another d ticket (subst (λ o. IsTicket (tickets_of t o) ticket d) is has)) ∙ and_false (n == n)
    told_blocked question.PeerSet is ticket d has = refl
    told_blocked question.Updates is ticket d has = refl

    -- one thing that goes elsewhere adds nothing
    skips : (x : Queue × Item) (i : ℕ) (xs : List (Queue × Item)) → same_queue its x.0 ≡ false → filter (stands_in its) (placed j (i + 1) xs) ≡ [] → filter (stands_in its) (placed j i (x ∷ xs)) ≡ []
    skips x i xs apart rest =
        ap (λ b. cond b (record { entry = j; place = i; queue = x.0; item = x.1 } ∷ filter (stands_in its) (placed j (i + 1) xs)) (filter (stands_in its) (placed j (i + 1) xs))) apart ∙ rest

    nothing_added : (ps : List (Put Key)) (i : ℕ) → Each (IsTicketed t) ps → filter (stands_in its) (placed j i (named_puts n t ps)) ≡ []
    nothing_added [] i each = refl
    nothing_added (p ∷ ps) i each = one p each.0 (nothing_added ps (i + 1) each.1)
      where
        one : (p : Put Key) → IsTicketed t p → filter (stands_in its) (placed j (i + 1) (named_puts n t ps)) ≡ [] → filter (stands_in its) (placed j i (before (named_put n t p) (named_puts n t ps))) ≡ []
        one (put.PeerSet ticket peers) has rest =
            let x : Queue × Item = (queue.PeerSet n (event_at t.questions ticket), item.PeerSet peers) in
            skips x i (named_puts n t ps) (ap (λ d. same_queue its (queue.PeerSet n d)) (slice_index-get t.questions ticket has.0 0 has.1) ∙ told_peers kind refl ticket has.0 has.1) rest
        one (put.Update ticket update) has rest =
            let x : Queue × Item = (queue.PeerSetUpdates n (event_at t.updates ticket), item.PeerSetUpdate update) in
            skips x i (named_puts n t ps) (ap (λ d. same_queue its (queue.PeerSetUpdates n d)) (slice_index-get t.updates ticket has.0 0 has.1) ∙ told_updates kind refl ticket has.0 has.1) rest
        one (put.Blocked ticket keys dropped) has rest =
            let x : Queue × Item = (queue.Blocked n (event_at t.blocked ticket), item.Blocked keys) in
            skips x i (named_puts n t ps) (ap (λ d. same_queue its (queue.Blocked n d)) (slice_index-get t.blocked ticket has.0 0 has.1) ∙ told_blocked kind refl ticket has.0 has.1) rest
        one (put.Kill peer conn) has rest = skips (queue.Control n conn, item.Kill) i (named_puts n t ps) (elsewhere (queue.Control n conn) refl) rest
        one (put.Listenable addresses dropped) has rest = skips (queue.Addresses n, item.Addresses addresses) i (named_puts n t ps) (elsewhere (queue.Addresses n) refl) rest
        one (put.Dialable list) has rest = skips (queue.Dialer n, item.Dialable list.next_query_at list.peers) i (named_puts n t ps) (elsewhere (queue.Dialer n) refl) rest
        one (put.Dial grant) has rest = skips (queue.Dialer n, item.Dial (grant_of grant)) i (named_puts n t ps) (elsewhere (queue.Dialer n) refl) rest
        one (put.Acceptable handshake acceptable) has rest = skips (queue.Handshake n handshake, item.Acceptable acceptable) i (named_puts n t ps) (elsewhere (queue.Handshake n handshake) refl) rest
        one (put.Listen handshake grant) has rest = skips (queue.Handshake n handshake, item.Listen (option_map peer_of grant)) i (named_puts n t ps) (elsewhere (queue.Handshake n handshake) refl) rest

    pub none_told : (holds : Queue → List Envelope) (ps : List (Put Key)) → Each (IsTicketed t) ps → holds its ≡ [] → told_to holds (named_puts n t ps) j 0 its ≡ []
    none_told holds ps each empty =
        ap (λ l. drop (count_by (is_same its) (rings_of (named_puts n t ps))) l ++ filter (stands_in its) (placed j 0 (named_puts n t ps))) empty
        ∙ (ap (λ l. drop (count_by (is_same its) (rings_of (named_puts n t ps))) [] ++ l) (nothing_added ps 0 each) ∙ (append-nil (drop (count_by (is_same its) (rings_of (named_puts n t ps))) []) ∙ dropped (count_by (is_same its) (rings_of (named_puts n t ps)))))
      where
        none : List Envelope
        none = []

        dropped : (c : ℕ) → drop c none ≡ none
        dropped zero = refl
        dropped (suc c) = refl

  -- ---- all of it

  -- no ring overwrites an answer or an update
  not_ring : (r q : Queue) → is_ring r ≡ true → is_ring q ≡ false → same_queue r q ≡ false
  not_ring r q one other = by (same_queue r q) refl
    where
      by : (b : Bool) → same_queue r q ≡ b → b ≡ false
      by false is = refl
      by true is = let both : false ≡ true = sym other ∙ (ap is_ring (queue_from_same r q is) ∙ one) in cc

  ring_apart : (q p : Queue) → is_ring q ≡ false → Each (λ o. is_same q o ≡ false) (ring_of p)
  ring_apart q (queue.Addresses m) h = (not_ring (queue.Addresses m) q refl h, tt)
  ring_apart q (queue.Blocked m d) h = (not_ring (queue.Blocked m d) q refl h, tt)
  ring_apart q _ h = tt

  no_rings : (q : Queue) (xs : List (Queue × Item)) → is_ring q ≡ false → count_by (is_same q) (rings_of xs) ≡ 0
  no_rings q xs h = count_by-none (is_same q) (rings_of xs) (all xs)
    where
      all : (xs : List (Queue × Item)) → Each (λ o. is_same q o ≡ false) (rings_of xs)
      all [] = tt
      all (x ∷ xs) = Each-append (λ o. is_same q o ≡ false) (ring_of x.0) (rings_of xs) (ring_apart q x.0 h) (all xs)

  -- what stands in another queue, with what is put there
  told_there : (holds : Queue → List Envelope) (ps : List (Put Key)) (q : Queue) → is_ring q ≡ false → told_to holds (named_puts n t ps) j 0 q ≡ holds q ++ filter (stands_in q) (placed j 0 (named_puts n t ps))
  told_there holds ps q h = ap (λ c. drop c (holds q) ++ filter (stands_in q) (placed j 0 (named_puts n t ps))) (no_rings q (named_puts n t ps) h)

  pub desk-after : (noted : List (ℕ × Bool)) (old new : Queue → List Envelope) (m : Mailbox Key) (ps : List (Put Key))
      → length m.desk.updates ≡ length t.updates → length m.desk.sets ≡ length t.blocked → Each (IsTicketed t) ps → SetsOnce ps → ((q : Queue) → new q ≡ told_to old (named_puts n t ps) j 0 q)
      → DeskStands n t noted old m.desk → DeskStands n t noted new (after_puts ps m).desk
  desk-after noted old new m ps updates sets of_each once is d = record {
    answers = λ k e one.
        subst (AnswerStands (question_at (after_puts ps m).desk k) (is_some (table.at noted e))) (sym (is (queue.PeerSet n e) ∙ told_there old ps (queue.PeerSet n e) refl))
        (all_put n t (queue.PeerSet n e) j (Answered k e one (is_some (table.at noted e))) (answer_step k e one (is_some (table.at noted e))) ps m (old (queue.PeerSet n e)) 0 of_each (d.answers k e one));
    updates = λ k e one.
        subst (λ l. Match IsUpdate l (updates_at (after_puts ps m).desk k)) (sym (is (queue.PeerSetUpdates n e) ∙ told_there old ps (queue.PeerSetUpdates n e) refl))
        (all_put n t (queue.PeerSetUpdates n e) j (Updated k e one) (update_step k e one) ps m (old (queue.PeerSetUpdates n e)) 0 of_each (has_place m.desk.updates t.updates k e updates one, d.updates k e one)).1;
    sets = λ k e one.
        subst (SetStands (set_of (after_puts ps m).desk k)) (sym (is (queue.Blocked n e)))
        (set_after k e one ps 0 m (old (queue.Blocked n e)) of_each once (has_place m.desk.sets t.blocked k e sets one) (d.sets k e one));
    none = λ kind e no. is (queue_for n kind e) ∙ none_told kind e no old ps of_each (d.none kind e no);
  }

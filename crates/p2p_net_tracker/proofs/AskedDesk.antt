-- One ticket more: the tickets stand, and so does the desk, which has a place for it.
use Rattle.std.proofs.Common.{◌≡◌, ℕ, zero, suc, Bool, true, false, cond, List, [], ◌∷◌, ◌++◌, length, refl, ap, sym, subst, ◌∙◌, arith, Some, None, ◌⊎◌, inl, inr}
use Rattle.std.specs.Prelude.{is_some, slice_get, slice_index_or}
use Rattle.std.specs.BTreeMap.{is_at, insert_entry}
use Rattle.std.specs.Ordering.{nat_cmp}
use Rattle.std.proofs.lemmas.Bool.Decides.{nat_tests}
use Rattle.p2p_base.specs.Queue.{Queue as Waiting}
use Rattle.p2p_base.specs.declared.key.Key.{Key}
use Rattle.p2p_flow.specs.Provided.{unanswered, given}
use Rattle.p2p_tracker_mailbox.specs.Desk.{Desk}
use Rattle.p2p_tracker_mailbox.specs.declared.message.Message.{Message}
use Rattle.p2p_log.specs.declared.item.Envelope.{Envelope}
use Rattle.p2p_log.specs.declared.queue.Queue.{Queue}
use Rattle.p2p_log.specs.declared.queue.Queue.TheVariants as queue
use Rattle.p2p_net_queues.specs.Matching.{Match}
use Rattle.p2p_net_queues.specs.Tables as table
use Rattle.p2p_net_queues.proofs.Matching.{slice_get-longer, slice_get-last}
use Rattle.p2p_net_queues.proofs.Tables.{lookup-insert_entry}
use Rattle.p2p_net_tracker.specs.declared.naming.Tickets.{Tickets}
use Rattle.p2p_net_tracker.specs.declared.question.Question.{Question}
use Rattle.p2p_net_tracker.specs.declared.question.Question.TheVariants as question
use Rattle.p2p_net_tracker.specs.declared.question.Ticket.{Ticket}
use Rattle.p2p_net_tracker.specs.AtDesk.{IsTicket, tickets_of, TicketsStand, AnswerStands, IsUpdate, SetStands, DeskStands}
use Rattle.p2p_net_tracker.proofs.AtDesk.{has_place}

-- ---- a list with one more

index_longer : {X : Type 0} (xs ys : List X) (k : ℕ) (d : X) → is_some (slice_get xs k) ≡ true → slice_index_or (xs ++ ys) k d ≡ slice_index_or xs k d
index_longer [] ys zero d h = cc
index_longer [] ys (suc k) d h = cc
index_longer (x ∷ xs) ys zero d h = refl
index_longer (x ∷ xs) ys (suc k) d h = index_longer xs ys k d h

index_last : {X : Type 0} (xs : List X) (x d : X) → slice_index_or (xs ++ x ∷ []) (length xs) d ≡ x
index_last [] x d = refl
index_last (y ∷ xs) x d = index_last xs x d

last_or_before : (xs : List ℕ) (x k e : ℕ) → slice_get (xs ++ x ∷ []) k ≡ Some e → (slice_get xs k ≡ Some e) ⊎ ((k ≡ length xs) × (e ≡ x))
last_or_before [] x zero e h = inr (refl, value h)
  where
    value : Some x ≡ Some e → e ≡ x
    value h = cc
last_or_before [] x (suc k) e h = cc
last_or_before (y ∷ xs) x zero e h = inl h
last_or_before (y ∷ xs) x (suc k) e h = elim (last_or_before xs x k e h) [ inl before ↦ inl before | inr last ↦ inr (ap (λ i. suc i) last.0, last.1) ]

-- ---- the tickets

abbrev ticket_of : Question → ℕ → Ticket
ticket_of kind number = record { question = kind; number = number }

-- with one more of a kind, which is the event's
abbrev pub given_to : Tickets → Question → ℕ → Tickets
given_to t question.PeerSet l = record t { questions = t.questions ++ l ∷ [] }
given_to t question.Updates l = record t { updates = t.updates ++ l ∷ [] }
given_to t question.Blocked l = record t { blocked = t.blocked ++ l ∷ [] }

module _ (t : Tickets) (of : List (ℕ × Ticket)) (s : TicketsStand t of) (l : ℕ) (new : table.at of l ≡ None) where
  -- what was given before stays
  pub still_given : (kind q : Question) (k e : ℕ) → IsTicket (tickets_of t q) k e → IsTicket (tickets_of (given_to t kind l) q) k e
  still_given question.PeerSet question.PeerSet k e h = slice_get-longer t.questions (l ∷ []) k e h
  still_given question.Updates question.Updates k e h = slice_get-longer t.updates (l ∷ []) k e h
  still_given question.Blocked question.Blocked k e h = slice_get-longer t.blocked (l ∷ []) k e h
  still_given question.PeerSet question.Updates k e h = h
  still_given question.PeerSet question.Blocked k e h = h
  still_given question.Updates question.PeerSet k e h = h
  still_given question.Updates question.Blocked k e h = h
  still_given question.Blocked question.PeerSet k e h = h
  still_given question.Blocked question.Updates k e h = h

  -- and is all but the new one
  given_before : (kind q : Question) (k e : ℕ) → IsTicket (tickets_of (given_to t kind l) q) k e → IsTicket (tickets_of t q) k e ⊎ ((q ≡ kind) × ((k ≡ length (tickets_of t kind)) × (e ≡ l)))
  given_before question.PeerSet question.PeerSet k e h = elim (last_or_before t.questions l k e h) [ inl old ↦ inl old | inr last ↦ inr (refl, last) ]
  given_before question.Updates question.Updates k e h = elim (last_or_before t.updates l k e h) [ inl old ↦ inl old | inr last ↦ inr (refl, last) ]
  given_before question.Blocked question.Blocked k e h = elim (last_or_before t.blocked l k e h) [ inl old ↦ inl old | inr last ↦ inr (refl, last) ]
  given_before question.PeerSet question.Updates k e h = inl h
  given_before question.PeerSet question.Blocked k e h = inl h
  given_before question.Updates question.PeerSet k e h = inl h
  given_before question.Updates question.Blocked k e h = inl h
  given_before question.Blocked question.PeerSet k e h = inl h
  given_before question.Blocked question.Updates k e h = inl h

  own_last : (kind : Question) → IsTicket (tickets_of (given_to t kind l) kind) (length (tickets_of t kind)) l
  own_last question.PeerSet = slice_get-last t.questions l
  own_last question.Updates = slice_get-last t.updates l
  own_last question.Blocked = slice_get-last t.blocked l

  -- the new event had none
  pub none_yet : (kind : Question) (k : ℕ) → IsTicket (tickets_of t kind) k l → ⊥
  none_yet kind k h =
      let ticket : Ticket = record { question = kind; number = k } in
      let both : None ≡ Some ticket = sym new ∙ s.numbers kind k l h in
      cc

  same_event : (e : ℕ) → is_at (nat_cmp e) l ≡ true → e ≡ l
  same_event e is = grind (arith, nat_tests)

  at_itself : (l : ℕ) → is_at (nat_cmp l) l ≡ true
  at_itself l = grind (arith, nat_tests)

  pub tickets_more : (kind : Question) (number : ℕ) → number ≡ length (tickets_of t kind) → TicketsStand (given_to t kind l) (insert_entry nat_cmp of l (record { question = kind; number = number }))
  tickets_more kind number last = record { events = events; numbers = numbers }
    where
      ticket : Ticket
      ticket = record { question = kind; number = number }

      events : (e : ℕ) (k : Ticket) → table.at (insert_entry nat_cmp of l ticket) e ≡ Some k → IsTicket (tickets_of (given_to t kind l) k.question) k.number e
      events e k has = by (is_at (nat_cmp e) l) refl (sym (lookup-insert_entry l e ticket of) ∙ has)
        where
          by : (b : Bool) → is_at (nat_cmp e) l ≡ b → cond b (Some ticket) (table.at of e) ≡ Some k → IsTicket (tickets_of (given_to t kind l) k.question) k.number e
          by true here is =
              let same : ticket ≡ k = value is in
              subst (λ (i : Ticket). IsTicket (tickets_of (given_to t kind l) i.question) i.number e) same
              (subst (λ i. IsTicket (tickets_of (given_to t kind l) kind) i e) (sym last) (subst (IsTicket (tickets_of (given_to t kind l) kind) (length (tickets_of t kind))) (sym (same_event e here)) (own_last kind)))
            where
              value : Some ticket ≡ Some k → ticket ≡ k
              value h = cc
          by false other is = still_given kind k.question k.number e (s.events e k is)

      numbers : (q : Question) (k e : ℕ) → IsTicket (tickets_of (given_to t kind l) q) k e → table.at (insert_entry nat_cmp of l ticket) e ≡ Some (record { question = q; number = k })
      numbers q k e has = elim (given_before kind q k e has) [
        | inl old ↦ lookup-insert_entry l e ticket of ∙ by (is_at (nat_cmp e) l) refl (s.numbers q k e old)
        | inr now ↦ now_here now.0 now.1.0 now.1.1
      ]
        where
          by : (b : Bool) → is_at (nat_cmp e) l ≡ b → table.at of e ≡ Some (record { question = q; number = k }) → cond b (Some ticket) (table.at of e) ≡ Some (record { question = q; number = k })
          by true here is =
              let other : Ticket = record { question = q; number = k } in
              let both : None ≡ Some other = sym new ∙ (ap (table.at of) (sym (same_event e here)) ∙ is) in
              cc
          by false other is = is

          named : (i j : ℕ) (o p : Question) → i ≡ j → o ≡ p → ticket_of o i ≡ ticket_of p j
          named i j o p number kind = ap (ticket_of o) number ∙ ap (λ w. ticket_of w j) kind

          now_here : q ≡ kind → k ≡ length (tickets_of t kind) → e ≡ l → table.at (insert_entry nat_cmp of l ticket) e ≡ Some (record { question = q; number = k })
          now_here is_kind is_last is_new =
              ap (table.at (insert_entry nat_cmp of l ticket)) is_new
              ∙ (lookup-insert_entry l l ticket of
              ∙ (ap (λ b. cond b (Some ticket) (table.at of l)) (at_itself l) ∙ ap (λ (i : Ticket). Some i) (named number k kind q (last ∙ sym is_last) (sym is_kind))))

  -- ---- the desk

  module _ (n : ℕ) (noted : List (ℕ × Bool)) (holds : Queue → List Envelope) (d : Desk Key) (stands : DeskStands n t noted holds d) (ms : Waiting (Message Key)) where
    pub asked_peers : length d.questions ≡ length t.questions → table.at noted l ≡ None
        → DeskStands n (given_to t question.PeerSet l) noted holds (record { messages = ms; questions = d.questions ++ unanswered ∷ []; updates = d.updates; sets = d.sets })
    asked_peers long fresh = record {
      answers = λ k e has. elim (last_or_before t.questions l k e has) [
        | inl old ↦
            subst (λ q. AnswerStands q (is_some (table.at noted e)) (holds (queue.PeerSet n e))) (sym (index_longer d.questions (unanswered ∷ []) k given (has_place d.questions t.questions k e long old))) (stands.answers k e old)
        | inr last ↦
            subst (λ q. AnswerStands q (is_some (table.at noted e)) (holds (queue.PeerSet n e))) (sym (ap (λ i. slice_index_or (d.questions ++ unanswered ∷ []) i given) (last.0 ∙ sym long) ∙ index_last d.questions unanswered given))
            (ap (λ i. is_some (table.at noted i)) last.1 ∙ ap is_some fresh, ap (λ i. holds (queue.PeerSet n i)) last.1 ∙ stands.none question.PeerSet l (none_yet question.PeerSet))
      ];
      updates = stands.updates;
      sets = stands.sets;
      none = λ kind e no. stands.none kind e (λ k old. no k (still_given question.PeerSet kind k e old));
    }

    pub asked_updates : length d.updates ≡ length t.updates
        → DeskStands n (given_to t question.Updates l) noted holds (record { messages = ms; questions = d.questions; updates = d.updates ++ [] ∷ []; sets = d.sets })
    asked_updates long = record {
      answers = stands.answers;
      updates = λ k e has. elim (last_or_before t.updates l k e has) [
        | inl old ↦ subst (Match IsUpdate (holds (queue.PeerSetUpdates n e))) (sym (index_longer d.updates ([] ∷ []) k [] (has_place d.updates t.updates k e long old))) (stands.updates k e old)
        | inr last ↦
            subst (Match IsUpdate (holds (queue.PeerSetUpdates n e))) (sym (ap (λ i. slice_index_or (d.updates ++ [] ∷ []) i []) (last.0 ∙ sym long) ∙ index_last d.updates [] []))
            (subst (λ xs. Match IsUpdate xs []) (sym (ap (λ i. holds (queue.PeerSetUpdates n i)) last.1 ∙ stands.none question.Updates l (none_yet question.Updates))) tt)
      ];
      sets = stands.sets;
      none = λ kind e no. stands.none kind e (λ k old. no k (still_given question.Updates kind k e old));
    }

    pub asked_sets : length d.sets ≡ length t.blocked → DeskStands n (given_to t question.Blocked l) noted holds (record { messages = ms; questions = d.questions; updates = d.updates; sets = d.sets ++ None ∷ [] })
    asked_sets long = record {
      answers = stands.answers;
      updates = stands.updates;
      sets = λ k e has. elim (last_or_before t.blocked l k e has) [
        | inl old ↦ subst (λ o. SetStands o (holds (queue.Blocked n e))) (sym (index_longer d.sets (None ∷ []) k None (has_place d.sets t.blocked k e long old))) (stands.sets k e old)
        | inr last ↦
            subst (λ o. SetStands o (holds (queue.Blocked n e))) (sym (ap (λ i. slice_index_or (d.sets ++ None ∷ []) i None) (last.0 ∙ sym long) ∙ index_last d.sets None None))
            (ap (λ i. holds (queue.Blocked n i)) last.1 ∙ stands.none question.Blocked l (none_yet question.Blocked))
      ];
      none = λ kind e no. stands.none kind e (λ k old. no k (still_given question.Blocked kind k e old));
    }

-- What waits for those who asked a node's tracker, once an entry told them something.
use Rattle.std.proofs.Common.{◌≡◌, ℕ, ◌+◌, true, false, cond, List, [], ◌∷◌, ◌++◌, drop, length, refl, ap, sym, ◌∙◌, eq-eqb, append-nil}
use Rattle.std.specs.Prelude.{filter, flat_map, count_by}
use Rattle.std.specs.List.{AllByRecursion as Each}
use Rattle.p2p_base.specs.declared.key.Key.{Key}
use Rattle.p2p_tracker.specs.declared.stepped.Put.{Put}
use Rattle.p2p_tracker.specs.declared.stepped.Put.TheVariants as put
use Rattle.p2p_log.specs.declared.queue.Queue.{Queue}
use Rattle.p2p_log.specs.declared.queue.Queue.TheVariants as queue
use Rattle.p2p_log.specs.declared.item.Item.{Item}
use Rattle.p2p_log.specs.declared.item.Envelope.{Envelope}
use Rattle.p2p_log.specs.declared.entry.Entry.{Entry}
use Rattle.p2p_log.specs.Apart.{AreApart}
use Rattle.p2p_log.specs.Lines.{name_of, ended_item, goes, stays, live, line, placed, stands_in}
use Rattle.p2p_log.proofs.Each.{Each-append, Each-weaker, count_by-none}
use Rattle.p2p_log.proofs.Filters.{filter-none}
use Rattle.p2p_log.proofs.Lines.{filter_stays-nil, filter_stays-append}
use Rattle.p2p_log.proofs.Names.{AreApart-filter, AreApart-live_from}
use Rattle.p2p_log.proofs.Queues.{same_queue-refl, same_queue-sym}
use Rattle.p2p_log_rules.specs.Rows.{ring_ends}
use Rattle.p2p_log_rules.specs.TrackerRows.{ring_of, rings_of}
use Rattle.p2p_net_queues.proofs.Going.{put_in, line-append, first_left}
use Rattle.p2p_net_tracker.specs.declared.naming.Tickets.{Tickets}
use Rattle.p2p_net_tracker.specs.Naming.{named_put, before, named_puts}
use Rattle.p2p_net_tracker.specs.Telling.{lost, told_to}
use Rattle.p2p_net_tracker.specs.Stands.{is_told}
use Rattle.p2p_net_tracker.proofs.Changes.{told_apart}
use Rattle.p2p_net_tracker.proofs.Rings.{is_same, ring-left, lost-ends}

abbrev pub IsTold : ℕ → Queue × Item → Type 0
IsTold n x = is_told n x.0 ≡ true

-- what the tracker put goes where it tells
pub named-each : (n : ℕ) (t : Tickets) (ps : List (Put Key)) → Each (IsTold n) (named_puts n t ps)
named-each n t [] = tt
named-each n t (p ∷ ps) = one p (named-each n t ps)
  where
    one : (p : Put Key) → Each (IsTold n) (named_puts n t ps) → Each (IsTold n) (before (named_put n t p) (named_puts n t ps))
    one (put.Acceptable handshake acceptable) rest = (eq-eqb n n refl, rest)
    one (put.Listen handshake grant) rest = (eq-eqb n n refl, rest)
    one (put.Kill peer conn) rest = (eq-eqb n n refl, rest)
    one (put.Listenable addresses dropped) rest = (eq-eqb n n refl, rest)
    one (put.Update ticket update) rest = (eq-eqb n n refl, rest)
    one (put.Blocked ticket keys dropped) rest = (eq-eqb n n refl, rest)
    one (put.PeerSet ticket peers) rest = (eq-eqb n n refl, rest)
    one (put.Dialable list) rest = (eq-eqb n n refl, rest)
    one (put.Dial grant) rest = (eq-eqb n n refl, rest)

ring_is_told : (n : ℕ) (q : Queue) → is_told n q ≡ true → Each (λ p. is_told n p ≡ true) (ring_of q)
ring_is_told n (queue.Addresses m) h = (h, tt)
ring_is_told n (queue.Blocked m e) h = (h, tt)
ring_is_told n _ h = tt

rings_are_told : (n : ℕ) (xs : List (Queue × Item)) → Each (IsTold n) xs → Each (λ p. is_told n p ≡ true) (rings_of xs)
rings_are_told n [] h = tt
rings_are_told n (x ∷ xs) h = Each-append (λ p. is_told n p ≡ true) (ring_of x.0) (rings_of xs) (ring_is_told n x.0 h.0) (rings_are_told n xs h.1)

-- rings are not its mailbox
none_same : (n m : ℕ) (qs : List Queue) → Each (λ p. is_told n p ≡ true) qs → count_by (is_same (queue.Tracker m)) qs ≡ 0
none_same n m [] h = refl
none_same n m (q ∷ qs) h = count_by-none (is_same (queue.Tracker m)) (q ∷ qs) (Each-weaker (λ p. is_told n p ≡ true) (λ p. is_same (queue.Tracker m) p ≡ false) (λ p own. told_apart n m p own) (q ∷ qs) h)

none_put : (n m k p : ℕ) (xs : List (Queue × Item)) → Each (IsTold n) xs → filter (stands_in (queue.Tracker m)) (placed k p xs) ≡ []
none_put n m k p xs h = filter-none (stands_in (queue.Tracker m)) (placed k p xs) (each k p xs h)
  where
    each : (k p : ℕ) (xs : List (Queue × Item)) → Each (IsTold n) xs → Each (λ x. stands_in (queue.Tracker m) x ≡ false) (placed k p xs)
    each k p [] h = tt
    each k p (x ∷ xs) h = (same_queue-sym (queue.Tracker m) x.0 ∙ told_apart n m x.0 h.0, each k (p + 1) xs h.1)

-- nor the dialer's line
ring_not_dialer : (n : ℕ) (q : Queue) → Each (λ p. is_same (queue.Dialer n) p ≡ false) (ring_of q)
ring_not_dialer n (queue.Addresses m) = (refl, tt)
ring_not_dialer n (queue.Blocked m e) = (refl, tt)
ring_not_dialer n _ = tt

rings_not_dialer : (n : ℕ) (xs : List (Queue × Item)) → Each (λ p. is_same (queue.Dialer n) p ≡ false) (rings_of xs)
rings_not_dialer n [] = tt
rings_not_dialer n (x ∷ xs) = Each-append (λ p. is_same (queue.Dialer n) p ≡ false) (ring_of x.0) (rings_of xs) (ring_not_dialer n x.0) (rings_not_dialer n xs)

-- nor that of a handshake
ring_not_handshake : (n k : ℕ) (q : Queue) → Each (λ p. is_same (queue.Handshake n k) p ≡ false) (ring_of q)
ring_not_handshake n k (queue.Addresses m) = (refl, tt)
ring_not_handshake n k (queue.Blocked m e) = (refl, tt)
ring_not_handshake n k _ = tt

rings_not_handshake : (n k : ℕ) (xs : List (Queue × Item)) → Each (λ p. is_same (queue.Handshake n k) p ≡ false) (rings_of xs)
rings_not_handshake n k [] = tt
rings_not_handshake n k (x ∷ xs) = Each-append (λ p. is_same (queue.Handshake n k) p ≡ false) (ring_of x.0) (rings_of xs) (ring_not_handshake n k x.0) (rings_not_handshake n k xs)

-- an entry that takes these, puts those, and ends what they overwrite
pub record Told (log : List Entry) (e : Entry) (n : ℕ) (names : List (ℕ × ℕ)) (xs : List (Queue × Item)) : Type 0 where
  pub takes : e.takes ≡ names
  pub puts : e.puts ≡ xs
  pub ends : e.ends ≡ ring_ends (filter (stays names) (live log)) (rings_of xs)
  pub each : Each (IsTold n) xs
  -- what is taken is none of what it told
  pub away : (p : Queue) → is_told n p ≡ true → filter (stands_in p) (filter (stays names) (live log)) ≡ line log p

module _ (log : List Entry) (e : Entry) (n : ℕ) (takes : List (ℕ × ℕ)) (xs : List (Queue × Item)) (h : Told log e n takes xs) where
  abbrev left : List Envelope
  left = filter (stays takes) (live log)

  pub left_apart : AreApart left
  left_apart = AreApart-filter (stays takes) (live log) (AreApart-live_from 0 log)

  gone_is : goes e ≡ takes ++ flat_map ended_item (ring_ends left (rings_of xs))
  gone_is = ap (λ l. l ++ flat_map ended_item e.ends) h.takes ∙ ap (λ l. takes ++ flat_map ended_item l) h.ends

  -- what stands in each queue
  line-told : (p : Queue) → line (log ++ e ∷ []) p ≡ drop (count_by (is_same p) (rings_of xs)) (filter (stands_in p) left) ++ filter (stands_in p) (placed (length log) 0 xs)
  line-told p =
      line-append log e p
      ∙ (ap (λ g. filter (stands_in p) (filter (stays g) (live log)) ++ put_in log e p) gone_is
      ∙ (ap (λ l. filter (stands_in p) l ++ put_in log e p) (filter_stays-append takes (flat_map ended_item (ring_ends left (rings_of xs))) (live log))
      ∙ (ap (λ l. l ++ put_in log e p) (ring-left left (rings_of xs) p left_apart)
      ∙ ap (λ l. drop (count_by (is_same p) (rings_of xs)) (filter (stands_in p) left) ++ filter (stands_in p) (placed (length log) 0 l)) h.puts)))

  -- each queue in which it tells
  pub holds_told : (old new : Queue → List Envelope) → ((p : Queue) → is_told n p ≡ true → old p ≡ line log p) → ((p : Queue) → new p ≡ told_to old xs (length log) 0 p)
      → (p : Queue) → is_told n p ≡ true → new p ≡ line (log ++ e ∷ []) p
  holds_told old new was is p own =
      is p
      ∙ (ap (λ l. drop (count_by (is_same p) (rings_of xs)) l ++ filter (stands_in p) (placed (length log) 0 xs)) (was p own ∙ sym (h.away p own)) ∙ sym (line-told p))

  -- its mailbox
  pub mailbox-told : line (log ++ e ∷ []) (queue.Tracker n) ≡ filter (stands_in (queue.Tracker n)) left
  mailbox-told =
      line-told (queue.Tracker n)
      ∙ (ap (λ k. drop k (filter (stands_in (queue.Tracker n)) left) ++ filter (stands_in (queue.Tracker n)) (placed (length log) 0 xs)) (none_same n n (rings_of xs) (rings_are_told n xs h.each))
      ∙ (ap (λ l. filter (stands_in (queue.Tracker n)) left ++ l) (none_put n n (length log) 0 xs h.each) ∙ append-nil (filter (stands_in (queue.Tracker n)) left)))

  -- what the listener is told
  pub heard-told : line (log ++ e ∷ []) (queue.Addresses n) ≡ drop (count_by (is_same (queue.Addresses n)) (rings_of xs)) (line log (queue.Addresses n)) ++ filter (stands_in (queue.Addresses n)) (placed (length log) 0 xs)
  heard-told =
      line-told (queue.Addresses n)
      ∙ ap (λ l. drop (count_by (is_same (queue.Addresses n)) (rings_of xs)) l ++ filter (stands_in (queue.Addresses n)) (placed (length log) 0 xs)) (h.away (queue.Addresses n) (eq-eqb n n refl))

  -- what a handshake is told
  pub handshake-told : (k : ℕ) → line (log ++ e ∷ []) (queue.Handshake n k) ≡ line log (queue.Handshake n k) ++ filter (stands_in (queue.Handshake n k)) (placed (length log) 0 xs)
  handshake-told k =
      let added = filter (stands_in (queue.Handshake n k)) (placed (length log) 0 xs) in
      line-told (queue.Handshake n k)
      ∙ (ap (λ c. drop c (filter (stands_in (queue.Handshake n k)) left) ++ added) (count_by-none (is_same (queue.Handshake n k)) (rings_of xs) (rings_not_handshake n k xs))
      ∙ ap (λ l. l ++ added) (h.away (queue.Handshake n k) (eq-eqb n n refl)))

  -- what the dialer is answered
  pub dialer-told : line (log ++ e ∷ []) (queue.Dialer n) ≡ line log (queue.Dialer n) ++ filter (stands_in (queue.Dialer n)) (placed (length log) 0 xs)
  dialer-told =
      let added = filter (stands_in (queue.Dialer n)) (placed (length log) 0 xs) in
      line-told (queue.Dialer n)
      ∙ (ap (λ k. drop k (filter (stands_in (queue.Dialer n)) left) ++ added) (count_by-none (is_same (queue.Dialer n)) (rings_of xs) (rings_not_dialer n xs)) ∙ ap (λ l. l ++ added) (h.away (queue.Dialer n) (eq-eqb n n refl)))

-- what the rings lose is what the log ends
pub lost_is : (log : List Entry) (n : ℕ) (takes : List (ℕ × ℕ)) (xs : List (Queue × Item)) (holds : Queue → List Envelope) → Each (IsTold n) xs
    → ((p : Queue) → is_told n p ≡ true → filter (stands_in p) (filter (stays takes) (live log)) ≡ line log p) → ((p : Queue) → is_told n p ≡ true → holds p ≡ line log p)
    → lost holds [] (rings_of xs) ≡ ring_ends (filter (stays takes) (live log)) (rings_of xs)
lost_is log n takes xs holds each away was =
    lost-ends holds (filter (stays takes) (live log)) [] (rings_of xs) (AreApart-filter (stays takes) (live log) (AreApart-live_from 0 log))
    (Each-weaker (λ p. is_told n p ≡ true) (λ p. filter (stands_in p) (filter (stays takes) (live log)) ≡ holds p) (λ p own. away p own ∙ sym (was p own)) (rings_of xs) (rings_are_told n xs each))

-- nothing is taken
pub away_none : (log : List Entry) (p : Queue) → filter (stands_in p) (filter (stays []) (live log)) ≡ line log p
unfolding line
away_none log p = ap (filter (stands_in p)) (filter_stays-nil (live log))

-- the first of its mailbox is taken
pub away_first : (log : List Entry) (n : ℕ) (x : Envelope) (rest : List Envelope) → line log (queue.Tracker n) ≡ x ∷ rest → (p : Queue) → is_told n p ≡ true
    → filter (stands_in p) (filter (stays (name_of x ∷ [])) (live log)) ≡ line log p
away_first log n x rest first p own =
    first_left log (queue.Tracker n) x rest first p ∙ ap (λ b. cond b rest (line log p)) (same_queue-sym (queue.Tracker n) p ∙ told_apart n n p own)

pub mailbox_first : (log : List Entry) (n : ℕ) (x : Envelope) (rest : List Envelope) → line log (queue.Tracker n) ≡ x ∷ rest
    → filter (stands_in (queue.Tracker n)) (filter (stays (name_of x ∷ [])) (live log)) ≡ rest
mailbox_first log n x rest first =
    first_left log (queue.Tracker n) x rest first (queue.Tracker n) ∙ ap (λ b. cond b rest (line log (queue.Tracker n))) (same_queue-refl (queue.Tracker n))

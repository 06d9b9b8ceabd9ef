-- The copies on their way from one node to another, in the order in which they are delivered, and what an entry does to them.
use Rattle.p2p_log.specs.Sending.{keys_sent, sending_of}
use Rattle.std.proofs.Common.{◌≡◌, ℕ, suc, ◌+◌, ◌<◌, Bool, true, List, [], ◌∷◌, ◌++◌, length, inl, refl, ap, sym, subst, ◌∙◌, arith, append_assoc, append-nil, length-append}
use Rattle.std.specs.Prelude.{filter}
use Rattle.std.specs.List.{AllByRecursion as Each}
use Rattle.p2p_base.specs.declared.key.Key.{Key}
use Rattle.p2p_log.specs.declared.config.Config.{Config}
use Rattle.p2p_log.specs.declared.queue.Queue.{Queue}
use Rattle.p2p_log.specs.declared.entry.Entry.{Entry}
use Rattle.p2p_log.specs.declared.item.Envelope.{Envelope}
use Rattle.p2p_log.specs.declared.event.Event.{Event}
use Rattle.p2p_log_rules.specs.declared.row.Row.{Row}
use Rattle.p2p_log.specs.Lines.{stands_in, live}
use Rattle.p2p_log.specs.Copies.{copies_from}
use Rattle.p2p_log_rules.specs.Effect.{entry_of}
use Rattle.p2p_log_rules.specs.Facts.{history_from, history}
use Rattle.p2p_log_rules.proofs.Facts.{history_from-append}
use Rattle.p2p_log_laws.specs.Order.{is_before}
use Rattle.p2p_log_laws.proofs.Balance.{live-none}
use Rattle.p2p_log_laws.proofs.Delivering.{delivered_by, delivered_taken}
use Rattle.p2p_log.proofs.Each.{Each-append, Each-weaker, Each-filter}
use Rattle.p2p_log_rules.specs.Moves.{Moves}
use Rattle.p2p_log_laws.proofs.Shape.{Laws}
use Rattle.p2p_log_laws.proofs.Flow.{stand-none, flows_kept, AreLed, led_flows}
use Rattle.p2p_log_laws.proofs.Sublists.{IsSublist-nil, IsSublist-refl, IsSublist-append, IsSublist-filter, IsSublist-filters, IsSublist-each, AreInOrder, IsBefore, Ordered-sublist, Ordered-append, before_later, before_next}
use Rattle.p2p_log_laws.specs.Flow.{IsSublist, carried, copies_in, stand}

module _ (configs : List Config) (test : ℕ × ℕ → Bool) (read : Queue) (stages : List Queue) where
  -- the copies that pass the test, of those that an entry delivers from the queue
  abbrev pub delivers : List Entry → Entry → List (ℕ × ℕ)
  delivers before e = filter test (delivered_by configs read before e)

  abbrev pub delivered : List Entry → List (ℕ × ℕ)
  delivered log = history delivers log

  -- the copies that pass the test: those delivered, those in the queue that is read, and those in each stage before it
  pub way : List Entry → List (ℕ × ℕ)
  way log = delivered log ++ stand test (read ∷ stages) (live log)

  pub way-none : way [] ≡ []
  unfolding way history_from
  way-none = ap (stand test (read ∷ stages)) live-none ∙ stand-none test (read ∷ stages)

  -- what is delivered is the way's beginning
  pub delivered_in_order : (log : List Entry) → AreInOrder (way log) → AreInOrder (delivered log)
  unfolding way
  delivered_in_order log h = front (delivered log) (stand test (read ∷ stages) (live log)) h
    where
      front : (xs ys : List (ℕ × ℕ)) → AreInOrder (xs ++ ys) → AreInOrder xs
      front xs ys k =
          Ordered-sublist IsBefore xs (xs ++ ys) (subst (λ l. IsSublist l (xs ++ ys)) (append-nil xs) (IsSublist-append xs xs [] ys (IsSublist-refl xs) (IsSublist-nil ys))) k

  -- one entry: what it puts on a stage of the way left the stage before, and what it puts on the first is accepted
  module _ (log : List Entry) (ev : Event) (r : Row) (m : Moves log r) (laws : Laws configs log ev.act r m)
      (Known : Envelope → Type 0) (known : Each Known m.taken) (led : AreLed test configs log ev r m laws Known known read stages) where
    abbrev accepts_now : List (ℕ × ℕ)
    accepts_now = filter test (copies_from (length log) 0 (keys_sent (sending_of ev.act r.reply)))

    abbrev later : List Entry
    later = log ++ entry_of ev r ∷ []

    abbrev delivers_now : List (ℕ × ℕ)
    delivers_now = delivers log (entry_of ev r)

    -- an entry leaves some of the copies on the way, and then some of those that it accepted, in their order
    pub way_kept : IsSublist (way later) (way log ++ accepts_now)
    unfolding way
    way_kept =
        let delivery : IsSublist delivers_now (copies_in test read m.taken) =
        IsSublist-filters test (delivered_by configs read log (entry_of ev r)) (carried (filter (stands_in read) m.taken)) (delivered_taken configs log ev r m laws read)
        in
        let flows = flows_kept test log ev r m accepts_now delivers_now (read ∷ stages) (inl (delivery, led_flows test configs log ev r m laws Known known read stages led)) in
        subst (λ (l : List (ℕ × ℕ)). IsSublist (l ++ stand test (read ∷ stages) (live later)) (way log ++ accepts_now)) (sym (history_from-append delivers [] log (entry_of ev r)))
        (subst (λ (l : List (ℕ × ℕ)). IsSublist l (way log ++ accepts_now)) (sym (append_assoc (delivered log) delivers_now (stand test (read ∷ stages) (live later))))
        (subst (IsSublist (delivered log ++ (delivers_now ++ stand test (read ∷ stages) (live later)))) (sym (append_assoc (delivered log) (stand test (read ∷ stages) (live log)) accepts_now))
        (IsSublist-append (delivered log) (delivered log) (delivers_now ++ stand test (read ∷ stages) (live later)) (stand test (read ∷ stages) (live log) ++ accepts_now) (IsSublist-refl (delivered log)) flows)))

    -- ---- the copies that are accepted

    accepted_in_order : (send p : ℕ) (ks : List Key) → AreInOrder (copies_from send p ks) × Each (λ c. (c.0 ≡ send) × (p < suc c.1)) (copies_from send p ks)
    accepted_in_order send p [] = (tt, tt)
    accepted_in_order send p (k ∷ ks) =
        let more = accepted_in_order send (p + 1) ks in (
          (Each-weaker (λ c. (c.0 ≡ send) × (p + 1 < suc c.1)) (λ c. is_before (send, p) c ≡ true) (λ c h. in_order send p c.0 c.1 h.0 h.1) (copies_from send (p + 1) ks) more.1, more.0),
          ((refl, omega arith), Each-weaker (λ c. (c.0 ≡ send) × (p + 1 < suc c.1)) (λ c. (c.0 ≡ send) × (p < suc c.1)) (λ c h. (h.0, below p c.1 h.1)) (copies_from send (p + 1) ks) more.1),
        )
      where
        in_order : (send p a b : ℕ) → a ≡ send → p + 1 < suc b → is_before (send, p) (a, b) ≡ true
        in_order send p a b e h = subst (λ s. is_before (send, p) (s, b) ≡ true) (sym e) (before_next send p b (omega arith))

        below : (p b : ℕ) → p + 1 < suc b → p < suc b
        below p b h = omega arith

    accepted_order : (ks : List Key) → AreInOrder (filter test (copies_from (length log) 0 ks))
    accepted_order ks = Ordered-sublist IsBefore (filter test (copies_from (length log) 0 ks)) (copies_from (length log) 0 ks) (IsSublist-filter test (copies_from (length log) 0 ks)) (accepted_in_order (length log) 0 ks).0

    accepted_now : (ks : List Key) → Each (λ (c : ℕ × ℕ). c.0 ≡ length log) (filter test (copies_from (length log) 0 ks))
    accepted_now ks =
        Each-filter (λ (c : ℕ × ℕ). c.0 ≡ length log) test (copies_from (length log) 0 ks)
        (Each-weaker (λ (c : ℕ × ℕ). (c.0 ≡ length log) × (0 < suc c.1)) (λ (c : ℕ × ℕ). c.0 ≡ length log) (λ c h. h.0) (copies_from (length log) 0 ks) (accepted_in_order (length log) 0 ks).1)

    -- the way stays in order, and its copies are of earlier sends
    pub order_kept : AreInOrder (way log) → Each (λ c. c.0 < length log) (way log) → AreInOrder (way later) × Each (λ c. c.0 < length later) (way later)
    order_kept order early =
        let keys = keys_sent (sending_of ev.act r.reply) in
        let longer : length later ≡ length log + 1 = length-append log (entry_of ev r ∷ []) in
        let new : Each (λ (c : ℕ × ℕ). c.0 ≡ length log) accepts_now = accepted_now keys in
        let across : Each (λ x. Each (λ y. is_before x y ≡ true) accepts_now) (way log) =
        Each-weaker (λ (x : ℕ × ℕ). x.0 < length log) (λ x. Each (λ y. is_before x y ≡ true) accepts_now)
        (λ x h. Each-weaker (λ (y : ℕ × ℕ). y.0 ≡ length log) (λ y. is_before x y ≡ true) (λ y e. before_later x.0 x.1 y.0 y.1 (omega arith)) accepts_now new)
        (way log) early
        in
        let earlier : Each (λ (c : ℕ × ℕ). c.0 < length later) (way log ++ accepts_now) =
        Each-append (λ (c : ℕ × ℕ). c.0 < length later) (way log) accepts_now
        (Each-weaker (λ (c : ℕ × ℕ). c.0 < length log) (λ (c : ℕ × ℕ). c.0 < length later) (λ c h. omega arith) (way log) early)
        (Each-weaker (λ (c : ℕ × ℕ). c.0 ≡ length log) (λ (c : ℕ × ℕ). c.0 < length later) (λ c h. omega arith) accepts_now new)
        in (
          Ordered-sublist IsBefore (way later) (way log ++ accepts_now) way_kept (Ordered-append IsBefore (way log) accepts_now order (accepted_order keys) across),
          IsSublist-each (λ c. c.0 < length later) (way later) (way log ++ accepts_now) way_kept earlier,
        )

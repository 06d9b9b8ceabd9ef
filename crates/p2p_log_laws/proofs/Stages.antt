-- What an entry does to the copies in a queue: those at the front leave, and others enter at the end.
use Rattle.p2p_log.specs.Sending.{keys_sent, sending_of}
use Rattle.std.proofs.Common.{◌≡◌, ℕ, ◌+◌, Bool, true, false, cond, List, [], ◌∷◌, ◌++◌, map, length, inl, inr, refl, ap, sym, subst, ◌∙◌}
use Rattle.std.specs.Prelude.{filter, flat_map}
use Rattle.std.specs.List.{AllByRecursion as Each}
use Rattle.std.proofs.lemmas.List.Concat.{flat_map-append}
use Rattle.std.proofs.lemmas.List.Elements.{filter-append}
use Rattle.p2p_log.specs.declared.config.Config.{Config}
use Rattle.p2p_log.specs.declared.queue.Queue.{Queue}
use Rattle.p2p_log.specs.declared.item.Item.{Item}
use Rattle.p2p_log.specs.declared.item.Envelope.{Envelope}
use Rattle.p2p_log.specs.declared.entry.Entry.{Entry}
use Rattle.p2p_log.specs.declared.entry.Reply.{Reply}
use Rattle.p2p_log.specs.declared.event.Event.{Event}
use Rattle.p2p_log.specs.declared.event.Act.{Act}
use Rattle.p2p_log_rules.specs.declared.row.Row.{Row}
use Rattle.p2p_log.specs.Lines.{name_of, ended_item, goes, stays, stands_in, live, line, placed}
use Rattle.p2p_log.specs.Copies.{copies_of, copies_from}
use Rattle.p2p_log_rules.specs.Effect.{entry_of, goes_to}
use Rattle.p2p_log.proofs.Filters.{filter-swap, filter-none}
use Rattle.p2p_log.proofs.Lines.{live-append, filter_stays-append}
use Rattle.p2p_log.proofs.Names.{AreApart-live_from}
use Rattle.p2p_log_laws.proofs.Carried.{copies_of-bare}
use Rattle.p2p_log_laws.proofs.Fitting.{is_idle}
use Rattle.p2p_log.proofs.Each.{Has, Has-first, Has-after, Each-has, Each-from_has, Each-append}
use Rattle.p2p_log.proofs.QueueNames.{queue_from_same}
use Rattle.p2p_log.proofs.Taken.{filter-taken}
use Rattle.p2p_log_rules.specs.Moves.{Moves}
use Rattle.p2p_log_rules.proofs.Moves.{taken_stood}
use Rattle.p2p_log_laws.proofs.Shape.{OfAct, OfItem, IsOwn, ComesOf, Moved, idle_bare}
use Rattle.p2p_log_laws.proofs.Sublists.{IsSublist-append, IsSublist-filters, IsSublist-flat_map}
use Rattle.p2p_log_laws.specs.Flow.{IsSublist, carried, copies_in, copies_put, put_copies}

-- ---- the copies of what stands in a queue

carried-placed : (q : Queue) (n p : ℕ) (puts : List (Queue × Item)) → carried (filter (stands_in q) (placed n p puts)) ≡ put_copies (filter (goes_to q) puts)
carried-placed q n p [] = refl
carried-placed q n p (x ∷ puts) =
    elim (goes_to q x) as (λ b. carried (cond b (record { entry = n; place = p; queue = x.0; item = x.1 } ∷ filter (stands_in q) (placed n (p + 1) puts)) (filter (stands_in q) (placed n (p + 1) puts)))
    ≡ put_copies (cond b (x ∷ filter (goes_to q) puts) (filter (goes_to q) puts))) [
      | true ↦ ap (λ l. copies_of x.1 ++ l) (carried-placed q n (p + 1) puts)
      | false ↦ carried-placed q n (p + 1) puts
    ]

module _ (test : ℕ × ℕ → Bool) (q : Queue) where
  copies_in-append : (xs ys : List Envelope) → copies_in test q (xs ++ ys) ≡ copies_in test q xs ++ copies_in test q ys
  copies_in-append xs ys =
      ap (λ l. filter test (carried l)) (filter-append (stands_in q) xs ys)
      ∙ (ap (filter test) (flat_map-append (λ (x : Envelope). copies_of x.item) (filter (stands_in q) xs) (filter (stands_in q) ys))
      ∙ filter-append test (carried (filter (stands_in q) xs)) (carried (filter (stands_in q) ys)))

  -- with one more entry: what has not gone, and what is put
  pub copies_in-live : (log : List Entry) (e : Entry)
      → copies_in test q (live (log ++ e ∷ [])) ≡ copies_in test q (filter (stays (goes e)) (live log)) ++ copies_put test q e.puts
  copies_in-live log e =
      ap (copies_in test q) (live-append log e)
      ∙ (copies_in-append (filter (stays (goes e)) (live log)) (placed (length log) 0 e.puts)
      ∙ ap (λ l. copies_in test q (filter (stays (goes e)) (live log)) ++ filter test l) (carried-placed q (length log) 0 e.puts))

  -- where nothing stands and nothing is put, nothing stands afterwards
  pub copies_in-none : (log : List Entry) (e : Entry) → line log q ≡ [] → Each (λ x. goes_to q x ≡ false) e.puts → copies_in test q (live (log ++ e ∷ [])) ≡ []
  unfolding line
  copies_in-none log e none puts =
      let gone = stays (goes e) in
      let kept : filter (stands_in q) (filter gone (live log)) ≡ [] = filter-swap (stands_in q) gone (live log) ∙ ap (filter gone) none in
      copies_in-live log e
      ∙ (ap (λ (l : List Envelope). filter test (carried l) ++ copies_put test q e.puts) kept ∙ ap (λ (l : List (Queue × Item)). filter test (put_copies l)) (filter-none (goes_to q) e.puts puts))

module _ (log : List Entry) (ev : Event) (r : Row) (m : Moves log r) (test : ℕ × ℕ → Bool) where
  -- the copies that stay behind what is taken
  abbrev pub copies_behind : Queue → List (ℕ × ℕ)
  copies_behind q = copies_in test q (filter (stays (map name_of m.taken)) (live log))

  -- before the entry: what is taken of the queue, and what stays behind it
  pub copies_in-taken : (q : Queue) → copies_in test q (live log) ≡ copies_in test q m.taken ++ copies_behind q
  copies_in-taken q =
      let taken = filter (stands_in q) m.taken in
      let left = filter (stands_in q) (filter (stays (map name_of m.taken)) (live log)) in
      ap (λ l. filter test (carried l)) (filter-taken q (live log) m.taken (AreApart-live_from 0 log) (taken_stood log ev r m))
      ∙ (ap (filter test) (flat_map-append (λ (x : Envelope). copies_of x.item) taken left) ∙ filter-append test (carried taken) (carried left))

  -- after it no others stand there but those that are put
  pub kept_behind : (q : Queue) → IsSublist (copies_in test q (filter (stays (goes (entry_of ev r))) (live log))) (copies_behind q)
  kept_behind q =
      let left = filter (stays (map name_of m.taken)) (live log) in
      let gone = flat_map ended_item r.ends in
      let named : filter (stays r.takes) (live log) ≡ left = ap (λ ns. filter (stays ns) (live log)) m.names in
      let parts : filter (stays (goes (entry_of ev r))) (live log) ≡ filter (stays gone) left =
      filter_stays-append r.takes gone (live log) ∙ ap (filter (stays gone)) named
      in
      let in_line : filter (stands_in q) (filter (stays (goes (entry_of ev r))) (live log)) ≡ filter (stays gone) (filter (stands_in q) left) =
      ap (filter (stands_in q)) parts ∙ filter-swap (stands_in q) (stays gone) left
      in
      subst (λ (l : List Envelope). IsSublist (filter test (carried l)) (copies_behind q)) (sym in_line)
      (IsSublist-filters test (carried (filter (stays gone) (filter (stands_in q) left))) (carried (filter (stands_in q) left))
      (IsSublist-flat_map (λ (x : Envelope). copies_of x.item) (stays gone) (filter (stands_in q) left)))

-- ---- what enters a queue

module _ (test : ℕ × ℕ → Bool) where
  -- none of these copies passes the test
  abbrev pub Fail : List (ℕ × ℕ) → Type 0
  Fail copies = Each (λ c. test c ≡ false) copies

  -- what is idle carries none
  idle_fails : (i : Item) → is_idle i ≡ true → Fail (copies_of i)
  idle_fails i idle = subst Fail (sym (copies_of-bare i (idle_bare i idle))) tt

  module _ (q : Queue) where
    fail_put : (P : Queue × Item → Type 0) → ((x : Queue × Item) → P x → x.0 ≡ q → Fail (copies_of x.1))
        → (puts : List (Queue × Item)) → Each P puts → Fail (put_copies (filter (goes_to q) puts))
    fail_put P f [] h = tt
    fail_put P f (x ∷ puts) h = here (goes_to q x) refl (fail_put P f puts h.1)
      where
        here : (b : Bool) → goes_to q x ≡ b → Fail (put_copies (filter (goes_to q) puts)) → Fail (put_copies (cond b (x ∷ filter (goes_to q) puts) (filter (goes_to q) puts)))
        here true e rest = Each-append (λ c. test c ≡ false) (copies_of x.1) (put_copies (filter (goes_to q) puts)) (f x h.0 (queue_from_same q x.0 e)) rest
        here false e rest = rest

    copies_put-append : (xs ys : List (Queue × Item)) → copies_put test q (xs ++ ys) ≡ copies_put test q xs ++ copies_put test q ys
    copies_put-append xs ys =
        ap (λ l. filter test (put_copies l)) (filter-append (goes_to q) xs ys)
        ∙ (ap (filter test) (flat_map-append (λ (x : Queue × Item). copies_of x.1) (filter (goes_to q) xs) (filter (goes_to q) ys))
        ∙ filter-append test (put_copies (filter (goes_to q) xs)) (put_copies (filter (goes_to q) ys)))

  copies_in-cons : (from : Queue) (y : Envelope) (ys : List Envelope)
      → copies_in test from (y ∷ ys) ≡ filter test (cond (stands_in from y) (copies_of y.item) []) ++ copies_in test from ys
  copies_in-cons from y ys =
      elim (stands_in from y) as (λ b. filter test (carried (cond b (y ∷ filter (stands_in from) ys) (filter (stands_in from) ys))) ≡ filter test (cond b (copies_of y.item) []) ++ copies_in test from ys) [
        | true ↦ filter-append test (copies_of y.item) (carried (filter (stands_in from) ys))
        | false ↦ refl
      ]

  module _ (configs : List Config) (log : List Entry) (a : Act) (r : Reply) (all : List (Queue × Item)) (Known : Envelope → Type 0) where
    -- what acts put in this queue of themselves fails
    abbrev pub OwnFails : Queue → Type 0
    OwnFails q = (i : Item) → OfAct configs log a r q i → Fail (copies_of i)

    -- what comes there of items fails
    abbrev pub ItemsFail : Queue → Type 0
    ItemsFail q = (y : Envelope) (i : Item) → Known y → OfItem configs log y q i → Fail (copies_of i)

    -- what comes there of items of other queues than this one fails
    abbrev pub OthersFail : Queue → Queue → Type 0
    OthersFail q from = (y : Envelope) (i : Item) → Known y → Has all (q, i) → OfItem configs log y q i → stands_in from y ≡ false → Fail (copies_of i)

    -- what enters this queue left the other
    module _ (q from : Queue) (own : OwnFails q) (others : OthersFail q from) where
      own_put : (x : Queue × Item) → IsOwn configs log a r x → x.0 ≡ q → Fail (copies_of x.1)
      own_put x o e = elim o [
        | inl idle ↦ idle_fails x.1 idle
        | inr h ↦ own x.1 (subst (λ p. OfAct configs log a r p x.1) e h)
      ]

      part_from : (y : Envelope) (front : List (Queue × Item)) (b : Bool) → stands_in from y ≡ b → Known y → ((x : Queue × Item) → Has front x → Has all x) → Each (ComesOf configs log y) front
          → IsSublist (put_copies (filter (goes_to q) front)) (copies_of y.item) → IsSublist (copies_put test q front) (filter test (cond b (copies_of y.item) []))
      part_from y front true e known within origins some = IsSublist-filters test (put_copies (filter (goes_to q) front)) (copies_of y.item) some
      part_from y front false e known within origins some =
          filter-none test (put_copies (filter (goes_to q) front))
          (fail_put q (λ x. Has all x × ComesOf configs log y x)
          (λ x o here. elim o.1 [
            | inl idle ↦ idle_fails x.1 idle
            | inr h ↦ others y x.1 known (subst (λ p. Has all (p, x.1)) here o.0) (subst (λ p. OfItem configs log y p x.1) here h) e
          ]) front
          (Each-from_has (λ x. Has all x × ComesOf configs log y x) front (λ x has. (within x has, Each-has (ComesOf configs log y) front x origins has))))

      enters_part : (taken : List Envelope) (puts : List (Queue × Item)) → ((x : Queue × Item) → Has puts x → Has all x) → Each Known taken → Moved configs log a r taken puts
          → IsSublist (copies_put test q puts) (copies_in test from taken)
      enters_part [] puts within known m = filter-none test (put_copies (filter (goes_to q) puts)) (fail_put q (IsOwn configs log a r) own_put puts m.0)
      enters_part (y ∷ taken) puts within known m =
          let front : List (Queue × Item) = m.0 in
          let rest : List (Queue × Item) = m.1 in
          let parts : copies_put test q puts ≡ copies_put test q front ++ copies_put test q rest = ap (copies_put test q) m.2 ∙ copies_put-append q front rest in
          let in_front : (x : Queue × Item) → Has front x → Has all x = λ x h. within x (subst (λ (l : List (Queue × Item)). Has l x) (sym m.2) (Has-first front rest x h)) in
          let in_rest : (x : Queue × Item) → Has rest x → Has all x = λ x h. within x (subst (λ (l : List (Queue × Item)). Has l x) (sym m.2) (Has-after front rest x h)) in
          let whole : IsSublist (copies_put test q front ++ copies_put test q rest) (filter test (cond (stands_in from y) (copies_of y.item) []) ++ copies_in test from taken) =
          IsSublist-append (copies_put test q front) (filter test (cond (stands_in from y) (copies_of y.item) [])) (copies_put test q rest) (copies_in test from taken)
          (part_from y front (stands_in from y) refl known.0 in_front m.3 (m.4 (goes_to q))) (enters_part taken rest in_rest known.1 m.5)
          in
          subst (IsSublist (copies_put test q puts)) (sym (copies_in-cons from y taken))
          (subst (λ l. IsSublist l (filter test (cond (stands_in from y) (copies_of y.item) []) ++ copies_in test from taken)) (sym parts) whole)

      pub enters_from : (taken : List Envelope) → Each Known taken → Moved configs log a r taken all → IsSublist (copies_put test q all) (copies_in test from taken)
      enters_from taken known m = enters_part taken all (λ x h. h) known m

    -- what enters this queue is accepted
    pub enters_first : (q : Queue) → ItemsFail q → (taken : List Envelope) (puts : List (Queue × Item)) → Each Known taken → Moved configs log a r taken puts
        → IsSublist (copies_put test q puts) (filter test (copies_from (length log) 0 (keys_sent (sending_of a r))))
    enters_first q none [] puts known m =
        IsSublist-filters test (put_copies (filter (goes_to q) puts)) (copies_from (length log) 0 (keys_sent (sending_of a r))) (m.1 (goes_to q))
    enters_first q none (y ∷ taken) puts known m =
        let front : List (Queue × Item) = m.0 in
        let rest : List (Queue × Item) = m.1 in
        let nothing : copies_put test q front ≡ [] =
        filter-none test (put_copies (filter (goes_to q) front))
        (fail_put q (ComesOf configs log y)
        (λ x o here. elim o [ inl idle ↦ idle_fails x.1 idle | inr h ↦ none y x.1 known.0 (subst (λ p. OfItem configs log y p x.1) here h) ]) front m.3)
        in
        let parts : copies_put test q puts ≡ copies_put test q rest = ap (copies_put test q) m.2 ∙ (copies_put-append q front rest ∙ ap (λ l. l ++ copies_put test q rest) nothing) in
        subst (λ l. IsSublist l (filter test (copies_from (length log) 0 (keys_sent (sending_of a r))))) (sym parts) (enters_first q none taken rest known.1 m.5)

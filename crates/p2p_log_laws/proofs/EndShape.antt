-- The shape of an act that ends connections, as a step of a half does that ends its own: all that waits for them ends with them, and its copies.
use Rattle.std.proofs.Common.{◌≡◌, ℕ, ◌+◌, Bool, true, false, List, [], ◌∷◌, ◌++◌, map, Some, inl, inr, refl, ap, sym, subst, ◌∙◌, arith}
use Rattle.std.specs.Prelude.{◌==◌, ◌&&◌, flat_map, count_by, slice_get}
use Rattle.std.specs.List.{list_any, AllByRecursion as Each}
use Rattle.std.proofs.lemmas.Bool.Decides.{nat_tests}
use Rattle.std.proofs.lemmas.Grind.{flat_map-append}
use Rattle.std.proofs.lemmas.List.Sums.{sum_by-append, sum_by-cons}
use Rattle.p2p_base.specs.declared.key.Key.{Key}
use Rattle.p2p_log.specs.declared.config.Config.{Config}
use Rattle.p2p_log.specs.declared.queue.Queue.{Queue}
use Rattle.p2p_log.specs.declared.queue.Queue.TheVariants as queue
use Rattle.p2p_log.specs.declared.item.Item.{Item}
use Rattle.p2p_log.specs.declared.item.Envelope.{Envelope}
use Rattle.p2p_log.specs.declared.end.End.{End}
use Rattle.p2p_log.specs.declared.end.End.TheVariants as end
use Rattle.p2p_log.specs.declared.end.Outcome.TheVariants as outcome
use Rattle.p2p_log.specs.declared.end.Cause.{Cause}
use Rattle.p2p_log.specs.declared.end.Cause.TheVariants as cause
use Rattle.p2p_log.specs.declared.entry.Ended.{Ended}
use Rattle.p2p_log.specs.declared.entry.Entry.{Entry}
use Rattle.p2p_log.specs.declared.entry.Reply.{Reply}
use Rattle.p2p_log.specs.declared.entry.Reply.TheVariants as reply
use Rattle.p2p_log.specs.declared.event.Event.{Event}
use Rattle.p2p_log.specs.declared.event.Act.{Act}
use Rattle.p2p_log.specs.Copies.{carries, carries_copy, copies_of, ends_copy}
use Rattle.p2p_log.specs.Drained.{all_end, drained}
use Rattle.p2p_log.specs.Lines.{name_of, ended_item, stands_in, live, line}
use Rattle.p2p_log.specs.Sending.{keys_sent, sending_of}
use Rattle.p2p_log.specs.Taken.{AreTaken}
use Rattle.p2p_log.proofs.Each.{Has, Has-either, Has-kept, Each-has, Each-append, Each-from_has, Each-map, Each-weaker, place_of}
use Rattle.p2p_log.proofs.Queues.{same_queue-refl}
use Rattle.p2p_log.proofs.Taken.{Each-drained, Has-taken}
use Rattle.p2p_log_rules.specs.declared.row.Half.{Half}
use Rattle.p2p_log_rules.specs.declared.row.Row.{Row}
use Rattle.p2p_log_rules.proofs.Connections.{half_act, end_by}
use Rattle.p2p_log_rules.specs.Connections.{half_at, live_half, ends_connection, is_end}
use Rattle.p2p_log_rules.specs.Dropping.{other_side, half_end}
use Rattle.p2p_log_rules.specs.Effect.{entry_of}
use Rattle.p2p_log_rules.specs.Ending.{queues_with, copies_drop, left_by, end_row}
use Rattle.p2p_log_rules.specs.Reading.{is_read}
use Rattle.p2p_log_rules.proofs.Moves.{rest_stood}
use Rattle.p2p_log_laws.specs.Causes.{Shows}
use Rattle.p2p_log_laws.proofs.Bulk.{item_counted, copies_carried, emptied_shape}
use Rattle.p2p_log_laws.proofs.HalfSteps.{released}
use Rattle.p2p_log_laws.proofs.Reaching.{in_flight, in_connection, reads, writes, ends_in}
use Rattle.p2p_log_laws.proofs.Shape.{Shape, IsQuiet}
use Rattle.p2p_log_laws.proofs.Showing.{Standing, EndShows}
use Rattle.p2p_log_laws.proofs.Spreading.{one}

-- ---- the copies of what was taken

copies_no_item : (c : Cause) (copies : List (ℕ × ℕ)) → flat_map ended_item (map (λ copy. end.Copy copy.0 copy.1 (outcome.Dropped c)) copies) ≡ []
copies_no_item c [] = refl
copies_no_item c (copy ∷ copies) = copies_no_item c copies

-- their ends take no item away
dropped_no_item : (c : Cause) (xs : List Envelope) → flat_map ended_item (flat_map (copies_drop c) xs) ≡ []
dropped_no_item c [] = refl
dropped_no_item c (x ∷ xs) =
    flat_map-append ended_item (copies_drop c x) (flat_map (copies_drop c) xs)
    ∙ (ap (λ l. l ++ flat_map ended_item (flat_map (copies_drop c) xs)) (copies_no_item c (copies_of x.item)) ∙ dropped_no_item c xs)

-- as many of them end as are carried
dropped_counted : (copy : ℕ × ℕ) (c : Cause) (xs : List Envelope) → count_by (carries copy) xs ≡ count_by (ends_copy copy) (flat_map (copies_drop c) xs)
dropped_counted copy c [] = refl
dropped_counted copy c (x ∷ xs) =
    sum_by-cons (λ y. one (carries copy y)) x xs
    ∙ (ap (λ n. one (carries copy x) + n) (dropped_counted copy c xs)
    ∙ (ap (λ n. n + count_by (ends_copy copy) (flat_map (copies_drop c) xs)) (sym (item_counted copy (outcome.Dropped c) x.item))
    ∙ sym (sum_by-append (λ d. one (ends_copy copy d)) (copies_drop c x) (flat_map (copies_drop c) xs))))

-- what each of these ends has
dropped_each : (P : End → Type 0) (c : Cause) (xs : List Envelope)
    → ((x : Envelope) (copy : ℕ × ℕ) → Has xs x → carries copy x ≡ true → P (end.Copy copy.0 copy.1 (outcome.Dropped c))) → Each P (flat_map (copies_drop c) xs)
dropped_each P c [] copies = tt
dropped_each P c (x ∷ xs) copies =
    Each-append P (copies_drop c x) (flat_map (copies_drop c) xs)
    (Each-map P (λ k. end.Copy k.0 k.1 (outcome.Dropped c)) (copies_of x.item)
    (Each-weaker (λ k. carries_copy k x.item ≡ true) (λ k. P (end.Copy k.0 k.1 (outcome.Dropped c))) (λ k h. copies x k (inl refl) h) (copies_of x.item) (copies_carried x.item)))
    (dropped_each P c xs (λ y k h. copies y k (inr h)))

-- ---- the queues

pub both : (n conn : ℕ) → ((n == n) && (conn == conn)) ≡ true
both n conn = grind (arith, nat_tests)

-- what ends with a connection is its own
pub with_in : (log : List Entry) (n conn : ℕ) (half : Half) → half_at log n conn ≡ Some half → (q : Queue) → Has (queues_with n conn half) q → in_connection (half_at log n conn) n conn q ≡ true
with_in log n conn half at q has = Each-has (λ p. in_connection (half_at log n conn) n conn p ≡ true) (queues_with n conn half) q each has
  where
    link : Queue
    link = queue.Link half.link (other_side half.writes)

    each : Each (λ p. in_connection (half_at log n conn) n conn p ≡ true) (queues_with n conn half)
    each = (
      both n conn,
      (both n conn, (both n conn, (both n conn, (both n conn, (ap (λ o. in_flight (half_end o) link) at ∙ same_queue-refl link, tt))))),
    )

-- ---- several connections

-- of connections of a node, each with its half: whether it is of this name, what is emptied with them, and what is told of their peers
abbrev pub is_named : ℕ → ℕ × Half → Bool
is_named k c = c.0 == k

abbrev pub all_with : ℕ → List (ℕ × Half) → List Queue
all_with n cs = flat_map (λ (c : ℕ × Half). queues_with n c.0 c.1) cs

abbrev pub all_released : ℕ → List (ℕ × Half) → List (Queue × Item)
all_released n cs = flat_map (λ (c : ℕ × Half). released n c.1.peer) cs

-- these end, one after another, with this reply, once these were taken, whose copies are dropped for this cause: what is left ends with them;
-- where one ends of itself, this is `end_row`
abbrev pub ending_row : List Entry → ℕ → List (ℕ × Half) → Reply → Cause → List Envelope → Row
ending_row log n cs said c taken = record {
  reply = said;
  takes = map name_of taken;
  puts = all_released n cs;
  ends = flat_map (copies_drop c) taken ++ all_end cause.ConnectionEnded (drained (left_by log taken) (all_with n cs));
}

-- each is of its own name
abbrev pub AreNamedApart : List (ℕ × Half) → Type 0
AreNamedApart [] = Unit {0}
AreNamedApart (c ∷ cs) = (list_any (is_named c.0) cs ≡ false) × AreNamedApart cs

-- what is so of the releases of each is so of all
pub each_released : (P : Queue × Item → Type 0) (n : ℕ) (cs : List (ℕ × Half)) → ((key : Key) → Each P (released n key)) → Each P (all_released n cs)
each_released P n [] h = tt
each_released P n (c ∷ cs) h = Each-append P (released n c.1.peer) (all_released n cs) (h c.1.peer) (each_released P n cs h)

-- a queue that is emptied with them is emptied with one of them
with_one : (n : ℕ) (cs : List (ℕ × Half)) (q : Queue) → Has (all_with n cs) q → (c : ℕ × Half) × Has cs c × Has (queues_with n c.0 c.1) q
with_one n [] q has = absurd has
with_one n (c ∷ cs) q has = elim (Has-either (queues_with n c.0 c.1) (all_with n cs) q has) [
  | inl here ↦ (c, inl refl, here)
  | inr later ↦ let rest = with_one n cs q later in (rest.0, inr rest.1, rest.2)
]

-- ---- the row

-- connections end that had not
module _ (configs : List Config) (log : List Entry) (a : Act) (n : ℕ) (cs : List (ℕ × Half)) (lived : Each (λ c. live_half log n c.0 ≡ Some c.1) cs)
    (said : Reply) (none : keys_sent (sending_of a said) ≡ []) (silent : is_read said ≡ false)
    (over : (r : Row) → r.reply ≡ said → (ev : Event) → ev.act ≡ a → (c : ℕ × Half) → Has cs c → ends_connection n c.0 log (entry_of ev r) ≡ true)
    (near : (q : Queue) → Has (all_with n cs) q → ends_in configs log a q ≡ true)
    (router : writes configs log a (queue.Router n) ≡ true) (tracker : writes configs log a (queue.Tracker n) ≡ true) where
  -- what stood with one of them shows why its copy is dropped
  with_shows : (r : Row) → r.reply ≡ said → (ev : Event) → ev.act ≡ a → (q : Queue) → Has (all_with n cs) q → (x : Envelope) (place : ℕ)
      → slice_get (line log q) place ≡ Some x → (copy : ℕ × ℕ) → carries copy x ≡ true → Shows configs log (entry_of ev r) copy cause.ConnectionEnded
  with_shows r says ev acts q has x place at copy bears =
      let one = with_one n cs q has in
      let c : ℕ × Half = one.0 in
      inl (record {
        node = n;
        conn = c.0;
        half = c.1;
        lived = Each-has (λ d. live_half log n d.0 ≡ Some d.1) cs c lived one.1;
        ends = over r says ev acts c one.1;
        from = q;
        with = place_of (queues_with n c.0 c.1) q one.2;
        place = place;
        left = x;
        stood = at;
        carried = bears;
      })

  pub ending_shape : (c : Cause) (taken : List Envelope) → AreTaken (live log) taken → Each (λ x. reads configs log a x.queue ≡ true) taken
      → (Standing configs log → (ev : Event) → ev.act ≡ a → (x : Envelope) (copy : ℕ × ℕ) → Has taken x → carries copy x ≡ true
      → Shows configs log (entry_of ev (ending_row log n cs said c taken)) copy c)
      → Shape configs log a (ending_row log n cs said c taken)
  ending_shape c taken stood read causes =
      let r : Row = ending_row log n cs said c taken in
      let qs : List Queue = all_with n cs in
      emptied_shape configs log a said none silent taken read (flat_map (copies_drop c) taken) (dropped_no_item c taken) (λ copy. dropped_counted copy c taken)
      (all_released n cs) (each_released IsQuiet n cs (λ key. ((refl, refl), ((refl, refl), tt)))) (each_released (λ x. writes configs log a x.0 ≡ true) n cs (λ key. (router, (tracker, tt))))
      qs near cause.ConnectionEnded (drained (left_by log taken) qs) (rest_stood log taken qs stood)
      (Each-drained (λ x. Has qs x.queue) (left_by log taken) qs (Each-from_has (λ q. (x : Envelope) → x.queue ≡ q → Has qs x.queue) qs (λ q has x is. subst (Has qs) (sym is) has)))
      (λ stand ev acts. dropped_each (EndShows configs log (entry_of ev r)) c taken (λ x copy has bears. causes stand ev acts x copy has bears))
      (λ stand ev acts q has x place at copy bears. with_shows r refl ev acts q has x place at copy bears)

  -- as where what was taken stood with them
  pub over_shape : (taken : List Envelope) → AreTaken (live log) taken → Each (λ x. reads configs log a x.queue ≡ true) taken
      → Each (λ x. Has (all_with n cs) x.queue) taken → Shape configs log a (ending_row log n cs said cause.ConnectionEnded taken)
  unfolding line
  over_shape taken stood read own =
      ending_shape cause.ConnectionEnded taken stood read
      (λ stand ev acts x copy has bears.
      let here : Has (live log) x = Has-taken (live log) taken x stood has in
      let place = place_of (line log x.queue) x (Has-kept (stands_in x.queue) (live log) x (same_queue-refl x.queue) here) in
      with_shows (ending_row log n cs said cause.ConnectionEnded taken) refl ev acts x.queue (Each-has (λ y. Has (all_with n cs) y.queue) taken x own has) x place.0 place.1 copy bears)

-- a step of one of its halves ends the connection
module _ (configs : List Config) (log : List Entry) (a : Act) (n conn : ℕ) (half : Half) (lived : live_half log n conn ≡ Some half)
    (sends : Bool) (steps : a ≡ half_act sends conn n) (none : (r : Reply) → keys_sent (sending_of a r) ≡ [])
    (near : (q : Queue) → Has (queues_with n conn half) q → ends_in configs log a q ≡ true)
    (router : writes configs log a (queue.Router n) ≡ true) (tracker : writes configs log a (queue.Tracker n) ≡ true) where
  over : (why : Ended) (r : Row) → r.reply ≡ reply.Ended why → (ev : Event) → ev.act ≡ a → (c : ℕ × Half) → Has ((conn, half) ∷ []) c → ends_connection n c.0 log (entry_of ev r) ≡ true
  over why r says ev acts c (inl is) =
      ap (λ (d : ℕ × Half). ends_connection n d.0 log (entry_of ev r)) (sym is) ∙ end_by log (entry_of ev r) n conn sends (acts ∙ steps) (ap is_end says)
  over why r says ev acts c (inr no_other) = absurd no_other

  pub end_shape : (why : Ended) (c : Cause) (taken : List Envelope) → AreTaken (live log) taken → Each (λ x. reads configs log a x.queue ≡ true) taken
      → (Standing configs log → (ev : Event) → ev.act ≡ a → (x : Envelope) (copy : ℕ × ℕ) → Has taken x → carries copy x ≡ true
      → Shows configs log (entry_of ev (end_row log n conn half why c taken)) copy c)
      → Shape configs log a (end_row log n conn half why c taken)
  end_shape why = ending_shape configs log a n ((conn, half) ∷ []) (lived, tt) (reply.Ended why) (none (reply.Ended why)) refl (over why) near router tracker

  pub ended_shape : (why : Ended) (taken : List Envelope) → AreTaken (live log) taken → Each (λ x. reads configs log a x.queue ≡ true) taken
      → Each (λ x. Has (queues_with n conn half) x.queue) taken → Shape configs log a (end_row log n conn half why cause.ConnectionEnded taken)
  ended_shape why = over_shape configs log a n ((conn, half) ∷ []) (lived, tt) (reply.Ended why) (none (reply.Ended why)) refl (over why) near router tracker

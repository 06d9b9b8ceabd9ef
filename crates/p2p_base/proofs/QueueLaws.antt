-- What each answer of a queue tells of the queue before and after.
use Rattle.std.proofs.Common.{◌≡◌, Bool, true, false, [], ◌∷◌, ◌++◌, drop, slice_index_or, if◌then◌else◌, refl, ap, ◌∙◌}
use Rattle.p2p_base.specs.Queue.{Queue, has_room, with_items, overflow_answer, overflow_items, enqueue_answer, enqueued, push_answer, pushed_on}
use Rattle.p2p_base.specs.declared.policy.Keep.{Keep}
use Rattle.p2p_base.specs.declared.policy.Keep.TheVariants.{Refuse, Append, Replace}
use Rattle.p2p_base.specs.declared.outcome.Sent.{Sent}
use Rattle.p2p_base.specs.declared.outcome.Sent.TheVariants as sent
use Rattle.p2p_base.specs.declared.outcome.Pushed.{Pushed}
use Rattle.p2p_base.specs.declared.outcome.Pushed.TheVariants as pushed

module _ {T : Type 0} where
  -- the message stands last, in a ready place
  pub record EntersReady (keep : Keep) (q : Queue T) (message : T) : Type 0 where
    pub open_before : q.closed ≡ false
    pub room : has_room q ≡ true
    pub after : enqueued keep q message ≡ with_items q (q.items ++ message ∷ [])

  -- the ready places are full, and the message is kept in the overflow
  pub record EntersOverflow (keep : Keep) (q : Queue T) (message : T) : Type 0 where
    pub open_before : q.closed ≡ false
    pub full : has_room q ≡ false
    pub after : enqueued keep q message ≡ with_items q (overflow_items keep q message)

  -- the ready places are full, and the message is handed back
  pub record IsRefused (keep : Keep) (q : Queue T) (message back : T) : Type 0 where
    pub open_before : q.closed ≡ false
    pub full : has_room q ≡ false
    pub refuses : keep ≡ Refuse
    pub same : back ≡ message
    pub after : enqueued keep q message ≡ q

  -- the queue is closed, and the message is handed back
  pub record IsTurnedAway (keep : Keep) (q : Queue T) (message back : T) : Type 0 where
    pub closed_before : q.closed ≡ true
    pub same : back ≡ message
    pub after : enqueued keep q message ≡ q

  -- the item is kept, and nothing goes
  pub record IsKept (q : Queue T) (item : T) : Type 0 where
    pub open_before : q.closed ≡ false
    pub room : has_room q ≡ true
    pub after : pushed_on q item ≡ with_items q (q.items ++ item ∷ [])

  -- the item is kept, and the oldest goes
  pub record TakesPlace (q : Queue T) (item gone : T) : Type 0 where
    pub open_before : q.closed ≡ false
    pub full : has_room q ≡ false
    pub was_oldest : gone ≡ slice_index_or q.items 0 item
    pub after : pushed_on q item ≡ with_items q (drop 1 q.items ++ item ∷ [])

  -- the ring is closed, and the item is handed back
  pub record IsPushedBack (q : Queue T) (item back : T) : Type 0 where
    pub closed_before : q.closed ≡ true
    pub same : back ≡ item
    pub after : pushed_on q item ≡ q

  abbrev sent_of : Bool → Bool → Keep → T → Sent T
  sent_of closed room keep message =
      if closed then sent.Closed message else (if room then sent.Ok else overflow_answer keep message)

  abbrev items_of : Bool → Bool → Keep → Queue T → T → Queue T
  items_of closed room keep q message =
      with_items q (if closed then q.items else (if room then q.items ++ message ∷ [] else overflow_items keep q message))

  at_ok : (closed room : Bool) (keep : Keep) (message : T) → sent_of closed room keep message ≡ sent.Ok → (closed ≡ false) × (room ≡ true)
  at_ok true room keep message e = cc
  at_ok false true keep message e = (refl, refl)
  at_ok false false Refuse message e = cc
  at_ok false false Append message e = cc
  at_ok false false Replace message e = cc

  at_backoff : (closed room : Bool) (keep : Keep) (message : T) → sent_of closed room keep message ≡ sent.Backoff → (closed ≡ false) × (room ≡ false)
  at_backoff true room keep message e = cc
  at_backoff false true keep message e = cc
  at_backoff false false keep message e = (refl, refl)

  at_rejected : (closed room : Bool) (keep : Keep) (message back : T) → sent_of closed room keep message ≡ sent.Rejected back
      → (closed ≡ false) × (room ≡ false) × (keep ≡ Refuse) × (back ≡ message)
  at_rejected true room keep message back e = cc
  at_rejected false true keep message back e = cc
  at_rejected false false Refuse message back e = (refl, refl, refl, cc)
  at_rejected false false Append message back e = cc
  at_rejected false false Replace message back e = cc

  at_closed : (closed room : Bool) (keep : Keep) (message back : T) → sent_of closed room keep message ≡ sent.Closed back
      → (closed ≡ true) × (back ≡ message)
  at_closed true room keep message back e = (refl, cc)
  at_closed false true keep message back e = cc
  at_closed false false Refuse message back e = cc
  at_closed false false Append message back e = cc
  at_closed false false Replace message back e = cc

  at : (keep : Keep) (q : Queue T) (message : T) (closed room : Bool) → q.closed ≡ closed → has_room q ≡ room → enqueued keep q message ≡ items_of closed room keep q message
  at keep q message closed room c r =
      ap (λ b. items_of b (has_room q) keep q message) c ∙ ap (λ b. items_of closed b keep q message) r

  pub enqueue_answer-Ok : (keep : Keep) (q : Queue T) (message : T) → enqueue_answer keep q message ≡ sent.Ok → EntersReady keep q message
  enqueue_answer-Ok keep q message e =
      let h = at_ok q.closed (has_room q) keep message e in
      record { open_before = h.0; room = h.1; after = at keep q message false true h.0 h.1 }

  pub enqueue_answer-Backoff : (keep : Keep) (q : Queue T) (message : T) → enqueue_answer keep q message ≡ sent.Backoff → EntersOverflow keep q message
  enqueue_answer-Backoff keep q message e =
      let h = at_backoff q.closed (has_room q) keep message e in
      record { open_before = h.0; full = h.1; after = at keep q message false false h.0 h.1 }

  pub enqueue_answer-Rejected : (keep : Keep) (q : Queue T) (message back : T) → enqueue_answer keep q message ≡ sent.Rejected back → IsRefused keep q message back
  enqueue_answer-Rejected keep q message back e =
      let h = at_rejected q.closed (has_room q) keep message back e in
      record {
        open_before = h.0;
        full = h.1;
        refuses = h.2;
        same = h.3;
        after = at keep q message false false h.0 h.1 ∙ ap (λ k. items_of false false k q message) h.2;
      }

  pub enqueue_answer-Closed : (keep : Keep) (q : Queue T) (message back : T) → enqueue_answer keep q message ≡ sent.Closed back → IsTurnedAway keep q message back
  enqueue_answer-Closed keep q message back e =
      let h = at_closed q.closed (has_room q) keep message back e in
      record { closed_before = h.0; same = h.1; after = at keep q message true (has_room q) h.0 refl }

  -- a message that is never refused is kept wherever the mailbox is open
  pub enqueued-Append : (q : Queue T) (message : T) → q.closed ≡ false → enqueued Append q message ≡ with_items q (q.items ++ message ∷ [])
  enqueued-Append q message c = at Append q message false (has_room q) c refl ∙ either (has_room q)
    where
      either : (room : Bool) → items_of false room Append q message ≡ with_items q (q.items ++ message ∷ [])
      either true = refl
      either false = refl

  abbrev pushed_of : Bool → Bool → Queue T → T → Pushed T
  pushed_of closed room q item =
      if closed then pushed.Closed item else (if room then pushed.Kept else pushed.Replaced (slice_index_or q.items 0 item))

  abbrev ring_of : Bool → Bool → Queue T → T → Queue T
  ring_of closed room q item =
      with_items q (if closed then q.items else (if room then q.items ++ item ∷ [] else drop 1 q.items ++ item ∷ []))

  at_push : (closed room : Bool) (q : Queue T) (item : T) → q.closed ≡ closed → has_room q ≡ room → pushed_on q item ≡ ring_of closed room q item
  at_push closed room q item c r = ap (λ b. ring_of b (has_room q) q item) c ∙ ap (λ b. ring_of closed b q item) r

  at_kept : (closed room : Bool) (q : Queue T) (item : T) → pushed_of closed room q item ≡ pushed.Kept → (closed ≡ false) × (room ≡ true)
  at_kept true room q item e = cc
  at_kept false true q item e = (refl, refl)
  at_kept false false q item e = cc

  at_replaced : (closed room : Bool) (q : Queue T) (item gone : T) → pushed_of closed room q item ≡ pushed.Replaced gone
      → (closed ≡ false) × (room ≡ false) × (gone ≡ slice_index_or q.items 0 item)
  at_replaced true room q item gone e = cc
  at_replaced false true q item gone e = cc
  at_replaced false false q item gone e = (refl, refl, cc)

  at_pushed_back : (closed room : Bool) (q : Queue T) (item back : T) → pushed_of closed room q item ≡ pushed.Closed back
      → (closed ≡ true) × (back ≡ item)
  at_pushed_back true room q item back e = (refl, cc)
  at_pushed_back false true q item back e = cc
  at_pushed_back false false q item back e = cc

  pub push_answer-Kept : (q : Queue T) (item : T) → push_answer q item ≡ pushed.Kept → IsKept q item
  push_answer-Kept q item e =
      let h = at_kept q.closed (has_room q) q item e in
      record { open_before = h.0; room = h.1; after = at_push false true q item h.0 h.1 }

  pub push_answer-Replaced : (q : Queue T) (item gone : T) → push_answer q item ≡ pushed.Replaced gone → TakesPlace q item gone
  push_answer-Replaced q item gone e =
      let h = at_replaced q.closed (has_room q) q item gone e in
      record { open_before = h.0; full = h.1; was_oldest = h.2; after = at_push false false q item h.0 h.1 }

  pub push_answer-Closed : (q : Queue T) (item back : T) → push_answer q item ≡ pushed.Closed back → IsPushedBack q item back
  push_answer-Closed q item back e =
      let h = at_pushed_back q.closed (has_room q) q item back e in
      record { closed_before = h.0; same = h.1; after = at_push true (has_room q) q item h.0 refl }

-- The mailboxes of the channels of a node, and the items that stand in them, after each call.
use Rattle.std.proofs.Common.{◌≡◌, ℕ, Bool, true, false, cond, List, [], ◌∷◌, ◌++◌, drop, map, Option, Some, None, refl, ap, sym, subst, ◌∙◌, arith, eqb-true}
use Rattle.std.specs.Prelude.{◌==◌, not, length, nat_le, nat_lt, slice_get, if◌then◌else◌}
use Rattle.std.specs.Option.{option_map}
use Rattle.std.proofs.lemmas.Bool.Decides.{nat_tests}
use Rattle.std.proofs.lemmas.List.{map-append}
use Rattle.std.proofs.lemmas.Option.{same_Some}
use Rattle.p2p_base.specs.Queue.{Queue, empty_queue, has_room, with_items, enqueued, without_oldest, closed_queue}
use Rattle.p2p_base.specs.declared.key.Key.{Key}
use Rattle.p2p_base.specs.declared.policy.Keep.TheVariants as keep
use Rattle.p2p_flow_connection.specs.Arriving.{Arrived as Mailboxes, mailbox_of, oldest_of, changed, with_changed, with_channel, with_arrival, arrival_waiting, without_arrival, without_receiver}
use Rattle.p2p_log.specs.declared.end.Cause.{Cause}
use Rattle.p2p_log.specs.declared.entry.Reply.{Reply}
use Rattle.p2p_log.specs.declared.item.Envelope.{Envelope}
use Rattle.p2p_log.specs.declared.item.Item.{Item}
use Rattle.p2p_log.specs.declared.item.Item.TheVariants as item
use Rattle.p2p_log.specs.Lines.{name_of}
use Rattle.p2p_log_rules.specs.Closing.{refused_by}
use Rattle.p2p_log_rules.specs.Effect.{oldest_read, read_row}
use Rattle.p2p_net_queues.specs.Tables.{at, waiting, pushed_at, cleared_at}
use Rattle.p2p_net_queues.proofs.Tables.{lookup-set, same_name, at-inserted, waiting-pushed_at, waiting-popped_at, waiting-cleared_at}
use Rattle.p2p_net_channels.specs.Channels.{places_in, places_of, capacity_at, is_closed_in, is_closed, refusal_in, refusal, named_with, told_as, read_told, named_after}
use Rattle.p2p_net_channels.specs.Stands.{received, AreNamed, NameMailboxes}
use Rattle.p2p_net_channels.specs.declared.channels.Channels.{Channels}

abbrev Messages : Type 0
Messages = Queue (Key × List ℕ)

-- ---- the mailbox of each channel, once that of one was changed

mailbox-changed : (f : Messages → Messages) (a : Mailboxes Key) (c d : ℕ) → mailbox_of (with_changed f a c) d ≡ cond (d == c) (option_map f (mailbox_of a c)) (mailbox_of a d)
mailbox-changed f a c d = by (mailbox_of a c) refl
  where
    none_at : (b : Bool) → (d == c) ≡ b → mailbox_of a c ≡ None → mailbox_of a d ≡ cond b None (mailbox_of a d)
    none_at true here none = ap (mailbox_of a) (eqb-true d c here) ∙ none
    none_at false there none = refl

    by : (o : Option Messages) → mailbox_of a c ≡ o → at (changed f o a.mailboxes c) d ≡ cond (d == c) (option_map f o) (mailbox_of a d)
    by None is = none_at (d == c) refl is
    by (Some q) is = lookup-set c d (f q) q a.mailboxes is ∙ ap (λ b. cond b (Some (f q)) (mailbox_of a d)) (same_name d c)

mailbox-registered : (a : Mailboxes Key) (c k d : ℕ) → mailbox_of (with_channel a c k) d ≡ cond (d == c) (Some (empty_queue k)) (mailbox_of a d)
mailbox-registered a c k d = at-inserted c d (empty_queue k) a.mailboxes

-- what a change of each mailbox leaves, that of one leaves
left_alone : {X : Type 0} (g : Option Messages → X) (f : Messages → Messages) (a : Mailboxes Key) (c : ℕ) → ((o : Option Messages) → g (option_map f o) ≡ g o) → (d : ℕ) → g (mailbox_of (with_changed f a c) d) ≡ g (mailbox_of a d)
left_alone g f a c same d = ap g (mailbox-changed f a c d) ∙ by (d == c) refl
  where
    by : (b : Bool) → (d == c) ≡ b → g (cond b (option_map f (mailbox_of a c)) (mailbox_of a d)) ≡ g (mailbox_of a d)
    by true is = same (mailbox_of a c) ∙ ap (λ k. g (mailbox_of a k)) (sym (eqb-true d c is))
    by false is = refl

-- and what it makes of the items of that one
named_changed : (f : Messages → Messages) (g : List Envelope → List Envelope) (a : Mailboxes Key) (w v : List (ℕ × List Envelope)) (c : ℕ) → ((d : ℕ) → waiting v d ≡ cond (d == c) (g (waiting w d)) (waiting w d))
    → (AreNamed (mailbox_of a c) (waiting w c) → AreNamed (option_map f (mailbox_of a c)) (g (waiting w c))) → NameMailboxes a w → NameMailboxes (with_changed f a c) v
named_changed f g a w v c waits step h d =
    subst (λ o. AreNamed o (waiting v d)) (sym (mailbox-changed f a c d))
    (subst (λ l. AreNamed (cond (d == c) (option_map f (mailbox_of a c)) (mailbox_of a d)) l) (sym (waits d)) (by (d == c) refl))
  where
    by : (b : Bool) → (d == c) ≡ b → AreNamed (cond b (option_map f (mailbox_of a c)) (mailbox_of a d)) (cond b (g (waiting w d)) (waiting w d))
    by true is = subst (λ k. AreNamed (option_map f (mailbox_of a c)) (g (waiting w k))) (sym (eqb-true d c is)) (step (h c))
    by false is = h d

-- ---- mailboxes that were changed, with the items that stand in them then; each holds as many as before, and none was closed

pub record MailboxesMove (ch : Channels) (a : Mailboxes Key) (w : List (ℕ × List Envelope)) : Type 0 where
  pub capacities : (c : ℕ) → places_of a c ≡ capacity_at ch c
  pub closed : (c : ℕ) → is_closed_in (mailbox_of a c) ≡ is_closed ch c
  pub named : NameMailboxes a w

pub mailboxes_stay : (ch : Channels) → NameMailboxes ch.inbounds ch.waiting → MailboxesMove ch ch.inbounds ch.waiting
mailboxes_stay ch named = record { capacities = λ c. refl; closed = λ c. refl; named = named }

-- where items are changed as they stand
moved_by : (ch : Channels) (f : Messages → List (Key × List ℕ)) (c : ℕ) (w : List (ℕ × List Envelope)) → NameMailboxes (with_changed (λ q. with_items q (f q)) ch.inbounds c) w
    → MailboxesMove ch (with_changed (λ q. with_items q (f q)) ch.inbounds c) w
moved_by ch f c w named = record {
  capacities = left_alone places_in (λ q. with_items q (f q)) ch.inbounds c places;
  closed = left_alone is_closed_in (λ q. with_items q (f q)) ch.inbounds c closed_same;
  named = named;
}
  where
    places : (o : Option Messages) → places_in (option_map (λ q. with_items q (f q)) o) ≡ places_in o
    places None = refl
    places (Some q) = refl

    closed_same : (o : Option Messages) → is_closed_in (option_map (λ q. with_items q (f q)) o) ≡ is_closed_in o
    closed_same None = refl
    closed_same (Some q) = refl

-- ---- a message that comes

-- one that a mailbox takes stands last there, as the item that it has in the log
put_last : (q : Messages) (items : List Envelope) (m : Key × List ℕ) (x : Envelope) → refused_by q.closed (not (has_room q)) ≡ None → received x.item ≡ Some m → map Some q.items ≡ map (λ y. received y.item) items
    → map Some (enqueued keep.Refuse q m).items ≡ map (λ y. received y.item) (items ++ x ∷ [])
put_last q items m x takes is named =
    ap (map Some) (room q.closed (has_room q) takes)
    ∙ (map-append Some q.items (m ∷ [])
    ∙ (ap (λ l. l ++ Some m ∷ []) named
    ∙ (ap (λ o. map (λ y. received y.item) items ++ o ∷ []) (sym is) ∙ sym (map-append (λ y. received y.item) items (x ∷ [])))))
  where
    room : (shut free : Bool) → refused_by shut (not free) ≡ None → (if shut then q.items else (if free then q.items ++ m ∷ [] else q.items)) ≡ q.items ++ m ∷ []
    room false true h = refl
    room false false h = cc
    room true free h = cc

-- one that it does not take changes nothing
put_none : (q : Messages) (m : Key × List ℕ) (why : Cause) → refused_by q.closed (not (has_room q)) ≡ Some why → (enqueued keep.Refuse q m).items ≡ q.items
put_none q m why refuses = shut q.closed (has_room q) refuses
  where
    shut : (shut free : Bool) → refused_by shut (not free) ≡ Some why → (if shut then q.items else (if free then q.items ++ m ∷ [] else q.items)) ≡ q.items
    shut true free h = refl
    shut false false h = refl
    shut false true h = cc

same_choice : (b : Bool) (l : List Envelope) → l ≡ cond b l l
same_choice true l = refl
same_choice false l = refl

-- the mailboxes once a message came
pub mailboxes_given : (ch : Channels) (c : ℕ) (m : Key × List ℕ) (x : Envelope) → NameMailboxes ch.inbounds ch.waiting → received x.item ≡ Some m
    → MailboxesMove ch (with_arrival ch.inbounds c m) (named_with (refusal ch c) c x ch.waiting)
mailboxes_given ch c m x named is =
    moved_by ch (λ q. (enqueued keep.Refuse q m).items) c (named_with (refusal ch c) c x ch.waiting) (by (refusal ch c) refl)
  where
    takes : (o : Option Messages) (items : List Envelope) → refusal_in o ≡ None → AreNamed o items → AreNamed (option_map (λ q. enqueued keep.Refuse q m) o) (items ++ x ∷ [])
    takes None items h n = cc
    takes (Some q) items h n = put_last q items m x h is n

    leaves : (o : Option Messages) (items : List Envelope) (why : Cause) → refusal_in o ≡ Some why → AreNamed o items → AreNamed (option_map (λ q. enqueued keep.Refuse q m) o) items
    leaves None items why h n = n
    leaves (Some q) items why h n = ap (map Some) (put_none q m why h) ∙ n

    by : (o : Option Cause) → refusal ch c ≡ o → NameMailboxes (with_arrival ch.inbounds c m) (named_with o c x ch.waiting)
    by None h =
        named_changed (λ q. enqueued keep.Refuse q m) (λ l. l ++ x ∷ []) ch.inbounds ch.waiting (pushed_at ch.waiting c x) c
        (λ d. waiting-pushed_at c d x ch.waiting ∙ ap (λ b. cond b (waiting ch.waiting d ++ x ∷ []) (waiting ch.waiting d)) (same_name d c)) (takes (mailbox_of ch.inbounds c) (waiting ch.waiting c) h) named
    by (Some why) h =
        named_changed (λ q. enqueued keep.Refuse q m) (λ l. l) ch.inbounds ch.waiting ch.waiting c (λ d. same_choice (d == c) (waiting ch.waiting d)) (leaves (mailbox_of ch.inbounds c) (waiting ch.waiting c) why h) named

-- ---- a message that is read

-- the items without the first, where there was a message
abbrev without_first : Option (Key × List ℕ) → List Envelope → List Envelope
without_first None l = l
without_first (Some m) l = drop 1 l

first_taken : (l : List (Key × List ℕ)) (items : List Envelope) → map Some l ≡ map (λ y. received y.item) items → map Some (drop 1 l) ≡ map (λ y. received y.item) (without_first (slice_get l 0) items)
first_taken [] items h = h
first_taken (m ∷ ms) [] h = cc
first_taken (m ∷ ms) (y ∷ ys) h = ap (drop 1) h

-- the mailboxes once the oldest message of one was taken, where there is one
pub mailboxes_read : (ch : Channels) (c : ℕ) → NameMailboxes ch.inbounds ch.waiting → MailboxesMove ch (without_arrival ch.inbounds c) (named_after (arrival_waiting ch.inbounds c) c ch.waiting)
mailboxes_read ch c named =
    moved_by ch (λ q. drop 1 q.items) c (named_after (arrival_waiting ch.inbounds c) c ch.waiting)
    (named_changed without_oldest (without_first (arrival_waiting ch.inbounds c)) ch.inbounds ch.waiting (named_after (arrival_waiting ch.inbounds c) c ch.waiting) c (left (arrival_waiting ch.inbounds c))
    (less (mailbox_of ch.inbounds c) (waiting ch.waiting c)) named)
  where
    left : (o : Option (Key × List ℕ)) (d : ℕ) → waiting (named_after o c ch.waiting) d ≡ cond (d == c) (without_first o (waiting ch.waiting d)) (waiting ch.waiting d)
    left None d = same_choice (d == c) (waiting ch.waiting d)
    left (Some m) d = waiting-popped_at c d ch.waiting ∙ ap (λ b. cond b (drop 1 (waiting ch.waiting d)) (waiting ch.waiting d)) (same_name d c)

    less : (o : Option Messages) (items : List Envelope) → AreNamed o items → AreNamed (option_map without_oldest o) (without_first (oldest_of o) items)
    less None items h = h
    less (Some q) items h = first_taken q.items items h

-- what its reader is told is what the log tells of the item
message_told : (m : Key × List ℕ) (name : ℕ × ℕ) (i : Item) → Some m ≡ received i → told_as m name i ≡ read_row name i
message_told m name (item.Message bytes copy from) h =
    let same : m ≡ (from, bytes) = cc in
    ap (λ (k : Key × List ℕ). told_as k name (item.Message bytes copy from)) same
message_told m name _ h = cc

pub read_is : (empty : Reply) (a : Mailboxes Key) (c : ℕ) (w : List (ℕ × List Envelope)) → NameMailboxes a w → read_told empty (arrival_waiting a c) (slice_get (waiting w c) 0) ≡ oldest_read empty (waiting w c)
read_is empty a c w named = by (mailbox_of a c) (waiting w c) (named c)
  where
    first : (l : List (Key × List ℕ)) (items : List Envelope) → map Some l ≡ map (λ y. received y.item) items → read_told empty (slice_get l 0) (slice_get items 0) ≡ oldest_read empty items
    first [] [] h = refl
    first [] (y ∷ ys) h = cc
    first (m ∷ ms) [] h = cc
    first (m ∷ ms) (y ∷ ys) h = message_told m (name_of y) y.item (same_Some (Some m) (received y.item) (ap (λ l. slice_get l 0) h))

    by : (o : Option Messages) (items : List Envelope) → AreNamed o items → read_told empty (oldest_of o) (slice_get items 0) ≡ oldest_read empty items
    by None items h = ap (oldest_read empty) (sym h)
    by (Some q) items h = first q.items items h

-- a message waits in a mailbox where an item stands there, and the oldest is that of the first
pub oldest_named : (a : Mailboxes Key) (c : ℕ) (w : List (ℕ × List Envelope)) → NameMailboxes a w → option_map Some (arrival_waiting a c) ≡ option_map (λ y. received y.item) (slice_get (waiting w c) 0)
oldest_named a c w named = by (mailbox_of a c) (waiting w c) (named c)
  where
    first : (l : List (Key × List ℕ)) (items : List Envelope) → map Some l ≡ map (λ y. received y.item) items → option_map Some (slice_get l 0) ≡ option_map (λ y. received y.item) (slice_get items 0)
    first [] [] h = refl
    first [] (y ∷ ys) h = cc
    first (m ∷ ms) [] h = cc
    first (m ∷ ms) (y ∷ ys) h = ap (λ l. slice_get l 0) h

    by : (o : Option Messages) (items : List Envelope) → AreNamed o items → option_map Some (oldest_of o) ≡ option_map (λ y. received y.item) (slice_get items 0)
    by None items h = ap (λ l. option_map (λ y. received y.item) (slice_get l 0)) (sym h)
    by (Some q) items h = first q.items items h

-- ---- a mailbox more, and one that is closed

pub named_registered : (a : Mailboxes Key) (c k : ℕ) (w : List (ℕ × List Envelope)) → places_of a c ≡ None → NameMailboxes a w → NameMailboxes (with_channel a c k) w
named_registered a c k w absent named d = subst (λ o. AreNamed o (waiting w d)) (sym (mailbox-registered a c k d)) (by (d == c) refl)
  where
    empty : (o : Option Messages) (items : List Envelope) → places_in o ≡ None → AreNamed o items → [] ≡ map (λ y. received y.item) items
    empty None items h n = ap (map (λ y. received y.item)) (sym n)
    empty (Some q) items h n = cc

    by : (b : Bool) → (d == c) ≡ b → AreNamed (cond b (Some (empty_queue k)) (mailbox_of a d)) (waiting w d)
    by true is = empty (mailbox_of a d) (waiting w d) (ap (places_of a) (eqb-true d c is) ∙ absent) (named d)
    by false is = named d

pub places-registered : (a : Mailboxes Key) (c k d : ℕ) → places_of (with_channel a c k) d ≡ cond (d == c) (Some k) (places_of a d)
places-registered a c k d = ap places_in (mailbox-registered a c k d) ∙ by (d == c)
  where
    by : (b : Bool) → places_in (cond b (Some (empty_queue k)) (mailbox_of a d)) ≡ cond b (Some k) (places_of a d)
    by true = refl
    by false = refl

pub closed-registered : (a : Mailboxes Key) (c k d : ℕ) → places_of a c ≡ None → is_closed_in (mailbox_of (with_channel a c k) d) ≡ is_closed_in (mailbox_of a d)
closed-registered a c k d absent = ap is_closed_in (mailbox-registered a c k d) ∙ by (d == c) refl
  where
    closed_same : (o : Option Messages) → places_in o ≡ None → false ≡ is_closed_in o
    closed_same None h = refl
    closed_same (Some q) h = cc

    by : (b : Bool) → (d == c) ≡ b → is_closed_in (cond b (Some (empty_queue k)) (mailbox_of a d)) ≡ is_closed_in (mailbox_of a d)
    by true is = closed_same (mailbox_of a d) (ap (places_of a) (eqb-true d c is) ∙ absent)
    by false is = refl

pub named_closed : (a : Mailboxes Key) (c : ℕ) (w : List (ℕ × List Envelope)) → NameMailboxes a w → NameMailboxes (without_receiver a c) (cleared_at w c)
named_closed a c w named =
    named_changed closed_queue (λ l. []) a w (cleared_at w c) c (λ d. waiting-cleared_at c d w ∙ ap (λ b. cond b [] (waiting w d)) (same_name d c)) (emptied (mailbox_of a c) (waiting w c)) named
  where
    emptied : (o : Option Messages) (items : List Envelope) → AreNamed o items → AreNamed (option_map closed_queue o) []
    emptied None items h = refl
    emptied (Some q) items h = refl

pub places-closed : (a : Mailboxes Key) (c d : ℕ) → places_of (without_receiver a c) d ≡ places_of a d
places-closed a c d = left_alone places_in closed_queue a c same d
  where
    same : (o : Option Messages) → places_in (option_map closed_queue o) ≡ places_in o
    same None = refl
    same (Some q) = refl

-- whose mailboxes are closed then, where this channel had one
pub closed-more : (a : Mailboxes Key) (c d : ℕ) (q : Messages) → mailbox_of a c ≡ Some q → is_closed_in (mailbox_of (without_receiver a c) d) ≡ cond (d == c) true (is_closed_in (mailbox_of a d))
closed-more a c d q has = ap is_closed_in (mailbox-changed closed_queue a c d) ∙ (ap (λ o. is_closed_in (cond (d == c) (option_map closed_queue o) (mailbox_of a d))) has ∙ by (d == c))
  where
    by : (b : Bool) → is_closed_in (cond b (Some (closed_queue q)) (mailbox_of a d)) ≡ cond b true (is_closed_in (mailbox_of a d))
    by true = refl
    by false = refl

-- ---- why a message does not enter its channel

pub refusal_by : (a : Mailboxes Key) (c k : ℕ) (w : List (ℕ × List Envelope)) → NameMailboxes a w → places_of a c ≡ Some k → refused_by (is_closed_in (mailbox_of a c)) (nat_le k (length (waiting w c))) ≡ refusal_in (mailbox_of a c)
refusal_by a c k w named has = by (mailbox_of a c) (waiting w c) (named c) has
  where
    as_many : (l : List (Key × List ℕ)) (items : List Envelope) → map Some l ≡ map (λ y. received y.item) items → length items ≡ length l
    as_many [] [] h = refl
    as_many [] (y ∷ ys) h = cc
    as_many (m ∷ ms) [] h = cc
    as_many (m ∷ ms) (y ∷ ys) h = let rest = as_many ms ys (ap (drop 1) h) in omega (arith, rest)

    full : (i j : ℕ) → nat_le i j ≡ not (nat_lt j i)
    full i j = grind (arith, nat_tests)

    by : (o : Option Messages) (items : List Envelope) → AreNamed o items → places_in o ≡ Some k → refused_by (is_closed_in o) (nat_le k (length items)) ≡ refusal_in o
    by None items n h = cc
    by (Some q) items n h =
        let places : q.capacity ≡ k = cc in
        ap (λ i. refused_by q.closed (nat_le i (length items))) (sym places)
        ∙ (ap (λ i. refused_by q.closed (nat_le q.capacity i)) (as_many q.items items n) ∙ ap (refused_by q.closed) (full q.capacity (length q.items)))

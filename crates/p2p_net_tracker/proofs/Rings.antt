-- What rings lose: the queues of a board beside the items of a log.
use Rattle.std.proofs.Common.{◌≡◌, ℕ, ◌+◌, Bool, true, false, cond, List, [], ◌∷◌, ◌++◌, drop, refl, ap, sym, ◌∙◌, arith, append_assoc, append-nil, drop-drop}
use Rattle.std.specs.Prelude.{filter, flat_map, count_by}
use Rattle.std.proofs.lemmas.List.Sums.{sum_by-append, sum_by-cons}
use Rattle.p2p_log.specs.declared.queue.Queue.{Queue}
use Rattle.p2p_log.specs.declared.queue.Queue.TheVariants as queue
use Rattle.p2p_log.specs.declared.item.Envelope.{Envelope}
use Rattle.p2p_log.specs.QueueCode.{same_queue}
use Rattle.p2p_log.specs.declared.item.Item.{Item}
use Rattle.p2p_log.specs.Lines.{stands_in, stays, ended_item, placed}
use Rattle.std.proofs.lemmas.List.Elements.{filter-append}
use Rattle.p2p_log_rules.specs.Rows.{overwritten, ring_ends}
use Rattle.p2p_log_rules.specs.TrackerRows.{ring_of, rings_of}
use Rattle.p2p_log_rules.specs.declared.row.Row.{Row}
use Rattle.std.specs.List.{AllByRecursion as Each}
use Rattle.p2p_log.specs.Apart.{AreApart}
use Rattle.p2p_log.proofs.Each.{Each-weaker}
use Rattle.p2p_log.proofs.Lines.{filter_stays-nil, filter_stays-append}
use Rattle.p2p_log.proofs.Names.{AreApart-filter, filter_stays-first}
use Rattle.p2p_log.proofs.QueueNames.{queue_from_same}
use Rattle.std.proofs.lemmas.Grind.{flat_map-append}
use Rattle.p2p_net_tracker.specs.Telling.{is_ring, lost}

-- whether a queue is this one
abbrev pub is_same : Queue → Queue → Bool
is_same q p = same_queue p q

pub count-append : (q : Queue) (xs ys : List Queue) → count_by (is_same q) (xs ++ ys) ≡ count_by (is_same q) xs + count_by (is_same q) ys
count-append q xs ys = sum_by-append (λ p. cond (is_same q p) 1 0) xs ys

pub drop_more : {X : Type 0} (m n : ℕ) (xs : List X) → drop n (drop m xs) ≡ drop (m + n) xs
drop_more m n xs = drop-drop n m xs

pub lost-append : (h : Queue → List Envelope) (before xs ys : List Queue) → lost h before (xs ++ ys) ≡ lost h before xs ++ lost h (before ++ xs) ys
unfolding lost
lost-append h before [] ys = ap (λ b. lost h b ys) (sym (append-nil before))
lost-append h before (x ∷ xs) ys =
    let first = overwritten (drop (count_by (is_same x) before) (h x)) in
    ap (λ l. first ++ l) (lost-append h (before ++ x ∷ []) xs ys ∙ ap (λ b. lost h (before ++ x ∷ []) xs ++ lost h b ys) (append_assoc before (x ∷ []) xs))
    ∙ sym (append_assoc first (lost h (before ++ x ∷ []) xs) (lost h (before ++ x ∷ xs) ys))

pub no_ring : (q : Queue) → is_ring q ≡ false → ring_of q ≡ []
no_ring (queue.Addresses n) h = absurd (cc)
no_ring (queue.Blocked n e) h = absurd (cc)
no_ring _ h = refl

pub one_ring : (q : Queue) → is_ring q ≡ true → ring_of q ≡ q ∷ []
one_ring (queue.Addresses n) h = refl
one_ring (queue.Blocked n e) h = refl
one_ring _ h = absurd (cc)

-- one put more in its queue
pub put_one_more : (q : Queue) (k p : ℕ) (x : Queue × Item) (xs : List (Queue × Item)) (old new : List Envelope) (m : ℕ)
    → new ≡ old ++ filter (stands_in q) (placed k p (x ∷ [])) → m ≡ p + 1
    → new ++ filter (stands_in q) (placed k m xs) ≡ old ++ filter (stands_in q) (placed k p (x ∷ xs))
put_one_more q k p x xs old new m is more =
    ap (λ l. l ++ filter (stands_in q) (placed k m xs)) is
    ∙ (append_assoc old (filter (stands_in q) (placed k p (x ∷ []))) (filter (stands_in q) (placed k m xs))
    ∙ ap (λ l. old ++ l)
    (ap (λ i. filter (stands_in q) (placed k p (x ∷ [])) ++ filter (stands_in q) (placed k i xs)) more
    ∙ sym (filter-append (stands_in q) (placed k p (x ∷ [])) (placed k (p + 1) xs))))

rings_of-last : (xs : List (Queue × Item)) (x : Queue × Item) → rings_of (xs ++ x ∷ []) ≡ rings_of xs ++ ring_of x.0
rings_of-last xs x = flat_map-append (λ (y : Queue × Item). ring_of y.0) xs (x ∷ []) ∙ ap (λ l. rings_of xs ++ l) (append-nil (ring_of x.0))

-- what one put overwrites, by what is held now, and by what was held at first
lost-ring : (h g : Queue → List Envelope) (before : List Queue) (q : Queue) → ((p : Queue) → g p ≡ drop (count_by (is_same p) before) (h p))
    → flat_map (λ p. overwritten (g p)) (ring_of q) ≡ lost h before (ring_of q)
unfolding lost
lost-ring h g before (queue.Addresses n) held_now = ap (λ l. overwritten l ++ []) (held_now (queue.Addresses n))
lost-ring h g before (queue.Blocked n e) held_now = ap (λ l. overwritten l ++ []) (held_now (queue.Blocked n e))
lost-ring h g before _ held_now = refl

pub overwrites_more_row : (r0 r1 r2 : Row) (h g : Queue → List Envelope) (xs : List (Queue × Item)) (x : Queue × Item)
    → r1 ≡ record r0 { ends = r0.ends ++ lost h [] (rings_of xs) } → ((q : Queue) → g q ≡ drop (count_by (is_same q) (rings_of xs)) (h q))
    → r2 ≡ record r1 { ends = r1.ends ++ flat_map (λ p. overwritten (g p)) (ring_of x.0) } → r2 ≡ record r0 { ends = r0.ends ++ lost h [] (rings_of (xs ++ x ∷ [])) }
overwrites_more_row r0 r1 r2 h g xs x so_far held_now more =
    more
    ∙ (ap (λ (r : Row). record r { ends = r.ends ++ flat_map (λ p. overwritten (g p)) (ring_of x.0) }) so_far
    ∙ ap (λ l. record r0 { ends = l })
    (append_assoc r0.ends (lost h [] (rings_of xs)) (flat_map (λ p. overwritten (g p)) (ring_of x.0))
    ∙ ap (λ l. r0.ends ++ l)
    (ap (λ l. lost h [] (rings_of xs) ++ l) (lost-ring h g (rings_of xs) x.0 held_now)
    ∙ (sym (lost-append h [] (rings_of xs) (ring_of x.0)) ∙ ap (lost h []) (sym (rings_of-last xs x))))))

pub overwrites_more_told : (h g f : Queue → List Envelope) (xs : List (Queue × Item)) (x : Queue × Item) (q : Queue)
    → g q ≡ drop (count_by (is_same q) (rings_of xs)) (h q) → f q ≡ drop (count_by (is_same q) (ring_of x.0)) (g q)
    → f q ≡ drop (count_by (is_same q) (rings_of (xs ++ x ∷ []))) (h q)
overwrites_more_told h g f xs x q so_far more =
    more
    ∙ (ap (drop (count_by (is_same q) (ring_of x.0))) so_far
    ∙ (drop_more (count_by (is_same q) (rings_of xs)) (count_by (is_same q) (ring_of x.0)) (h q)
    ∙ ap (λ n. drop n (h q)) (sym (count-append q (rings_of xs) (ring_of x.0)) ∙ ap (count_by (is_same q)) (sym (rings_of-last xs x)))))

-- ---- the rings of a log

-- a queue loses what it holds, where it is this ring
pub left_in : (items : List Envelope) (q p : Queue) → AreApart items
    → filter (stands_in p) (filter (stays (flat_map ended_item (overwritten (filter (stands_in q) items)))) items) ≡ cond (is_same p q) (drop 1 (filter (stands_in p) items)) (filter (stands_in p) items)
left_in items q p apart = go (filter (stands_in q) items) refl (is_same p q) refl
  where
    go : (l : List Envelope) → filter (stands_in q) items ≡ l → (b : Bool) → is_same p q ≡ b
        → filter (stands_in p) (filter (stays (flat_map ended_item (overwritten l))) items) ≡ cond b (drop 1 (filter (stands_in p) items)) (filter (stands_in p) items)
    go [] first true is =
        let none : filter (stands_in p) items ≡ [] = ap (λ r. filter (stands_in r) items) (queue_from_same q p is) ∙ first in
        ap (filter (stands_in p)) (filter_stays-nil items) ∙ (none ∙ sym (ap (drop 1) none))
    go [] first false is = ap (filter (stands_in p)) (filter_stays-nil items)
    go (x ∷ rest) first true is =
        filter_stays-first items q p x rest apart first
        ∙ (ap (λ b. cond b rest (filter (stands_in p) items)) is ∙ sym (ap (drop 1) (ap (λ r. filter (stands_in r) items) (queue_from_same q p is) ∙ first)))
    go (x ∷ rest) first false is = filter_stays-first items q p x rest apart first ∙ ap (λ b. cond b rest (filter (stands_in p) items)) is

pub count-first : (p q : Queue) (qs : List Queue) → count_by (is_same p) (q ∷ qs) ≡ cond (is_same p q) 1 0 + count_by (is_same p) qs
count-first p q qs = sum_by-cons (λ r. cond (is_same p r) 1 0) q qs

drop-if : (b : Bool) (n : ℕ) (xs : List Envelope) → drop n (cond b (drop 1 xs) xs) ≡ drop (cond b 1 0 + n) xs
drop-if true n xs = drop_more 1 n xs
drop-if false n xs = ap (λ k. drop k xs) (none n)
  where
    none : (n : ℕ) → n ≡ 0 + n
    none n = omega arith

-- what stays in a queue once rings lost what they hold
pub ring-left : (items : List Envelope) (qs : List Queue) (p : Queue) → AreApart items
    → filter (stands_in p) (filter (stays (flat_map ended_item (ring_ends items qs))) items) ≡ drop (count_by (is_same p) qs) (filter (stands_in p) items)
ring-left items [] p apart = ap (filter (stands_in p)) (filter_stays-nil items)
ring-left items (q ∷ qs) p apart =
    let ends = overwritten (filter (stands_in q) items) in
    let left = filter (stays (flat_map ended_item ends)) items in
    ap (λ g. filter (stands_in p) (filter (stays g) items)) (flat_map-append ended_item ends (ring_ends left qs))
    ∙ (ap (filter (stands_in p)) (filter_stays-append (flat_map ended_item ends) (flat_map ended_item (ring_ends left qs)) items)
    ∙ (ring-left left qs p (AreApart-filter (stays (flat_map ended_item ends)) items apart)
    ∙ (ap (drop (count_by (is_same p) qs)) (left_in items q p apart)
    ∙ (drop-if (is_same p q) (count_by (is_same p) qs) (filter (stands_in p) items) ∙ ap (λ n. drop n (filter (stands_in p) items)) (sym (count-first p q qs))))))

-- what rings lose by what they hold is what the log ends
pub lost-ends : (h : Queue → List Envelope) (items : List Envelope) (before qs : List Queue) → AreApart items
    → Each (λ q. filter (stands_in q) items ≡ drop (count_by (is_same q) before) (h q)) qs → lost h before qs ≡ ring_ends items qs
unfolding lost
lost-ends h items before [] apart holds = refl
lost-ends h items before (q ∷ qs) apart holds =
    let ends = overwritten (filter (stands_in q) items) in
    let left = filter (stays (flat_map ended_item ends)) items in
    ap (λ l. overwritten l ++ lost h (before ++ q ∷ []) qs) (sym holds.0)
    ∙ ap (λ l. ends ++ l)
    (lost-ends h left (before ++ q ∷ []) qs (AreApart-filter (stays (flat_map ended_item ends)) items apart)
    (Each-weaker (λ p. filter (stands_in p) items ≡ drop (count_by (is_same p) before) (h p)) (λ p. filter (stands_in p) left ≡ drop (count_by (is_same p) (before ++ q ∷ [])) (h p))
    (λ p is.
    left_in items q p apart
    ∙ (ap (λ l. cond (is_same p q) (drop 1 l) l) is
    ∙ (drop-if (is_same p q) 0 (drop (count_by (is_same p) before) (h p))
    ∙ (drop_more (count_by (is_same p) before) (cond (is_same p q) 1 0 + 0) (h p)
    ∙ ap (λ n. drop n (h p)) (ap (λ n. count_by (is_same p) before + n) (sym (count-first p q [])) ∙ sym (count-append p before (q ∷ [])))))))
    qs holds.1))

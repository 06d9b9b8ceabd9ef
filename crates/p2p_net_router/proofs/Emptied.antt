-- What is left once all frames of a connection were taken, or ended with it.
use Rattle.std.proofs.Common.{◌≡◌, ℕ, true, false, List, [], ◌∷◌, ◌++◌, length, take, drop, refl, ap, sym, ◌∙◌, arith, append_assoc}
use Rattle.std.specs.Prelude.{filter, map}
use Rattle.std.specs.List.{AllByRecursion}
use Rattle.std.proofs.lemmas.List.{map-append, take_all as take_whole}
use Rattle.p2p_log.specs.declared.queue.Queue.{Queue}
use Rattle.p2p_log.specs.declared.queue.Queue.TheVariants as queue
use Rattle.p2p_log.specs.declared.item.Envelope.{Envelope}
use Rattle.p2p_log.specs.declared.entry.Entry.{Entry}
use Rattle.p2p_log.specs.QueueCode.{same_queue}
use Rattle.p2p_log.specs.Drained.{drained}
use Rattle.p2p_log.specs.Lines.{name_of, goes, stays, live, stands_in}
use Rattle.p2p_log.specs.Apart.{AreApart}
use Rattle.p2p_log.proofs.Lines.{filter_stays-append, filter_stays-nil}
use Rattle.p2p_log.proofs.Names.{AreApart-filter, AreApart-live_from}
use Rattle.p2p_net_router.specs.Batches.{all_of}
use Rattle.p2p_net_router.specs.Names.{is_routers}
use Rattle.p2p_net_router.proofs.Aside.{same_queue-other}
use Rattle.p2p_net_router.proofs.Batches.{left, line_left, line_beside, batch_beside}

-- without these, and then without those
pub left_twice : (xs ys items : List Envelope) → left ys (left xs items) ≡ left (xs ++ ys) items
left_twice xs ys items = sym (filter_stays-append (map name_of xs) (map name_of ys) items) ∙ ap (λ g. filter (stays g) items) (sym (map-append name_of xs ys))

pub whole : (xs : List Envelope) → take (length xs) xs ≡ xs
whole xs = take_whole (length xs) xs (omega arith)

-- a line of which all was taken
line_emptied : (q : Queue) (items : List Envelope) → AreApart items → filter (stands_in q) (left (filter (stands_in q) items) items) ≡ []
line_emptied q items apart =
    let line = filter (stands_in q) items in
    ap (λ l. filter (stands_in q) (left l items)) (sym (whole line)) ∙ (line_left (length line) q items line apart refl ∙ none line)
  where
    none : (xs : List Envelope) → drop (length xs) xs ≡ []
    none [] = refl
    none (x ∷ xs) = none xs

-- and another line
line_other : (p q : Queue) (items : List Envelope) → AreApart items → same_queue p q ≡ false → filter (stands_in q) (left (filter (stands_in p) items) items) ≡ filter (stands_in q) items
line_other p q items apart away =
    let line = filter (stands_in p) items in
    ap (λ l. filter (stands_in q) (left l items)) (sym (whole line)) ∙ line_beside (length line) p q items line apart refl away

-- the lines of the connection are empty
pub none_high : (n conn : ℕ) (items : List Envelope) → AreApart items → filter (stands_in (queue.High n conn)) (left (all_of n conn items) items) ≡ []
none_high n conn items apart =
    let high = queue.High n conn in
    let low = queue.Low n conn in
    let hs = filter (stands_in high) items in
    let first = left hs items in
    let apart_first = AreApart-filter (stays (map name_of hs)) items apart in
    ap (filter (stands_in high)) (sym (left_twice hs (filter (stands_in low) items) items))
    ∙ (ap (λ l. filter (stands_in high) (left l first)) (sym (line_other high low items apart refl))
    ∙ (line_other low high first apart_first refl ∙ line_emptied high items apart))

pub none_low : (n conn : ℕ) (items : List Envelope) → AreApart items → filter (stands_in (queue.Low n conn)) (left (all_of n conn items) items) ≡ []
none_low n conn items apart =
    let high = queue.High n conn in
    let low = queue.Low n conn in
    let hs = filter (stands_in high) items in
    let first = left hs items in
    ap (filter (stands_in low)) (sym (left_twice hs (filter (stands_in low) items) items))
    ∙ (ap (λ l. filter (stands_in low) (left l first)) (sym (line_other high low items apart refl))
    ∙ line_emptied low first (AreApart-filter (stays (map name_of hs)) items apart))

-- the others are as they were
pub all_beside :
    (n conn : ℕ) (items : List Envelope) (q : Queue) → AreApart items → same_queue (queue.High n conn) q ≡ false → same_queue (queue.Low n conn) q ≡ false
    → filter (stands_in q) (left (all_of n conn items) items) ≡ filter (stands_in q) items
all_beside n conn items q apart high_away low_away =
    ap (λ l. filter (stands_in q) (left l items)) (sym (whole (all_of n conn items))) ∙ batch_beside n conn (length (all_of n conn items)) items q apart high_away low_away

-- ---- queues that are emptied with the connection

-- the frames come first
pub all_drained :
    (n conn : ℕ) (items : List Envelope) (qs : List Queue) → AreApart items
    → drained items (queue.High n conn ∷ queue.Low n conn ∷ qs) ≡ all_of n conn items ++ drained (left (all_of n conn items) items) qs
all_drained n conn items qs apart =
    let hs = filter (stands_in (queue.High n conn)) items in
    let ls = filter (stands_in (queue.Low n conn)) items in
    ap (λ l. hs ++ (l ++ drained (left l (left hs items)) qs)) (line_other (queue.High n conn) (queue.Low n conn) items apart refl)
    ∙ (ap (λ l. hs ++ (ls ++ drained l qs)) (left_twice hs ls items) ∙ sym (append_assoc hs ls (drained (left (hs ++ ls) items) qs)))

-- a queue that is none of them
drained_beside :
    (qs : List Queue) (items : List Envelope) (q : Queue) → AreApart items → AllByRecursion (λ p. same_queue p q ≡ false) qs
    → filter (stands_in q) (left (drained items qs) items) ≡ filter (stands_in q) items
drained_beside [] items q apart away = ap (filter (stands_in q)) (filter_stays-nil items)
drained_beside (p ∷ ps) items q apart away =
    let l = filter (stands_in p) items in
    let rest = left l items in
    ap (filter (stands_in q)) (sym (left_twice l (drained rest ps) items))
    ∙ (drained_beside ps rest q (AreApart-filter (stays (map name_of l)) items apart) away.1 ∙ line_other p q items apart away.0)

others_away : (n : ℕ) (q : Queue) (ps : List Queue) → is_routers n q ≡ true → AllByRecursion (λ p. is_routers n p ≡ false) ps → AllByRecursion (λ p. same_queue p q ≡ false) ps
others_away n q [] own h = tt
others_away n q (p ∷ ps) own h = (same_queue-other n p q h.0 own, others_away n q ps own h.1)

-- of a router's queues the frames alone go by an entry that took these, and with which these queues are emptied, of which the others
-- are not the router's
pub lines_drained :
    (log : List Entry) (e : Entry) (n conn : ℕ) (taken : List Envelope) (ps : List Queue) (q : Queue)
    → goes e ≡ map name_of taken ++ map name_of (drained (left taken (live log)) (queue.High n conn ∷ queue.Low n conn ∷ ps))
    → AllByRecursion (λ p. is_routers n p ≡ false) ps → is_routers n q ≡ true
    → filter (stands_in q) (filter (stays (goes e)) (live log)) ≡ filter (stands_in q) (left (all_of n conn (left taken (live log))) (left taken (live log)))
lines_drained log e n conn taken ps q is others own =
    let items = left taken (live log) in
    let all = all_of n conn items in
    let rest = left all items in
    let apart = AreApart-filter (stays (map name_of taken)) (live log) (AreApart-live_from 0 log) in
    ap (λ g. filter (stands_in q) (filter (stays g) (live log))) is
    ∙ (ap (filter (stands_in q)) (filter_stays-append (map name_of taken) (map name_of (drained items (queue.High n conn ∷ queue.Low n conn ∷ ps))) (live log))
    ∙ (ap (λ l. filter (stands_in q) (left l items)) (all_drained n conn items ps apart)
    ∙ (ap (filter (stands_in q)) (sym (left_twice all (drained rest ps) items))
    ∙ drained_beside ps rest q (AreApart-filter (stays (map name_of all)) items apart) (others_away n q ps own others))))

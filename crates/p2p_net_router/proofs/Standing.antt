-- What stands in each queue of a router once its step put lists of peers.
use Rattle.std.proofs.Common.{◌≡◌, ℕ, ◌+◌, ◌≤◌, Bool, true, false, cond, List, [], ◌∷◌, ◌++◌, length, drop, refl, ap, sym, ◌∙◌, arith, append-nil}
use Rattle.std.specs.Prelude.{filter, flat_map, map, ◌==◌, ◌||◌}
use Rattle.std.specs.List.{AllByRecursion}
use Rattle.std.proofs.lemmas.Bool.Decides.{nat_tests}
use Rattle.std.proofs.lemmas.List.{map-append}
use Rattle.std.proofs.lemmas.List.Elements.{filter-append}
use Rattle.p2p_base.specs.Queue.{Queue as Waiting}
use Rattle.p2p_base.specs.declared.key.Key.{Key}
use Rattle.p2p_log.specs.declared.queue.Queue.{Queue}
use Rattle.p2p_log.specs.declared.queue.Queue.TheVariants as queue
use Rattle.p2p_log.specs.declared.item.Item.{Item}
use Rattle.p2p_log.specs.declared.item.Item.TheVariants as item
use Rattle.p2p_log.specs.declared.item.Envelope.{Envelope}
use Rattle.p2p_log_rules.specs.declared.row.Row.{Row}
use Rattle.p2p_log.specs.QueueCode.{same_queue}
use Rattle.p2p_log.specs.Lines.{ended_item, stays, placed, stands_in}
use Rattle.p2p_log_rules.specs.Effect.{peers_put, peers_ends}
use Rattle.p2p_log.proofs.Queues.{same_queue-sym}
use Rattle.p2p_log.specs.Apart.{AreApart}
use Rattle.p2p_log.proofs.Names.{filter_stays-first}
use Rattle.p2p_net_router.specs.Names.{is_routers, bare_item}
use Rattle.p2p_net_router.specs.Items.{lists_in, channel_of}
use Rattle.p2p_net_router.specs.Sound.{AreDistinct, IsRing}
use Rattle.p2p_net_router.specs.Holds.{after}
use Rattle.p2p_net_router.specs.Oldest.{without, told_row}
use Rattle.p2p_net_router.proofs.Agreeing.{answer_away}
use Rattle.p2p_net_router.proofs.Ended.{is_told, told_channel, ended_lines}
use Rattle.p2p_net_router.proofs.Rings.{tells}
use Rattle.p2p_net_router.proofs.Noting.{after_row, apart_without}

-- a list of peers for each of these channels
placed_lists :
    (n entry p : ℕ) (keys : List Key) (cs : List ℕ) (q : Queue) → AreDistinct cs
    → map bare_item (filter (stands_in q) (placed entry p (map (peers_put n keys) cs))) ≡ cond (is_told n cs q) (item.Peers keys ∷ []) []
placed_lists n entry p keys [] q distinct = refl
placed_lists n entry p keys (c ∷ cs) q distinct =
    let x : Envelope = record { entry = entry; place = p; queue = queue.Peers n c; item = item.Peers keys } in
    let later = filter (stands_in q) (placed entry (p + 1) (map (peers_put n keys) cs)) in
    let ih = placed_lists n entry (p + 1) keys cs q distinct.1 in
    let told = is_told n cs q in
    ap (λ b. map bare_item (cond b (x ∷ later) later)) (same_queue-sym q (queue.Peers n c))
    ∙ ((elim (same_queue (queue.Peers n c) q) as (λ b. same_queue (queue.Peers n c) q ≡ b → map bare_item (cond b (x ∷ later) later) ≡ cond (b || told) (item.Peers keys ∷ []) []) [
      | true ↦ λ k. ap (λ l. item.Peers keys ∷ l) (ih ∙ ap (λ b. cond b (item.Peers keys ∷ []) []) (told_channel n c q cs k ∙ distinct.0))
      | false ↦ λ k. ih
    ]) refl)

-- what is put before the lists: nothing, or the answer to a connection
pub data IsPutBefore (n : ℕ) : List (Queue × Item) → Type 0 where
  nothing : IsPutBefore n []
  answer : (conn : ℕ) → IsPutBefore n ((queue.RouterAnswer n conn, item.RouterAnswer) ∷ [])

placed_told :
    (n entry : ℕ) (puts : List (Queue × Item)) (keys : List Key) (cs : List ℕ) (q : Queue) → is_routers n q ≡ true → IsPutBefore n puts → AreDistinct cs
    → map bare_item (filter (stands_in q) (placed entry 0 (puts ++ map (peers_put n keys) cs))) ≡ cond (is_told n cs q) (item.Peers keys ∷ []) []
placed_told n entry puts keys cs q own nothing distinct = placed_lists n entry 0 keys cs q distinct
placed_told n entry puts keys cs q own (answer conn) distinct =
    let x : Envelope = record { entry = entry; place = 0; queue = queue.RouterAnswer n conn; item = item.RouterAnswer } in
    let later = filter (stands_in q) (placed entry 1 (map (peers_put n keys) cs)) in
    ap (λ b. map bare_item (cond b (x ∷ later) later)) (answer_away n n conn q own) ∙ placed_lists n entry 1 keys cs q distinct

map-cond_drop : {X Y : Type 0} (f : X → Y) (b : Bool) (xs : List X) → map f (cond b (drop 1 xs) xs) ≡ cond b (drop 1 (map f xs)) (map f xs)
map-cond_drop f true [] = refl
map-cond_drop f true (x ∷ xs) = refl
map-cond_drop f false xs = refl

-- each queue of the router, once its step took one message and put lists
pub told_lines :
    (n entry : ℕ) (x : Envelope) (rest items : List Envelope) (puts : List (Queue × Item)) (keys : List Key) (cs : List ℕ) (row : Row) (q : Queue)
    → is_routers n q ≡ true → IsPutBefore n puts → AreDistinct cs → AreApart items → filter (stands_in (queue.Router n)) items ≡ x ∷ rest
    → row ≡ told_row n x items puts keys cs
    → map bare_item (filter (stands_in q) (after entry row items))
    ≡ cond (is_told n cs q) (drop 1 (map bare_item (cond (same_queue (queue.Router n) q) rest (filter (stands_in q) items)))) (map bare_item (cond (same_queue (queue.Router n) q) rest (filter (stands_in q) items)))
    ++ cond (is_told n cs q) (item.Peers keys ∷ []) []
told_lines n entry x rest items puts keys cs row q own before distinct apart first is =
    let ends = peers_ends (without x items) n cs in
    let kept = filter (stays (flat_map ended_item ends)) (without x items) in
    let put = placed entry 0 (puts ++ map (peers_put n keys) cs) in
    let line = cond (same_queue (queue.Router n) q) rest (filter (stands_in q) items) in
    ap (λ l. map bare_item (filter (stands_in q) l))
    (after_row x items entry row ends (ap (λ (r : Row). r.takes) is) (ap (λ (r : Row). r.ends) is)
    ∙ ap (λ l. kept ++ placed entry 0 l) (ap (λ (r : Row). r.puts) is))
    ∙ (ap (map bare_item) (filter-append (stands_in q) kept put)
    ∙ (map-append bare_item (filter (stands_in q) kept) (filter (stands_in q) put)
    ∙ (ap (λ l. l ++ map bare_item (filter (stands_in q) put))
    (ap (map bare_item)
    (ended_lines n cs (without x items) q (apart_without x items apart) distinct
    ∙ ap (λ l. cond (is_told n cs q) (drop 1 l) l) (filter_stays-first items (queue.Router n) q x rest apart first))
    ∙ map-cond_drop bare_item (is_told n cs q) line)
    ∙ ap (λ l. cond (is_told n cs q) (drop 1 (map bare_item line)) (map bare_item line) ++ l) (placed_told n entry puts keys cs q own before distinct))))

-- ---- which queues have lists

pub told_none : (n : ℕ) (cs : List ℕ) (q : Queue) → ((c : ℕ) → same_queue (queue.Peers n c) q ≡ false) → is_told n cs q ≡ false
told_none n [] q h = refl
told_none n (c ∷ cs) q h = ap (λ b. b || is_told n cs q) (h c) ∙ told_none n cs q h

pub told_router : (n m : ℕ) (cs : List ℕ) → is_told n cs (queue.Router m) ≡ false
told_router n m cs = told_none n cs (queue.Router m) (λ c. refl)

pub told_high : (n m conn : ℕ) (cs : List ℕ) → is_told n cs (queue.High m conn) ≡ false
told_high n m conn cs = told_none n cs (queue.High m conn) (λ c. refl)

pub told_low : (n m conn : ℕ) (cs : List ℕ) → is_told n cs (queue.Low m conn) ≡ false
told_low n m conn cs = told_none n cs (queue.Low m conn) (λ c. refl)

one_channel : (n m c d : ℕ) → (n == m) ≡ true → same_queue (queue.Peers n d) (queue.Peers m c) ≡ (d == c)
one_channel n m c d h = grind (arith, nat_tests)

-- a channel's queue has a list where one of its subscriptions is told
pub told_peers : (n m c : ℕ) (channels ss : List ℕ) → (n == m) ≡ true → is_told n (map (channel_of channels) ss) (queue.Peers m c) ≡ tells channels ss c
told_peers n m c channels [] h = refl
told_peers n m c channels (s ∷ ss) h =
    ap (λ b. b || is_told n (map (channel_of channels) ss) (queue.Peers m c)) (one_channel n m c (channel_of channels s) h)
    ∙ ap (λ b. (channel_of channels s == c) || b) (told_peers n m c channels ss h)

-- at most one list waits for a channel
pub lists_in-short : (channels : List ℕ) (lists : List (Waiting (List Key))) (c : ℕ) → AllByRecursion IsRing lists → length (lists_in channels lists c) ≤ 1
lists_in-short [] lists c rings = omega arith
lists_in-short (k ∷ ks) [] c rings = omega arith
lists_in-short (k ∷ ks) (l ∷ ls) c rings =
    elim (k == c) as (λ b. length (cond b l.items (lists_in ks ls c)) ≤ 1) [
      | true ↦ rings.0.within
      | false ↦ lists_in-short ks ls c rings.1
    ]

map-drop_short : {X Y : Type 0} (f : X → Y) (xs : List X) → length xs ≤ 1 → drop 1 (map f xs) ≡ []
map-drop_short f [] h = refl
map-drop_short f (x ∷ []) h = refl
map-drop_short f (x ∷ y ∷ xs) h = absurd (omega arith)

-- a list in the place of one at most
pub newest : {X Y : Type 0} (f : X → Y) (b : Bool) (x : X) (old : List X) → length old ≤ 1
    → map f (cond b (x ∷ []) old) ≡ cond b (drop 1 (map f old)) (map f old) ++ cond b (f x ∷ []) []
newest f true x old h = sym (ap (λ l. l ++ f x ∷ []) (map-drop_short f old h))
newest f false x old h = sym (append-nil (map f old))

-- A router holds what stands in its queues once its step took one message and put lists of peers.
use Rattle.std.proofs.Common.{◌≡◌, ℕ, Bool, true, false, cond, List, [], ◌∷◌, ◌++◌, drop, refl, ap, sym, ◌∙◌, arith, append-nil}
use Rattle.std.specs.Prelude.{filter, map, ◌==◌}
use Rattle.std.proofs.lemmas.Bool.Decides.{nat_tests}
use Rattle.std.proofs.lemmas.Bool.{false≢true}
use Rattle.p2p_base.specs.declared.key.Key.{Key}
use Rattle.p2p_base.specs.Queue.{without_oldest}
use Rattle.p2p_router.specs.Routes.{Routes}
use Rattle.p2p_router.specs.Messenger.{Desk, message_taken, in_mailbox}
use Rattle.p2p_log.specs.declared.queue.Queue.{Queue}
use Rattle.p2p_log.specs.declared.queue.Queue.TheVariants as queue
use Rattle.p2p_log.specs.declared.item.Item.{Item}
use Rattle.p2p_log.specs.declared.item.Item.TheVariants as item
use Rattle.p2p_log.specs.declared.item.Envelope.{Envelope}
use Rattle.p2p_log_rules.specs.declared.row.Row.{Row}
use Rattle.p2p_log.specs.QueueCode.{same_queue}
use Rattle.p2p_log.specs.Lines.{stands_in}
use Rattle.p2p_log.specs.Apart.{AreApart}
use Rattle.p2p_net_queues.specs.declared.board.Board.{Board}
use Rattle.p2p_net_router.specs.Names.{Agrees, is_routers, bare_item}
use Rattle.p2p_net_router.specs.Items.{message_item, messages_in, lists_in, channel_of, frame_item, frames_of, items_of}
use Rattle.p2p_net_router.specs.Sound.{AreDistinct}
use Rattle.p2p_net_router.specs.Holds.{Holds, after}
use Rattle.p2p_net_router.specs.Oldest.{told_row}
use Rattle.p2p_net_router.specs.declared.router.Router.{Router}
use Rattle.p2p_net_router.specs.declared.name.Name.{Name}
use Rattle.p2p_net_router.proofs.Ended.{is_told}
use Rattle.p2p_net_router.proofs.Rings.{IsTold, tells}
use Rattle.p2p_net_router.proofs.Standing.{IsPutBefore, told_lines, told_router, told_high, told_low, told_peers, lists_in-short, newest}

-- the router after its step
abbrev pub stepped_to : Router → Desk Key → Routes Key → Board Name → Router
stepped_to r desk actor names = record r { messenger = desk; actor = actor; names = names }

pub same_router : (n m : ℕ) → (n == m) ≡ true → same_queue (queue.Router n) (queue.Router m) ≡ true
same_router n m h = grind (arith, nat_tests)

-- a queue of which one part is kept or goes
abbrev part : Bool → Bool → List Item → List Item → List Item → List Item
part told mailbox rest line put = cond told (drop 1 (cond mailbox rest line)) (cond mailbox rest line) ++ cond told put []

pub map-cond : {X Y : Type 0} (f : X → Y) (b : Bool) (xs ys : List X) → map f (cond b xs ys) ≡ cond b (map f xs) (map f ys)
map-cond f true xs ys = refl
map-cond f false xs ys = refl

-- what a step takes, and what it tells
pub record IsStep (n : ℕ) (old : Router) (items : List Envelope) (entry : ℕ) (row : Row) (desk : Desk Key) (keys : List Key) (ss : List ℕ) (puts : List (Queue × Item)) : Type 0 where
  pub x : Envelope
  pub rest : List Envelope
  pub apart : AreApart items
  pub first : filter (stands_in (queue.Router n)) items ≡ x ∷ rest
  pub later : map (message_item old.channels.items) (messages_in (in_mailbox without_oldest old.messenger.binding)) ≡ map bare_item rest
  pub before : IsPutBefore n puts
  pub distinct : AreDistinct (map (channel_of old.channels.items) ss)
  pub told : IsTold old.channels.items (message_taken old.messenger) desk keys ss
  pub row_is : row ≡ told_row n x items puts keys (map (channel_of old.channels.items) ss)

-- a queue of the router, by whether it has lists that were put, and whether it is the mailbox
line_told :
    (old : Router) (items : List Envelope) (entry : ℕ) (row : Row) (desk : Desk Key) (keys : List Key) (ss : List ℕ) (puts : List (Queue × Item)) (q : Queue) (told mailbox : Bool)
    → (s : IsStep old.number old items entry row desk keys ss puts) → is_routers old.number q ≡ true
    → is_told old.number (map (channel_of old.channels.items) ss) q ≡ told → same_queue (queue.Router old.number) q ≡ mailbox
    → part told mailbox (map bare_item s.rest) (map bare_item (filter (stands_in q) items)) (item.Peers keys ∷ []) ≡ map bare_item (filter (stands_in q) (after entry row items))
line_told old items entry row desk keys ss puts q told mailbox s own t m =
    let n = old.number in
    let cs = map (channel_of old.channels.items) ss in
    let put = item.Peers keys ∷ [] in
    let line = map bare_item (filter (stands_in q) items) in
    sym
    (told_lines n entry s.x s.rest items puts keys cs row q own s.before s.distinct s.apart s.first s.row_is
    ∙ (ap (λ l. cond (is_told n cs q) (drop 1 l) l ++ cond (is_told n cs q) put []) (map-cond bare_item (same_queue (queue.Router n) q) s.rest (filter (stands_in q) items))
    ∙ (ap (λ b. part b (same_queue (queue.Router n) q) (map bare_item s.rest) line put) t ∙ ap (λ b. part told b (map bare_item s.rest) line put) m)))

-- each queue of the router, by what it held
pub each_told :
    (size : ℕ) (old : Router) (items : List Envelope) (entry : ℕ) (row : Row) (desk : Desk Key) (actor : Routes Key) (names : Board Name) (keys : List Key) (ss : List ℕ) (puts : List (Queue × Item))
    → Holds size old items → IsStep old.number old items entry row desk keys ss puts
    → ((b : Bool) (conn : ℕ) → frames_of old.peers actor.links b conn ≡ frames_of old.peers old.actor.links b conn)
    → Agrees old.number bare_item (items_of (stepped_to old desk actor names)) (after entry row items)
each_told size old items entry row desk actor names keys ss puts h s frames (queue.Router m) own =
    let n = old.number in
    ap (λ b. map (message_item old.channels.items) (messages_in b)) s.told.binding
    ∙ (s.later
    ∙ (sym (append-nil (map bare_item s.rest))
    ∙ line_told old items entry row desk keys ss puts (queue.Router m) false true s own (told_router n m (map (channel_of old.channels.items) ss)) (same_router n m own)))
each_told size old items entry row desk actor names keys ss puts h s frames (queue.Peers m c) own =
    let n = old.number in
    let channels = old.channels.items in
    ap (map item.Peers) (s.told.lists c)
    ∙ (newest item.Peers (tells channels ss c) keys (lists_in channels old.messenger.lists c) (lists_in-short channels old.messenger.lists c h.sound.rings)
    ∙ (ap (λ l. part (tells channels ss c) false (map bare_item s.rest) l (item.Peers keys ∷ [])) (h.each (queue.Peers m c) own)
    ∙ line_told old items entry row desk keys ss puts (queue.Peers m c) (tells channels ss c) false s own (told_peers n m c channels ss own) refl))
each_told size old items entry row desk actor names keys ss puts h s frames (queue.High m conn) own =
    ap (map frame_item) (frames true conn)
    ∙ (h.each (queue.High m conn) own
    ∙ (sym (append-nil (map bare_item (filter (stands_in (queue.High m conn)) items)))
    ∙ line_told old items entry row desk keys ss puts (queue.High m conn) false false s own (told_high old.number m conn (map (channel_of old.channels.items) ss)) refl))
each_told size old items entry row desk actor names keys ss puts h s frames (queue.Low m conn) own =
    ap (map frame_item) (frames false conn)
    ∙ (h.each (queue.Low m conn) own
    ∙ (sym (append-nil (map bare_item (filter (stands_in (queue.Low m conn)) items)))
    ∙ line_told old items entry row desk keys ss puts (queue.Low m conn) false false s own (told_low old.number m conn (map (channel_of old.channels.items) ss)) refl))
each_told size old items entry row desk actor names keys ss puts h s frames _ own = absurd (false≢true own)

-- What a connection's own step took out of its relay: so many of each lane, with their names.
use Rattle.std.proofs.Common.{◌≡◌, ℕ, ◌-◌, Bool, true, false, cond, List, [], ◌∷◌, length, drop, take, min, refl, ap, sym, subst, ◌∙◌, arith, Some}
use Rattle.std.specs.Prelude.{filter, map, ◌==◌, ◌&&◌}
use Rattle.std.proofs.lemmas.Bool.{false≢true}
use Rattle.std.proofs.lemmas.List.{drop-map, length-map, length-take}
use Rattle.std.proofs.lemmas.Bool.Decides.{nat_tests}
use Rattle.std.specs.Map.{set_value}
use Rattle.std.specs.BTreeMap.{is_at}
use Rattle.p2p_base.specs.declared.key.Key.{Key}
use Rattle.p2p_base.specs.Queue.{with_items}
use Rattle.p2p_flow.specs.Lanes.{Lanes, lane}
use Rattle.p2p_wire.specs.declared.encoded.EncodedData.{EncodedData}
use Rattle.p2p_router.specs.Routing.{link_of, with_link}
use Rattle.p2p_router.specs.declared.link.Link.{Link}
use Rattle.p2p_log.specs.declared.queue.Queue.{Queue}
use Rattle.p2p_log.specs.declared.queue.Queue.TheVariants as queue
use Rattle.p2p_log.specs.declared.item.Envelope.{Envelope}
use Rattle.p2p_log.specs.QueueCode.{same_queue}
use Rattle.p2p_log.specs.Lines.{stands_in}
use Rattle.p2p_log_rules.specs.Effect.{relay_queue}
use Rattle.p2p_log.specs.Apart.{AreApart}
use Rattle.p2p_net_queues.specs.declared.board.Board.{Board}
use Rattle.p2p_net_queues.specs.Board.{held}
use Rattle.p2p_net_router.specs.Names.{Agrees, is_routers, label, bare_item}
use Rattle.p2p_net_router.specs.Items.{key_cmp, messages_in, frame_item, frames_of, items_of}
use Rattle.p2p_net_router.specs.Sound.{IsOpen, said_of}
use Rattle.p2p_net_router.specs.Holds.{Holds}
use Rattle.p2p_net_router.specs.declared.router.Router.{Router}
use Rattle.p2p_net_router.specs.declared.name.Name.{Name}
use Rattle.p2p_net_router.proofs.Agreeing.{line_same}
use Rattle.p2p_net_router.proofs.Batches.{left, line_left, line_beside, AreApart-left}
use Rattle.p2p_net_router.proofs.Contents.{own_lane}
use Rattle.p2p_net_router.proofs.Emptied.{left_twice}
use Rattle.p2p_net_router.proofs.Taking.{take_two}
use Rattle.p2p_net_router.proofs.Linking.{link_of-with_link}
use Rattle.p2p_net_router.specs.Batches.{batch_of}
use Rattle.p2p_net_router.proofs.Copying.{same_lane, IsOpen-with, relayed, frames_set, frames_own, turns_set, lane_size, lane_open, lane_conn}
use Rattle.p2p_net_router.proofs.Taken.{relinked, IsKept, frames_kept, same_turned, lane_not_router, lane_not_peers}

-- a link without so many of the frames of a lane
abbrev pub cut : ℕ → Link → Bool → Link
cut i l priority = relayed l priority (with_items (lane l.relay priority) (drop i (lane l.relay priority).items))

-- a queue without its front
Agrees-cut :
    {T : Type 0} (i n : ℕ) (part : Envelope → T) (old new : Queue → List T) (items : List Envelope) (p : Queue) → AreApart items → Agrees n part old items
    → ((q : Queue) → is_routers n q ≡ true → new q ≡ cond (same_queue p q) (drop i (old q)) (old q))
    → Agrees n part new (left (take i (filter (stands_in p) items)) items)
Agrees-cut i n part old new items p apart h step =
    λ q own.
    let line = filter (stands_in p) items in
    step q own
    ∙ (elim (same_queue p q) as (λ b. same_queue p q ≡ b → cond b (drop i (old q)) (old q) ≡ map part (filter (stands_in q) (left (take i line) items))) [
      | true ↦ λ k.
          ap (drop i) (h q own)
          ∙ (drop-map part i (filter (stands_in q) items)
          ∙ ap (map part) (ap (drop i) (line_same p q items k) ∙ (sym (line_left i p items line apart refl) ∙ sym (line_same p q (left (take i line) items) k))))
      | false ↦ λ k. h q own ∙ ap (map part) (sym (line_beside i p q items line apart refl k))
    ]) refl

lane_cut :
    (size : ℕ) (r : Router) (conn i : ℕ) (key : Key) (l : Link) (priority b : Bool) (c n : ℕ) → IsKept size r conn key l → (r.number == n) ≡ true
    → map frame_item (frames_of r.peers (with_link key_cmp r.actor.links key (cut i l priority)) b c)
    ≡ cond (same_queue (relay_queue priority r.number conn) (relay_queue b n c)) (drop i (map frame_item (frames_of r.peers r.actor.links b c))) (map frame_item (frames_of r.peers r.actor.links b c))
lane_cut size r conn i key l priority b c n h own =
    let t = (l.conn == c) && same_lane priority b in
    let old = frames_of r.peers r.actor.links b c in
    ap (map frame_item) (frames_set r.peers r.actor.links key l priority b (with_items (lane l.relay priority) (drop i (lane l.relay priority).items)) c h.link h.known)
    ∙ (by t (lane l.relay priority).items old
    (λ e.
    let w = lane_conn l c priority b e in
    ap (λ k. frames_of r.peers r.actor.links b k) (sym w.0) ∙ (ap (λ k. frames_of r.peers r.actor.links k l.conn) (sym w.1) ∙ frames_own r.peers r.actor.links key l priority h.link h.known))
    ∙ ap (λ k. cond k (drop i (map frame_item old)) (map frame_item old)) (ap (λ k. (k == c) && same_lane priority b) h.conn_is ∙ same_turned priority b r.number n conn c own))
  where
    by : (t : Bool) (own old : List EncodedData) → (t ≡ true → old ≡ own) → map frame_item (cond t (drop i own) old) ≡ cond t (drop i (map frame_item old)) (map frame_item old)
    by true own old h = ap (λ l. map frame_item (drop i l)) (sym (h refl)) ∙ sym (drop-map frame_item i old)
    by false own old h = refl

each_cut :
    (size : ℕ) (r : Router) (conn i : ℕ) (key : Key) (l : Link) (priority : Bool) (names : Board Name) → IsKept size r conn key l
    → (q : Queue) → is_routers r.number q ≡ true
    → items_of (relinked r (with_link key_cmp r.actor.links key (cut i l priority)) names) q ≡ cond (same_queue (relay_queue priority r.number conn) q) (drop i (items_of r q)) (items_of r q)
each_cut size r conn i key l priority names h (queue.Router n) own = sym (ap (λ b. cond b (drop i (items_of r (queue.Router n))) (items_of r (queue.Router n))) (lane_not_router priority r.number conn n))
each_cut size r conn i key l priority names h (queue.Peers n c) own = sym (ap (λ b. cond b (drop i (items_of r (queue.Peers n c))) (items_of r (queue.Peers n c))) (lane_not_peers priority r.number conn n c))
each_cut size r conn i key l priority names h (queue.High n c) own = lane_cut size r conn i key l priority true c n h own
each_cut size r conn i key l priority names h (queue.Low n c) own = lane_cut size r conn i key l priority false c n h own
each_cut size r conn i key l priority names h _ own = absurd (false≢true own)

-- with so many less in one lane, and their names gone, it holds the rest
pub Holds-cut :
    (size : ℕ) (r : Router) (conn i : ℕ) (key : Key) (l : Link) (priority : Bool) (names : Board Name) (items : List Envelope) → Holds size r items → AreApart items → IsKept size r conn key l
    → ((q : Queue) → held names q ≡ cond (same_queue (relay_queue priority r.number conn) q) (drop i (held r.names q)) (held r.names q))
    → Holds size (relinked r (with_link key_cmp r.actor.links key (cut i l priority)) names) (left (take i (filter (stands_in (relay_queue priority r.number conn)) items)) items)
Holds-cut size r conn i key l priority names items s apart h step =
    let q = with_items (lane l.relay priority) (drop i (lane l.relay priority).items) in
    record {
      sound = record {
        proper = s.sound.proper;
        turns = turns_set size r.peers (λ k. said_of k (messages_in r.messenger.binding)) r.actor.links key l priority q h.link h.lanes h.known h.silent s.sound.turns
            (lane_size size l.relay priority h.lanes) (lane_open size l.relay priority h.lanes);
        single = s.sound.single;
        early = s.sound.early;
        subscriptions = s.sound.subscriptions;
        rings = s.sound.rings;
        channels = s.sound.channels;
        distinct = s.sound.distinct;
        numbered = s.sound.numbered;
      };
      names = Agrees-cut i r.number label (held r.names) (held names) items (relay_queue priority r.number conn) apart s.names (λ p own. step p);
      each = Agrees-cut i r.number bare_item (items_of r) (items_of (relinked r (with_link key_cmp r.actor.links key (cut i l priority)) names)) items (relay_queue priority r.number conn) apart s.each
          (each_cut size r conn i key l priority names h);
    }

-- ---- both lanes

-- the relay of a connection once so many of what waits in it were taken, high before low
abbrev pub less : ℕ → Lanes EncodedData → Lanes EncodedData
less i l = record { high = with_items l.high (drop i l.high.items); low = with_items l.low (drop (i - length l.high.items) l.low.items) }

pub set_twice : {K X : Type 0} (test : K → Bool) (es : List (K × X)) (v w : X) → set_value test (set_value test es v) w ≡ set_value test es w
set_twice test [] v w = refl
set_twice test (e ∷ es) v w =
    (elim (test e.0) as (λ b. test e.0 ≡ b → set_value test (cond b ((e.0, v) ∷ es) (e ∷ set_value test es v)) w ≡ cond b ((e.0, w) ∷ es) (e ∷ set_value test es w)) [
      | true ↦ λ t. ap (λ b. cond b ((e.0, w) ∷ es) ((e.0, v) ∷ set_value test es w)) t
      | false ↦ λ t. ap (λ b. cond b ((e.0, w) ∷ set_value test es v) (e ∷ set_value test (set_value test es v) w)) t ∙ ap (λ l. e ∷ l) (set_twice test es v w)
    ]) refl

-- the first lane was cut
pub kept_cut : (size : ℕ) (r : Router) (conn i : ℕ) (key : Key) (l : Link) (names : Board Name) → IsKept size r conn key l
    → IsKept size (relinked r (with_link key_cmp r.actor.links key (cut i l true)) names) conn key (cut i l true)
kept_cut size r conn i key l names h = record {
  link = link_of-with_link r.actor.links key key l (cut i l true) h.link
      ∙ ap (λ b. cond b (Some (cut i l true)) (link_of key_cmp r.actor.links key)) (let same : (key.0 == key.0) ≡ true = grind (arith, nat_tests) in same);
  conn_is = h.conn_is;
  lanes = IsOpen-with size l.relay true (with_items l.relay.high (drop i l.relay.high.items)) h.lanes h.lanes.high_size h.lanes.high_open;
  known = h.known;
  silent = h.silent;
}

-- what a step of the connection took of its relay: the router holds the rest
pub Holds-written :
    (size : ℕ) (r : Router) (conn i : ℕ) (key : Key) (l : Link) (links : List (Key × Link)) (mid names : Board Name) (items : List Envelope)
    → Holds size r items → AreApart items → IsKept size r conn key l
    → links ≡ with_link key_cmp r.actor.links key (record { conn = l.conn; relay = less i l.relay })
    → ((q : Queue) → held mid q ≡ cond (same_queue (queue.High r.number conn) q) (drop i (held r.names q)) (held r.names q))
    → ((q : Queue) → held names q ≡ cond (same_queue (queue.Low r.number conn) q) (drop (i - length (held r.names (queue.High r.number conn))) (held mid q)) (held mid q))
    → Holds size (relinked r links names) (left (batch_of r.number conn i items) items)
Holds-written size r conn i key l links mid names items s apart k is first then =
    let high = filter (stands_in (queue.High r.number conn)) items in
    let low = filter (stands_in (queue.Low r.number conn)) items in
    let few = i - length l.relay.high.items in
    let half = relinked r (with_link key_cmp r.actor.links key (cut i l true)) mid in
    let firsts = left (take i high) items in
    let one : Holds size half firsts = Holds-cut size r conn i key l true mid items s apart k first in
    let waits : length l.relay.high.items ≡ length high =
    ap length (sym (frames_kept size r conn key l true k))
    ∙ (sym (length-map (frames_of r.peers r.actor.links true conn) frame_item) ∙ (ap length (s.each (queue.High r.number conn) (own_lane r.number true conn)) ∙ length-map high bare_item))
    in
    let named : length (held r.names (queue.High r.number conn)) ≡ length l.relay.high.items =
    ap length (s.names (queue.High r.number conn) (own_lane r.number true conn)) ∙ (length-map high label ∙ sym waits)
    in
    let beside : filter (stands_in (queue.Low r.number conn)) firsts ≡ low = line_beside i (queue.High r.number conn) (queue.Low r.number conn) items high apart refl refl in
    let two = Holds-cut size half conn few key (cut i l true) false names firsts one (AreApart-left (take i high) items apart) (kept_cut size r conn i key l mid k)
    (λ q. then q ∙ ap (λ n. cond (same_queue (queue.Low r.number conn) q) (drop n (held mid q)) (held mid q)) (ap (λ n. i - n) named))
    in
    let short : few ≡ i - length (take i high) = ap (λ n. i - n) waits ∙ (let t : length (take i high) ≡ min i (length high) = length-take i high in omega (arith, t)) in
    subst (λ (ls : List (Key × Link)). Holds size (relinked r ls names) (left (batch_of r.number conn i items) items)) (sym is)
    (subst (λ (ls : List (Key × Link)). Holds size (relinked r ls names) (left (batch_of r.number conn i items) items)) (set_twice (is_at (key_cmp key)) r.actor.links (cut i l true) (cut few (cut i l true) false))
    (subst (Holds size (relinked r (with_link key_cmp (with_link key_cmp r.actor.links key (cut i l true)) key (cut few (cut i l true) false)) names))
    (ap (λ xs. left (take few xs) firsts) beside ∙ (left_twice (take i high) (take few low) items ∙ ap (λ xs. left xs items) (take_two i few high low short))) two))

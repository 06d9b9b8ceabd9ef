-- A frame that is taken out of a relay.
use Rattle.std.proofs.Common.{◌≡◌, ℕ, Bool, true, false, cond, List, [], ◌∷◌, drop, refl, ap, sym, subst, ◌∙◌, arith, Option, Some, None}
use Rattle.std.specs.Prelude.{filter, map, slice_get, ◌==◌, ◌&&◌}
use Rattle.std.specs.BTreeMap.{BTreeMap, get}
use Rattle.std.specs.Ordering.{nat_cmp}
use Rattle.std.specs.BTreeMap.{is_at}
use Rattle.std.proofs.lemmas.Bool.Decides.{nat_tests}
use Rattle.std.proofs.lemmas.Bool.{false≢true}
use Rattle.std.proofs.lemmas.Map.Steps.{set_value_same}
use Rattle.p2p_base.specs.declared.key.Key.{Key}
use Rattle.p2p_base.specs.Queue.{Queue as Waiting, oldest, without_oldest}
use Rattle.p2p_flow.specs.Lanes.{Lanes, lane, with_lane}
use Rattle.p2p_wire.specs.declared.encoded.EncodedData.{EncodedData}
use Rattle.p2p_router.specs.Routing.{link_of, with_link, relay_over, relay_set}
use Rattle.p2p_router.specs.declared.link.Link.{Link}
use Rattle.p2p_log.specs.declared.queue.Queue.{Queue}
use Rattle.p2p_log.specs.declared.queue.Queue.TheVariants as queue
use Rattle.p2p_log.specs.declared.item.Item.{Item}
use Rattle.p2p_log.specs.declared.item.Item.TheVariants as item
use Rattle.p2p_log.specs.declared.item.Envelope.{Envelope}
use Rattle.p2p_log.specs.QueueCode.{same_queue}
use Rattle.p2p_log.specs.Lines.{name_of, stays, stands_in}
use Rattle.p2p_log_rules.specs.Effect.{relay_queue}
use Rattle.p2p_log.proofs.Lines.{filter_stays-nil}
use Rattle.p2p_log.specs.Apart.{AreApart}
use Rattle.p2p_net_queues.specs.declared.board.Board.{Board}
use Rattle.p2p_net_queues.specs.Board.{held}
use Rattle.p2p_net_router.specs.Names.{is_routers, label, bare_item}
use Rattle.p2p_net_router.specs.Items.{key_cmp, messages_in, frame_item, frames_of, frames_in, link_to, link_with, items_of}
use Rattle.p2p_net_router.specs.Ends.{AreEnded}
use Rattle.p2p_net_router.specs.Sound.{IsOpen, IsInTurn, IsSound, said_of}
use Rattle.p2p_net_router.specs.Holds.{Holds, frame_taken, frame_gone, routes_in}
use Rattle.p2p_net_router.specs.Frames.{frame_waiting, without_frame}
use Rattle.p2p_net_router.specs.declared.router.Router.{Router}
use Rattle.p2p_net_router.specs.declared.name.Name.{Name}
use Rattle.p2p_net_router.proofs.Agreeing.{Agrees-pop}
use Rattle.p2p_net_router.proofs.Contents.{own_lane, lane_items}
use Rattle.p2p_net_router.proofs.Copying.{same_lane, relayed, frames_set, frames_own, turns_set, ends_set, lane_size, lane_open, lane_conn}
use Rattle.p2p_net_router.proofs.First.{IsFirst, first_same, none_same, first_of, none_of, bare-frame}
use Rattle.p2p_net_router.proofs.Linking.{routes_in-with_link}
use Rattle.p2p_net_router.proofs.Turns.{IsLinked, open_link, spent_link, linked_as, spent_lane, empty_link}

-- the router with other links and other names
abbrev pub relinked : Router → List (Key × Link) → Board Name → Router
relinked r links names = record r { actor = record r.actor { links = links }; names = names }

abbrev popped : Link → Bool → Link
popped l priority = relayed l priority (without_oldest (lane l.relay priority))

-- where the frames of a connection are kept: its link is open
pub record IsKept (size : ℕ) (r : Router) (conn : ℕ) (key : Key) (l : Link) : Type 0 where
  pub link : link_of key_cmp r.actor.links key ≡ Some l
  pub conn_is : l.conn ≡ conn
  pub lanes : IsOpen size l.relay
  pub known : get nat_cmp r.peers l.conn ≡ Some key
  pub silent : said_of key (messages_in r.messenger.binding) ≡ []

kept_by :
    (size : ℕ) (r : Router) (conn : ℕ) (key : Key) (l : Link) (priority : Bool) (e : EncodedData) → IsSound size r → get nat_cmp r.peers conn ≡ Some key → link_of key_cmp r.actor.links key ≡ Some l
    → oldest (lane l.relay priority) ≡ Some e → IsLinked size r.peers key l (said_of key (messages_in r.messenger.binding)) → IsKept size r conn key l
kept_by size r conn key l priority e s peer link first (open_link lanes known silent) =
    record { link = link; conn_is = s.single key l.conn conn known peer; lanes = lanes; known = known; silent = silent }
kept_by size r conn key l priority e s peer link first (spent_link spent) =
    absurd (let none : None ≡ Some e = sym (ap (λ xs. slice_get xs 0) (spent_lane l.relay priority spent)) ∙ first in cc)

kept :
    (size : ℕ) (r : Router) (conn : ℕ) (key : Key) (l : Link) (priority : Bool) (e : EncodedData) → IsSound size r → get nat_cmp r.peers conn ≡ Some key → link_of key_cmp r.actor.links key ≡ Some l
    → oldest (lane l.relay priority) ≡ Some e → IsKept size r conn key l
kept size r conn key l priority e s peer link first =
    kept_by size r conn key l priority e s peer link first
    (linked_as size r.peers key l (said_of key (messages_in r.messenger.binding))
    (subst (λ o. IsInTurn size r.peers key o (said_of key (messages_in r.messenger.binding))) link (s.turns key)))

pub frames_kept : (size : ℕ) (r : Router) (conn : ℕ) (key : Key) (l : Link) (b : Bool) → IsKept size r conn key l → frames_of r.peers r.actor.links b conn ≡ (lane l.relay b).items
frames_kept size r conn key l b h =
    ap (frames_of r.peers r.actor.links b) (sym h.conn_is) ∙ frames_own r.peers r.actor.links key l b h.link h.known

sound_taken :
    (size : ℕ) (r : Router) (conn : ℕ) (key : Key) (l : Link) (priority : Bool) (names : Board Name) → IsSound size r → IsKept size r conn key l
    → IsSound size (relinked r (with_link key_cmp r.actor.links key (popped l priority)) names)
sound_taken size r conn key l priority names s h = record {
  proper = s.proper;
  turns = turns_set size r.peers (λ k. said_of k (messages_in r.messenger.binding)) r.actor.links key l priority (without_oldest (lane l.relay priority)) h.link h.lanes h.known h.silent s.turns
      (lane_size size l.relay priority h.lanes) (lane_open size l.relay priority h.lanes);
  single = s.single;
  early = s.early;
  subscriptions = s.subscriptions;
  rings = s.rings;
  channels = s.channels;
  distinct = s.distinct;
  numbered = s.numbered;
}

pub same_turned : (a b : Bool) (n m c d : ℕ) → (n == m) ≡ true → ((c == d) && same_lane a b) ≡ same_queue (relay_queue a n c) (relay_queue b m d)
same_turned true true n m c d h = grind (arith, nat_tests)
same_turned true false n m c d h = grind (arith, nat_tests)
same_turned false true n m c d h = grind (arith, nat_tests)
same_turned false false n m c d h = grind (arith, nat_tests)

pub lane_not_router : (b : Bool) (n conn m : ℕ) → same_queue (relay_queue b n conn) (queue.Router m) ≡ false
lane_not_router true n conn m = refl
lane_not_router false n conn m = refl

pub lane_not_peers : (b : Bool) (n conn m c : ℕ) → same_queue (relay_queue b n conn) (queue.Peers m c) ≡ false
lane_not_peers true n conn m c = refl
lane_not_peers false n conn m c = refl

map-drop : (xs : List EncodedData) → map frame_item (drop 1 xs) ≡ drop 1 (map frame_item xs)
map-drop [] = refl
map-drop (x ∷ xs) = refl

-- what is left of a lane
popped_frames :
    (t : Bool) (own old : List EncodedData) → (t ≡ true → old ≡ own) → map frame_item (cond t (drop 1 own) old) ≡ cond t (drop 1 (map frame_item old)) (map frame_item old)
popped_frames true own old h = ap (λ l. map frame_item (drop 1 l)) (sym (h refl)) ∙ map-drop old
popped_frames false own old h = refl

lane_popped :
    (size : ℕ) (r : Router) (conn : ℕ) (key : Key) (l : Link) (priority b : Bool) (names : Board Name) (c n : ℕ) → IsSound size r → IsKept size r conn key l → (r.number == n) ≡ true
    → map frame_item (frames_of r.peers (with_link key_cmp r.actor.links key (popped l priority)) b c)
    ≡ cond (same_queue (relay_queue priority r.number conn) (relay_queue b n c)) (drop 1 (map frame_item (frames_of r.peers r.actor.links b c))) (map frame_item (frames_of r.peers r.actor.links b c))
lane_popped size r conn key l priority b names c n s h own =
    let t = (l.conn == c) && same_lane priority b in
    let old = frames_of r.peers r.actor.links b c in
    let known = h.known in
    ap (map frame_item) (frames_set r.peers r.actor.links key l priority b (without_oldest (lane l.relay priority)) c h.link known)
    ∙ (popped_frames t (lane l.relay priority).items old
    (λ e.
    let w = lane_conn l c priority b e in
    ap (λ k. frames_of r.peers r.actor.links b k) (sym w.0) ∙ (ap (λ k. frames_of r.peers r.actor.links k l.conn) (sym w.1) ∙ frames_own r.peers r.actor.links key l priority h.link known))
    ∙ ap (λ k. cond k (drop 1 (map frame_item old)) (map frame_item old)) (ap (λ k. (k == c) && same_lane priority b) h.conn_is ∙ same_turned priority b r.number n conn c own))

each_taken :
    (size : ℕ) (r : Router) (conn : ℕ) (key : Key) (l : Link) (priority : Bool) (names : Board Name) → IsSound size r → IsKept size r conn key l
    → (q : Queue) → is_routers r.number q ≡ true
    → items_of (relinked r (with_link key_cmp r.actor.links key (popped l priority)) names) q ≡ cond (same_queue (relay_queue priority r.number conn) q) (drop 1 (items_of r q)) (items_of r q)
each_taken size r conn key l priority names s h (queue.Router n) own = sym (ap (λ b. cond b (drop 1 (items_of r (queue.Router n))) (items_of r (queue.Router n))) (lane_not_router priority r.number conn n))
each_taken size r conn key l priority names s h (queue.Peers n c) own = sym (ap (λ b. cond b (drop 1 (items_of r (queue.Peers n c))) (items_of r (queue.Peers n c))) (lane_not_peers priority r.number conn n c))
each_taken size r conn key l priority names s h (queue.High n c) own = lane_popped size r conn key l priority true names c n s h own
each_taken size r conn key l priority names s h (queue.Low n c) own = lane_popped size r conn key l priority false names c n s h own
each_taken size r conn key l priority names s h _ own = absurd (false≢true own)

-- ---- what the call comes to

-- what is taken, and what is left
pub record IsTaken (size : ℕ) (r : Router) (conn : ℕ) (priority : Bool) (o : Option ((ℕ × ℕ) × Item)) (links : List (Key × Link)) (names : Board Name) : Type 0 where
  pub value : (items : List Envelope) → Holds size r items → o ≡ frame_taken (slice_get (filter (stands_in (relay_queue priority r.number conn)) items) 0)
  pub holds : (items : List Envelope) → Holds size r items → AreApart items → Holds size (relinked r links names) (filter (stays (frame_gone o)) items)

-- no frame waits
lane_none : (size : ℕ) (r : Router) (conn : ℕ) (priority : Bool) (items : List Envelope) → Holds size r items → frames_of r.peers r.actor.links priority conn ≡ [] → filter (stands_in (relay_queue priority r.number conn)) items ≡ []
lane_none size r conn priority items h none =
    none_same frame_item bare_item (filter (stands_in (relay_queue priority r.number conn)) items)
    (ap (map frame_item) (sym none) ∙ (sym (lane_items r r.number priority conn) ∙ h.each (relay_queue priority r.number conn) (own_lane r.number priority conn)))

pub taken_none :
    (size : ℕ) (r : Router) (conn : ℕ) (priority : Bool) (links : List (Key × Link)) → frames_of r.peers r.actor.links priority conn ≡ [] → links ≡ r.actor.links
    → IsTaken size r conn priority None links r.names
taken_none size r conn priority links none same = record {
  value = λ items h. sym (ap (λ l. frame_taken (slice_get l 0)) (lane_none size r conn priority items h none));
  holds = λ items h apart.
      subst (λ (ls : List (Key × Link)). Holds size (relinked r ls r.names) (filter (stays []) items)) (sym same) (subst (Holds size r) (sym (filter_stays-nil items)) h);
}

pub no_peer : (r : Router) (conn : ℕ) (priority : Bool) → get nat_cmp r.peers conn ≡ None → frames_of r.peers r.actor.links priority conn ≡ []
no_peer r conn priority h = ap (λ o. frames_in priority (link_to r.actor.links conn o)) h

no_frame :
    (size : ℕ) (r : Router) (conn : ℕ) (key : Key) (priority : Bool) (o : Option Link) → IsSound size r → get nat_cmp r.peers conn ≡ Some key → link_of key_cmp r.actor.links key ≡ o → frame_waiting o priority ≡ None
    → frames_of r.peers r.actor.links priority conn ≡ []
no_frame size r conn key priority None s peer at h = ap (λ o. frames_in priority (link_to r.actor.links conn o)) peer ∙ ap (λ o. frames_in priority (link_with conn o)) at
no_frame size r conn key priority (Some l) s peer at h =
    ap (λ o. frames_in priority (link_to r.actor.links conn o)) peer ∙ (ap (λ o. frames_in priority (link_with conn o)) at ∙ empty_link l priority conn (none_of (lane l.relay priority).items h))

lane_same : (l : Lanes EncodedData) (b : Bool) (q : Waiting EncodedData) → q ≡ lane l b → with_lane l b q ≡ l
lane_same l true q h = ap (λ x. record { high = x; low = l.low }) h
lane_same l false q h = ap (λ x. record { high = l.high; low = x }) h

unpopped : (q : Waiting EncodedData) → q.items ≡ [] → without_oldest q ≡ q
unpopped q h = ap (λ l. record { items = drop 1 l; capacity = q.capacity; closed = q.closed }) h ∙ ap (λ l. record { items = l; capacity = q.capacity; closed = q.closed }) (sym h)

links_same : (links : List (Key × Link)) (key : Key) (priority : Bool) (o : Option Link) → link_of key_cmp links key ≡ o → frame_waiting o priority ≡ None → without_frame o links key priority ≡ links
links_same links key priority None at h = refl
links_same links key priority (Some l) at h =
    let q = lane l.relay priority in
    let same : with_lane l.relay priority (without_oldest q) ≡ l.relay = lane_same l.relay priority (without_oldest q) (unpopped q (none_of q.items h)) in
    ap (λ (x : Lanes EncodedData). with_link key_cmp links key (record { conn = l.conn; relay = x })) same ∙ set_value_same (is_at (key_cmp key)) links l at

pub taken_nothing :
    (size : ℕ) (r : Router) (conn : ℕ) (key : Key) (priority : Bool) (links : List (Key × Link)) → IsSound size r → get nat_cmp r.peers conn ≡ Some key
    → frame_waiting (link_of key_cmp r.actor.links key) priority ≡ None → links ≡ without_frame (link_of key_cmp r.actor.links key) r.actor.links key priority
    → IsTaken size r conn priority None links r.names
taken_nothing size r conn key priority links s peer none is =
    taken_none size r conn priority links (no_frame size r conn key priority (link_of key_cmp r.actor.links key) s peer refl none)
    (is ∙ links_same r.actor.links key priority (link_of key_cmp r.actor.links key) refl none)

-- the frame that waits first, and its item
frame_first :
    (size : ℕ) (r : Router) (conn : ℕ) (key : Key) (l : Link) (priority : Bool) (e : EncodedData) (items : List Envelope) → Holds size r items → IsKept size r conn key l → oldest (lane l.relay priority) ≡ Some e
    → IsFirst frame_item bare_item e (drop 1 (lane l.relay priority).items) (filter (stands_in (relay_queue priority r.number conn)) items)
frame_first size r conn key l priority e items h k first =
    first_same frame_item bare_item e (drop 1 (lane l.relay priority).items) (filter (stands_in (relay_queue priority r.number conn)) items)
    (ap (map frame_item) (sym (first_of (lane l.relay priority).items e first) ∙ sym (frames_kept size r conn key l priority k))
    ∙ (sym (lane_items r r.number priority conn) ∙ h.each (relay_queue priority r.number conn) (own_lane r.number priority conn)))

name_first :
    (size : ℕ) (r : Router) (conn : ℕ) (key : Key) (l : Link) (priority : Bool) (e : EncodedData) (name : Name) (items : List Envelope) → (h : Holds size r items) → (k : IsKept size r conn key l)
    → (first : oldest (lane l.relay priority) ≡ Some e) → Some name ≡ slice_get (held r.names (relay_queue priority r.number conn)) 0
    → name ≡ label (frame_first size r conn key l priority e items h k first).one
name_first size r conn key l priority e name items h k first named =
    let f = frame_first size r conn key l priority e items h k first in
    let same : Some name ≡ Some (label f.one) = named ∙ ap (λ ns. slice_get ns 0) (h.names (relay_queue priority r.number conn) (own_lane r.number priority conn) ∙ ap (map label) f.is) in
    cc

pub taken_frame :
    (size : ℕ) (r : Router) (conn : ℕ) (key : Key) (l : Link) (priority : Bool) (e : EncodedData) (name : Name) (links : List (Key × Link)) (names : Board Name)
    → IsSound size r → get nat_cmp r.peers conn ≡ Some key → link_of key_cmp r.actor.links key ≡ Some l → oldest (lane l.relay priority) ≡ Some e
    → links ≡ with_link key_cmp r.actor.links key (record { conn = l.conn; relay = with_lane l.relay priority (without_oldest (lane l.relay priority)) })
    → Some name ≡ slice_get (held r.names (relay_queue priority r.number conn)) 0
    → ((q : Queue) → held names q ≡ cond (same_queue (relay_queue priority r.number conn) q) (drop 1 (held r.names q)) (held r.names q))
    → IsTaken size r conn priority (Some ((name.entry, name.place), item.Frame name.tag e.payload)) links names
taken_frame size r conn key l priority e name links names s peer at first is named step =
    let q = relay_queue priority r.number conn in
    let k = kept size r conn key l priority e s peer at first in
    let label_is = λ (items : List Envelope) (h : Holds size r items). name_first size r conn key l priority e name items h k first named in
    record {
      value = λ items h.
          let f = frame_first size r conn key l priority e items h k first in
          ap (λ (n : Name). Some ((n.entry, n.place), item.Frame n.tag e.payload)) (label_is items h)
          ∙ (ap (λ i. Some (name_of f.one, i)) (sym (bare-frame e.payload f.one.item f.same)) ∙ sym (ap (λ xs. frame_taken (slice_get xs 0)) f.is));
      holds = λ items h apart.
          let f = frame_first size r conn key l priority e items h k first in
          subst (λ (ls : List (Key × Link)). Holds size (relinked r ls names) (filter (stays ((name.entry, name.place) ∷ [])) items)) (sym is)
          (subst (λ (n : Name). Holds size (relinked r (with_link key_cmp r.actor.links key (popped l priority)) names) (filter (stays ((n.entry, n.place) ∷ [])) items)) (sym (label_is items h))
          (record {
            sound = sound_taken size r conn key l priority names s k;
            names = Agrees-pop r.number label (held r.names) (held names) items q f.one f.rest apart f.is h.names (λ p own. step p);
            each = Agrees-pop r.number bare_item (items_of r) (items_of (relinked r (with_link key_cmp r.actor.links key (popped l priority)) names)) items q f.one f.rest apart f.is h.each
                (each_taken size r conn key l priority names s k);
          }));
    }

-- the links once a lane of a key's relay was written back without its oldest frame
pub popped_links :
    (links : List (Key × Link)) (key : Key) (priority : Bool) (o : Option Link) (r w : Lanes EncodedData)
    → Some r ≡ relay_over o → w ≡ with_lane r priority (without_oldest (lane r priority)) → relay_set key_cmp o links key w ≡ without_frame o links key priority
popped_links links key priority None r w h e = cc
popped_links links key priority (Some l) r w h e =
    let it : r ≡ l.relay = cc in
    ap (λ (x : Lanes EncodedData). with_link key_cmp links key (record { conn = l.conn; relay = x }))
    (e ∙ ap (λ (x : Lanes EncodedData). with_lane x priority (without_oldest (lane x priority))) it)

pub routes_taken : (links : List (Key × Link)) (key : Key) (priority : Bool) (o : Option Link) → link_of key_cmp links key ≡ o → routes_in (without_frame o links key priority) ≡ routes_in links
routes_taken links key priority None at = refl
routes_taken links key priority (Some l) at =
    routes_in-with_link links key l (record { conn = l.conn; relay = with_lane l.relay priority (without_oldest (lane l.relay priority)) }) at refl

-- the relays are closed as before
pub ends_taken :
    (ended : ℕ → Bool) (peers : BTreeMap ℕ Key) (links : List (Key × Link)) (key : Key) (priority : Bool) (o : Option Link) → link_of key_cmp links key ≡ o
    → AreEnded ended peers links → AreEnded ended peers (without_frame o links key priority)
ends_taken ended peers links key priority None at h = h
ends_taken ended peers links key priority (Some l) at h = ends_set ended peers links key l priority (without_oldest (lane l.relay priority)) at refl h

record HasFrame (links : List (Key × Link)) (key : Key) (priority : Bool) (e : EncodedData) : Type 0 where
  l : Link
  at : link_of key_cmp links key ≡ Some l
  first : oldest (lane l.relay priority) ≡ Some e

has_frame : (links : List (Key × Link)) (key : Key) (priority : Bool) (e : EncodedData) (o : Option Link) → link_of key_cmp links key ≡ o → frame_waiting o priority ≡ Some e → HasFrame links key priority e
has_frame links key priority e None at h = cc
has_frame links key priority e (Some l) at h = record { l = l; at = at; first = h }

-- a frame and its name were taken
pub taken_some :
    (size : ℕ) (r : Router) (conn : ℕ) (key : Key) (priority : Bool) (e : EncodedData) (name : Name) (links : List (Key × Link)) (names : Board Name)
    → IsSound size r → get nat_cmp r.peers conn ≡ Some key → frame_waiting (link_of key_cmp r.actor.links key) priority ≡ Some e
    → links ≡ without_frame (link_of key_cmp r.actor.links key) r.actor.links key priority
    → Some name ≡ slice_get (held r.names (relay_queue priority r.number conn)) 0
    → ((q : Queue) → held names q ≡ cond (same_queue (relay_queue priority r.number conn) q) (drop 1 (held r.names q)) (held r.names q))
    → IsTaken size r conn priority (Some ((name.entry, name.place), item.Frame name.tag e.payload)) links names
taken_some size r conn key priority e name links names s peer waits is named step =
    let f = has_frame r.actor.links key priority e (link_of key_cmp r.actor.links key) refl waits in
    taken_frame size r conn key f.l priority e name links names s peer f.at f.first
    (is ∙ ap (λ (o : Option Link). without_frame o r.actor.links key priority) f.at) named step

-- a frame has a name
pub name_there :
    (size : ℕ) (r : Router) (conn : ℕ) (key : Key) (priority : Bool) (e : EncodedData) (items : List Envelope)
    → Holds size r items → get nat_cmp r.peers conn ≡ Some key → frame_waiting (link_of key_cmp r.actor.links key) priority ≡ Some e
    → None ≡ slice_get (held r.names (relay_queue priority r.number conn)) 0 → ⊥
name_there size r conn key priority e items h peer waits none =
    let f = has_frame r.actor.links key priority e (link_of key_cmp r.actor.links key) refl waits in
    let k = kept size r conn key f.l priority e h.sound peer f.at f.first in
    let first = frame_first size r conn key f.l priority e items h k f.first in
    let q = relay_queue priority r.number conn in
    let same : None ≡ Some (label first.one) = none ∙ ap (λ ns. slice_get ns 0) (h.names q (own_lane r.number priority conn) ∙ ap (map label) first.is) in
    cc

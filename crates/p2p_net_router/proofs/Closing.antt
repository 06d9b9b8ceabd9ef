-- A router of which a connection ends holds the release of its key, with its relay closed.
use Rattle.std.proofs.Common.{◌≡◌, ℕ, Bool, true, false, cond, List, [], ◌∷◌, ◌++◌, refl, ap, sym, subst, ◌∙◌, append-nil, arith, Option, Some, None}
use Rattle.std.specs.Prelude.{filter, map, ◌==◌, ◌||◌}
use Rattle.std.specs.BTreeMap.{BTreeMap, get}
use Rattle.std.specs.Ordering.{nat_cmp, is_eq}
use Rattle.std.proofs.lemmas.Bool.Decides.{nat_tests}
use Rattle.std.proofs.lemmas.Bool.{false≢true}
use Rattle.p2p_log_rules.proofs.Bools.{or_false, or_true}
use Rattle.p2p_base.specs.declared.key.Key.{Key}
use Rattle.p2p_base.specs.Queue.{Queue as Waiting}
use Rattle.p2p_flow.specs.Lanes.{Lanes, closed_lanes}
use Rattle.p2p_wire.specs.declared.encoded.EncodedData.{EncodedData}
use Rattle.p2p_router.specs.Mailbox.{appended}
use Rattle.p2p_router.specs.Messenger.{Desk, is_bound, in_mailbox}
use Rattle.p2p_router.specs.Routing.{link_of, with_link, relay_over, relay_set}
use Rattle.p2p_router.specs.declared.link.Link.{Link}
use Rattle.p2p_router.specs.declared.message.Message.{Message}
use Rattle.p2p_router.specs.declared.message.Message.TheVariants as message
use Rattle.p2p_router.specs.declared.messenger.Binding.{Binding}
use Rattle.p2p_router.specs.declared.messenger.Binding.TheVariants.{Unbound, Bound, Closed}
use Rattle.p2p_log.specs.declared.queue.Queue.{Queue}
use Rattle.p2p_log.specs.declared.queue.Queue.TheVariants as queue
use Rattle.p2p_log.specs.declared.item.Item.TheVariants as item
use Rattle.p2p_log.specs.declared.item.Envelope.{Envelope}
use Rattle.p2p_log.specs.QueueCode.{same_queue}
use Rattle.p2p_log.specs.Lines.{stands_in}
use Rattle.p2p_log_rules.specs.Effect.{relay_queue}
use Rattle.p2p_net_queues.specs.declared.board.Board.{Board}
use Rattle.p2p_net_queues.specs.Board.{held}
use Rattle.p2p_net_router.specs.Ends.{AreClosed, AreEnded, closed_link, IsIdle}
use Rattle.p2p_net_router.specs.Holds.{Holds}
use Rattle.p2p_net_router.specs.Items.{key_cmp, frame_item, link_with, link_to, frames_in, frames_of}
use Rattle.p2p_net_router.specs.Names.{label, bare_item}
use Rattle.p2p_net_router.specs.Sound.{IsInTurn, said_of}
use Rattle.p2p_net_router.specs.declared.router.Router.{Router}
use Rattle.p2p_net_router.specs.declared.name.Name.{Name}
use Rattle.p2p_net_router.proofs.Agreeing.{Agrees-push}
use Rattle.p2p_net_router.proofs.Asked.{asked, Holds-asked, bound_items}
use Rattle.p2p_net_router.proofs.Contents.{own_lane, lane_items}
use Rattle.p2p_net_router.proofs.Copying.{key_from}
use Rattle.p2p_net_router.proofs.Idle.{releasable}
use Rattle.p2p_net_router.proofs.Linking.{link_of-with_link}
use Rattle.p2p_net_router.proofs.Turns.{AreSame, turn_moved, IsLinked, open_link, spent_link, linked_as}

-- the peers without one
abbrev pub LacksPeer : BTreeMap ℕ Key → BTreeMap ℕ Key → ℕ → Type 0
LacksPeer peers less conn = (c : ℕ) → get nat_cmp less c ≡ cond (is_eq (nat_cmp conn c)) None (get nat_cmp peers c)

is_conn : (conn c : ℕ) → is_eq (nat_cmp conn c) ≡ (conn == c)
is_conn conn c = grind (arith, nat_tests)

less_by : (peers less : BTreeMap ℕ Key) (conn c : ℕ) (b : Bool) → LacksPeer peers less conn → (conn == c) ≡ b → get nat_cmp less c ≡ cond b None (get nat_cmp peers c)
less_by peers less conn c b gone t = gone c ∙ ap (λ x. cond x None (get nat_cmp peers c)) (is_conn conn c ∙ t)

-- who is still known is another, and was known
pub record IsOther (peers : BTreeMap ℕ Key) (conn c : ℕ) (key : Key) : Type 0 where
  pub other : (conn == c) ≡ false
  pub known : get nat_cmp peers c ≡ Some key

still_known : (peers less : BTreeMap ℕ Key) (conn c : ℕ) (key : Key) → LacksPeer peers less conn → get nat_cmp less c ≡ Some key → IsOther peers conn c key
still_known peers less conn c key gone at =
    (elim (conn == c) as (λ b. (conn == c) ≡ b → IsOther peers conn c key) [
      | true ↦ λ t. absurd (let e : None ≡ Some key = sym (less_by peers less conn c true gone t) ∙ at in cc)
      | false ↦ λ t. record { other = t; known = sym (less_by peers less conn c false gone t) ∙ at }
    ]) refl

pub less_single :
    (peers less : BTreeMap ℕ Key) (conn : ℕ) → LacksPeer peers less conn → ((k : Key) (c d : ℕ) → get nat_cmp peers c ≡ Some k → get nat_cmp peers d ≡ Some k → c ≡ d)
    → (k : Key) (c d : ℕ) → get nat_cmp less c ≡ Some k → get nat_cmp less d ≡ Some k → c ≡ d
less_single peers less conn gone single k c d at to = single k c d (still_known peers less conn c k gone at).known (still_known peers less conn d k gone to).known

-- the connection of another key is another
other_key : (peers : BTreeMap ℕ Key) (conn c : ℕ) (key k : Key) → get nat_cmp peers conn ≡ Some key → get nat_cmp peers c ≡ Some k → (key.0 == k.0) ≡ false → (conn == c) ≡ false
other_key peers conn c key k known at other =
    (elim (conn == c) as (λ b. (conn == c) ≡ b → b ≡ false) [
      | true ↦ λ t.
          let same : conn ≡ c = grind (arith, nat_tests) in
          let e : Some key ≡ Some k = sym known ∙ (ap (get nat_cmp peers) same ∙ at) in
          let f : key ≡ k = cc in
          absurd (false≢true (sym other ∙ (ap (λ (x : Key). key.0 == x.0) (sym f) ∙ (let g : (key.0 == key.0) ≡ true = grind (arith, nat_tests) in g))))
      | false ↦ λ t. refl
    ]) refl

less_same :
    (peers less : BTreeMap ℕ Key) (conn : ℕ) (key k : Key) → LacksPeer peers less conn → get nat_cmp peers conn ≡ Some key → (key.0 == k.0) ≡ false → AreSame peers less k
less_same peers less conn key k gone known other = record {
  up = λ c at. less_by peers less conn c false gone (other_key peers conn c key k known at other) ∙ at;
  down = λ c at. (still_known peers less conn c k gone at).known;
}

-- ---- the links

abbrev closed : Link → Link
closed l = record { conn = l.conn; relay = closed_lanes l.relay }

same_key : (k : Key) → (k.0 == k.0) ≡ true
same_key k = grind (arith, nat_tests)

turned : (a b : ℕ) → (a == b) ≡ (b == a)
turned a b = grind (arith, nat_tests)

same_conn : (a b : ℕ) → a ≡ b → (a == b) ≡ true
same_conn a b h = grind (arith, nat_tests)

-- the links once a key's relay was written back closed
pub closed_links :
    (links : List (Key × Link)) (key : Key) (o : Option Link) (r w : Lanes EncodedData)
    → Some r ≡ relay_over o → w ≡ closed_lanes r → relay_set key_cmp o links key w ≡ closed_link o links key
closed_links links key None r w h e = cc
closed_links links key (Some l) r w h e =
    let it : r ≡ l.relay = cc in
    ap (λ (x : Lanes EncodedData). with_link key_cmp links key (record { conn = l.conn; relay = x })) (e ∙ ap (λ (x : Lanes EncodedData). closed_lanes x) it)

link_closed :
    (links : List (Key × Link)) (key j : Key) (l : Link) (b : Bool) → link_of key_cmp links key ≡ Some l → (key.0 == j.0) ≡ b
    → link_of key_cmp (with_link key_cmp links key (closed l)) j ≡ cond b (Some (closed l)) (link_of key_cmp links j)
link_closed links key j l b linked t = link_of-with_link links key j l (closed l) linked ∙ ap (λ x. cond x (Some (closed l)) (link_of key_cmp links j)) t

-- the key of the connection is known no more
less_unknown :
    (peers less : BTreeMap ℕ Key) (conn : ℕ) (key : Key) → LacksPeer peers less conn → get nat_cmp peers conn ≡ Some key
    → ((c d : ℕ) → get nat_cmp peers c ≡ Some key → get nat_cmp peers d ≡ Some key → c ≡ d) → (c : ℕ) → get nat_cmp less c ≡ Some key → ⊥
less_unknown peers less conn key gone known single c at =
    let o = still_known peers less conn c key gone at in
    false≢true (sym o.other ∙ same_conn conn c (single conn c known o.known))

own_closed :
    (size : ℕ) (peers less : BTreeMap ℕ Key) (links : List (Key × Link)) (conn : ℕ) (key : Key) (said : List (Option ℕ)) (l : Link)
    → LacksPeer peers less conn → get nat_cmp peers conn ≡ Some key → ((c d : ℕ) → get nat_cmp peers c ≡ Some key → get nat_cmp peers d ≡ Some key → c ≡ d)
    → link_of key_cmp links key ≡ Some l → said ≡ []
    → IsInTurn size less key (link_of key_cmp (with_link key_cmp links key (closed l)) key) (said ++ cond (key.0 == key.0) (None ∷ []) [])
own_closed size peers less links conn key said l gone known single linked silent =
    subst (λ o. IsInTurn size less key o (said ++ cond (key.0 == key.0) (None ∷ []) [])) (sym (link_closed links key key l true linked (same_key key)))
    (subst (λ b. IsInTurn size less key (Some (closed l)) (said ++ cond b (None ∷ []) [])) (sym (same_key key))
    (subst (λ s. IsInTurn size less key (Some (closed l)) (s ++ None ∷ [])) (sym silent)
    (record { high_closed = refl; low_closed = refl; high_empty = refl; low_empty = refl }, less_unknown peers less conn key gone known single)))

-- each key is in turn, once a connection was closed and its key released
turns_closed :
    (size : ℕ) (peers less : BTreeMap ℕ Key) (links : List (Key × Link)) (conn : ℕ) (key : Key) (said : Key → List (Option ℕ)) (l : Link)
    → LacksPeer peers less conn → get nat_cmp peers conn ≡ Some key → ((c d : ℕ) → get nat_cmp peers c ≡ Some key → get nat_cmp peers d ≡ Some key → c ≡ d)
    → link_of key_cmp links key ≡ Some l → said key ≡ [] → ((j : Key) → IsInTurn size peers j (link_of key_cmp links j) (said j))
    → (j : Key) → IsInTurn size less j (link_of key_cmp (with_link key_cmp links key (closed l)) j) (said j ++ cond (j.0 == key.0) (None ∷ []) [])
turns_closed size peers less links conn key said l gone known single linked silent all j =
    (elim (key.0 == j.0) as (λ t. (key.0 == j.0) ≡ t → IsInTurn size less j (link_of key_cmp (with_link key_cmp links key (closed l)) j) (said j ++ cond (j.0 == key.0) (None ∷ []) [])) [
      | true ↦ λ t.
          subst (λ (x : Key). IsInTurn size less x (link_of key_cmp (with_link key_cmp links key (closed l)) x) (said x ++ cond (x.0 == key.0) (None ∷ []) [])) (key_from key j t)
          (own_closed size peers less links conn key (said key) l gone known single linked silent)
      | false ↦ λ t.
          subst (λ o. IsInTurn size less j o (said j ++ cond (j.0 == key.0) (None ∷ []) [])) (sym (link_closed links key j l false linked t))
          (subst (λ b. IsInTurn size less j (link_of key_cmp links j) (said j ++ cond b (None ∷ []) [])) (sym (turned j.0 key.0 ∙ t))
          (subst (IsInTurn size less j (link_of key_cmp links j)) (sym (append-nil (said j)))
          (turn_moved size peers less j (link_of key_cmp links j) (said j) (less_same peers less conn key j gone known t) (all j))))
    ]) refl

-- ---- the frames

frames_at :
    (peers : BTreeMap ℕ Key) (links : List (Key × Link)) (conn c : ℕ) (key : Key) (l : Link) (b : Bool) (o : Option Key)
    → get nat_cmp peers conn ≡ Some key → ((c d : ℕ) → get nat_cmp peers c ≡ Some key → get nat_cmp peers d ≡ Some key → c ≡ d)
    → link_of key_cmp links key ≡ Some l → (conn == c) ≡ false → get nat_cmp peers c ≡ o
    → frames_in b (link_to (with_link key_cmp links key (closed l)) c o) ≡ frames_in b (link_to links c o)
frames_at peers links conn c key l b None known single linked other at = refl
frames_at peers links conn c key l b (Some j) known single linked other at =
    (elim (key.0 == j.0) as (λ t. (key.0 == j.0) ≡ t → frames_in b (link_with c (link_of key_cmp (with_link key_cmp links key (closed l)) j)) ≡ frames_in b (link_with c (link_of key_cmp links j))) [
      | true ↦ λ t. absurd (false≢true (sym other ∙ same_conn conn c (single conn c known (at ∙ ap Some (sym (key_from key j t))))))
      | false ↦ λ t. ap (λ o. frames_in b (link_with c o)) (link_closed links key j l false linked t)
    ]) refl

-- no other connection's frames changed, and this one had none
frames_closed :
    (peers less : BTreeMap ℕ Key) (links : List (Key × Link)) (conn c : ℕ) (key : Key) (l : Link) (b : Bool)
    → LacksPeer peers less conn → get nat_cmp peers conn ≡ Some key → ((c d : ℕ) → get nat_cmp peers c ≡ Some key → get nat_cmp peers d ≡ Some key → c ≡ d)
    → link_of key_cmp links key ≡ Some l → frames_of peers links b conn ≡ []
    → frames_of less (with_link key_cmp links key (closed l)) b c ≡ frames_of peers links b c
frames_closed peers less links conn c key l b gone known single linked idle =
    (elim (conn == c) as (λ t. (conn == c) ≡ t → frames_of less (with_link key_cmp links key (closed l)) b c ≡ frames_of peers links b c) [
      | true ↦ λ t.
          let same : conn ≡ c = grind (arith, nat_tests) in
          ap (λ o. frames_in b (link_to (with_link key_cmp links key (closed l)) c o)) (less_by peers less conn c true gone t)
          ∙ (sym idle ∙ ap (frames_of peers links b) same)
      | false ↦ λ t.
          ap (λ o. frames_in b (link_to (with_link key_cmp links key (closed l)) c o)) (less_by peers less conn c false gone t)
          ∙ frames_at peers links conn c key l b (get nat_cmp peers c) known single linked t refl
    ]) refl

-- ---- which connections have ended

-- another link's connection ends as before
still_ended :
    (size : ℕ) (ended now : ℕ → Bool) (peers : BTreeMap ℕ Key) (conn : ℕ) (key j : Key) (m : Link) (said : List (Option ℕ))
    → get nat_cmp peers conn ≡ Some key → ((c : ℕ) → now c ≡ (ended c || (c == conn))) → (key.0 == j.0) ≡ false
    → AreClosed m.relay (ended m.conn) → IsLinked size peers j m said → now m.conn ≡ ended m.conn
still_ended size ended now peers conn key j m said known is other c (open_link lanes at silent) =
    is m.conn
    ∙ (ap (λ b. ended m.conn || b) (turned m.conn conn ∙ other_key peers conn m.conn key j known at other) ∙ or_false (ended m.conn))
still_ended size ended now peers conn key j m said known is other c (spent_link spent) =
    let over : ended m.conn ≡ true = sym c.high ∙ spent.high_closed in
    is m.conn ∙ (ap (λ b. b || (m.conn == conn)) over ∙ sym over)

pub ends_closed :
    (size : ℕ) (ended now : ℕ → Bool) (peers less : BTreeMap ℕ Key) (links : List (Key × Link)) (conn : ℕ) (key : Key) (said : Key → List (Option ℕ)) (l : Link)
    → LacksPeer peers less conn → get nat_cmp peers conn ≡ Some key → link_of key_cmp links key ≡ Some l → l.conn ≡ conn
    → ((j : Key) → IsInTurn size peers j (link_of key_cmp links j) (said j)) → ((c : ℕ) → now c ≡ (ended c || (c == conn)))
    → AreEnded ended peers links → AreEnded now less (with_link key_cmp links key (closed l))
ends_closed size ended now peers less links conn key said l gone known linked own all is h = record {
  relays = λ j m at.
      (elim (key.0 == j.0) as (λ t. (key.0 == j.0) ≡ t → AreClosed m.relay (now m.conn)) [
        | true ↦ λ t.
            let same : Some (closed l) ≡ Some m = sym (link_closed links key j l true linked t) ∙ at in
            let it : closed l ≡ m = cc in
            let over : now l.conn ≡ true = is l.conn ∙ (ap (λ b. ended l.conn || b) (same_conn l.conn conn own) ∙ or_true (ended l.conn)) in
            subst (λ (x : Link). AreClosed x.relay (now x.conn)) it (record { high = sym over; low = sym over })
        | false ↦ λ t.
            let old : link_of key_cmp links j ≡ Some m = sym (link_closed links key j l false linked t) ∙ at in
            let c = h.relays j m old in
            let same = still_ended size ended now peers conn key j m (said j) known is t c (linked_as size peers j m (said j) (subst (λ o. IsInTurn size peers j o (said j)) old (all j))) in
            record { high = c.high ∙ sym same; low = c.low ∙ sym same }
      ]) refl;
  known = λ c k at.
      let o = still_known peers less conn c k gone at in
      is c ∙ (ap (λ b. b || (c == conn)) (h.known c k o.known) ∙ (turned c conn ∙ o.other));
}

-- ---- the router

-- no frame of the connection waits
idle_frames :
    (size : ℕ) (r : Router) (items : List Envelope) (conn : ℕ) (b : Bool) → Holds size r items → filter (stands_in (relay_queue b r.number conn)) items ≡ []
    → map frame_item (frames_of r.peers r.actor.links b conn) ≡ []
idle_frames size r items conn b h none =
    sym (lane_items r r.number b conn) ∙ (h.each (relay_queue b r.number conn) (own_lane r.number b conn) ∙ ap (map bare_item) none)

none_mapped : (xs : List EncodedData) → map frame_item xs ≡ [] → xs ≡ []
none_mapped [] h = refl
none_mapped (x ∷ xs) h = cc

idle_lane : (size : ℕ) (r : Router) (items : List Envelope) (conn : ℕ) (key : Key) (b : Bool) → Holds size r items → IsIdle r items conn key → frames_of r.peers r.actor.links b conn ≡ []
idle_lane size r items conn key true h i = none_mapped (frames_of r.peers r.actor.links true conn) (idle_frames size r items conn true h i.high)
idle_lane size r items conn key false h i = none_mapped (frames_of r.peers r.actor.links false conn) (idle_frames size r items conn false h i.low)

pub Holds-closed :
    (size : ℕ) (r : Router) (q : Waiting (Message Key)) (less : BTreeMap ℕ Key) (names : Board Name) (entry place conn : ℕ) (key : Key) (items : List Envelope)
    → Holds size r items → r.messenger.binding ≡ Bound q → IsIdle r items conn key → LacksPeer r.peers less conn
    → ((k : Queue) → held names k ≡ held r.names k ++ cond (same_queue (queue.Router r.number) k) (record { entry = entry; place = place; tag = None } ∷ []) [])
    → Holds size (asked r q (message.Release key) (closed_link (link_of key_cmp r.actor.links key) r.actor.links key) less names)
    (items ++ record { entry = entry; place = place; queue = queue.Router r.number; item = item.Release key } ∷ [])
Holds-closed size r q less names entry place conn key items h bound idle gone named =
    let s = h.sound in
    let own = releasable size r items conn key h idle in
    let links = r.actor.links in
    let x : Envelope = record { entry = entry; place = place; queue = queue.Router r.number; item = item.Release key } in
    let told = bound_items r.messenger.binding q bound in
    let new = with_link key_cmp links key (closed own.link) in
    subst (λ (o : Option Link). Holds size (asked r q (message.Release key) (closed_link o links key) less names) (items ++ x ∷ [])) (sym own.linked)
    (Holds-asked size r q (message.Release key) new less names x items h
    (record {
      bound = bound;
      there = refl;
      is = refl;
      proper = tt;
      no_list = refl;
      single = less_single r.peers less conn gone s.single;
      turns = turns_closed size r.peers less links conn key (λ k. said_of k q.items) own.link gone idle.known (s.single key) own.linked
          (ap (said_of key) (sym told) ∙ own.silent) (λ k. subst (IsInTurn size r.peers k (link_of key_cmp links k)) (ap (said_of k) told) (s.turns k));
      frames = λ b c. frames_closed r.peers less links conn c key own.link b gone idle.known (s.single key) own.linked (idle_lane size r items conn key b h idle);
    })
    (Agrees-push r.number label (held r.names) (held names) items x h.names (λ k own. named k)))

-- the mailbox of a bound messenger was told
pub Holds-released :
    (size : ℕ) (r : Router) (desk : Desk Key) (less : BTreeMap ℕ Key) (names : Board Name) (entry place conn : ℕ) (key : Key) (items : List Envelope) (b : Binding Key)
    → r.messenger.binding ≡ b → is_bound b ≡ true
    → desk ≡ record r.messenger { binding = in_mailbox (λ q. appended q (message.Release key)) b }
    → Holds size r items → IsIdle r items conn key → LacksPeer r.peers less conn
    → ((k : Queue) → held names k ≡ held r.names k ++ cond (same_queue (queue.Router r.number) k) (record { entry = entry; place = place; tag = None } ∷ []) [])
    → Holds size (record r { messenger = desk; actor = record r.actor { links = closed_link (link_of key_cmp r.actor.links key) r.actor.links key }; peers = less; names = names })
    (items ++ record { entry = entry; place = place; queue = queue.Router r.number; item = item.Release key } ∷ [])
Holds-released size r desk less names entry place conn key items Unbound is up told h idle gone named = absurd (false≢true up)
Holds-released size r desk less names entry place conn key items (Bound q) is up told h idle gone named =
    subst (λ (d : Desk Key). Holds size (record r { messenger = d; actor = record r.actor { links = closed_link (link_of key_cmp r.actor.links key) r.actor.links key }; peers = less; names = names }) (items ++ record { entry = entry; place = place; queue = queue.Router r.number; item = item.Release key } ∷ []))
    (sym told) (Holds-closed size r q less names entry place conn key items h is idle gone named)
Holds-released size r desk less names entry place conn key items Closed is up told h idle gone named = absurd (false≢true up)

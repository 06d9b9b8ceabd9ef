-- The copies of a frame that enter relays are those that the log spreads.
use Rattle.std.proofs.Common.{◌≡◌, ℕ, ◌+◌, Bool, true, false, cond, List, [], ◌∷◌, ◌++◌, length, refl, ap, sym, subst, ◌∙◌, arith, append_assoc, append-nil, length-append, Option, Some, None, if◌then◌else◌}
use Rattle.std.specs.Prelude.{map, filter, count_by, nat_le, nat_lt, not, ◌==◌, ◌&&◌}
use Rattle.std.specs.BTreeMap.{BTreeMap, get, is_at}
use Rattle.std.specs.Ordering.{nat_cmp}
use Rattle.std.proofs.lemmas.Bool.Decides.{nat_tests}
use Rattle.std.proofs.lemmas.Bool.{false≢true}
use Rattle.std.proofs.lemmas.List.{map-append, length-map}
use Rattle.std.proofs.lemmas.List.Elements.{filter-append}
use Rattle.std.proofs.lemmas.List.Sums.{length-filter}
use Rattle.std.proofs.lemmas.Map.Steps.{set_value_same}
use Rattle.p2p_base.specs.Queue.{Queue as Waiting, has_room, enqueued}
use Rattle.p2p_base.specs.declared.policy.Keep.TheVariants.{Refuse}
use Rattle.p2p_base.specs.declared.key.Key.{Key}
use Rattle.p2p_base.specs.declared.outcome.Sent.TheVariants as sent
use Rattle.p2p_wire.specs.declared.encoded.EncodedData.{EncodedData}
use Rattle.p2p_flow.specs.Lanes.{Lanes, lane, with_lane, send_answer, sent_on}
use Rattle.p2p_router.specs.declared.link.Link.{Link}
use Rattle.p2p_router.specs.declared.stepped.Routed.TheVariants as routed
use Rattle.p2p_router.specs.Routing.{link_of, with_link, routed_as, routed_over, put_over, copies, copies_put}
use Rattle.p2p_log.specs.declared.queue.Queue.{Queue}
use Rattle.p2p_log.specs.declared.item.Item.{Item}
use Rattle.p2p_log.specs.declared.item.Item.TheVariants as item
use Rattle.p2p_log.specs.declared.item.Envelope.{Envelope}
use Rattle.p2p_log.specs.declared.end.Cause.TheVariants as cause
use Rattle.p2p_log.specs.QueueCode.{same_queue}
use Rattle.p2p_log.specs.Lines.{stands_in}
use Rattle.p2p_log_rules.specs.Facts.{route_to}
use Rattle.p2p_log_rules.specs.Effect.{Spread, dropped_copy, goes_to, relay_queue, spread_one, spread_to, spread}
use Rattle.p2p_net_router.specs.Names.{bare}
use Rattle.p2p_net_router.specs.Items.{key_cmp, link_with, link_to, frames_in, frame_item, frames_of}
use Rattle.p2p_net_router.specs.Ends.{AreClosed, AreEnded}
use Rattle.p2p_net_router.specs.Sound.{IsOpen, IsSpent, IsInTurn}
use Rattle.p2p_net_router.specs.Holds.{routes_in}
use Rattle.p2p_net_router.specs.Copies.{dropped, copy_spread, copies_spread}
use Rattle.p2p_net_router.proofs.Linking.{link_of-with_link, routes_in-with_link, route_to-link, conn_in}
use Rattle.p2p_net_router.proofs.Turns.{IsLinked, open_link, spent_link, linked_as}

-- whether two messages go by the same lane
abbrev pub same_lane : Bool → Bool → Bool
same_lane true b = b
same_lane false b = not b

pub same_relay : (a b : Bool) (n c d : ℕ) → same_queue (relay_queue b n d) (relay_queue a n c) ≡ ((c == d) && same_lane a b)
same_relay true true n c d = grind (arith, nat_tests)
same_relay true false n c d = grind (arith, nat_tests)
same_relay false true n c d = grind (arith, nat_tests)
same_relay false false n c d = grind (arith, nat_tests)

-- a lane of lanes of which one was replaced
lane-with : (l : Lanes EncodedData) (a b : Bool) (q : Waiting EncodedData) → (lane (with_lane l a q) b).items ≡ cond (same_lane a b) q.items (lane l b).items
lane-with l true true q = refl
lane-with l true false q = refl
lane-with l false true q = refl
lane-with l false false q = refl

abbrev pub relayed : Link → Bool → Waiting EncodedData → Link
relayed l priority q = record { conn = l.conn; relay = with_lane l.relay priority q }

frames_relayed :
    (a b : Bool) (l : Link) (q : Waiting EncodedData) (conn : ℕ)
    → frames_in b (link_with conn (Some (relayed l a q))) ≡ cond ((l.conn == conn) && same_lane a b) q.items (frames_in b (link_with conn (Some l)))
frames_relayed a b l q conn =
    elim (l.conn == conn) as (λ t. frames_in b (cond t (Some (relayed l a q)) None) ≡ cond (t && same_lane a b) q.items (frames_in b (cond t (Some l) None))) [
      | true ↦ lane-with l.relay a b q
      | false ↦ refl
    ]

pub key_from : (k j : Key) → (k.0 == j.0) ≡ true → k ≡ j
key_from k j h = let e : k.0 ≡ j.0 = grind (arith, nat_tests) in ap (λ n. record { 0 = n }) e

-- where the links of all keys are known by their connections, one that has another key has another connection
other_conn :
    (k j : Key) (c conn : ℕ) (o : Option Key) → o ≡ Some j → (c ≡ conn → o ≡ Some k) → (k.0 == j.0) ≡ false → (c == conn) ≡ false
other_conn k j c conn o is known other =
    (elim (c == conn) as (λ b. (c == conn) ≡ b → b ≡ false) [
      | true ↦ λ t.
          let same : c ≡ conn = grind (arith, nat_tests) in
          let e : Some k ≡ Some j = sym (known same) ∙ is in
          let f : k ≡ j = cc in
          absurd (false≢true (sym other ∙ ap (λ (x : Key). k.0 == x.0) (sym f) ∙ grind (arith, nat_tests)))
      | false ↦ λ t. refl
    ]) refl

no_conn : (k : Key) (c conn : ℕ) (o : Option Key) → o ≡ None → (c ≡ conn → o ≡ Some k) → (c == conn) ≡ false
no_conn k c conn o none known =
    (elim (c == conn) as (λ b. (c == conn) ≡ b → b ≡ false) [
      | true ↦ λ t. absurd (let same : c ≡ conn = grind (arith, nat_tests) in let e : Some k ≡ None = sym (known same) ∙ none in cc)
      | false ↦ λ t. refl
    ]) refl

frames_set_at :
    (links : List (Key × Link)) (k : Key) (l : Link) (a b : Bool) (q : Waiting EncodedData) (conn : ℕ) (o : Option Key)
    → link_of key_cmp links k ≡ Some l → (l.conn ≡ conn → o ≡ Some k)
    → frames_in b (link_to (with_link key_cmp links k (relayed l a q)) conn o)
    ≡ cond ((l.conn == conn) && same_lane a b) q.items (frames_in b (link_to links conn o))
frames_set_at links k l a b q conn None h known =
    sym (ap (λ t. cond (t && same_lane a b) q.items []) (no_conn k l.conn conn None refl known))
frames_set_at links k l a b q conn (Some j) h known =
    ap (λ o. frames_in b (link_with conn o)) (link_of-with_link links k j l (relayed l a q) h)
    ∙ ((elim (k.0 == j.0) as (λ t. (k.0 == j.0) ≡ t → frames_in b (link_with conn (cond t (Some (relayed l a q)) (link_of key_cmp links j))) ≡ cond ((l.conn == conn) && same_lane a b) q.items (frames_in b (link_with conn (link_of key_cmp links j)))) [
      | true ↦ λ t.
          let at : link_of key_cmp links j ≡ Some l = ap (link_of key_cmp links) (sym (key_from k j t)) ∙ h in
          frames_relayed a b l q conn
          ∙ ap (λ o. cond ((l.conn == conn) && same_lane a b) q.items (frames_in b (link_with conn o))) (sym at)
      | false ↦ λ t.
          sym
          (ap (λ s. cond (s && same_lane a b) q.items (frames_in b (link_with conn (link_of key_cmp links j))))
          (other_conn k j l.conn conn (Some j) refl known t))
    ]) refl)

-- the frames of each connection, once a lane of a key's link was replaced
pub frames_set :
    (peers : BTreeMap ℕ Key) (links : List (Key × Link)) (k : Key) (l : Link) (a b : Bool) (q : Waiting EncodedData) (conn : ℕ)
    → link_of key_cmp links k ≡ Some l → get nat_cmp peers l.conn ≡ Some k
    → frames_of peers (with_link key_cmp links k (relayed l a q)) b conn
    ≡ cond ((l.conn == conn) && same_lane a b) q.items (frames_of peers links b conn)
frames_set peers links k l a b q conn h known =
    frames_set_at links k l a b q conn (get nat_cmp peers conn) h (λ e. ap (get nat_cmp peers) (sym e) ∙ known)

-- the frames of a link's own connection
pub frames_own :
    (peers : BTreeMap ℕ Key) (links : List (Key × Link)) (k : Key) (l : Link) (b : Bool)
    → link_of key_cmp links k ≡ Some l → get nat_cmp peers l.conn ≡ Some k → frames_of peers links b l.conn ≡ (lane l.relay b).items
frames_own peers links k l b h known =
    ap (λ o. frames_in b (link_to links l.conn o)) known
    ∙ (ap (λ o. frames_in b (link_with l.conn o)) h
    ∙ ap (λ t. frames_in b (cond t (Some l) None)) (let e : (l.conn == l.conn) ≡ true = grind (arith, nat_tests) in e))

pub lane_size : (size : ℕ) (l : Lanes EncodedData) (b : Bool) → IsOpen size l → (lane l b).capacity ≡ size
lane_size size l true h = h.high_size
lane_size size l false h = h.low_size

pub lane_open : (size : ℕ) (l : Lanes EncodedData) (b : Bool) → IsOpen size l → (lane l b).closed ≡ false
lane_open size l true h = h.high_open
lane_open size l false h = h.low_open

pub IsOpen-with : (size : ℕ) (l : Lanes EncodedData) (b : Bool) (q : Waiting EncodedData) → IsOpen size l → q.capacity ≡ size → q.closed ≡ false → IsOpen size (with_lane l b q)
IsOpen-with size l true q h c o = record { high_size = c; low_size = h.low_size; high_open = o; low_open = h.low_open }
IsOpen-with size l false q h c o = record { high_size = h.high_size; low_size = c; high_open = h.high_open; low_open = o }

-- each key is in turn, once an open link has another lane
pub turns_set :
    (size : ℕ) (peers : BTreeMap ℕ Key) (said : Key → List (Option ℕ)) (links : List (Key × Link)) (k : Key) (l : Link) (a : Bool) (q : Waiting EncodedData)
    → link_of key_cmp links k ≡ Some l → IsOpen size l.relay → get nat_cmp peers l.conn ≡ Some k → said k ≡ []
    → ((j : Key) → IsInTurn size peers j (link_of key_cmp links j) (said j))
    → q.capacity ≡ size → q.closed ≡ false
    → (j : Key) → IsInTurn size peers j (link_of key_cmp (with_link key_cmp links k (relayed l a q)) j) (said j)
turns_set size peers said links k l a q h lanes known silent all c o j =
    let new = relayed l a q in
    subst (λ x. IsInTurn size peers j x (said j)) (sym (link_of-with_link links k j l new h))
    ((elim (k.0 == j.0) as (λ t. (k.0 == j.0) ≡ t → IsInTurn size peers j (cond t (Some new) (link_of key_cmp links j)) (said j)) [
      | true ↦ λ t.
          subst (λ (x : Key). IsInTurn size peers x (Some new) (said x)) (key_from k j t)
          (subst (IsInTurn size peers k (Some new)) (sym silent) (IsOpen-with size l.relay a q lanes c o, known))
      | false ↦ λ t. all j
    ]) refl)

closed_with : (l : Lanes EncodedData) (a : Bool) (q : Waiting EncodedData) (b : Bool) → AreClosed l b → q.closed ≡ (lane l a).closed → AreClosed (with_lane l a q) b
closed_with l true q b h same = record { high = same ∙ h.high; low = h.low }
closed_with l false q b h same = record { high = h.high; low = same ∙ h.low }

-- the relays are closed as before, once one has another lane
pub ends_set :
    (ended : ℕ → Bool) (peers : BTreeMap ℕ Key) (links : List (Key × Link)) (k : Key) (l : Link) (a : Bool) (q : Waiting EncodedData)
    → link_of key_cmp links k ≡ Some l → q.closed ≡ (lane l.relay a).closed → AreEnded ended peers links → AreEnded ended peers (with_link key_cmp links k (relayed l a q))
ends_set ended peers links k l a q h same all =
    let new = relayed l a q in
    record {
      relays = λ j m at.
          (elim (k.0 == j.0) as (λ t. (k.0 == j.0) ≡ t → cond t (Some new) (link_of key_cmp links j) ≡ Some m → AreClosed m.relay (ended m.conn)) [
            | true ↦ λ t e. let it : new ≡ m = cc in subst (λ (x : Link). AreClosed x.relay (ended x.conn)) it (closed_with l.relay a q (ended l.conn) (all.relays k l h) same)
            | false ↦ λ t e. all.relays j m e
          ]) refl (sym (link_of-with_link links k j l new h) ∙ at);
      known = all.known;
    }

abbrev pub item_put : Queue × Item → Item
item_put x = bare x.1

-- the router while it spreads: what stood in each lane, and then what was put there
pub record IsSpreading (size n : ℕ) (ended : ℕ → Bool) (peers : BTreeMap ℕ Key) (said : Key → List (Option ℕ)) (base : Bool → ℕ → List Item) (routes : List (ℕ × ℕ)) (links : List (Key × Link)) (s : Spread) : Type 0 where
  pub turns : (k : Key) → IsInTurn size peers k (link_of key_cmp links k) (said k)
  pub ends : AreEnded ended peers links
  pub frames : (b : Bool) (conn : ℕ) → map frame_item (frames_of peers links b conn) ≡ base b conn ++ map item_put (filter (goes_to (relay_queue b n conn)) s.puts)
  pub routes_are : routes_in links ≡ routes

-- the lane after a frame came, by whether there is room
queue_after : (q : Waiting EncodedData) (e : EncodedData) (room : Bool) → q.closed ≡ false → has_room q ≡ room → (enqueued Refuse q e).items ≡ cond room (q.items ++ e ∷ []) q.items
queue_after q e room unclosed is =
    ap (λ c. if c then q.items else (if has_room q then q.items ++ e ∷ [] else q.items)) unclosed
    ∙ (ap (λ c. if c then q.items ++ e ∷ [] else q.items) is
    ∙ (elim room as (λ c. (if c then q.items ++ e ∷ [] else q.items) ≡ cond c (q.items ++ e ∷ []) q.items) [ true ↦ refl | false ↦ refl ]))

answer_after :
    (l : Link) (k : Key) (b : Bool) (e : EncodedData) (room : Bool) → (lane l.relay b).closed ≡ false → has_room (lane l.relay b) ≡ room
    → routed_as (send_answer l.relay e b) k l.conn b ≡ cond room (routed.Put k l.conn b) (routed.RelayFull k l.conn)
answer_after l k b e room unclosed is =
    ap (λ c. routed_as (if c then sent.Closed e else (if has_room (lane l.relay b) then sent.Ok else sent.Rejected e)) k l.conn b) unclosed
    ∙ (ap (λ c. routed_as (if c then sent.Ok else sent.Rejected e) k l.conn b) is
    ∙ (elim room as (λ c. routed_as (if c then sent.Ok else sent.Rejected e) k l.conn b ≡ cond c (routed.Put k l.conn b) (routed.RelayFull k l.conn)) [ true ↦ refl | false ↦ refl ]))

put_more :
    (q r : Queue) (puts : List (Queue × Item)) (i : Item)
    → map item_put (filter (goes_to q) (puts ++ (r, i) ∷ [])) ≡ map item_put (filter (goes_to q) puts) ++ cond (same_queue q r) (bare i ∷ []) []
put_more q r puts i =
    ap (map item_put) (filter-append (goes_to q) puts ((r, i) ∷ []))
    ∙ (map-append item_put (filter (goes_to q) puts) (filter (goes_to q) ((r, i) ∷ []))
    ∙ (elim (same_queue q r) as (λ b. map item_put (filter (goes_to q) puts) ++ map item_put (cond b ((r, i) ∷ []) []) ≡ map item_put (filter (goes_to q) puts) ++ cond b (bare i ∷ []) []) [ true ↦ refl | false ↦ refl ]))

-- frames that got one more, by whether they are the lane's
framed :
    (t room : Bool) (old own after : List EncodedData) (e : EncodedData) (b more : List Item)
    → (t ≡ true → old ≡ own) → after ≡ cond room (own ++ e ∷ []) own → map frame_item old ≡ b ++ more
    → map frame_item (cond t after old) ≡ b ++ (more ++ cond t (cond room (frame_item e ∷ []) []) [])
framed true true old own after e b more h g f =
    ap (map frame_item) (g ∙ ap (λ l. l ++ e ∷ []) (sym (h refl)))
    ∙ (map-append frame_item old (e ∷ []) ∙ (ap (λ l. l ++ frame_item e ∷ []) f ∙ append_assoc b more (frame_item e ∷ [])))
framed true false old own after e b more h g f = ap (map frame_item) (g ∙ sym (h refl)) ∙ (f ∙ ap (λ l. b ++ l) (sym (append-nil more)))
framed false room old own after e b more h g f = f ∙ ap (λ l. b ++ l) (sym (append-nil more))

pub lane_conn : (l : Link) (conn : ℕ) (a b : Bool) → ((l.conn == conn) && same_lane a b) ≡ true → (l.conn ≡ conn) × (a ≡ b)
lane_conn l conn true true h = (grind (arith, nat_tests), refl)
lane_conn l conn false false h = (grind (arith, nat_tests), refl)
lane_conn l conn true false h = absurd (grind (arith, nat_tests))
lane_conn l conn false true h = absurd (grind (arith, nat_tests))

nest : {X : Type 0} (t room : Bool) (x : X) → cond t (cond room (x ∷ []) []) [] ≡ cond room (cond t (x ∷ []) []) []
nest true true x = refl
nest true false x = refl
nest false true x = refl
nest false false x = refl

-- one copy, with a link and room for it or none
abbrev spread_by : Bool → ℕ → ℕ → Bool → ℕ → ℕ → List ℕ → Spread → Spread
spread_by room n conn priority send p frame s =
    cond room (record s { puts = s.puts ++ (relay_queue priority n conn, item.Frame (Some (send, p)) frame) ∷ [] }) (dropped send p cause.RelayFull s)

IsSpreading-linked :
    (size n : ℕ) (ended : ℕ → Bool) (peers : BTreeMap ℕ Key) (said : Key → List (Option ℕ)) (base : Bool → ℕ → List Item) (routes : List (ℕ × ℕ)) (links : List (Key × Link)) (s : Spread)
    (k : Key) (l : Link) (priority room : Bool) (send p : ℕ) (e : EncodedData)
    → IsSpreading size n ended peers said base routes links s → link_of key_cmp links k ≡ Some l → IsOpen size l.relay → get nat_cmp peers l.conn ≡ Some k → said k ≡ []
    → has_room (lane l.relay priority) ≡ room
    → IsSpreading size n ended peers said base routes (with_link key_cmp links k (relayed l priority (enqueued Refuse (lane l.relay priority) e))) (spread_by room n l.conn priority send p e.payload s)
IsSpreading-linked size n ended peers said base routes links s k l priority room send p e h at lanes known silent is =
    let q = lane l.relay priority in
    let after = enqueued Refuse q e in
    record {
      turns = turns_set size peers said links k l priority after at lanes known silent h.turns (lane_size size l.relay priority lanes) (lane_open size l.relay priority lanes);
      ends = ends_set ended peers links k l priority after at refl h.ends;
      frames = λ b conn.
          let t = (l.conn == conn) && same_lane priority b in
          let more = map item_put (filter (goes_to (relay_queue b n conn)) s.puts) in
          ap (map frame_item) (frames_set peers links k l priority b after conn at known)
          ∙ (framed t room (frames_of peers links b conn) q.items after.items e (base b conn) more
          (λ own.
          let w = lane_conn l conn priority b own in
          ap (λ c. frames_of peers links b c) (sym w.0) ∙ (ap (λ c. frames_of peers links c l.conn) (sym w.1) ∙ frames_own peers links k l priority at known))
          (queue_after q e room (lane_open size l.relay priority lanes) is) (h.frames b conn)
          ∙ ap (λ m. base b conn ++ m)
          (ap (λ m. more ++ m) (nest t room (frame_item e))
          ∙ (elim room as (λ c. more ++ cond c (cond t (frame_item e ∷ []) []) [] ≡ map item_put (filter (goes_to (relay_queue b n conn)) (spread_by c n l.conn priority send p e.payload s).puts)) [
            | true ↦
                ap (λ d. more ++ cond d (frame_item e ∷ []) []) (sym (same_relay priority b n l.conn conn))
                ∙ sym (put_more (relay_queue b n conn) (relay_queue priority n l.conn) s.puts (item.Frame (Some (send, p)) e.payload))
            | false ↦ append-nil more
          ])));
      routes_are = routes_in-with_link links k l (relayed l priority after) at refl ∙ h.routes_are;
    }

room_or_full : (x size : ℕ) → nat_lt x size ≡ not (nat_le size x)
room_or_full x size = grind (arith, nat_tests)

-- there is room by the lane, or the queue is full by the log
room_by :
    (size n : ℕ) (ended : ℕ → Bool) (peers : BTreeMap ℕ Key) (said : Key → List (Option ℕ)) (base : Bool → ℕ → List Item) (routes : List (ℕ × ℕ)) (links : List (Key × Link)) (s : Spread)
    (k : Key) (l : Link) (priority : Bool) (items : List Envelope)
    → IsSpreading size n ended peers said base routes links s → link_of key_cmp links k ≡ Some l → IsOpen size l.relay → get nat_cmp peers l.conn ≡ Some k
    → length (base priority l.conn) ≡ length (filter (stands_in (relay_queue priority n l.conn)) items)
    → has_room (lane l.relay priority)
    ≡ not (nat_le size (length (filter (stands_in (relay_queue priority n l.conn)) items) + count_by (goes_to (relay_queue priority n l.conn)) s.puts))
room_by size n ended peers said base routes links s k l priority items h at lanes known long =
    let q = relay_queue priority n l.conn in
    let frames = (lane l.relay priority).items in
    let count : length frames ≡ length (filter (stands_in q) items) + count_by (goes_to q) s.puts =
    sym (length-map frames frame_item)
    ∙ (ap (λ l. length (map frame_item l)) (sym (frames_own peers links k l priority at known))
    ∙ (ap length (h.frames priority l.conn)
    ∙ (length-append (base priority l.conn) (map item_put (filter (goes_to q) s.puts))
    ∙ (ap (λ x. x + length (map item_put (filter (goes_to q) s.puts))) long
    ∙ ap (λ x. length (filter (stands_in q) items) + x) (length-map (filter (goes_to q) s.puts) item_put ∙ length-filter (goes_to q) s.puts)))))
    in
    ap (nat_lt (length frames)) (lane_size size l.relay priority lanes)
    ∙ (ap (λ x. nat_lt x size) count ∙ room_or_full (length (filter (stands_in q) items) + count_by (goes_to q) s.puts) size)

spread_one-by :
    (b : Bool) (size : ℕ) (items : List Envelope) (n conn : ℕ) (priority : Bool) (send p : ℕ) (frame : List ℕ) (s : Spread)
    → b ≡ nat_le size (length (filter (stands_in (relay_queue priority n conn)) items) + count_by (goes_to (relay_queue priority n conn)) s.puts)
    → spread_one size items (relay_queue priority n conn) send p frame s ≡ spread_by (not b) n conn priority send p frame s
spread_one-by b size items n conn priority send p frame s h =
    ap (λ c. cond c (dropped send p cause.RelayFull s) (record s { puts = s.puts ++ (relay_queue priority n conn, item.Frame (Some (send, p)) frame) ∷ [] })) (sym h)
    ∙ (elim b as (λ c. cond c (dropped send p cause.RelayFull s) (record s { puts = s.puts ++ (relay_queue priority n conn, item.Frame (Some (send, p)) frame) ∷ [] }) ≡ spread_by (not c) n conn priority send p frame s) [
      | true ↦ refl
      | false ↦ refl
    ])

-- what one copy comes to, by the log and by the router
pub record IsCopied (size n : ℕ) (ended : ℕ → Bool) (peers : BTreeMap ℕ Key) (said : Key → List (Option ℕ)) (base : Bool → ℕ → List Item) (routes : List (ℕ × ℕ)) (links : List (Key × Link)) (spread now : Spread) : Type 0 where
  pub same : spread ≡ now
  pub going : IsSpreading size n ended peers said base routes links now

-- a copy to a link that is open
copied_open :
    (size n : ℕ) (ended : ℕ → Bool) (peers : BTreeMap ℕ Key) (said : Key → List (Option ℕ)) (base : Bool → ℕ → List Item) (routes : List (ℕ × ℕ)) (links : List (Key × Link)) (s : Spread)
    (k : Key) (l : Link) (priority : Bool) (send p : ℕ) (e : EncodedData) (items : List Envelope)
    → link_of key_cmp links k ≡ Some l → IsSpreading size n ended peers said base routes links s
    → ((b : Bool) (conn : ℕ) → length (base b conn) ≡ length (filter (stands_in (relay_queue b n conn)) items))
    → IsOpen size l.relay → get nat_cmp peers l.conn ≡ Some k → said k ≡ []
    → IsCopied size n ended peers said base routes (put_over key_cmp (Some l) links k e priority)
    (spread_to size items n priority ended (Some l.conn) send p e.payload s) (copy_spread n send p e.payload (routed_over (Some l) k e priority) s)
copied_open size n ended peers said base routes links s k l priority send p e items at h long lanes known silent =
    let q = relay_queue priority n l.conn in
    let full = nat_le size (length (filter (stands_in q) items) + count_by (goes_to q) s.puts) in
    let room = room_by size n ended peers said base routes links s k l priority items h at lanes known (long priority l.conn) in
    let answer : copy_spread n send p e.payload (routed_over (Some l) k e priority) s ≡ spread_by (not full) n l.conn priority send p e.payload s =
    ap (λ r. copy_spread n send p e.payload r s) (answer_after l k priority e (not full) (lane_open size l.relay priority lanes) room)
    ∙ (elim (not full) as (λ b. copy_spread n send p e.payload (cond b (routed.Put k l.conn priority) (routed.RelayFull k l.conn)) s ≡ spread_by b n l.conn priority send p e.payload s) [ true ↦ refl | false ↦ refl ])
    in
    let lives : ended l.conn ≡ false = sym (h.ends.relays k l at).high ∙ lanes.high_open in
    record {
      same = ap (λ b. cond b (dropped_copy cause.ConnectionEnded send p s) (spread_one size items q send p e.payload s)) lives
          ∙ (spread_one-by full size items n l.conn priority send p e.payload s refl ∙ sym answer);
      going = subst (λ (x : Spread). IsSpreading size n ended peers said base routes (put_over key_cmp (Some l) links k e priority) x) (sym answer)
          (IsSpreading-linked size n ended peers said base routes links s k l priority (not full) send p e h at lanes known silent room);
    }

lane_closed : (l : Lanes EncodedData) (b : Bool) → IsSpent l → (lane l b).closed ≡ true
lane_closed l true h = h.high_closed
lane_closed l false h = h.low_closed

closed_answer : (l : Link) (k : Key) (b : Bool) (e : EncodedData) → (lane l.relay b).closed ≡ true → routed_as (send_answer l.relay e b) k l.conn b ≡ routed.Closed k l.conn
closed_answer l k b e closed = ap (λ c. routed_as (if c then sent.Closed e else (if has_room (lane l.relay b) then sent.Ok else sent.Rejected e)) k l.conn b) closed

with_own : (l : Lanes EncodedData) (b : Bool) → with_lane l b (lane l b) ≡ l
with_own l true = refl
with_own l false = refl

-- a closed relay stays as it is
closed_sent : (l : Lanes EncodedData) (b : Bool) (e : EncodedData) → (lane l b).closed ≡ true → sent_on l e b ≡ l
closed_sent l b e closed =
    let q = lane l b in
    ap (λ c. with_lane l b (record { items = if c then q.items else (if has_room q then q.items ++ e ∷ [] else q.items); capacity = q.capacity; closed = q.closed })) closed
    ∙ with_own l b

-- a copy to a link whose connection has ended
copied_spent :
    (size n : ℕ) (ended : ℕ → Bool) (peers : BTreeMap ℕ Key) (said : Key → List (Option ℕ)) (base : Bool → ℕ → List Item) (routes : List (ℕ × ℕ)) (links : List (Key × Link)) (s : Spread)
    (k : Key) (l : Link) (priority : Bool) (send p : ℕ) (e : EncodedData) (items : List Envelope)
    → link_of key_cmp links k ≡ Some l → IsSpreading size n ended peers said base routes links s → IsSpent l.relay
    → IsCopied size n ended peers said base routes (put_over key_cmp (Some l) links k e priority)
    (spread_to size items n priority ended (Some l.conn) send p e.payload s) (copy_spread n send p e.payload (routed_over (Some l) k e priority) s)
copied_spent size n ended peers said base routes links s k l priority send p e items at h spent =
    let closed = lane_closed l.relay priority spent in
    let answer : copy_spread n send p e.payload (routed_over (Some l) k e priority) s ≡ dropped send p cause.ConnectionEnded s =
    ap (λ r. copy_spread n send p e.payload r s) (closed_answer l k priority e closed)
    in
    let still : put_over key_cmp (Some l) links k e priority ≡ links =
    ap (λ (x : Lanes EncodedData). with_link key_cmp links k (record { conn = l.conn; relay = x })) (closed_sent l.relay priority e closed)
    ∙ set_value_same (is_at (key_cmp k)) links l at
    in
    let over : ended l.conn ≡ true = sym (h.ends.relays k l at).high ∙ spent.high_closed in
    record {
      same = ap (λ b. cond b (dropped_copy cause.ConnectionEnded send p s) (spread_one size items (relay_queue priority n l.conn) send p e.payload s)) over ∙ sym answer;
      going = subst (λ (x : Spread). IsSpreading size n ended peers said base routes (put_over key_cmp (Some l) links k e priority) x) (sym answer)
          (subst (λ (ls : List (Key × Link)). IsSpreading size n ended peers said base routes ls (dropped send p cause.ConnectionEnded s)) (sym still)
          (record { turns = h.turns; ends = h.ends; frames = h.frames; routes_are = h.routes_are }));
    }

copied_link :
    (size n : ℕ) (ended : ℕ → Bool) (peers : BTreeMap ℕ Key) (said : Key → List (Option ℕ)) (base : Bool → ℕ → List Item) (routes : List (ℕ × ℕ)) (links : List (Key × Link)) (s : Spread)
    (k : Key) (l : Link) (priority : Bool) (send p : ℕ) (e : EncodedData) (items : List Envelope)
    → link_of key_cmp links k ≡ Some l → IsSpreading size n ended peers said base routes links s
    → ((b : Bool) (conn : ℕ) → length (base b conn) ≡ length (filter (stands_in (relay_queue b n conn)) items))
    → IsLinked size peers k l (said k)
    → IsCopied size n ended peers said base routes (put_over key_cmp (Some l) links k e priority)
    (spread_to size items n priority ended (Some l.conn) send p e.payload s) (copy_spread n send p e.payload (routed_over (Some l) k e priority) s)
copied_link size n ended peers said base routes links s k l priority send p e items at h long (open_link lanes known silent) =
    copied_open size n ended peers said base routes links s k l priority send p e items at h long lanes known silent
copied_link size n ended peers said base routes links s k l priority send p e items at h long (spent_link spent) =
    copied_spent size n ended peers said base routes links s k l priority send p e items at h spent

copied_by :
    (o : Option Link) (size n : ℕ) (ended : ℕ → Bool) (peers : BTreeMap ℕ Key) (said : Key → List (Option ℕ)) (base : Bool → ℕ → List Item) (routes : List (ℕ × ℕ)) (links : List (Key × Link)) (s : Spread)
    (k : Key) (priority : Bool) (send p : ℕ) (e : EncodedData) (items : List Envelope)
    → link_of key_cmp links k ≡ o → IsSpreading size n ended peers said base routes links s
    → ((b : Bool) (conn : ℕ) → length (base b conn) ≡ length (filter (stands_in (relay_queue b n conn)) items))
    → IsCopied size n ended peers said base routes (put_over key_cmp o links k e priority)
    (spread_to size items n priority ended (conn_in o) send p e.payload s) (copy_spread n send p e.payload (routed_over o k e priority) s)
copied_by None size n ended peers said base routes links s k priority send p e items at h long = record {
  same = refl;
  going = record { turns = h.turns; ends = h.ends; frames = h.frames; routes_are = h.routes_are };
}
copied_by (Some l) size n ended peers said base routes links s k priority send p e items at h long =
    copied_link size n ended peers said base routes links s k l priority send p e items at h long
    (linked_as size peers k l (said k) (subst (λ o. IsInTurn size peers k o (said k)) at (h.turns k)))

-- all copies
pub copied :
    (keys : List Key) (size n : ℕ) (ended : ℕ → Bool) (peers : BTreeMap ℕ Key) (said : Key → List (Option ℕ)) (base : Bool → ℕ → List Item) (routes : List (ℕ × ℕ)) (links : List (Key × Link)) (s : Spread)
    (priority : Bool) (send p : ℕ) (e : EncodedData) (items : List Envelope)
    → IsSpreading size n ended peers said base routes links s
    → ((b : Bool) (conn : ℕ) → length (base b conn) ≡ length (filter (stands_in (relay_queue b n conn)) items))
    → IsCopied size n ended peers said base routes (copies_put key_cmp links e priority keys)
    (spread size items n priority ended routes send p e.payload keys s) (copies_spread n send p e.payload (copies key_cmp links e priority keys) s)
unfolding copies copies_put
copied [] size n ended peers said base routes links s priority send p e items h long = record { same = refl; going = h }
copied (k ∷ ks) size n ended peers said base routes links s priority send p e items h long =
    let o = link_of key_cmp links k in
    let one = copied_by o size n ended peers said base routes links s k priority send p e items refl h long in
    let way : route_to routes k ≡ conn_in o = ap (λ r. route_to r k) (sym h.routes_are) ∙ route_to-link links k in
    let now = copy_spread n send p e.payload (routed_over o k e priority) s in
    let rest = copied ks size n ended peers said base routes (put_over key_cmp o links k e priority) now priority send (p + 1) e items one.going long in
    record {
      same = ap (λ (x : Spread). spread size items n priority ended routes send (p + 1) e.payload ks x) (ap (λ r. spread_to size items n priority ended r send p e.payload s) way ∙ one.same) ∙ rest.same;
      going = rest.going;
    }

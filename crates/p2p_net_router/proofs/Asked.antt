-- A router that was asked for something holds one more message.
use Rattle.std.proofs.Common.{◌≡◌, ◌⊎◌, inl, inr, ℕ, Bool, true, false, cond, List, [], ◌∷◌, ◌++◌, refl, ap, sym, subst, ◌∙◌, arith, append-nil, Some, None}
use Rattle.std.specs.Prelude.{flat_map, map, ◌==◌}
use Rattle.std.specs.List.{AllByRecursion}
use Rattle.std.specs.BTreeMap.{BTreeMap, get}
use Rattle.std.specs.Ordering.{nat_cmp, is_eq}
use Rattle.std.proofs.lemmas.Bool.Decides.{nat_tests}
use Rattle.std.proofs.lemmas.Bool.{false≢true}
use Rattle.std.proofs.lemmas.List.{map-append}
use Rattle.std.proofs.lemmas.Grind.{flat_map-append}
use Rattle.p2p_base.specs.declared.key.Key.{Key}
use Rattle.p2p_base.specs.Queue.{Queue as Waiting}
use Rattle.p2p_flow.specs.Lanes.{empty_lanes}
use Rattle.p2p_router.specs.Mailbox.{appended}
use Rattle.p2p_router.specs.Messenger.{Desk, is_bound, in_mailbox}
use Rattle.p2p_router.specs.Routing.{link_of}
use Rattle.p2p_router.specs.declared.link.Link.{Link}
use Rattle.p2p_router.specs.declared.message.Message.{Message}
use Rattle.p2p_router.specs.declared.message.Message.TheVariants as message
use Rattle.p2p_router.specs.declared.messenger.Binding.{Binding}
use Rattle.p2p_router.specs.declared.messenger.Binding.TheVariants.{Unbound, Bound, Closed}
use Rattle.p2p_log.specs.declared.queue.Queue.{Queue}
use Rattle.p2p_log.specs.declared.queue.Queue.TheVariants as queue
use Rattle.p2p_log.specs.declared.item.Item.TheVariants as item
use Rattle.p2p_log.specs.declared.item.Envelope.{Envelope}
use Rattle.p2p_log.specs.QueueCode.{same_queue}
use Rattle.p2p_net_queues.specs.declared.board.Board.{Board}
use Rattle.p2p_net_queues.specs.Board.{held}
use Rattle.p2p_net_router.specs.Names.{Agrees, is_routers, label, bare_item}
use Rattle.p2p_net_router.specs.Items.{key_cmp, message_item, messages_in, frame_item, link_to, frames_in, frames_of, items_of}
use Rattle.p2p_net_router.specs.Ends.{AreEnded}
use Rattle.p2p_net_router.specs.Sound.{IsSound, IsProper, IsInTurn, says, said_of, subscription_in}
use Rattle.p2p_net_router.specs.Holds.{Holds, IsStranger}
use Rattle.p2p_net_router.specs.Stands.{HasPlaces}
use Rattle.p2p_net_router.specs.declared.router.Router.{Router}
use Rattle.p2p_net_router.specs.declared.name.Name.{Name}
use Rattle.p2p_net_router.proofs.Agreeing.{Agrees-push}
use Rattle.p2p_net_router.proofs.Copying.{key_from}
use Rattle.p2p_net_router.proofs.Told.{same_router}
use Rattle.p2p_net_router.proofs.Turns.{AreSame, turn_moved, turn_readied, unknown_frames}

-- with one more message in this mailbox, these links and peers, and these names
abbrev pub asked : Router → Waiting (Message Key) → Message Key → List (Key × Link) → BTreeMap ℕ Key → Board Name → Router
asked r q m links peers names =
    record r { messenger = record r.messenger { binding = Bound (appended q m) }; actor = record r.actor { links = links }; peers = peers; names = names }

all_more : (P : Message Key → Type 0) (ms : List (Message Key)) (m : Message Key) → AllByRecursion P ms → P m → AllByRecursion P (ms ++ m ∷ [])
all_more P [] m h k = (k, tt)
all_more P (x ∷ xs) m h k = (h.0, all_more P xs m h.1 k)

pub bound_items : (b : Binding Key) (q : Waiting (Message Key)) → b ≡ Bound q → messages_in b ≡ q.items
bound_items b q e = ap messages_in e

-- what the new message has to be
pub record IsAsked (size : ℕ) (r : Router) (q : Waiting (Message Key)) (m : Message Key) (links : List (Key × Link)) (peers : BTreeMap ℕ Key) (x : Envelope) : Type 0 where
  pub bound : r.messenger.binding ≡ Bound q
  pub there : x.queue ≡ queue.Router r.number
  pub is : message_item r.channels.items m ≡ bare_item x
  pub proper : IsProper size m
  pub no_list : subscription_in m ≡ []
  pub single : (key : Key) (c d : ℕ) → get nat_cmp peers c ≡ Some key → get nat_cmp peers d ≡ Some key → c ≡ d
  pub turns : (k : Key) → IsInTurn size peers k (link_of key_cmp links k) (said_of k q.items ++ says k m)
  pub frames : (b : Bool) (conn : ℕ) → frames_of peers links b conn ≡ frames_of r.peers r.actor.links b conn

said_last : (k : Key) (ms : List (Message Key)) (m : Message Key) → said_of k (ms ++ m ∷ []) ≡ said_of k ms ++ says k m
said_last k ms m = flat_map-append (says k) ms (m ∷ []) ∙ ap (λ l. said_of k ms ++ l) (append-nil (says k m))

sound_asked :
    (size : ℕ) (r : Router) (q : Waiting (Message Key)) (m : Message Key) (links : List (Key × Link)) (peers : BTreeMap ℕ Key) (names : Board Name) (x : Envelope)
    → IsSound size r → IsAsked size r q m links peers x → IsSound size (asked r q m links peers names)
sound_asked size r q m links peers names x s a =
    let items = bound_items r.messenger.binding q a.bound in
    record {
      proper = all_more (IsProper size) q.items m (subst (AllByRecursion (IsProper size)) items s.proper) a.proper;
      turns = λ k. subst (IsInTurn size peers k (link_of key_cmp links k)) (sym (said_last k q.items m)) (a.turns k);
      single = a.single;
      early = λ e. absurd (false≢true (sym e));
      subscriptions = ap (λ l. r.actor.subscriptions ++ (l ++ r.messenger.waiting))
          (flat_map-append subscription_in q.items (m ∷ [])
          ∙ (ap (λ l. flat_map subscription_in q.items ++ (l ++ [])) a.no_list
          ∙ (append-nil (flat_map subscription_in q.items) ∙ ap (flat_map subscription_in) (sym items))))
          ∙ s.subscriptions;
      rings = s.rings;
      channels = s.channels;
      distinct = s.distinct;
      numbered = s.numbered;
    }

other_router : (n : ℕ) (q : Queue) (T : Type 0) → same_queue (queue.Router n) q ≡ false → (xs ys : List T) → xs ≡ xs ++ cond (same_queue (queue.Router n) q) ys []
other_router n q T h xs ys = sym (ap (λ b. xs ++ cond b ys []) h ∙ append-nil xs)

each_asked :
    (size : ℕ) (r : Router) (q : Waiting (Message Key)) (m : Message Key) (links : List (Key × Link)) (peers : BTreeMap ℕ Key) (names : Board Name) (x : Envelope) → IsAsked size r q m links peers x
    → (k : Queue) → is_routers r.number k ≡ true → items_of (asked r q m links peers names) k ≡ items_of r k ++ cond (same_queue (queue.Router r.number) k) (bare_item x ∷ []) []
each_asked size r q m links peers names x a (queue.Router n) own =
    map-append (message_item r.channels.items) q.items (m ∷ [])
    ∙ (ap (λ l. map (message_item r.channels.items) l ++ message_item r.channels.items m ∷ []) (sym (bound_items r.messenger.binding q a.bound))
    ∙ (ap (λ i. map (message_item r.channels.items) (messages_in r.messenger.binding) ++ i ∷ []) a.is
    ∙ ap (λ b. map (message_item r.channels.items) (messages_in r.messenger.binding) ++ cond b (bare_item x ∷ []) []) (sym (same_router r.number n own))))
each_asked size r q m links peers names x a (queue.Peers n c) own = sym (append-nil (items_of r (queue.Peers n c)))
each_asked size r q m links peers names x a (queue.High n c) own = ap (map frame_item) (a.frames true c) ∙ sym (append-nil (items_of r (queue.High n c)))
each_asked size r q m links peers names x a (queue.Low n c) own = ap (map frame_item) (a.frames false c) ∙ sym (append-nil (items_of r (queue.Low n c)))
each_asked size r q m links peers names x a _ own = absurd (false≢true own)

pub Holds-asked :
    (size : ℕ) (r : Router) (q : Waiting (Message Key)) (m : Message Key) (links : List (Key × Link)) (peers : BTreeMap ℕ Key) (names : Board Name) (x : Envelope) (items : List Envelope)
    → Holds size r items → IsAsked size r q m links peers x → Agrees r.number label (held names) (items ++ x ∷ []) → Holds size (asked r q m links peers names) (items ++ x ∷ [])
Holds-asked size r q m links peers names x items h a named = record {
  sound = sound_asked size r q m links peers names x h.sound a;
  names = named;
  each = Agrees-push r.number bare_item (items_of r) (items_of (asked r q m links peers names)) items x h.each
      (λ k own. each_asked size r q m links peers names x a k own ∙ ap (λ p. items_of r k ++ cond (same_queue p k) (bare_item x ∷ []) []) (sym a.there));
}

-- ---- a connection with a stranger

-- the peers with one more
abbrev pub HasPeer : BTreeMap ℕ Key → BTreeMap ℕ Key → ℕ → Key → Type 0
HasPeer peers more conn key = (c : ℕ) → get nat_cmp more c ≡ cond (is_eq (nat_cmp conn c)) (Some key) (get nat_cmp peers c)

is_conn : (conn c : ℕ) → is_eq (nat_cmp conn c) ≡ (conn == c)
is_conn conn c = grind (arith, nat_tests)

more_up :
    (r : Router) (more : BTreeMap ℕ Key) (conn : ℕ) (key : Key) → IsStranger r conn key → HasPeer r.peers more conn key
    → (c : ℕ) (k : Key) → get nat_cmp r.peers c ≡ Some k → get nat_cmp more c ≡ Some k
more_up r more conn key h put c k at =
    put c
    ∙ (ap (λ b. cond b (Some key) (get nat_cmp r.peers c)) (is_conn conn c)
    ∙ ((elim (conn == c) as (λ b. (conn == c) ≡ b → cond b (Some key) (get nat_cmp r.peers c) ≡ Some k) [
      | true ↦ λ t. let same : conn ≡ c = grind (arith, nat_tests) in let e : None ≡ Some k = sym (ap (get nat_cmp r.peers) (sym same) ∙ h.no_conn) ∙ at in cc
      | false ↦ λ t. at
    ]) refl))

-- the connection of a key is the new one, or was known
more_from :
    (r : Router) (more : BTreeMap ℕ Key) (conn : ℕ) (key k : Key) (c : ℕ) → HasPeer r.peers more conn key → get nat_cmp more c ≡ Some k
    → ((conn ≡ c) × (key ≡ k)) ⊎ (get nat_cmp r.peers c ≡ Some k)
more_from r more conn key k c put at =
    (elim (conn == c) as (λ b. (conn == c) ≡ b → cond b (Some key) (get nat_cmp r.peers c) ≡ Some k → ((conn ≡ c) × (key ≡ k)) ⊎ (get nat_cmp r.peers c ≡ Some k)) [
      | true ↦ λ t e. inl (grind (arith, nat_tests), cc)
      | false ↦ λ t e. inr e
    ]) refl (sym (put c ∙ ap (λ b. cond b (Some key) (get nat_cmp r.peers c)) (is_conn conn c)) ∙ at)

more_single :
    (size : ℕ) (r : Router) (more : BTreeMap ℕ Key) (conn : ℕ) (key : Key) → IsSound size r → IsStranger r conn key → HasPeer r.peers more conn key
    → (k : Key) (c d : ℕ) → get nat_cmp more c ≡ Some k → get nat_cmp more d ≡ Some k → c ≡ d
more_single size r more conn key s h put k c d at to =
    elim (more_from r more conn key k c put at) [
      | inl a ↦ elim (more_from r more conn key k d put to) [
        | inl b ↦ sym a.0 ∙ b.0
        | inr b ↦ absurd (h.no_key d (b ∙ ap Some (sym a.1)))
      ]
      | inr a ↦ elim (more_from r more conn key k d put to) [
        | inl b ↦ absurd (h.no_key c (a ∙ ap Some (sym b.1)))
        | inr b ↦ s.single k c d a b
      ]
    ]

more_frames :
    (size : ℕ) (r : Router) (more : BTreeMap ℕ Key) (conn : ℕ) (key : Key) → IsSound size r → IsStranger r conn key → HasPeer r.peers more conn key
    → (b : Bool) (c : ℕ) → frames_of more r.actor.links b c ≡ frames_of r.peers r.actor.links b c
more_frames size r more conn key s h put b c =
    ap (λ o. frames_in b (link_to r.actor.links c o)) (put c ∙ ap (λ t. cond t (Some key) (get nat_cmp r.peers c)) (is_conn conn c))
    ∙ ((elim (conn == c) as (λ t. (conn == c) ≡ t → frames_in b (link_to r.actor.links c (cond t (Some key) (get nat_cmp r.peers c))) ≡ frames_of r.peers r.actor.links b c) [
      | true ↦ λ t.
          let same : conn ≡ c = grind (arith, nat_tests) in
          unknown_frames size r.peers key (link_of key_cmp r.actor.links key) (said_of key (messages_in r.messenger.binding)) b c h.no_key (s.turns key)
          ∙ sym (ap (λ o. frames_in b (link_to r.actor.links c o)) (ap (get nat_cmp r.peers) (sym same) ∙ h.no_conn))
      | false ↦ λ t. refl
    ]) refl)

more_same :
    (r : Router) (more : BTreeMap ℕ Key) (conn : ℕ) (key k : Key) → IsStranger r conn key → HasPeer r.peers more conn key → (k.0 == key.0) ≡ false → AreSame r.peers more k
more_same r more conn key k h put other = record {
  up = λ c at. more_up r more conn key h put c k at;
  down = λ c at.
      elim (more_from r more conn key k c put at) [
        | inl a ↦ absurd (false≢true (sym other ∙ (ap (λ (j : Key). k.0 == j.0) a.1 ∙ (let e : (k.0 == k.0) ≡ true = grind (arith, nat_tests) in e))))
        | inr a ↦ a
      ];
}

more_turns :
    (size : ℕ) (r : Router) (more : BTreeMap ℕ Key) (q : Waiting (Message Key)) (conn : ℕ) (key : Key) → IsSound size r → IsStranger r conn key → HasPeer r.peers more conn key
    → r.messenger.binding ≡ Bound q → get nat_cmp more conn ≡ Some key
    → (k : Key) → IsInTurn size more k (link_of key_cmp r.actor.links k) (said_of k q.items ++ cond (k.0 == key.0) (Some conn ∷ []) [])
more_turns size r more q conn key s h put bound now k =
    let old = λ (j : Key). subst (IsInTurn size r.peers j (link_of key_cmp r.actor.links j)) (ap (said_of j) (bound_items r.messenger.binding q bound)) (s.turns j) in
    (elim (k.0 == key.0) as (λ b. (k.0 == key.0) ≡ b → IsInTurn size more k (link_of key_cmp r.actor.links k) (said_of k q.items ++ cond b (Some conn ∷ []) [])) [
      | true ↦ λ t.
          subst (λ (x : Key). IsInTurn size more x (link_of key_cmp r.actor.links x) (said_of x q.items ++ Some conn ∷ [])) (sym (key_from k key t))
          (turn_readied size r.peers more key (link_of key_cmp r.actor.links key) (said_of key q.items) conn h.no_key now (old key))
      | false ↦ λ t.
          subst (IsInTurn size more k (link_of key_cmp r.actor.links k)) (sym (append-nil (said_of k q.items)))
          (turn_moved size r.peers more k (link_of key_cmp r.actor.links k) (said_of k q.items) (more_same r more conn key k h put t) (old k))
    ]) refl

pub more_here : (peers more : BTreeMap ℕ Key) (conn : ℕ) (key : Key) → HasPeer peers more conn key → get nat_cmp more conn ≡ Some key
more_here peers more conn key put = put conn ∙ ap (λ b. cond b (Some key) (get nat_cmp peers conn)) (let e : is_eq (nat_cmp conn conn) ≡ true = grind (arith, nat_tests) in e)

-- a known connection has not ended, where the new one has not
pub more_ended :
    (ended : ℕ → Bool) (r : Router) (more : BTreeMap ℕ Key) (conn : ℕ) (key : Key) → HasPeer r.peers more conn key → ended conn ≡ false
    → AreEnded ended r.peers r.actor.links → AreEnded ended more r.actor.links
more_ended ended r more conn key put lives h = record {
  relays = h.relays;
  known = λ c k at. elim (more_from r more conn key k c put at) [ inl a ↦ ap ended (sym a.0) ∙ lives | inr a ↦ h.known c k a ];
}

pub Holds-ready :
    (size : ℕ) (r : Router) (q : Waiting (Message Key)) (more : BTreeMap ℕ Key) (names : Board Name) (entry place conn : ℕ) (key : Key) (items : List Envelope)
    → Holds size r items → r.messenger.binding ≡ Bound q → IsStranger r conn key → HasPeer r.peers more conn key
    → ((k : Queue) → held names k ≡ held r.names k ++ cond (same_queue (queue.Router r.number) k) (record { entry = entry; place = place; tag = None } ∷ []) [])
    → Holds size (asked r q (message.Ready key (empty_lanes size) conn) r.actor.links more names) (items ++ record { entry = entry; place = place; queue = queue.Router r.number; item = item.Ready conn key } ∷ [])
Holds-ready size r q more names entry place conn key items h bound stranger put named =
    let s = h.sound in
    let x : Envelope = record { entry = entry; place = place; queue = queue.Router r.number; item = item.Ready conn key } in
    Holds-asked size r q (message.Ready key (empty_lanes size) conn) r.actor.links more names x items h
    (record {
      bound = bound;
      there = refl;
      is = refl;
      proper = refl;
      no_list = refl;
      single = more_single size r more conn key s stranger put;
      turns = more_turns size r more q conn key s stranger put bound (more_here r.peers more conn key put);
      frames = more_frames size r more conn key s stranger put;
    })
    (Agrees-push r.number label (held r.names) (held names) items x h.names (λ k own. named k))

-- the mailbox of a bound messenger was told
pub Holds-readied :
    (size : ℕ) (r : Router) (desk : Desk Key) (more : BTreeMap ℕ Key) (names : Board Name) (entry place conn : ℕ) (key : Key) (items : List Envelope) (b : Binding Key)
    → r.messenger.binding ≡ b → is_bound b ≡ true
    → desk ≡ record r.messenger { binding = in_mailbox (λ q. appended q (message.Ready key (empty_lanes size) conn)) b }
    → Holds size r items → IsStranger r conn key → HasPeer r.peers more conn key
    → ((k : Queue) → held names k ≡ held r.names k ++ cond (same_queue (queue.Router r.number) k) (record { entry = entry; place = place; tag = None } ∷ []) [])
    → Holds size (record r { messenger = desk; peers = more; names = names }) (items ++ record { entry = entry; place = place; queue = queue.Router r.number; item = item.Ready conn key } ∷ [])
Holds-readied size r desk more names entry place conn key items Unbound is up told h stranger put named = absurd (false≢true up)
Holds-readied size r desk more names entry place conn key items (Bound q) is up told h stranger put named =
    subst (λ (d : Desk Key). Holds size (record r { messenger = d; peers = more; names = names }) (items ++ record { entry = entry; place = place; queue = queue.Router r.number; item = item.Ready conn key } ∷ []))
    (sym told) (Holds-ready size r q more names entry place conn key items h is stranger put named)
Holds-readied size r desk more names entry place conn key items Closed is up told h stranger put named = absurd (false≢true up)

pub bound_appended : (b : Binding Key) (m : Message Key) → is_bound (in_mailbox (λ q. appended q m) b) ≡ is_bound b
bound_appended Unbound m = refl
bound_appended (Bound q) m = refl
bound_appended Closed m = refl

pub places_appended : (k : ℕ) (b : Binding Key) (m : Message Key) → HasPlaces k b → HasPlaces k (in_mailbox (λ q. appended q m) b)
places_appended k Unbound m h = h
places_appended k (Bound q) m h = h
places_appended k Closed m h = h

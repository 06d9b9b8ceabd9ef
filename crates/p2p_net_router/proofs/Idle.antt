-- The link of a connection that may end: it is open, and nothing is said of its key.
use Rattle.std.proofs.Common.{◌≡◌, ℕ, Bool, true, false, cond, List, [], ◌∷◌, refl, ap, sym, ◌∙◌, arith, Option, Some, None}
use Rattle.std.specs.Prelude.{filter, map, ◌==◌, ◌||◌}
use Rattle.std.specs.List.{list_any}
use Rattle.std.specs.BTreeMap.{BTreeMap, get}
use Rattle.std.specs.Ordering.{nat_cmp}
use Rattle.std.proofs.lemmas.Bool.Decides.{nat_tests}
use Rattle.std.proofs.lemmas.Bool.{false≢true}
use Rattle.std.proofs.lemmas.List.Folds.{list_any-append}
use Rattle.p2p_base.specs.declared.key.Key.{Key}
use Rattle.p2p_router.specs.Routing.{link_of}
use Rattle.p2p_router.specs.declared.link.Link.{Link}
use Rattle.p2p_router.specs.declared.message.Message.{Message}
use Rattle.p2p_router.specs.declared.message.Message.TheVariants as message
use Rattle.p2p_log.specs.declared.queue.Queue.TheVariants as queue
use Rattle.p2p_log.specs.declared.item.Item.{Item}
use Rattle.p2p_log.specs.declared.item.Item.TheVariants as item
use Rattle.p2p_log.specs.declared.item.Envelope.{Envelope}
use Rattle.p2p_log.specs.Lines.{stands_in}
use Rattle.p2p_net_router.specs.Ends.{IsIdle, readies, tells_ready}
use Rattle.p2p_net_router.specs.Holds.{Holds}
use Rattle.p2p_net_router.specs.Items.{key_cmp, message_item, messages_in}
use Rattle.p2p_net_router.specs.Names.{bare, bare_item}
use Rattle.p2p_net_router.specs.Sound.{IsOpen, IsAwaited, IsInTurn, says, said_of}
use Rattle.p2p_net_router.specs.declared.router.Router.{Router}
use Rattle.p2p_net_router.proofs.Building.{own_peers as own_queue}

-- whether it is said that this connection is ready
abbrev pub names_conn : ℕ → Option ℕ → Bool
names_conn conn None = false
names_conn conn (Some c) = c == conn

pub ready_bare : (conn : ℕ) (i : Item) → readies conn (bare i) ≡ readies conn i
ready_bare conn (item.Content c f p s t) = refl
ready_bare conn (item.Frame c f) = refl
ready_bare conn _ = refl

left_of : (a b : Bool) → (a || b) ≡ false → a ≡ false
left_of true b h = h
left_of false b h = refl

right_of : (a b : Bool) → (a || b) ≡ false → b ≡ false
right_of true b h = absurd (false≢true (sym h))
right_of false b h = h

-- a message that does not tell that a connection is ready does not say so of a key
says_none : (key : Key) (conn : ℕ) (channels : List ℕ) (m : Message Key) → readies conn (message_item channels m) ≡ false → list_any (names_conn conn) (says key m) ≡ false
says_none key conn channels (message.Ready k relay c) h =
    elim (key.0 == k.0) as (λ b. list_any (names_conn conn) (cond b (Some c ∷ []) []) ≡ false) [ true ↦ ap (λ b. b || false) h | false ↦ refl ]
says_none key conn channels (message.Release k) h =
    elim (key.0 == k.0) as (λ b. list_any (names_conn conn) (cond b (None ∷ []) []) ≡ false) [ true ↦ refl | false ↦ refl ]
says_none key conn channels (message.Content whom e b) h = refl
says_none key conn channels (message.SubscribePeers s) h = refl

said_none :
    (key : Key) (conn : ℕ) (channels : List ℕ) (ms : List (Message Key)) (line : List Envelope)
    → map (message_item channels) ms ≡ map bare_item line → list_any (tells_ready conn) line ≡ false → list_any (names_conn conn) (said_of key ms) ≡ false
said_none key conn channels [] line same h = refl
said_none key conn channels (m ∷ ms) [] same h = cc
said_none key conn channels (m ∷ ms) (x ∷ xs) same h =
    let first : message_item channels m ≡ bare_item x = cc in
    let later : map (message_item channels) ms ≡ map bare_item xs = cc in
    let own : readies conn (message_item channels m) ≡ false = ap (readies conn) first ∙ (ready_bare conn x.item ∙ left_of (tells_ready conn x) (list_any (tells_ready conn) xs) h) in
    list_any-append (names_conn conn) (says key m) (said_of key ms)
    ∙ (ap (λ b. b || list_any (names_conn conn) (said_of key ms)) (says_none key conn channels m own)
    ∙ said_none key conn channels ms xs later (right_of (tells_ready conn x) (list_any (tells_ready conn) xs) h))

-- the link of the connection
pub record IsReleasable (size : ℕ) (peers : BTreeMap ℕ Key) (key : Key) (o : Option Link) (conn : ℕ) (said : List (Option ℕ)) : Type 0 where
  pub link : Link
  pub linked : o ≡ Some link
  pub conn_is : link.conn ≡ conn
  pub lanes : IsOpen size link.relay
  pub silent : said ≡ []

not_awaited :
    (peers : BTreeMap ℕ Key) (key : Key) (conn : ℕ) (said : List (Option ℕ)) → ((c d : ℕ) → get nat_cmp peers c ≡ Some key → get nat_cmp peers d ≡ Some key → c ≡ d)
    → get nat_cmp peers conn ≡ Some key → list_any (names_conn conn) said ≡ false → IsAwaited peers key said → ⊥
not_awaited peers key conn [] single known h a = a conn known
not_awaited peers key conn (Some c ∷ []) single known h a =
    let same : c ≡ conn = single c conn a known in
    let it : (c == conn) ≡ true = grind (arith, nat_tests) in
    false≢true (sym (left_of (c == conn) false h) ∙ it)
not_awaited peers key conn (Some c ∷ o ∷ said) single known h a = a
not_awaited peers key conn (None ∷ said) single known h a = a

releasable_by :
    (size : ℕ) (peers : BTreeMap ℕ Key) (key : Key) (o : Option Link) (conn : ℕ) (said : List (Option ℕ)) → ((c d : ℕ) → get nat_cmp peers c ≡ Some key → get nat_cmp peers d ≡ Some key → c ≡ d)
    → get nat_cmp peers conn ≡ Some key → list_any (names_conn conn) said ≡ false → IsInTurn size peers key o said → IsReleasable size peers key o conn said
releasable_by size peers key None conn said single known h t = absurd (not_awaited peers key conn said single known h t)
releasable_by size peers key (Some l) conn [] single known h t = record { link = l; linked = refl; conn_is = single l.conn conn t.1 known; lanes = t.0; silent = refl }
releasable_by size peers key (Some l) conn (None ∷ said) single known h t = absurd (not_awaited peers key conn said single known h t.1)
releasable_by size peers key (Some l) conn (Some c ∷ said) single known h t = absurd t

-- a connection that may end is linked so
pub releasable :
    (size : ℕ) (r : Router) (items : List Envelope) (conn : ℕ) (key : Key) → Holds size r items → IsIdle r items conn key
    → IsReleasable size r.peers key (link_of key_cmp r.actor.links key) conn (said_of key (messages_in r.messenger.binding))
releasable size r items conn key h i =
    releasable_by size r.peers key (link_of key_cmp r.actor.links key) conn (said_of key (messages_in r.messenger.binding)) (h.sound.single key) i.known
    (said_none key conn r.channels.items (messages_in r.messenger.binding) (filter (stands_in (queue.Router r.number)) items) (h.each (queue.Router r.number) (own_queue r.number)) i.routed)
    (h.sound.turns key)

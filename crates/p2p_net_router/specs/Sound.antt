-- What a router keeps true of itself.
use Rattle.std.specs.Prelude.{◌≡◌, ℕ, zero, suc, ◌<◌, ◌≤◌, true, false, ◌==◌, cond, List, [], ◌∷◌, ◌++◌, length, flat_map, Option, Some, None}
use Rattle.std.specs.List.{AllByRecursion, list_any}
use Rattle.std.specs.BTreeMap.{BTreeMap, get}
use Rattle.std.specs.Ordering.{nat_cmp}
use Rattle.p2p_base.specs.Queue.{Queue as Waiting}
use Rattle.p2p_base.specs.declared.key.Key.{Key}
use Rattle.p2p_flow.specs.Lanes.{Lanes, empty_lanes}
use Rattle.p2p_flow.specs.declared.plain.Recipients.{Recipients}
use Rattle.p2p_flow.specs.declared.plain.Recipients.TheVariants as to
use Rattle.p2p_wire.specs.declared.encoded.EncodedData.{EncodedData}
use Rattle.p2p_router.specs.Messenger.{is_bound}
use Rattle.p2p_router.specs.Routing.{link_of}
use Rattle.p2p_router.specs.declared.link.Link.{Link}
use Rattle.p2p_router.specs.declared.message.Message.{Message}
use Rattle.p2p_router.specs.declared.message.Message.TheVariants as message
use Rattle.p2p_net_router.specs.declared.router.Router.{Router}
use Rattle.p2p_net_router.specs.Items.{key_cmp, channel_of, messages_in}

-- recipients that are named
abbrev pub AreNamed : Recipients Key → Type 0
AreNamed to.All = ⊥
AreNamed (to.Some keys) = Unit {0}
AreNamed (to.One key) = Unit {0}

-- a message that may come: one of a connection that is ready has an empty relay, and content goes to named recipients
abbrev pub IsProper : ℕ → Message Key → Type 0
IsProper size (message.Ready peer relay conn) = relay ≡ empty_lanes size
IsProper size (message.Release peer) = Unit {0}
IsProper size (message.Content whom encoded priority) = AreNamed whom
IsProper size (message.SubscribePeers s) = Unit {0}

-- what a message says of a key: that this connection of it is ready, or that it has none
abbrev pub says : Key → Message Key → List (Option ℕ)
says key (message.Ready peer relay conn) = cond (key.0 == peer.0) (Some conn ∷ []) []
says key (message.Release peer) = cond (key.0 == peer.0) (None ∷ []) []
says key (message.Content whom encoded priority) = []
says key (message.SubscribePeers s) = []

-- what these messages say of it, in order
abbrev pub said_of : Key → List (Message Key) → List (Option ℕ)
said_of key ms = flat_map (says key) ms

-- both lanes have this size, and are open
pub record IsOpen (size : ℕ) (l : Lanes EncodedData) : Type 0 where
  pub high_size : l.high.capacity ≡ size
  pub low_size : l.low.capacity ≡ size
  pub high_open : l.high.closed ≡ false
  pub low_open : l.low.closed ≡ false

-- both lanes are closed, and hold nothing
pub record IsSpent (l : Lanes EncodedData) : Type 0 where
  pub high_closed : l.high.closed ≡ true
  pub low_closed : l.low.closed ≡ true
  pub high_empty : l.high.items ≡ []
  pub low_empty : l.low.items ≡ []

-- no connection is known by a key
abbrev pub IsUnknown : BTreeMap ℕ Key → Key → Type 0
IsUnknown peers key = (c : ℕ) → get nat_cmp peers c ≡ Some key → ⊥

-- of a key without a link this is said: nothing, where no connection is known by it, or that the one that is known is ready
abbrev pub IsAwaited : BTreeMap ℕ Key → Key → List (Option ℕ) → Type 0
IsAwaited peers key [] = IsUnknown peers key
IsAwaited peers key (Some c ∷ []) = get nat_cmp peers c ≡ Some key
IsAwaited peers key (Some c ∷ o ∷ said) = ⊥
IsAwaited peers key (None ∷ said) = ⊥

-- and of one with a link: nothing, where it is open and its connection is known by the key, or that it is released, where it is
-- closed, and then what is said without it
abbrev pub IsInTurn : ℕ → BTreeMap ℕ Key → Key → Option Link → List (Option ℕ) → Type 0
IsInTurn size peers key None said = IsAwaited peers key said
IsInTurn size peers key (Some l) [] = IsOpen size l.relay × (get nat_cmp peers l.conn ≡ Some key)
IsInTurn size peers key (Some l) (None ∷ said) = IsSpent l.relay × IsAwaited peers key said
IsInTurn size peers key (Some l) (Some c ∷ said) = ⊥

-- an open ring of one list
pub record IsRing (l : Waiting (List Key)) : Type 0 where
  pub one : l.capacity ≡ 1
  pub within : length l.items ≤ 1
  pub unclosed : l.closed ≡ false

abbrev pub subscription_in : Message Key → List ℕ
subscription_in (message.SubscribePeers s) = s ∷ []
subscription_in _ = []

-- the numbers from n on, so many
abbrev pub numbers_from : ℕ → ℕ → List ℕ
numbers_from n zero = []
numbers_from n (suc k) = n ∷ numbers_from (suc n) k

-- no two of these numbers are the same
abbrev pub AreDistinct : List ℕ → Type 0
AreDistinct [] = Unit {0}
AreDistinct (c ∷ cs) = (list_any (λ d. c == d) cs ≡ false) × AreDistinct cs

-- the number of a channel's subscription is its place; a channel that is none of these has no subscription
abbrev pub IsNumber : List ℕ → ℕ → Option ℕ → Type 0
IsNumber channels c None = list_any (λ d. d == c) channels ≡ false
IsNumber channels c (Some s) = (s < length channels) × (channel_of channels s ≡ c)

pub record IsSound (size : ℕ) (r : Router) : Type 0 where
  -- what the router is told may come
  pub proper : AllByRecursion (IsProper size) (messages_in r.messenger.binding)
  -- and is in turn
  pub turns : (key : Key) → IsInTurn size r.peers key (link_of key_cmp r.actor.links key) (said_of key (messages_in r.messenger.binding))
  -- a key has one connection
  pub single : (key : Key) (c d : ℕ) → get nat_cmp r.peers c ≡ Some key → get nat_cmp r.peers d ≡ Some key → c ≡ d
  -- without a mailbox nothing was taken
  pub early : is_bound r.messenger.binding ≡ false → r.actor.subscriptions ≡ []
  -- each subscription is kept, told of, or waits, in order
  pub subscriptions : r.actor.subscriptions ++ (flat_map subscription_in (messages_in r.messenger.binding) ++ r.messenger.waiting) ≡ numbers_from 0 (length r.messenger.lists)
  pub rings : AllByRecursion IsRing r.messenger.lists
  -- each has a channel of its own
  pub channels : length r.channels.items ≡ length r.messenger.lists
  pub distinct : AreDistinct r.channels.items
  -- and the map knows them
  pub numbered : (c : ℕ) → IsNumber r.channels.items c (get nat_cmp r.subscriptions c)

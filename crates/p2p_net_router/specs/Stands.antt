-- When a router stands for a log.
use Rattle.std.specs.Prelude.{◌≡◌, ◌==◌, ℕ, true, false, List, [], ◌∷◌, ◌++◌, length, map}
use Rattle.std.specs.List.{AllByRecursion}
use Rattle.p2p_base.specs.declared.key.Key.{Key}
use Rattle.p2p_router.specs.Connections.{IsIndexed}
use Rattle.p2p_router.specs.Messenger.{is_bound}
use Rattle.p2p_router.specs.declared.messenger.Binding.{Binding}
use Rattle.p2p_router.specs.declared.messenger.Binding.TheVariants.{Unbound, Bound, Closed}
use Rattle.p2p_log.specs.declared.config.Config.{Config}
use Rattle.p2p_log.specs.declared.entry.Entry.{Entry}
use Rattle.p2p_log.specs.declared.queue.Queue.{Queue}
use Rattle.p2p_log.specs.declared.queue.Queue.TheVariants as queue
use Rattle.p2p_log.specs.declared.item.Item.{Item}
use Rattle.p2p_log.specs.declared.item.Item.TheVariants as item
use Rattle.p2p_log.specs.declared.item.Envelope.{Envelope}
use Rattle.p2p_log.specs.QueueCode.{same_queue}
use Rattle.p2p_net_router.specs.Names.{is_routers}
use Rattle.p2p_log.specs.declared.event.Rate.{Rate}
use Rattle.p2p_log.specs.declared.event.Act.TheVariants as act
use Rattle.p2p_log.specs.Lines.{live}
use Rattle.p2p_log_rules.specs.Connections.{ends_connection, is_ended}
use Rattle.p2p_log_rules.specs.Facts.{channels, is_up, registers_at, turns, routes, subscribers}
use Rattle.p2p_log_rules.specs.Effect.{mailbox_size_at, router_capacity}
use Rattle.p2p_net_router.specs.Ends.{AreEnded}
use Rattle.p2p_net_router.specs.Holds.{Holds, routes_in, channels_told}
use Rattle.p2p_net_router.specs.Items.{key_cmp}
use Rattle.p2p_net_router.specs.declared.router.Router.{Router}

-- a mailbox has so many ready places, and is never closed
abbrev pub HasPlaces : ℕ → Binding Key → Type 0
HasPlaces size Unbound = Unit {0}
HasPlaces size (Bound q) = q.capacity ≡ size
HasPlaces size Closed = ⊥

-- the entry registers a channel at a node, and moves nothing
pub record IsRegistration (e : Entry) (n channel : ℕ) : Type 0 where
  pub rate : Rate
  pub is : e.event.act ≡ act.Register channel n rate
  pub takes : e.takes ≡ []
  pub puts : e.puts ≡ []
  pub ends : e.ends ≡ []

-- the entry leaves alone what a node's router has of its connections, and which channels want lists of peers
pub record RoutesNothing (log : List Entry) (e : Entry) (n : ℕ) : Type 0 where
  pub routes_stay : routes (log ++ e ∷ []) n ≡ routes log n
  pub subscribers_stay : subscribers (log ++ e ∷ []) n ≡ subscribers log n

-- the entry is none of the steps of a node's router and of its registrations, neither starts nor stops it, and ends none of its connections
pub record IsBeside (configs : List Config) (log : List Entry) (e : Entry) (n : ℕ) : Type 0 where
  pub no_step : RoutesNothing log e n
  pub no_channel : registers_at configs n e.event.act ≡ []
  pub no_turn : turns n e.event.act ≡ false
  pub no_end : (conn : ℕ) → ends_connection n conn log e ≡ false

-- none of these puts goes to the queue
abbrev pub AreAway : Queue → List (Queue × Item) → Type 0
AreAway q puts = AllByRecursion (λ (x : Queue × Item). same_queue q x.0 ≡ false) puts

-- of what the entry puts, one tells a node's router that a connection is ready, and the others are not for it
pub record IsReadied (e : Entry) (n place conn : ℕ) (key : Key) : Type 0 where
  pub takes : e.takes ≡ []
  pub ends : e.ends ≡ []
  pub before : List (Queue × Item)
  pub after : List (Queue × Item)
  pub puts : e.puts ≡ before ++ (queue.Router n, item.Ready conn key) ∷ after
  pub long : length before ≡ place
  pub away : (q : Queue) → is_routers n q ≡ true → AreAway q before × AreAway q after

-- the entry ends this connection of a node and no other, is none of its router's steps and of its registrations, and neither starts nor stops it:
-- it puts first that the key is released, and nothing else for the router
pub record IsEnding (configs : List Config) (log : List Entry) (e : Entry) (n conn : ℕ) (key : Key) : Type 0 where
  pub no_step : RoutesNothing log e n
  pub no_channel : registers_at configs n e.event.act ≡ []
  pub no_turn : turns n e.event.act ≡ false
  pub ends : (c : ℕ) → ends_connection n c log e ≡ (c == conn)
  pub rest : List (Queue × Item)
  pub puts : e.puts ≡ (queue.Router n, item.Release key) ∷ rest
  pub away : (q : Queue) → is_routers n q ≡ true → AreAway q rest

-- a router has these items in its queues, its actor has found memory so far and finds the relay of each link by its connection, and the rest is
-- as the log says
pub record StandsOver (configs : List Config) (log : List Entry) (r : Router) (items : List Envelope) : Type 0 where
  pub holds : Holds (mailbox_size_at configs r.number) r items
  pub routes_are : routes_in r.actor.links ≡ routes log r.number
  pub told : channels_told r ≡ subscribers log r.number
  pub registered : r.channels.items ≡ map (λ (c : ℕ × ℕ). c.0) (channels configs log r.number)
  pub bound : is_bound r.messenger.binding ≡ is_up log r.number
  pub places : HasPlaces (router_capacity configs log r.number) r.messenger.binding
  pub ended : AreEnded (is_ended log r.number) r.peers r.actor.links
  pub works : r.actor.failed ≡ false
  pub indexed : IsIndexed key_cmp r.actor

-- and these are what stands there by the log
abbrev pub StandsFor : List Config → List Entry → Router → Type 0
StandsFor configs log r = StandsOver configs log r (live log)

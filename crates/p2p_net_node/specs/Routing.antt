-- What the calls of a node's router come to, for every log that it stands for.
use Rattle.std.specs.Prelude.{◌≡◌, ℕ, Bool, nat_le, List, [], ◌∷◌, ◌++◌, length, map, filter, take, IsTrue, true, false, Option, None, Some, if◌then◌else◌}
use Rattle.std.specs.BTreeMap.{get}
use Rattle.std.specs.Ordering.{nat_cmp, is_eq}
use Rattle.p2p_base.specs.declared.key.Key.{Key}
use Rattle.p2p_log.specs.declared.config.Config.{Config}
use Rattle.p2p_log.specs.declared.queue.Queue.{Queue}
use Rattle.p2p_log.specs.declared.queue.Queue.TheVariants as queue
use Rattle.p2p_log.specs.declared.item.Item.{Item}
use Rattle.p2p_log.specs.declared.item.Item.TheVariants as item
use Rattle.p2p_log.specs.declared.item.Envelope.{Envelope}
use Rattle.p2p_log.specs.declared.entry.Entry.{Entry}
use Rattle.p2p_log.specs.declared.event.Event.{Event}
use Rattle.p2p_log.specs.declared.event.Act.TheVariants as act
use Rattle.p2p_log.specs.Lines.{name_of, stays, stands_in, live, line, named}
use Rattle.p2p_log.specs.Apart.{AreApart}
use Rattle.p2p_log_rules.specs.declared.row.Row.{Row}
use Rattle.p2p_log_rules.specs.Frames.{frame_of}
use Rattle.p2p_log_rules.specs.Facts.{channels, capacity_in, is_up, is_stopped}
use Rattle.p2p_log_rules.specs.Effect.{entry_of, mailbox_size_at, router_capacity, start_row, sent_row, route_oldest}
use Rattle.p2p_router.specs.Messenger.{is_unbound}
use Rattle.p2p_net_router.specs.Batches.{batch_of, all_of, AreKept}
use Rattle.p2p_net_router.specs.Ends.{IsIdle}
use Rattle.p2p_net_router.specs.Holds.{Holds, Adds, IsStranger, after}
use Rattle.p2p_net_router.specs.Names.{is_routers}
use Rattle.p2p_net_router.specs.Peers.{names_taken}
use Rattle.p2p_net_router.specs.Resting.{IsListing}
use Rattle.p2p_net_router.specs.Stands.{StandsFor, StandsOver, IsBeside, IsRegistration, IsReadied, IsEnding, AreAway}
use Rattle.p2p_net_router.specs.Telling.{accepted_reply, refused_reply}
use Rattle.p2p_net_router.specs.declared.router.Router.{Router}
use Rattle.p2p_net_router.specs.declared.telling.Telling.{Telling}
use Rattle.p2p_log_rules.specs.Connections.{is_ended}

-- a channel wants the lists of peers
pub record Subscribes (channel : ℕ) (old new : Router) : Type 0 where
  pub rest : new ≡ record old { messenger = new.messenger; channels = new.channels; subscriptions = new.subscriptions }
  pub stands : (configs : List Config) (log : List Entry) (e : Entry) → StandsFor configs log old → is_stopped log old.number ≡ false → IsTrue (is_unbound old.messenger.binding)
      → IsRegistration e old.number channel → capacity_in (channels configs log old.number) channel ≡ None → StandsFor configs (log ++ e ∷ []) new

-- it starts, with a mailbox of so many places
pub record Starts (entry places : ℕ) (old new : Router) (r : Row) : Type 0 where
  pub rest : new ≡ record old { messenger = new.messenger; names = new.names }
  pub row : (configs : List Config) (log : List Entry) → StandsFor configs log old → is_stopped log old.number ≡ false → r ≡ start_row configs log old.number
  pub stands : (configs : List Config) (log : List Entry) (event : Event) → StandsFor configs log old → is_stopped log old.number ≡ false → length log ≡ entry
      → event.act ≡ act.Start old.number → places ≡ router_capacity configs log old.number → StandsFor configs (log ++ entry_of event r ∷ []) new

-- this connection, with this key, is told of, as the put of this place
pub record Readies (entry place conn size : ℕ) (key : Key) (old new : Router) : Type 0 where
  pub rest : new ≡ record old { messenger = new.messenger; peers = new.peers; names = new.names }
  pub peers : (c : ℕ) → get nat_cmp new.peers c ≡ (if is_eq (nat_cmp conn c) then Some key else get nat_cmp old.peers c)
  pub stands : (configs : List Config) (log : List Entry) (e : Entry) → StandsFor configs log old → length log ≡ entry → size ≡ mailbox_size_at configs old.number
      → is_ended log old.number conn ≡ false → IsStranger old conn key → IsBeside configs log e old.number → IsReadied e old.number place conn key → StandsFor configs (log ++ e ∷ []) new

-- the list of peers that waits for a channel is taken, which has this name
pub record TakesList (c : ℕ) (old new : Router) (o : Option (ℕ × ℕ)) : Type 0 where
  pub name : (configs : List Config) (log : List Entry) (items : List Envelope) → StandsOver configs log old items
      → names_taken o ≡ map name_of (take 1 (filter (stands_in (queue.Peers old.number c)) items))
  pub stands : (configs : List Config) (log : List Entry) (items : List Envelope) → StandsOver configs log old items → AreApart items
      → StandsOver configs log new (filter (stays (names_taken o)) items)
  -- and so it is where its node has stopped
  pub named : (items : List Envelope) → IsListing old items → names_taken o ≡ map name_of (take 1 (filter (stands_in (queue.Peers old.number c)) items))
  pub listing : (items : List Envelope) → IsListing old items → AreApart items → IsListing new (filter (stays (names_taken o)) items)
  pub rest : new ≡ record old { messenger = record old.messenger { lists = new.messenger.lists }; names = new.names }

-- a message for these keys is handed to it
pub record Sends (entry : ℕ) (tells : Telling) (c : ℕ) (priority : Bool) (bytes : List ℕ) (to : List Key) (old new : Router) (r : Row) : Type 0 where
  pub rest : new ≡ record old { messenger = new.messenger; names = new.names }
  pub row : (configs : List Config) (log : List Entry) (items : List Envelope) → StandsOver configs log old items
      → r ≡ sent_row (accepted_reply tells old.number c to) (refused_reply tells old.number c to)
      (is_up log old.number) (nat_le (router_capacity configs log old.number) (length (filter (stands_in (queue.Router old.number)) items)))
      old.number entry c priority (frame_of c bytes) to
  pub stands : (configs : List Config) (log : List Entry) (items : List Envelope) → StandsOver configs log old items → length log ≡ entry
      → StandsOver configs log new (after entry r items)

-- it takes one step
pub record Steps (entry : ℕ) (old new : Router) (r : Row) : Type 0 where
  pub rest : new ≡ record old { messenger = new.messenger; actor = new.actor; names = new.names }
  pub row : (configs : List Config) (log : List Entry) → StandsFor configs log old → r ≡ route_oldest configs log old.number (line log (queue.Router old.number))
  pub others : (configs : List Config) (log : List Entry) (q : Queue) → StandsFor configs log old → is_routers old.number q ≡ false → Adds entry r (live log) q
  pub stands : (configs : List Config) (log : List Entry) (event : Event) → StandsFor configs log old → length log ≡ entry
      → event.act ≡ act.Router old.number → StandsFor configs (log ++ entry_of event r ∷ []) new

-- these frames of a connection are taken, with their names
pub record Batches (conn size : ℕ) (old new : Router) (frames : List ((ℕ × ℕ) × Item)) : Type 0 where
  pub kept : AreKept old new
  pub taken : (places : ℕ) (items : List Envelope) → Holds places old items → AreApart items → frames ≡ map named (batch_of old.number conn size items)
  pub stands : (configs : List Config) (log : List Entry) (e : Entry) → StandsFor configs log old → IsBeside configs log e old.number
      → e.takes ≡ map (λ (f : (ℕ × ℕ) × Item). f.0) frames → e.ends ≡ [] → ((q : Queue) → is_routers old.number q ≡ true → AreAway q e.puts)
      → StandsFor configs (log ++ e ∷ []) new
  pub over : (configs : List Config) (log : List Entry) (items : List Envelope) → StandsOver configs log old items → AreApart items
      → StandsOver configs log new (filter (stays (map name_of (batch_of old.number conn size items))) items)

-- all that wait for a connection are taken, with their names
pub record TakesAll (conn : ℕ) (old new : Router) (frames : List ((ℕ × ℕ) × Item)) : Type 0 where
  pub kept : AreKept old new
  pub taken : (places : ℕ) (items : List Envelope) → Holds places old items → AreApart items → frames ≡ map named (all_of old.number conn items)
  pub over : (configs : List Config) (log : List Entry) (items : List Envelope) → StandsOver configs log old items → AreApart items
      → StandsOver configs log new (filter (stays (map name_of (all_of old.number conn items))) items)

-- this connection, with this key, is released, as the put of this place
pub record Releases (entry place conn : ℕ) (key : Key) (old new : Router) : Type 0 where
  pub peers : (c : ℕ) → get nat_cmp new.peers c ≡ (if is_eq (nat_cmp conn c) then None else get nat_cmp old.peers c)
  pub rest : new ≡ record old { messenger = new.messenger; actor = record old.actor { links = new.actor.links }; peers = new.peers; names = new.names }
  pub over : (configs : List Config) (log : List Entry) (e : Entry) (items : List Envelope) → StandsOver configs log old items → IsIdle old items conn key
      → IsEnding configs log e old.number conn key
      → StandsOver configs (log ++ e ∷ []) new (items ++ record { entry = entry; place = place; queue = queue.Router old.number; item = item.Release key } ∷ [])

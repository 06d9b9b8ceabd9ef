-- What is kept of a router that is emptied as its node stops, and what of it once it is closed.
use Rattle.std.specs.Prelude.{◌≡◌, ℕ, Bool, false, List, ◌++◌, length, map, filter}
use Rattle.std.specs.BTreeMap.{get}
use Rattle.std.specs.List.{AllByRecursion}
use Rattle.std.specs.Ordering.{nat_cmp}
use Rattle.p2p_router.specs.Messenger.{is_bound}
use Rattle.p2p_log.specs.declared.config.Config.{Config}
use Rattle.p2p_log.specs.declared.entry.Entry.{Entry}
use Rattle.p2p_log.specs.declared.queue.Queue.TheVariants as queue
use Rattle.p2p_log.specs.declared.item.Item.{Item}
use Rattle.p2p_log.specs.declared.item.Item.TheVariants as item
use Rattle.p2p_log.specs.declared.item.Envelope.{Envelope}
use Rattle.p2p_log.specs.Lines.{live, stands_in}
use Rattle.p2p_log_rules.specs.Facts.{routes, subscribers}
use Rattle.p2p_log_rules.specs.Effect.{relay_queue}
use Rattle.p2p_net_queues.specs.Board.{held}
use Rattle.p2p_net_router.specs.Holds.{channels_told, routes_in}
use Rattle.p2p_net_router.specs.Items.{lists_in, message_item, messages_in}
use Rattle.p2p_net_router.specs.Names.{Agrees, bare_item, label}
use Rattle.p2p_net_router.specs.Sound.{AreDistinct, IsNumber, IsRing, numbers_from}
use Rattle.p2p_net_router.specs.declared.router.Router.{Router}

-- the router's lists of peers are those of the items, each with its name
pub record IsListing (r : Router) (items : List Envelope) : Type 0 where
  pub rings : AllByRecursion IsRing r.messenger.lists
  -- each has a channel of its own
  pub channels : length r.channels.items ≡ length r.messenger.lists
  pub distinct : AreDistinct r.channels.items
  -- and the map knows them
  pub numbered : (c : ℕ) → IsNumber r.channels.items c (get nat_cmp r.subscriptions c)
  pub names : (c : ℕ) → held r.names (queue.Peers r.number c) ≡ map label (filter (stands_in (queue.Peers r.number c)) items)
  pub lists : (c : ℕ) → map item.Peers (lists_in r.channels.items r.messenger.lists c) ≡ map bare_item (filter (stands_in (queue.Peers r.number c)) items)

abbrev pub IsFrame : Item → Type 0
IsFrame (item.Frame copy frame) = Unit {0}
IsFrame _ = ⊥

-- of a router that is emptied the mailbox and the lists hold these of the items, and frames wait for connections, each by its name
pub record RouterLeft (r : Router) (items : List Envelope) : Type 0 where
  pub listing : IsListing r items
  pub mailbox : map (message_item r.channels.items) (messages_in r.messenger.binding) ≡ map bare_item (filter (stands_in (queue.Router r.number)) items)
  pub frames : (priority : Bool) (conn : ℕ) → AllByRecursion (λ (x : Envelope). IsFrame x.item) (filter (stands_in (relay_queue priority r.number conn)) items)
  pub names : Agrees r.number label (held r.names) items

-- a router that is closed has its lists of peers, and whom it knew, as the log says
pub record RouterRests (configs : List Config) (log : List Entry) (n : ℕ) (r : Router) : Type 0 where
  pub number : r.number ≡ n
  pub unbound : is_bound r.messenger.binding ≡ false
  pub listing : IsListing r (live log)
  pub routes_are : routes_in r.actor.links ≡ routes log n
  pub told : channels_told r ≡ subscribers log n
  -- it had taken the first subscriptions, in order, and these not yet
  pub later : List ℕ
  pub taken : r.actor.subscriptions ++ later ≡ numbers_from 0 (length r.channels.items)

-- When a router holds what stands in the queues of its node.
use Rattle.std.specs.Prelude.{◌≡◌, ℕ, List, [], ◌∷◌, ◌++◌, map, filter, Option, Some, None}
use Rattle.std.specs.BTreeMap.{get}
use Rattle.std.specs.Ordering.{nat_cmp}
use Rattle.p2p_base.specs.declared.key.Key.{Key}
use Rattle.p2p_router.specs.declared.link.Link.{Link}
use Rattle.p2p_log.specs.declared.queue.Queue.{Queue}
use Rattle.p2p_log.specs.declared.item.Item.{Item}
use Rattle.p2p_log.specs.declared.item.Envelope.{Envelope}
use Rattle.p2p_log_rules.specs.declared.row.Row.{Row}
use Rattle.p2p_log.specs.Lines.{name_of, stays, placed, stands_in}
use Rattle.p2p_net_queues.specs.Board.{held}
use Rattle.p2p_net_queues.specs.Rows.{row_goes}
use Rattle.p2p_net_router.specs.Names.{Agrees, label, bare_item}
use Rattle.p2p_net_router.specs.Items.{items_of, channel_of}
use Rattle.p2p_net_router.specs.Sound.{IsSound}
use Rattle.p2p_net_router.specs.declared.router.Router.{Router}

-- the router's queues hold these of the items, each with its name
pub record Holds (size : ℕ) (r : Router) (items : List Envelope) : Type 0 where
  pub sound : IsSound size r
  pub names : Agrees r.number label (held r.names) items
  pub each : Agrees r.number bare_item (items_of r) items

-- the router was told of no connection of this number, and of none with this key
pub record IsStranger (r : Router) (conn : ℕ) (key : Key) : Type 0 where
  pub no_conn : get nat_cmp r.peers conn ≡ None
  pub no_key : (c : ℕ) → get nat_cmp r.peers c ≡ Some key → ⊥

-- a frame that was taken, with its name
abbrev pub frame_taken : Option Envelope → Option ((ℕ × ℕ) × Item)
frame_taken None = None
frame_taken (Some x) = Some (name_of x, x.item)

abbrev pub frame_gone : Option ((ℕ × ℕ) × Item) → List (ℕ × ℕ)
frame_gone None = []
frame_gone (Some t) = t.0 ∷ []

-- the connection of each key, in key order
abbrev pub routes_in : List (Key × Link) → List (ℕ × ℕ)
routes_in links = map (λ (e : Key × Link). (e.0.0, e.1.conn)) links

-- the channels that want lists of peers, in order
abbrev pub channels_told : Router → List ℕ
channels_told r = map (channel_of r.channels.items) r.actor.subscriptions

-- what stands in queues once the row of an entry is done
abbrev pub after : ℕ → Row → List Envelope → List Envelope
after entry row items = filter (stays (row_goes row)) items ++ placed entry 0 row.puts

-- of a queue nothing goes: it holds what stood there, and then what the row puts there
abbrev pub Adds : ℕ → Row → List Envelope → Queue → Type 0
Adds entry row items q = filter (stands_in q) (after entry row items) ≡ filter (stands_in q) items ++ filter (stands_in q) (placed entry 0 row.puts)

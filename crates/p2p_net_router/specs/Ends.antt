-- Which connections have ended, by the relays of a router, and what a connection is that may end.
use Rattle.std.specs.Prelude.{◌≡◌, ℕ, Bool, false, ◌==◌, List, [], filter, Option, None, Some}
use Rattle.std.specs.List.{list_any}
use Rattle.std.specs.BTreeMap.{BTreeMap, get}
use Rattle.std.specs.Ordering.{nat_cmp}
use Rattle.p2p_base.specs.declared.key.Key.{Key}
use Rattle.p2p_flow.specs.Lanes.{Lanes, closed_lanes}
use Rattle.p2p_wire.specs.declared.encoded.EncodedData.{EncodedData}
use Rattle.p2p_router.specs.Routing.{link_of, with_link}
use Rattle.p2p_router.specs.declared.link.Link.{Link}
use Rattle.p2p_log.specs.declared.queue.Queue.TheVariants as queue
use Rattle.p2p_log.specs.declared.item.Item.{Item}
use Rattle.p2p_log.specs.declared.item.Item.TheVariants as item
use Rattle.p2p_log.specs.declared.item.Envelope.{Envelope}
use Rattle.p2p_log.specs.Lines.{stands_in}
use Rattle.p2p_net_router.specs.Items.{key_cmp}
use Rattle.p2p_net_router.specs.declared.router.Router.{Router}

-- whether both lanes are closed
pub record AreClosed (l : Lanes EncodedData) (b : Bool) : Type 0 where
  pub high : l.high.closed ≡ b
  pub low : l.low.closed ≡ b

-- the relay of a link is closed where its connection has ended, and a connection that is known has not ended
pub record AreEnded (ended : ℕ → Bool) (peers : BTreeMap ℕ Key) (links : List (Key × Link)) : Type 0 where
  pub relays : (key : Key) (l : Link) → link_of key_cmp links key ≡ Some l → AreClosed l.relay (ended l.conn)
  pub known : (c : ℕ) (key : Key) → get nat_cmp peers c ≡ Some key → ended c ≡ false

-- the links once the relay of this link of a key was closed
abbrev pub closed_link : Option Link → List (Key × Link) → Key → List (Key × Link)
closed_link None links key = links
closed_link (Some l) links key = with_link key_cmp links key (record { conn = l.conn; relay = closed_lanes l.relay })

abbrev pub readies : ℕ → Item → Bool
readies conn (item.Ready c key) = c == conn
readies conn _ = false

-- whether an item tells that this connection is ready
abbrev pub tells_ready : ℕ → Envelope → Bool
tells_ready conn x = readies conn x.item

-- a connection that is known with this key, of which no frame waits, and of which the router took that it is ready
pub record IsIdle (r : Router) (items : List Envelope) (conn : ℕ) (key : Key) : Type 0 where
  pub known : get nat_cmp r.peers conn ≡ Some key
  pub high : filter (stands_in (queue.High r.number conn)) items ≡ []
  pub low : filter (stands_in (queue.Low r.number conn)) items ≡ []
  pub routed : list_any (tells_ready conn) (filter (stands_in (queue.Router r.number)) items) ≡ false

-- The relay of a connection, found by the connection's number.
use Rattle.std.specs.Prelude.{◌≡◌, ℕ, Bool, true, false, ◌==◌, cond, List, Option, Some, None}
use Rattle.std.specs.declared.cmp.Ordering.{Ordering}
use Rattle.std.specs.BTreeMap.{is_at, insert_entry}
use Rattle.std.specs.Map.{lookup, remove_entry}
use Rattle.std.specs.Ordering.{nat_cmp}
use Rattle.p2p_wire.specs.declared.encoded.EncodedData.{EncodedData}
use Rattle.p2p_flow.specs.Lanes.{Lanes}
use Rattle.p2p_router.specs.declared.link.Link.{Link}
use Rattle.p2p_router.specs.declared.message.Message.{Message}
use Rattle.p2p_router.specs.declared.message.Message.TheVariants as message
use Rattle.p2p_router.specs.Routes.{Routes}
use Rattle.p2p_router.specs.Routing.{link_of, relay_of, with_relay}

-- whether a link is that of a connection
abbrev pub is_over : ℕ → Option Link → Bool
is_over conn None = false
is_over conn (Some l) = l.conn == conn

module _ {P : Type 0} where
  -- the peer that a connection was last ready for
  abbrev pub peer_in : List (ℕ × P) → ℕ → Option P
  peer_in peers conn = lookup (is_at (nat_cmp conn)) peers

  -- the peers once the connection of a link has none
  abbrev pub without_conn : Option Link → List (ℕ × P) → List (ℕ × P)
  without_conn None peers = peers
  without_conn (Some l) peers = remove_entry (is_at (nat_cmp l.conn)) peers

  -- the peers once a connection is ready for one, in place of the link that the peer had
  abbrev pub with_conn : Option Link → List (ℕ × P) → ℕ → P → List (ℕ × P)
  with_conn replaced peers conn peer = insert_entry nat_cmp (without_conn replaced peers) conn peer

  module _ (cmp : P → P → Ordering) where
    abbrev pub peer_over : List (P × Link) → ℕ → Option P → Option P
    peer_over links conn None = None
    peer_over links conn (Some peer) = cond (is_over conn (link_of cmp links peer)) (Some peer) None

    -- the peer that is connected over a connection
    abbrev pub peer_at : Routes P → ℕ → Option P
    peer_at r conn = peer_over r.links conn (peer_in r.peers conn)

    abbrev pub relay_to : List (P × Link) → Option P → Option (Lanes EncodedData)
    relay_to links None = None
    relay_to links (Some peer) = relay_of cmp links peer

    abbrev pub with_relay_to : List (P × Link) → Option P → Lanes EncodedData → List (P × Link)
    with_relay_to links None relay = links
    with_relay_to links (Some peer) relay = with_relay cmp links peer relay

  module _ (cmp : P → P → Ordering) where
    -- the relay of a connection
    abbrev pub relay_at : Routes P → ℕ → Option (Lanes EncodedData)
    relay_at r conn = relay_to cmp r.links (peer_at cmp r conn)

    -- with another relay for a connection
    abbrev pub with_relay_at : Routes P → ℕ → Lanes EncodedData → Routes P
    with_relay_at r conn relay =
        record {
          links = with_relay_to cmp r.links (peer_at cmp r conn) relay;
          peers = r.peers;
          subscriptions = r.subscriptions;
          failed = r.failed;
        }

  module _ (cmp : P → P → Ordering) where
    abbrev pub is_same : P → Option P → Bool
    is_same peer None = false
    is_same peer (Some q) = is_at (cmp peer) q

    -- each connected peer stands at the connection of its link
    abbrev pub StandAtLinks : List (P × Link) → List (ℕ × P) → Type 0
    StandAtLinks links peers =
        (peer : P) (l : Link) → link_of cmp links peer ≡ Some l → is_same peer (peer_in peers l.conn) ≡ true

    -- a connection that is ready is no other peer's
    abbrev pub IsOfOnePeer : List (P × Link) → Option (Message P) → Type 0
    IsOfOnePeer links None = Unit {0}
    IsOfOnePeer links (Some (message.Ready peer relay conn)) =
        (q : P) (l : Link) → link_of cmp links q ≡ Some l → l.conn ≡ conn → is_at (cmp q) peer ≡ true
    IsOfOnePeer links (Some (message.Release peer)) = Unit {0}
    IsOfOnePeer links (Some (message.Content recipients encoded priority)) = Unit {0}
    IsOfOnePeer links (Some (message.SubscribePeers subscription)) = Unit {0}

  module _ (cmp : P → P → Ordering) where
    -- the relay of each connected peer is found by its connection
    abbrev pub IsIndexed : Routes P → Type 0
    IsIndexed r = StandAtLinks cmp r.links r.peers

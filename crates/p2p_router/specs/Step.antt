-- A step of the router: it takes the oldest message, and does what the message says.
use Rattle.std.specs.Prelude.{ℕ, List, [], ◌∷◌, ◌++◌, Option, Some, None, filter}
use Rattle.std.specs.declared.cmp.Ordering.{Ordering}
use Rattle.std.specs.BTreeMap.{is_at, insert_entry}
use Rattle.std.specs.Map.{keys_of, remove_entry}
use Rattle.p2p_router.specs.Connections.{without_conn, with_conn}
use Rattle.p2p_router.specs.Messenger.{Desk, message_taken, is_heard, told_all}
use Rattle.p2p_router.specs.Routes.{Routes}
use Rattle.p2p_router.specs.Routing.{addressed, copies, copies_put, link_of}
use Rattle.p2p_router.specs.declared.link.Link.{Link}
use Rattle.p2p_router.specs.declared.message.Message.{Message}
use Rattle.p2p_router.specs.declared.message.Message.TheVariants as message
use Rattle.p2p_router.specs.declared.stepped.Stepped.{Stepped}
use Rattle.p2p_router.specs.declared.stepped.Stepped.TheVariants as stepped
use Rattle.p2p_router.specs.declared.stepped.Told.{Told}

module _ {P : Type 0} where
  -- those of the subscriptions whose receivers are there
  abbrev pub heard : Desk P → List ℕ → List ℕ
  heard d subscriptions = filter (is_heard d.lists) subscriptions

  -- the list of the connected peers, and to which of these subscriptions it goes
  abbrev pub told_of : Desk P → List (P × Link) → List ℕ → Told P
  told_of d links subscriptions = record { peers = keys_of links; subscriptions = heard d subscriptions }

  -- the subscriptions that are told a list
  abbrev pub told_by : Message P → List ℕ → List ℕ
  told_by (message.Ready peer relay conn) subscriptions = subscriptions
  told_by (message.Release peer) subscriptions = subscriptions
  told_by (message.Content recipients encoded priority) subscriptions = []
  told_by (message.SubscribePeers subscription) subscriptions = subscription ∷ []

  -- the subscriptions that are kept
  abbrev pub kept_by : Desk P → Message P → List ℕ → List ℕ
  kept_by d (message.Ready peer relay conn) subscriptions = heard d subscriptions
  kept_by d (message.Release peer) subscriptions = heard d subscriptions
  kept_by d (message.Content recipients encoded priority) subscriptions = subscriptions
  kept_by d (message.SubscribePeers subscription) subscriptions = subscriptions ++ heard d (subscription ∷ [])

  module _ (cmp : P → P → Ordering) where
    -- the links after a message: a peer that is ready takes the place of its older connection
    abbrev pub links_after : List (P × Link) → Message P → List (P × Link)
    links_after links (message.Ready peer relay conn) =
        insert_entry cmp links peer (record { conn = conn; relay = relay })
    links_after links (message.Release peer) = remove_entry (is_at (cmp peer)) links
    links_after links (message.Content recipients encoded priority) =
        copies_put cmp links encoded priority (addressed links recipients)
    links_after links (message.SubscribePeers subscription) = links

    -- the peers of connections after a message
    abbrev pub peers_after : List (P × Link) → List (ℕ × P) → Message P → List (ℕ × P)
    peers_after links peers (message.Ready peer relay conn) = with_conn (link_of cmp links peer) peers conn peer
    peers_after links peers (message.Release peer) = without_conn (link_of cmp links peer) peers
    peers_after links peers (message.Content recipients encoded priority) = peers
    peers_after links peers (message.SubscribePeers subscription) = peers

  module _ (cmp : P → P → Ordering) where
    -- what the step answers that took a message, which left the messenger as d
    abbrev pub stepped_by : Routes P → Desk P → Message P → Stepped P
    stepped_by r d (message.Ready peer relay conn) = stepped.Ready peer conn (link_of cmp r.links peer)
        (told_of d (links_after cmp r.links (message.Ready peer relay conn)) r.subscriptions)
    stepped_by r d (message.Release peer) =
        stepped.Release peer (told_of d (links_after cmp r.links (message.Release peer)) r.subscriptions)
    stepped_by r d (message.Content recipients encoded priority) =
        stepped.Content encoded (copies cmp r.links encoded priority (addressed r.links recipients))
    stepped_by r d (message.SubscribePeers subscription) =
        stepped.SubscribePeers subscription (told_of d r.links (subscription ∷ []))

    -- the router after that step
    abbrev pub routes_by : Routes P → Desk P → Message P → Routes P
    routes_by r d m = record {
      links = links_after cmp r.links m;
      peers = peers_after cmp r.links r.peers m;
      subscriptions = kept_by d m r.subscriptions;
      failed = r.failed;
    }

    -- the messenger after that step
    abbrev pub desk_by : Routes P → Desk P → Message P → Desk P
    desk_by r d m = told_all d (keys_of (links_after cmp r.links m)) (heard d (told_by m r.subscriptions))

  module _ (cmp : P → P → Ordering) where
    -- what a step answers
    abbrev pub stepped_on : Routes P → Desk P → Option (Message P) → Stepped P
    stepped_on r d None = stepped.Idle
    stepped_on r d (Some m) = stepped_by cmp r (message_taken d) m

    -- the router after a step
    abbrev pub routes_on : Routes P → Desk P → Option (Message P) → Routes P
    routes_on r d None = r
    routes_on r d (Some m) = routes_by cmp r (message_taken d) m

    -- the messenger after a step
    abbrev pub desk_on : Routes P → Desk P → Option (Message P) → Desk P
    desk_on r d None = d
    desk_on r d (Some m) = desk_by cmp r (message_taken d) m

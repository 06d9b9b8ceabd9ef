-- What the tracker put, as items in the queues of its node.
use Rattle.std.specs.Prelude.{ℕ, List, [], ◌∷◌, Option, Some, None, slice_index_or}
use Rattle.std.specs.Option.{option_map}
use Rattle.p2p_base.specs.declared.key.Key.{Key}
use Rattle.p2p_address.specs.declared.peer.Ingress.{Ingress}
use Rattle.p2p_tracker_directory.specs.Reserved.{peer_of}
use Rattle.p2p_tracker_directory.specs.declared.metadata.Metadata.{Metadata}
use Rattle.p2p_tracker_directory.specs.declared.metadata.Metadata.TheVariants as metadata
use Rattle.p2p_tracker.specs.declared.stepped.Put.{Put}
use Rattle.p2p_tracker.specs.declared.stepped.Put.TheVariants as put
use Rattle.p2p_log.specs.declared.queue.Queue.{Queue}
use Rattle.p2p_log.specs.declared.queue.Queue.TheVariants as queue
use Rattle.p2p_log.specs.declared.item.Item.{Item}
use Rattle.p2p_log.specs.declared.item.Item.TheVariants as item
use Rattle.p2p_net_tracker.specs.declared.naming.Tickets.{Tickets}

-- the event of a ticket
abbrev pub event_at : List ℕ → ℕ → ℕ
event_at tickets t = slice_index_or tickets t 0

-- whom a dial is granted, and where to dial
abbrev pub grant_of : Option (Metadata Key × Ingress) → Option (Key × Ingress)
grant_of None = None
grant_of (Some g) = Some (peer_of g.0, g.1)

-- the dialer's reservation of it, and the listener's of whom a listen is granted
abbrev pub dialed_grant : Option (Key × Ingress) → Option (Metadata Key × Ingress)
dialed_grant None = None
dialed_grant (Some g) = Some (metadata.Dialer g.0, g.1)

abbrev pub listened_grant : Option Key → Option (Metadata Key)
listened_grant None = None
listened_grant (Some key) = Some (metadata.Listener key)

abbrev pub named_put : ℕ → Tickets → Put Key → Option (Queue × Item)
named_put n t (put.Kill peer conn) = Some (queue.Control n conn, item.Kill)
named_put n t (put.Listenable addresses dropped) = Some (queue.Addresses n, item.Addresses addresses)
named_put n t (put.Update ticket update) = Some (queue.PeerSetUpdates n (event_at t.updates ticket), item.PeerSetUpdate update)
named_put n t (put.Blocked ticket keys dropped) = Some (queue.Blocked n (event_at t.blocked ticket), item.Blocked keys)
named_put n t (put.PeerSet ticket peers) = Some (queue.PeerSet n (event_at t.questions ticket), item.PeerSet peers)
named_put n t (put.Dialable list) = Some (queue.Dialer n, item.Dialable list.next_query_at list.peers)
named_put n t (put.Dial grant) = Some (queue.Dialer n, item.Dial (grant_of grant))
named_put n t (put.Acceptable handshake acceptable) = Some (queue.Handshake n handshake, item.Acceptable acceptable)
named_put n t (put.Listen handshake grant) = Some (queue.Handshake n handshake, item.Listen (option_map peer_of grant))

abbrev pub before : {X : Type 0} → Option X → List X → List X
before None xs = xs
before (Some x) xs = x ∷ xs

-- what was put, in order
abbrev pub named_puts : ℕ → Tickets → List (Put Key) → List (Queue × Item)
named_puts n t [] = []
named_puts n t (p ∷ ps) = before (named_put n t p) (named_puts n t ps)

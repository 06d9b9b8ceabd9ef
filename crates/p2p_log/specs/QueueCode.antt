-- A queue by three numbers, and when two queues are the same.
use Rattle.std.specs.Prelude.{ℕ, Bool, ◌==◌, ◌&&◌}
use Rattle.p2p_log.specs.declared.queue.Side.TheVariants as side
use Rattle.p2p_log.specs.declared.queue.Queue.{Queue}
use Rattle.p2p_log.specs.declared.queue.Queue.TheVariants as queue

-- the place of its kind among the kinds
abbrev pub kind_of : Queue → ℕ
kind_of (queue.Router n) = 0
kind_of (queue.Peers n c) = 1
kind_of (queue.RouterAnswer n e) = 2
kind_of (queue.High n e) = 3
kind_of (queue.Low n e) = 4
kind_of (queue.Link e side.Out) = 5
kind_of (queue.Link e side.In) = 6
kind_of (queue.Channel n c) = 7
kind_of (queue.Tracker n) = 8
kind_of (queue.Addresses n) = 9
kind_of (queue.Dialer n) = 10
kind_of (queue.Control n e) = 11
kind_of (queue.PeerSet n e) = 12
kind_of (queue.PeerSetUpdates n e) = 13
kind_of (queue.Blocked n e) = 14
kind_of (queue.Attempt n e) = 15
kind_of (queue.Arrivals n) = 16
kind_of (queue.Handshake n e) = 17
kind_of (queue.Spawner n) = 18
kind_of (queue.Held n e) = 19

-- the node, or the link, that it belongs to
abbrev pub owner_of : Queue → ℕ
owner_of (queue.Router n) = n
owner_of (queue.Peers n c) = n
owner_of (queue.RouterAnswer n e) = n
owner_of (queue.High n e) = n
owner_of (queue.Low n e) = n
owner_of (queue.Link e s) = e
owner_of (queue.Channel n c) = n
owner_of (queue.Tracker n) = n
owner_of (queue.Addresses n) = n
owner_of (queue.Dialer n) = n
owner_of (queue.Control n e) = n
owner_of (queue.PeerSet n e) = n
owner_of (queue.PeerSetUpdates n e) = n
owner_of (queue.Blocked n e) = n
owner_of (queue.Attempt n e) = n
owner_of (queue.Arrivals n) = n
owner_of (queue.Handshake n e) = n
owner_of (queue.Spawner n) = n
owner_of (queue.Held n e) = n

-- its channel, connection, question, attempt or handshake, or 0 where it has none
abbrev pub detail_of : Queue → ℕ
detail_of (queue.Router n) = 0
detail_of (queue.Peers n c) = c
detail_of (queue.RouterAnswer n e) = e
detail_of (queue.High n e) = e
detail_of (queue.Low n e) = e
detail_of (queue.Link e s) = 0
detail_of (queue.Channel n c) = c
detail_of (queue.Tracker n) = 0
detail_of (queue.Addresses n) = 0
detail_of (queue.Dialer n) = 0
detail_of (queue.Control n e) = e
detail_of (queue.PeerSet n e) = e
detail_of (queue.PeerSetUpdates n e) = e
detail_of (queue.Blocked n e) = e
detail_of (queue.Attempt n e) = e
detail_of (queue.Arrivals n) = 0
detail_of (queue.Handshake n e) = e
detail_of (queue.Spawner n) = 0
detail_of (queue.Held n e) = e

-- whether two names are of one queue
abbrev pub same_queue : Queue → Queue → Bool
same_queue p q = (kind_of p == kind_of q) && ((owner_of p == owner_of q) && (detail_of p == detail_of q))

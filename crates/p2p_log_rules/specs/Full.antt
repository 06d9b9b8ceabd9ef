-- How much each queue takes before it is full, and which queues are full, by the log.
use Rattle.std.specs.Prelude.{ℕ, ◌+◌, Bool, false, nat_le, List, length, Option, Some, None, slice_get}
use Rattle.p2p_log.specs.declared.config.Config.{Config}
use Rattle.p2p_log.specs.declared.queue.Queue.{Queue}
use Rattle.p2p_log.specs.declared.queue.Queue.TheVariants as queue
use Rattle.p2p_log.specs.declared.item.Envelope.{Envelope}
use Rattle.p2p_log.specs.declared.entry.Entry.{Entry}
use Rattle.p2p_log.specs.Lines.{line}
use Rattle.p2p_log_rules.specs.Facts.{channels, capacity_in, sum_capacities}

abbrev pub mailbox_size_at : List Config → ℕ → ℕ
mailbox_size_at configs n = elim (slice_get configs n) [ None ↦ 0 | Some c ↦ c.mailbox_size ]

-- the router's mailbox holds `mailbox_size` messages and the bursts of the node's channels
abbrev pub router_capacity : List Config → List Entry → ℕ → ℕ
router_capacity configs log n = mailbox_size_at configs n + sum_capacities (channels configs log n)

-- how many items a queue takes before it is full: no limit where there is none
abbrev pub capacity : List Config → List Entry → Queue → Option ℕ
capacity configs log (queue.Router n) = Some (router_capacity configs log n)
capacity configs log (queue.Tracker n) = Some (mailbox_size_at configs n)
capacity configs log (queue.Spawner n) = Some (mailbox_size_at configs n)
capacity configs log (queue.High n conn) = Some (mailbox_size_at configs n)
capacity configs log (queue.Low n conn) = Some (mailbox_size_at configs n)
capacity configs log (queue.Control n conn) = Some (mailbox_size_at configs n)
capacity configs log (queue.Channel n c) = capacity_in (channels configs log n) c
capacity configs log (queue.Peers n c) = Some 1
capacity configs log (queue.Addresses n) = Some 1
capacity configs log (queue.Blocked n e) = Some 1
capacity configs log (queue.RouterAnswer n conn) = None
capacity configs log (queue.Link link s) = None
capacity configs log (queue.Held n conn) = None
capacity configs log (queue.Dialer n) = None
capacity configs log (queue.Attempt n k) = None
capacity configs log (queue.Arrivals n) = None
capacity configs log (queue.Handshake n h) = None
capacity configs log (queue.PeerSet n e) = None
capacity configs log (queue.PeerSetUpdates n e) = None

-- whether so many items are all that a queue takes
abbrev pub is_reached : Option ℕ → ℕ → Bool
is_reached None count = false
is_reached (Some size) count = nat_le size count

abbrev pub holds_all : Option ℕ → List Envelope → Bool
holds_all o xs = is_reached o (length xs)

abbrev pub is_full : List Config → List Entry → Queue → Bool
is_full configs log q = holds_all (capacity configs log q) (line log q)

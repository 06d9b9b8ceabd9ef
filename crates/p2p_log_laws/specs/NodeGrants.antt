-- The grants of a key at a node, read off the log: who holds them, and which releases of them wait.
use Rattle.std.specs.Prelude.{ℕ, zero, suc, ◌+◌, Bool, false, ◌==◌, ◌&&◌, List, [], length, count_by, Option, Some, None}
use Rattle.p2p_base.specs.declared.key.Key.{Key}
use Rattle.p2p_log.specs.declared.config.Config.{Config}
use Rattle.p2p_log.specs.declared.queue.Queue.{Queue}
use Rattle.p2p_log.specs.declared.queue.Queue.TheVariants as queue
use Rattle.p2p_log.specs.declared.item.Item.{Item}
use Rattle.p2p_log.specs.declared.item.Item.TheVariants as item
use Rattle.p2p_log.specs.declared.item.Envelope.{Envelope}
use Rattle.p2p_log.specs.declared.entry.Entry.{Entry}
use Rattle.p2p_log.specs.QueueCode.{same_queue}
use Rattle.p2p_log.specs.Lines.{live}
use Rattle.p2p_log_rules.specs.Attempting.{Attempt, attempts_of}
use Rattle.p2p_log_rules.specs.Connections.{tells_some, live_connection}
use Rattle.p2p_log_rules.specs.Spawning.{Spawned}
use Rattle.p2p_log_rules.specs.Facts.{stops_node}
use Rattle.p2p_log_rules.specs.Tellings.{Telling}
use Rattle.p2p_log_rules.specs.Tellings as telling
use Rattle.p2p_log_laws.specs.Grants.{one, Granting}

-- how many numbers below this one pass
unfoldable pub count_below : ℕ → (ℕ → Bool) → ℕ
count_below zero p = 0
count_below (suc m) p = one (p m) + count_below m p

module _ (key : Key) where
  -- whether an item grants the key, or hands its grant on
  abbrev pub grants_key : Item → Bool
  grants_key (item.Dial (Some grant)) = grant.0.0 == key.0
  grants_key (item.Listen (Some k)) = k.0 == key.0
  grants_key (item.Spawn k link) = k.0 == key.0
  grants_key _ = false

  -- whether an item gives it back
  abbrev pub releases_key : Item → Bool
  releases_key (item.Release k) = k.0 == key.0
  releases_key _ = false

  -- whether an attempt is by a grant of it
  abbrev pub is_attempt_of : Option Attempt → Bool
  is_attempt_of None = false
  is_attempt_of (Some a) = a.key.0 == key.0

  -- whether a connection is
  abbrev pub is_connection_of : Option Spawned → Bool
  is_connection_of None = false
  is_connection_of (Some c) = c.key.0 == key.0

-- what an envelope puts in its queue
abbrev pub put_of : Envelope → Queue × Item
put_of x = (x.queue, x.item)

-- where a grant may wait at a node: for its dialer, for a handshake, and for its spawner
abbrev pub holds_grants : ℕ → Queue → Bool
holds_grants n (queue.Dialer m) = m == n
holds_grants n (queue.Handshake m e) = m == n
holds_grants n (queue.Spawner m) = m == n
holds_grants n _ = false

module _ (n : ℕ) (key : Key) where
  abbrev pub puts_grant : Queue × Item → Bool
  puts_grant x = holds_grants n x.0 && grants_key key x.1

  abbrev pub puts_release : Queue × Item → Bool
  puts_release x = same_queue (queue.Tracker n) x.0 && releases_key key x.1

  -- the attempts by a grant, and the connections that have not ended
  abbrev pub beginners_of : List Config → List Entry → ℕ
  beginners_of configs log =
      count_below (length log) (λ e. is_attempt_of key (attempts_of configs log n e)) + count_below (length log) (λ e. is_connection_of key (live_connection log n e))

  -- a grant is held by the answer that waits for the dialer, and then by the attempt that it begins, or by the answer that waits for a
  -- handshake; then by the message that waits for the spawner, and then by the connection that this makes, until it ends
  abbrev pub holders_of : List Config → List Entry → ℕ
  holders_of configs log = count_by (λ x. puts_grant (put_of x)) (live log) + beginners_of configs log

  abbrev pub waiting_of : List Entry → ℕ
  waiting_of log = count_by (λ x. puts_release (put_of x)) (live log)

  -- that the tracker granted it, to a dial or to a handshake
  abbrev pub tells_grant : Telling → Bool
  tells_grant (telling.dial_weighed m at seed k granted) = (m == n) && ((k.0 == key.0) && granted)
  tells_grant (telling.listen_weighed m at seed k granted) = (m == n) && ((k.0 == key.0) && granted)
  tells_grant _ = false

  -- that it took a release of it
  abbrev pub tells_release : Telling → Bool
  tells_release (telling.release_heard m k) = (m == n) && (k.0 == key.0)
  tells_release _ = false

-- of a key at a node: the tracker grants it and takes its releases, until the node stops
abbrev pub granting : List Config → ℕ → Key → Granting
granting configs n key = record {
  grants = λ before e. tells_some (tells_grant n key) before e;
  frees = λ before e. tells_some (tells_release n key) before e;
  stops = λ before e. tells_some (stops_node n) before e;
  holders = holders_of n key configs;
  waiting = waiting_of n key;
  released = λ before e. count_by (puts_release n key) e.puts;
  alive = λ log. [];
  begins = λ before e. [];
}

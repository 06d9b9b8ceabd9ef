-- That a connection leads to the peer that is reserved for it: over a link that joins the two nodes.
use Rattle.std.specs.Prelude.{ℕ, ◌<◌, true, false, ◌==◌, ◌⊎◌, ◌≡◌, List, take, Some, slice_get}
use Rattle.p2p_base.specs.declared.key.Key.{Key}
use Rattle.p2p_address.specs.declared.ip.SocketAddr.{SocketAddr}
use Rattle.p2p_log.specs.declared.config.Config.{Config}
use Rattle.p2p_log.specs.declared.queue.Queue.TheVariants as queue
use Rattle.p2p_log.specs.declared.item.Item.TheVariants as item
use Rattle.p2p_log.specs.declared.entry.Entry.{Entry}
use Rattle.p2p_log.specs.declared.entry.Reply.TheVariants as reply
use Rattle.p2p_log.specs.declared.event.Act.TheVariants as act
use Rattle.p2p_log_rules.specs.Connections.{is_ended, live_connection}
use Rattle.p2p_log_rules.specs.Facts.{key_at}
use Rattle.p2p_log_rules.specs.Spawning.{Spawned, connections_of}

-- the event of this name linked an attempt of one node to another node, whose listener was told
pub record Links (log : List Entry) (link from to : ℕ) : Type 0 where
  pub entry : Entry
  pub at : slice_get log link ≡ Some entry
  pub attempt : ℕ
  pub address : SocketAddr
  pub acts : entry.event.act ≡ act.Connect attempt address from to
  pub done : entry.reply ≡ reply.Ok
  -- a dial of a node that does not run is answered too, with a refusal: a link alone puts an arrival
  pub key : Key
  pub arrives : slice_get entry.puts 1 ≡ Some (queue.Arrivals to, item.Arrival address key link)

-- the key is that of the node at the other end of the link, of which this node has one end: it dialed, or it was dialed
abbrev pub LeadsTo : List Config → List Entry → ℕ → Key → ℕ → Type 0
LeadsTo configs log n key link = (m : ℕ) × (Links log link n m ⊎ Links log link m n) × (key ≡ key_at configs m)

-- each connection of a node leads to its peer
abbrev pub ConnectionsLead : List Config → List Entry → Type 0
ConnectionsLead configs log = (n conn : ℕ) (c : Spawned) → connections_of log n conn ≡ Some c → LeadsTo configs log n c.key c.link

-- the connections of a node are one
pub record ConnectionsAreOne (log : List Entry) : Type 0 where
  -- over a link, ever
  pub over : (n c d : ℕ) (a b : Spawned) → connections_of log n c ≡ Some a → connections_of log n d ≡ Some b → a.link ≡ b.link → c ≡ d
  -- of two with one key the older has ended before the newer is made; each is named by the entry that made it
  pub older : (n c d : ℕ) (a b : Spawned) → connections_of log n c ≡ Some a → connections_of log n d ≡ Some b → a.key ≡ b.key → c < d → is_ended (take d log) n c ≡ true
  -- so two that have not ended with one key are one
  pub alive : (n c d : ℕ) (a b : Spawned) → live_connection log n c ≡ Some a → live_connection log n d ≡ Some b → a.key ≡ b.key → c ≡ d

-- of two connections over one link at two nodes each is with the key of the other's node
abbrev pub EndsMeet : List Config → List Entry → Type 0
EndsMeet configs log =
    (n m c d : ℕ) (a b : Spawned) → (n == m) ≡ false → connections_of log n c ≡ Some a → connections_of log m d ≡ Some b → a.link ≡ b.link
    → (a.key ≡ key_at configs m) × (b.key ≡ key_at configs n)

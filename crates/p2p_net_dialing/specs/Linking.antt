-- What linking an attempt of one node to the listener of another comes to.
use Rattle.std.specs.Prelude.{◌≡◌, ℕ, Bool, true, false, List, [], ◌∷◌, ◌++◌, length, Some, slice_get, slice_set}
use Rattle.p2p_base.specs.declared.key.Key.{Key}
use Rattle.p2p_address.specs.declared.ip.SocketAddr.{SocketAddr}
use Rattle.p2p_log.specs.declared.queue.Queue.TheVariants as queue
use Rattle.p2p_log.specs.declared.item.Item.{Item}
use Rattle.p2p_log.specs.declared.item.Item.TheVariants as item
use Rattle.p2p_log.specs.declared.entry.Reply.{Reply}
use Rattle.p2p_log.specs.declared.entry.Reply.TheVariants as reply
use Rattle.p2p_log_rules.specs.declared.row.Opening.{Opening}
use Rattle.p2p_log_rules.specs.declared.row.Row.{Row}
use Rattle.p2p_net_links.specs.Links.{opened_with}
use Rattle.p2p_net_links.specs.declared.links.Links.{Links}
use Rattle.p2p_net_queues.specs.Tables as table
use Rattle.p2p_net_gates.specs.Attempts.{AnswersDial}
use Rattle.p2p_net_gates.specs.Listening.{arrived}
use Rattle.p2p_net_node.specs.Staying.{TellsAttempt}
use Rattle.p2p_net_node.specs.Ready.{is_node_up}
use Rattle.p2p_net_node.specs.declared.node.Node.{Node}

-- the dial of an attempt of the node n is answered, with a link or a refusal
abbrev pub Answers : ℕ → ℕ → ℕ → Bool → Node → Node → Row → Type 0
Answers k n name links old new r = AnswersDial (table.at old.dialing.attempts name) k n name links old.dialing.attempts new.dialing.attempts r × TellsAttempt old new

-- whether a peer arrives, where the attempt is told this: of a link alone
abbrev pub arrives : Bool → Reply → Bool
arrives true reply.Ok = true
arrives _ _ = false

-- the row of what the attempt is told, with what the listener of the node m is
abbrev pub with_arrival : Bool → ℕ → Item → Row → Row
with_arrival false m arrival r = r
with_arrival true m arrival r = record r { puts = r.puts ++ (queue.Arrivals m, arrival) ∷ [] }

-- the peer arrives at the node m, as the put of this place
abbrev pub Arrives : Bool → ℕ → ℕ → ℕ → SocketAddr → Key → List Node → List Node → Type 0
Arrives false m k place from key old new = (new ≡ old)
Arrives true m k place from key old new =
    (y : Node) × ((slice_get old m ≡ Some y) × (new ≡ slice_set old m (record y { listening = arrived k place from key y.listening })))

-- a link of this name is made, over which keys are exchanged, where the peer arrives
abbrev pub opened : Bool → ℕ → Opening → Links → Links
opened false k o l = l
opened true k o l = opened_with k o l

-- the entry k links this attempt of the node n to the listener of the node m, where that is up
pub record IsLinked (k name n m : ℕ) (from : SocketAddr) (old new : List Node) (l links : Links) (r : Row) : Type 0 where
  pub first : Node
  pub second : Node
  pub at_first : slice_get old n ≡ Some first
  pub at_second : slice_get old m ≡ Some second
  -- what the attempt is told, and its node then
  pub told : Row
  pub after : Node
  pub answers : Answers k n name (is_node_up second) first after told
  pub row : r ≡ with_arrival (arrives (is_node_up second) told.reply) m (item.Arrival from first.config.public_key k) told
  pub arrival : Arrives (arrives (is_node_up second) told.reply) m k (length told.puts) from first.config.public_key (slice_set old n after) new
  pub links_are : links ≡ opened (arrives (is_node_up second) told.reply) k (record { node = n; attempt = name; to = m }) l

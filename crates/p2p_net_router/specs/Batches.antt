-- A batch of the frames that wait for a connection.
use Rattle.std.specs.Prelude.{◌≡◌, ℕ, Bool, List, ◌++◌, take, filter}
use Rattle.p2p_log.specs.declared.queue.Queue.TheVariants as queue
use Rattle.p2p_log.specs.declared.item.Envelope.{Envelope}
use Rattle.p2p_log.specs.Lines.{stands_in}
use Rattle.p2p_net_router.specs.Ends.{AreEnded}
use Rattle.p2p_net_router.specs.Holds.{routes_in}
use Rattle.p2p_net_router.specs.declared.router.Router.{Router}

-- all that wait, high before low
abbrev pub all_of : ℕ → ℕ → List Envelope → List Envelope
all_of n conn items = filter (stands_in (queue.High n conn)) items ++ filter (stands_in (queue.Low n conn)) items

-- as many as a batch has
abbrev pub batch_of : ℕ → ℕ → ℕ → List Envelope → List Envelope
batch_of n conn size items = take size (all_of n conn items)

-- of a router the relays and the names alone changed, and no connection, nor whose it is, nor whether one has ended, nor whether its actor found memory
pub record AreKept (old new : Router) : Type 0 where
  pub number : new.number ≡ old.number
  pub messenger : new.messenger ≡ old.messenger
  pub channels : new.channels ≡ old.channels
  pub peers : new.peers ≡ old.peers
  pub numbers : new.subscriptions ≡ old.subscriptions
  pub subscriptions : new.actor.subscriptions ≡ old.actor.subscriptions
  pub routes : routes_in new.actor.links ≡ routes_in old.actor.links
  pub ended : (f : ℕ → Bool) → AreEnded f old.peers old.actor.links → AreEnded f new.peers new.actor.links
  pub works : new.actor.failed ≡ old.actor.failed
  pub owners : new.actor.peers ≡ old.actor.peers

-- What stands of a node and of the links once that was taken with which a connection of the node ends.
use Rattle.std.proofs.Common.{◌≡◌, ℕ, false, List, [], ◌∷◌, ◌++◌}
use Rattle.std.specs.Prelude.{filter}
use Rattle.std.specs.List.{AllByRecursion as Each}
use Rattle.p2p_log.specs.declared.config.Config.{Config}
use Rattle.p2p_log.specs.declared.queue.Queue.{Queue}
use Rattle.p2p_log.specs.declared.queue.Queue.TheVariants as queue
use Rattle.p2p_log.specs.declared.item.Envelope.{Envelope}
use Rattle.p2p_log.specs.declared.entry.Entry.{Entry}
use Rattle.p2p_log.specs.QueueCode.{same_queue}
use Rattle.p2p_log.specs.Lines.{line, live, stands_in}
use Rattle.p2p_log.specs.Taken.{AreTaken}
use Rattle.p2p_log_rules.specs.declared.row.Half.{Half}
use Rattle.p2p_log_rules.specs.Effect.{other_side}
use Rattle.p2p_log_rules.specs.Ending.{queues_with, left_by}
use Rattle.p2p_net_queues.specs.Board.{held}
use Rattle.p2p_net_queues.specs.Tables.{waiting}
use Rattle.p2p_net_router.specs.Stands.{StandsOver}
use Rattle.p2p_net_links.specs.Dropping.{end_dropped}
use Rattle.p2p_net_links.specs.Links.{way_of}
use Rattle.p2p_net_links.specs.Stands.{LinksStand}
use Rattle.p2p_net_links.specs.declared.links.Links.{Links}
use Rattle.p2p_net_links.proofs.Ending.{DropsEnd}
use Rattle.p2p_net_node.specs.declared.node.Node.{Node}

-- what stands of a node and of the links once this was taken, with which a connection of it ends
pub record HaveLeft (configs : List Config) (log : List Entry) (n conn : ℕ) (half : Half) (taken : List Envelope) (x w : Node) (l m : Links) : Type 0 where
  -- each was the first of its queue, and of those that end with the connection
  pub stood : AreTaken (live log) taken
  pub apart : (p : Queue) → Each (λ q. same_queue p q ≡ false) (queues_with n conn half) → Each (λ y. stands_in p y ≡ false) taken
  pub router : StandsOver configs log w.router (left_by log taken)
  pub number : w.router.number ≡ n
  pub peers : w.router.peers ≡ x.router.peers
  pub tracker : w.tracker ≡ record x.tracker { told = w.tracker.told }
  pub told : (p : Queue) → same_queue (queue.Control n conn) p ≡ false → held w.tracker.told p ≡ held x.tracker.told p
  pub control : held w.tracker.told (queue.Control n conn) ≡ filter (stands_in (queue.Control n conn)) (left_by log taken)
  pub connections : w.connections ≡ x.connections
  pub rest : w ≡ record x { router = w.router; tracker = w.tracker }
  pub holds : filter (stands_in (queue.Held n conn)) (left_by log taken) ≡ line log (queue.Held n conn)
  pub answers : filter (stands_in (queue.RouterAnswer n conn)) (left_by log taken) ≡ line log (queue.RouterAnswer n conn)
  pub flight : waiting (way_of m (other_side half.writes)) half.link ≡ filter (stands_in (queue.Link half.link (other_side half.writes))) (left_by log taken)
  pub linked : (e : Entry) → DropsEnd log e half.link half.writes → LinksStand configs (log ++ e ∷ []) (end_dropped half.link half.writes m)

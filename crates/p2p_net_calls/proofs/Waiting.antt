-- What waits for a connection, for the router and for the tracker ends.
use Rattle.std.proofs.Common.{◌≡◌, ℕ, Bool, true, false, List, [], ◌∷◌, ◌++◌, refl, ap, sym, subst, ◌∙◌}
use Rattle.std.specs.Prelude.{filter}
use Rattle.p2p_log.specs.declared.queue.Queue.{Queue}
use Rattle.p2p_log.specs.declared.queue.Queue.TheVariants as queue
use Rattle.p2p_log.specs.declared.item.Envelope.{Envelope}
use Rattle.p2p_log.specs.declared.end.Cause.TheVariants as cause
use Rattle.p2p_log.specs.Apart.{AreApart}
use Rattle.p2p_log.specs.Drained.{all_end}
use Rattle.p2p_log.specs.Lines.{stands_in}
use Rattle.p2p_log_rules.specs.declared.row.Row.{Row}
use Rattle.p2p_log_rules.specs.Effect.{relay_queue}
use Rattle.p2p_log_rules.proofs.Left.{without}
use Rattle.p2p_net_queues.specs.Rows.{item_ends}
use Rattle.p2p_net_queues.specs.Tables.{waiting, cleared_at}
use Rattle.p2p_net_router.specs.Resting.{RouterLeft}
use Rattle.p2p_net_router.specs.declared.router.Router.{Router}
use Rattle.p2p_net_tracker.proofs.Stopped.{mailbox_left}
use Rattle.p2p_net_connections.specs.Stopping.{ConnectionsLeft}
use Rattle.p2p_net_connections.specs.declared.connections.Connections.{Connections}
use Rattle.p2p_net_connections.proofs.Stopped.{held_left, answers_left}
use Rattle.p2p_net_links.specs.declared.links.Links.{Links}
use Rattle.p2p_net_node.specs.declared.node.Node.{Node}
use Rattle.p2p_net_calls.specs.Stopping.{Adds, Drains}
use Rattle.p2p_net_calls.proofs.Emptying.{bare_ends, left_ends_named, drains_one, without_messages, without_mailbox, without_high, without_low, without_held, without_answers}

-- a queue of the router's that ended, as the router's calls say
pub record RouterEnds (q : Queue) (old new : Router) (row after : Row) : Type 0 where
  pub ends : (items : List Envelope) → RouterLeft old items → AreApart items → after ≡ record row { ends = row.ends ++ all_end cause.NodeStopped (filter (stands_in q) items) }
  pub holds : (items : List Envelope) → RouterLeft old items → AreApart items → RouterLeft new (without q items)
  pub number : new.number ≡ old.number

pub messages_drains : (n : ℕ) (x : Node) (r : Router) (l : Links) (row after : Row) → RouterEnds (queue.Router x.router.number) x.router r row after → Drains n (queue.Router n ∷ []) x (record x { router = r }) l l row after
messages_drains n x r l row after d =
    drains_one n (queue.Router n) x (record x { router = r }) l l row after
    (λ items h.
    let at = h.number in (
      subst (λ m. Adds (filter (stands_in (queue.Router m)) items) row after) at (d.ends items h.router h.apart),
      without_messages n x l r items h (d.number ∙ at) (subst (λ m. RouterLeft r (without (queue.Router m) items)) at (d.holds items h.router h.apart)),
    ))

pub lane_drains : (n conn : ℕ) (priority : Bool) (x : Node) (r : Router) (l : Links) (row after : Row) → RouterEnds (relay_queue priority x.router.number conn) x.router r row after
    → Drains n (relay_queue priority n conn ∷ []) x (record x { router = r }) l l row after
lane_drains n conn true x r l row after d =
    drains_one n (queue.High n conn) x (record x { router = r }) l l row after
    (λ items h.
    let at = h.number in (
      subst (λ m. Adds (filter (stands_in (queue.High m conn)) items) row after) at (d.ends items h.router h.apart),
      without_high n conn x l r items h (d.number ∙ at) (subst (λ m. RouterLeft r (without (queue.High m conn) items)) at (d.holds items h.router h.apart)),
    ))
lane_drains n conn false x r l row after d =
    drains_one n (queue.Low n conn) x (record x { router = r }) l l row after
    (λ items h.
    let at = h.number in (
      subst (λ m. Adds (filter (stands_in (queue.Low m conn)) items) row after) at (d.ends items h.router h.apart),
      without_low n conn x l r items h (d.number ∙ at) (subst (λ m. RouterLeft r (without (queue.Low m conn) items)) at (d.holds items h.router h.apart)),
    ))

pub mailbox_drains : (n : ℕ) (x : Node) (l : Links) (row after : Row) → after ≡ record row { ends = row.ends ++ item_ends x.tracker.names }
    → Drains n (queue.Tracker n ∷ []) x (record x { tracker = record x.tracker { names = [] } }) l l row after
mailbox_drains n x l row after is =
    let q = queue.Tracker n in
    drains_one n q x (record x { tracker = record x.tracker { names = [] } }) l l row after
    (λ items h.
    let one = mailbox_left n x.tracker items h.tracker h.apart in (
      is ∙ ap (λ e. record row { ends = row.ends ++ e }) (one.1 ∙ (left_ends_named (filter (stands_in q) items) ∙ sym (bare_ends cause.NodeStopped q items refl h.bare))),
      without_mailbox n x l (record x.tracker { names = [] }) items h one.0,
    ))

pub held_drains : (n conn : ℕ) (x : Node) (cs : Connections) (l : Links) (row after : Row) → after ≡ record row { ends = row.ends ++ all_end cause.NodeStopped (waiting x.connections.held conn) }
    → cs ≡ record x.connections { held = cleared_at x.connections.held conn } → Drains n (queue.Held n conn ∷ []) x (record x { connections = cs }) l l row after
held_drains n conn x cs l row after is same =
    let q = queue.Held n conn in
    drains_one n q x (record x { connections = cs }) l l row after
    (λ items h. (
      is ∙ ap (λ xs. record row { ends = row.ends ++ all_end cause.NodeStopped xs }) (h.connections.held conn),
      without_held n conn x l cs items h (subst (λ (ks : Connections). ConnectionsLeft n ks (without q items)) (sym same) (held_left n conn x.connections items h.apart h.connections)),
    ))

pub answers_drains : (n conn : ℕ) (x : Node) (cs : Connections) (l : Links) (row after : Row) → after ≡ record row { ends = row.ends ++ all_end cause.NodeStopped (waiting x.connections.answers conn) }
    → cs ≡ record x.connections { answers = cleared_at x.connections.answers conn } → Drains n (queue.RouterAnswer n conn ∷ []) x (record x { connections = cs }) l l row after
answers_drains n conn x cs l row after is same =
    let q = queue.RouterAnswer n conn in
    drains_one n q x (record x { connections = cs }) l l row after
    (λ items h. (
      is ∙ ap (λ xs. record row { ends = row.ends ++ all_end cause.NodeStopped xs }) (h.connections.answers conn),
      without_answers n conn x l cs items h (subst (λ (ks : Connections). ConnectionsLeft n ks (without q items)) (sym same) (answers_left n conn x.connections items h.apart h.connections)),
    ))

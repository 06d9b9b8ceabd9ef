-- A connection of a node ends: what stands as it does, and what follows for the node without it.
use Rattle.std.proofs.Common.{◌≡◌, ℕ, true, false, cond, List, [], length, ap, sym, subst, ◌∙◌, Option, Some, None}
use Rattle.std.specs.Prelude.{map}
use Rattle.std.specs.List.{AllByRecursion as Each}
use Rattle.p2p_base.specs.declared.key.Key.{Key}
use Rattle.p2p_tracker_directory.specs.Reserved.{peer_of}
use Rattle.p2p_log.specs.declared.config.Config.{Config}
use Rattle.p2p_log.specs.declared.queue.Queue.{Queue}
use Rattle.p2p_log.specs.declared.queue.Queue.TheVariants as queue
use Rattle.p2p_log.specs.declared.item.Envelope.{Envelope}
use Rattle.p2p_log.specs.declared.end.Cause.{Cause}
use Rattle.p2p_log.specs.declared.entry.Ended.{Ended}
use Rattle.p2p_log.specs.declared.entry.Entry.{Entry}
use Rattle.p2p_log.specs.Apart.{AreApart}
use Rattle.p2p_log.specs.Lines.{line, live, name_of, stays}
use Rattle.p2p_log.proofs.Names.{AreApart-live_from, AreApart-filter}
use Rattle.p2p_log_rules.specs.declared.row.Half.{Half}
use Rattle.p2p_log_rules.specs.declared.row.Row.{Row}
use Rattle.p2p_log_rules.specs.Connections.{live_half, live_connection, is_begun, has_run, half_at}
use Rattle.p2p_log_rules.specs.Effect.{other_side}
use Rattle.p2p_log_rules.specs.Ending.{queues_with, left_by}
use Rattle.p2p_log_rules.specs.Dialed.{dialer_of}
use Rattle.p2p_log_rules.specs.Spawning.{Spawned, connections_of}
use Rattle.p2p_log_rules.proofs.Connections.{HalfParts, half_parts, is_live}
use Rattle.p2p_log_laws.proofs.EndHeard.{names_ready}
use Rattle.p2p_net_queues.specs.Tables as table
use Rattle.p2p_net_router.specs.Stands.{StandsOver}
use Rattle.p2p_net_router.specs.declared.router.Router.{Router}
use Rattle.p2p_net_connections.specs.Connections.{spawned_on}
use Rattle.p2p_net_connections.specs.Dialing.{IsReservedOver, IsConnectedBy}
use Rattle.p2p_net_connections.specs.Stands.{ConnectionsStand}
use Rattle.p2p_net_connections.specs.declared.connections.Connection.{Connection}
use Rattle.p2p_net_links.specs.declared.links.Links.{Links}
use Rattle.p2p_net_tracker.specs.GivenBack.{IsOfSide}
use Rattle.p2p_net_connecting.specs.Ending.{EndsKept}
use Rattle.p2p_net_node.specs.Places as place
use Rattle.p2p_net_node.specs.Stands.{RouterStands, key_heard, NodeStands}
use Rattle.p2p_net_node.specs.declared.node.Node.{Node}
use Rattle.p2p_net_connecting.proofs.EndRows.{took_row}
use Rattle.p2p_net_connecting.proofs.HaveLeft.{HaveLeft}
use Rattle.p2p_net_connecting.proofs.Sides.{reserved_side}
use Rattle.p2p_log_rules.specs.Facts.{is_stopped}

-- a connection of a node ends: of x and l, where it runs, this is taken, which leaves w and m, and its end makes y and links of them, with
-- the row r
pub record Leaving (configs : List Config) (log : List Entry) (n conn : ℕ) (half : Half) (why : Ended) (c : Cause) (taken : List Envelope) (x w y : Node) (l m links : Links) (r : Row) : Type 0 where
  pub stands : NodeStands configs log n x
  pub lasts : is_stopped log n ≡ false
  pub has : live_half log n conn ≡ Some half
  pub begun : is_begun log n conn ≡ true
  pub running : has_run log n conn ≡ true
  -- nothing waits that tells its router that it has begun
  pub heard : Each (λ z. names_ready conn z.item ≡ false) (line log (queue.Router n))
  pub gone : HaveLeft configs log n conn half taken x w l m
  -- it is kept under its name until it ends
  pub connection : Connection
  pub found : table.at x.connections.spawned conn ≡ Some connection
  pub kept : EndsKept (length log) n conn half connection w y m links (took_row why c taken) r

module _ {configs : List Config} {log : List Entry} {n conn : ℕ} {half : Half} {why : Ended} {c : Cause} {taken : List Envelope} {x w y : Node} {l m links : Links} {r : Row}
    (t : Leaving configs log n conn half why c taken x w y l m links r) where
  -- the queues of which all that is left ends with it, among them the one of the frames in flight towards it
  abbrev pub qs : List Queue
  qs = queues_with n conn half

  abbrev pub flight : Queue
  flight = queue.Link half.link (other_side half.writes)

  -- what is left once that was taken
  abbrev pub left : List Envelope
  left = left_by log taken

  pub apart : AreApart left
  apart = AreApart-filter (stays (map name_of taken)) (live log) (AreApart-live_from 0 log)

  pub connects : ConnectionsStand configs log n x.connections
  connects = t.stands.each place.connections

  pub routes : RouterStands configs log n x.router
  routes = (t.stands.each place.router).runs t.lasts

  -- ---- whom it is with

  pub half_is : half_at log n conn ≡ Some half
  half_is = (is_live log n conn half t.has).at

  parts : HalfParts log n conn half
  parts = half_parts log n conn half half_is

  -- it has not ended, and is with the peer of its half
  pub leads : key_heard true (live_connection log n conn) ≡ Some half.peer
  leads =
      ap (λ b. key_heard true (cond b None (connections_of log n conn))) (is_live log n conn half t.has).lives
      ∙ (ap (key_heard true) parts.made ∙ ap (λ k. Some k) (sym (ap (λ (h : Half). h.peer) parts.is)))

  -- and so is the connection that is kept
  pub peer_is : peer_of t.connection.reservation ≡ half.peer
  peer_is =
      let same : Some (peer_of t.connection.reservation) ≡ Some half.peer = ap (key_heard true) (sym (ap spawned_on t.found) ∙ connects.spawned conn) ∙ leads in
      ap (λ (o : Option Key). elim o [ None ↦ half.peer | Some k ↦ k ]) same

  -- it goes over the link of its half
  link_is : t.connection.link ≡ parts.connection.link
  link_is =
      let same : spawned_on (Some t.connection) ≡ Some parts.connection =
      sym (ap spawned_on t.found) ∙ (connects.spawned conn ∙ (ap (λ b. cond b None (connections_of log n conn)) (is_live log n conn half t.has).lives ∙ parts.made)) in
      ap (λ (o : Option Spawned). elim o [ None ↦ half.link | Some c ↦ c.link ]) same

  -- and its reservation is of the side of that
  pub side_is : IsOfSide (Some half.writes) t.connection.reservation
  side_is =
      let over : IsReservedOver log n t.connection.link t.connection.reservation = subst (IsConnectedBy log n) t.found (connects.reserved conn) in
      subst (λ s. IsOfSide (Some s) t.connection.reservation) (sym (ap (λ (h : Half). h.writes) parts.is))
      (reserved_side log n t.connection.link parts.dialer t.connection.reservation (ap (dialer_of log) link_is ∙ parts.dialed) over)

  -- ---- the node that keeps it no longer

  without_router : t.kept.without.router ≡ w.router
  without_router = ap (λ (z : Node). z.router) t.kept.kept

  pub without_number : t.kept.without.router.number ≡ n
  without_number = ap (λ (z : Router). z.number) without_router ∙ t.gone.number

  pub without_peers : t.kept.without.router.peers ≡ x.router.peers
  without_peers = ap (λ (z : Router). z.peers) without_router ∙ t.gone.peers

  pub without_over : StandsOver configs log t.kept.without.router left
  without_over = subst (λ (z : Router). StandsOver configs log z left) (sym without_router) t.gone.router

  pub without_tracker : t.kept.without.tracker ≡ w.tracker
  without_tracker = ap (λ (z : Node). z.tracker) t.kept.kept

  -- what waited for it ended, and no more was put until then
  pub emptied_puts : t.kept.emptied.puts ≡ []
  emptied_puts = ap (λ (z : Row). z.puts) t.kept.drops.row_is

-- A connection of a node ends with a step of one of its halves: its node and the links stand for the log with that entry.
use Rattle.std.proofs.Common.{◌≡◌, ℕ, Bool, true, false, cond, List, [], ◌∷◌, ◌++◌, length, refl, ap, sym, subst, ◌∙◌, Option, Some, None}
use Rattle.std.specs.List.{AllByRecursion as Each}
use Rattle.p2p_log.specs.declared.config.Config.{Config}
use Rattle.p2p_log.specs.declared.queue.Queue.TheVariants as queue
use Rattle.p2p_log.specs.declared.item.Envelope.{Envelope}
use Rattle.p2p_log.specs.declared.end.Cause.{Cause}
use Rattle.p2p_log.specs.declared.entry.Ended.{Ended}
use Rattle.p2p_log.specs.declared.entry.Entry.{Entry}
use Rattle.p2p_log.specs.declared.event.Act.TheVariants as act
use Rattle.p2p_log.specs.Lines.{line}
use Rattle.p2p_log_rules.specs.declared.row.Half.{Half}
use Rattle.p2p_log_rules.specs.declared.row.Row.{Row}
use Rattle.p2p_log_rules.specs.Connections.{live_half, is_begun, has_run}
use Rattle.p2p_log_rules.specs.Effect.{row, effect, entry_of}
use Rattle.p2p_log_rules.specs.Ending.{end_row}
use Rattle.p2p_log_rules.specs.Spawning.{connections_of}
use Rattle.p2p_log_rules.proofs.Connections.{half_parts, is_live}
use Rattle.p2p_log_laws.proofs.EndHeard.{names_ready}
use Rattle.p2p_net_queues.specs.Tables as table
use Rattle.p2p_net_channels.specs.Stands.{ChannelsStand}
use Rattle.p2p_net_connections.specs.Connections.{spawned_on}
use Rattle.p2p_net_connections.specs.Stands.{ConnectionsStand}
use Rattle.p2p_net_connections.specs.declared.connections.Connection.{Connection}
use Rattle.p2p_net_connections.specs.declared.connections.Connections.{Connections}
use Rattle.p2p_net_links.specs.Stands.{LinksStand}
use Rattle.p2p_net_links.specs.declared.links.Links.{Links}
use Rattle.p2p_net_connecting.specs.Ending.{EndsBy, Ends}
use Rattle.p2p_net_node.specs.Places as place
use Rattle.p2p_net_node.specs.Stands.{NodeStands, PartStands}
use Rattle.p2p_net_node.specs.declared.node.Node.{Node}
use Rattle.p2p_net_node.proofs.EachPart.{with_parts, each_part, not_among-links, is_in, AllOf}
use Rattle.p2p_net_connecting.proofs.EndRows.{took_row}
use Rattle.p2p_net_connecting.proofs.HaveLeft.{HaveLeft}
use Rattle.p2p_net_connecting.proofs.Leaving.{Leaving}
use Rattle.p2p_net_connecting.proofs.LeavingEntry.{half_act, no_spawner, no_stop, entry}
use Rattle.p2p_net_connecting.proofs.LeavingParts.{connections_now, tracker_now, channels_now, links_now}
use Rattle.p2p_net_connecting.proofs.LeavingRouter.{lives_now}
use Rattle.p2p_net_connecting.proofs.LeavingRow.{row_ends}
use Rattle.p2p_net_node.proofs.Performing.{asked, Performs}
use Rattle.p2p_log_rules.specs.Facts.{is_stopped}

-- ---- the step

module _ {configs : List Config} {log : List Entry} {n conn : ℕ} {half : Half} {why : Ended} {c : Cause} {taken : List Envelope} {x w y : Node} {l m links : Links} {r : Row}
    (t : Leaving configs log n conn half why c taken x w y l m links r) where
  node_is : y ≡ record x { router = y.router; tracker = y.tracker; connections = y.connections }
  node_is =
      let u : Node = t.kept.left in
      let same : u.connections ≡ y.connections = sym (ap (λ (z : Node). z.connections) t.kept.frees.rest) in
      t.kept.frees.rest
      ∙ (ap (λ (z : Node). record z { router = y.router; tracker = y.tracker }) t.kept.drops.rest
      ∙ (ap (λ cs. record t.kept.without { router = y.router; tracker = y.tracker; connections = cs }) same
      ∙ (ap (λ (z : Node). record z { router = y.router; tracker = y.tracker; connections = y.connections }) t.kept.kept
      ∙ ap (λ (z : Node). record z { router = y.router; tracker = y.tracker; connections = y.connections }) t.gone.rest)))

  -- by the parts of the node that the act names
  step_performs : (at seed : ℕ) (sends : Bool) (ps : List place.Part) → row configs log at seed (half_act sends conn n) ≡ end_row log n conn half why c taken → y ≡ with_parts ps x y
      → ((p : place.Part) → is_in p ps ≡ false → place.names log (half_act sends conn n) (place.at p n) ≡ false) → AllOf (λ p. PartStands p configs (log ++ entry t at seed sends ∷ []) n y) ps
      → Performs configs log (asked at seed (half_act sends conn n)) n y links r
  unfolding effect
  step_performs at seed sends ps row_is same unnamed parts =
      let ev = asked at seed (half_act sends conn n) in
      let is : entry t at seed sends ≡ effect configs log ev = ap (entry_of ev) (sym row_is) in
      record {
        row_is = row_ends t ∙ sym row_is;
        node = each_part configs log ev n x y ps t.stands same unnamed (no_spawner conn n sends) (no_stop conn n sends) (subst (λ (z : Entry). AllOf (λ p. PartStands p configs (log ++ z ∷ []) n y) ps) is parts);
        linked = subst (λ (z : Entry). LinksStand configs (log ++ z ∷ []) links) is (links_now t at seed sends);
      }

  -- one of the sending half names no channel
  abbrev sent_parts : List place.Part
  sent_parts = place.connections ∷ place.router ∷ place.tracker ∷ []

  sent_performs : (at seed : ℕ) → row configs log at seed (act.SendStep conn n) ≡ end_row log n conn half why c taken → Performs configs log (asked at seed (act.SendStep conn n)) n y links r
  sent_performs at seed row_is =
      step_performs at seed true sent_parts row_is (subst (λ z. z ≡ with_parts sent_parts x z) (sym node_is) refl) (λ p out. not_among-links sent_parts p n out)
      (connections_now t at seed true, (lives_now t at seed true, (tracker_now t at seed true, tt)))

  -- one of the receiving half does, and leaves them alone
  abbrev received_parts : List place.Part
  received_parts = place.channels ∷ place.connections ∷ place.router ∷ place.tracker ∷ []

  received_performs : (at seed : ℕ) → row configs log at seed (act.RecvStep conn n) ≡ end_row log n conn half why c taken → Performs configs log (asked at seed (act.RecvStep conn n)) n y links r
  received_performs at seed row_is =
      step_performs at seed false received_parts row_is (subst (λ z. z ≡ with_parts received_parts x z) (sym node_is) refl) (λ p out. not_among-links received_parts p n out) (
        subst (ChannelsStand configs (log ++ entry t at seed false ∷ []) n) (sym (ap (λ (z : Node). z.channels) node_is)) (channels_now t at seed false),
        (connections_now t at seed false, (lives_now t at seed false, (tracker_now t at seed false, tt))),
      )

-- ---- by what is kept of the connection

-- of one that has not ended something is kept
is_kept : (configs : List Config) (log : List Entry) (n conn : ℕ) (half : Half) (cs : Connections) → ConnectionsStand configs log n cs → live_half log n conn ≡ Some half → table.at cs.spawned conn ≡ None → ⊥
is_kept configs log n conn half cs s has none =
    let parts = half_parts log n conn half (is_live log n conn half has).at in
    let t : None ≡ Some parts.connection =
    sym (ap spawned_on none) ∙ (s.spawned conn ∙ (ap (λ b. cond b None (connections_of log n conn)) (is_live log n conn half has).lives ∙ parts.made))
    in
    cc

module _ (configs : List Config) (log : List Entry) (at seed n conn : ℕ) (half : Half) (why : Ended) (c : Cause) (taken : List Envelope) (x w y : Node) (l m links : Links) (r : Row)
    (s : NodeStands configs log n x) (lasts : is_stopped log n ≡ false) (has : live_half log n conn ≡ Some half) (begun : is_begun log n conn ≡ true) (running : has_run log n conn ≡ true)
    (heard : Each (λ z. names_ready conn z.item ≡ false) (line log (queue.Router n))) where
  leaves : (o : Option Connection) → HaveLeft configs log n conn half taken x w l m → table.at w.connections.spawned conn ≡ o → EndsBy o (length log) n conn half w y m links (took_row why c taken) r
      → Leaving configs log n conn half why c taken x w y l m links r
  leaves None gone is d = absurd (is_kept configs log n conn half x.connections (s.each place.connections) has (sym (ap (λ (cs : Connections). table.at cs.spawned conn) gone.connections) ∙ is))
  leaves (Some connection) gone is d = record {
    stands = s;
    lasts = lasts;
    has = has;
    begun = begun;
    running = running;
    heard = heard;
    gone = gone;
    connection = connection;
    found = sym (ap (λ (cs : Connections). table.at cs.spawned conn) gone.connections) ∙ is;
    kept = d;
  }

  pub sent_end_performs : row configs log at seed (act.SendStep conn n) ≡ end_row log n conn half why c taken → HaveLeft configs log n conn half taken x w l m
      → Ends (length log) n conn half w y m links (took_row why c taken) r → Performs configs log (asked at seed (act.SendStep conn n)) n y links r
  sent_end_performs row_is gone ends = sent_performs (leaves (table.at w.connections.spawned conn) gone refl ends) at seed row_is

  pub received_end_performs : row configs log at seed (act.RecvStep conn n) ≡ end_row log n conn half why c taken → HaveLeft configs log n conn half taken x w l m
      → Ends (length log) n conn half w y m links (took_row why c taken) r → Performs configs log (asked at seed (act.RecvStep conn n)) n y links r
  received_end_performs row_is gone ends = received_performs (leaves (table.at w.connections.spawned conn) gone refl ends) at seed row_is

-- The links stand for the log with a stop, and with them the node: what a stop of a node that runs comes to.
use Rattle.std.proofs.Common.{◌≡◌, ℕ, Bool, false, List, [], ◌∷◌, ◌++◌, ap, sym, ◌∙◌}
use Rattle.std.specs.Prelude.{map, flat_map}
use Rattle.std.specs.List.{list_any, AllByRecursion as Each}
use Rattle.p2p_log.specs.declared.config.Config.{Config}
use Rattle.p2p_log.specs.declared.entry.Entry.{Entry}
use Rattle.p2p_log.specs.declared.event.Event.{Event}
use Rattle.p2p_log.specs.declared.event.Act.TheVariants as act
use Rattle.p2p_log.specs.declared.queue.Queue.TheVariants as queue
use Rattle.p2p_log.specs.declared.item.Envelope.{Envelope}
use Rattle.p2p_log.specs.Lines.{live, line}
use Rattle.p2p_log_rules.specs.declared.row.Row.{Row}
use Rattle.p2p_log_rules.specs.Dropping.{LinkEnd, half_end, arrival_end, drops_of, dialing_end, listening_end}
use Rattle.p2p_log_rules.specs.Effect.{effect}
use Rattle.p2p_log_rules.specs.Facts.{is_stopped}
use Rattle.p2p_log_rules.specs.Handshakes.{handshakes_of, came_over}
use Rattle.p2p_log_rules.specs.Connections.{half_at}
use Rattle.p2p_log_rules.specs.Told.{told, connections_in, attempts_in, half_to_be}
use Rattle.p2p_log_rules.proofs.Cutting.{is_cut-kept}
use Rattle.p2p_log_rules.proofs.Dialed.{dialer_of-kept}
use Rattle.p2p_log_rules.proofs.Dropping.{all_of, is_end_at}
use Rattle.p2p_log_rules.proofs.Links.{openings_of-kept}
use Rattle.p2p_net_gates.specs.ListenerStands.{ListenerStands}
use Rattle.p2p_net_gates.specs.declared.dialing.Dialing.{Dialing}
use Rattle.p2p_net_gates.proofs.Stops.{arrivals_listed}
use Rattle.p2p_net_connections.specs.SpawnerStands.{SpawnerStands}
use Rattle.p2p_net_connections.specs.declared.spawner.Spawning.{Spawning}
use Rattle.p2p_net_links.specs.Left.{all_dropped}
use Rattle.p2p_net_links.specs.Dropping.{is_dropped_at}
use Rattle.p2p_net_links.specs.Stands.{LinksStand}
use Rattle.p2p_net_links.specs.declared.links.Links.{Links}
use Rattle.p2p_net_links.proofs.Changes.{OpensNone, cuts_less, dials_less, exchanges_less}
use Rattle.p2p_net_links.proofs.Left.{all_dropped-dialers, all_dropped-openings, all_dropped-cut, all_dropped-are, openings_stopped, links_stopped}
use Rattle.p2p_net_links.proofs.StopEnds.{drops_stopped}
use Rattle.p2p_net_node.specs.Places as place
use Rattle.p2p_net_node.specs.Stands.{NodeStands}
use Rattle.p2p_net_node.specs.declared.node.Node.{Node}
use Rattle.p2p_net_node.proofs.Performing.{asked, Performs}
use Rattle.p2p_net_calls.specs.Stopping.{IsBare, StopsRunning, ends_handed, ends_held, messages_handed, arrivals_handed, attempt_holder, handshake_holder, connection_holder}
use Rattle.p2p_net_calls.proofs.StopLeft as step
use Rattle.p2p_net_calls.proofs.StopLists.{attempt_ends, handshake_ends, connection_ends}
use Rattle.p2p_net_calls.proofs.StopDrops.{dropped-append, messages_drop, arrivals_drop}
use Rattle.p2p_net_calls.proofs.StopNode as node

module _ (configs : List Config) (log : List Entry) (moment seed : ℕ) (by_start : Bool) (n : ℕ) (x y : Node) (l links : Links) (r : Row) (s : NodeStands configs log n x) (t : LinksStand configs log l)
    (lasts : is_stopped log n ≡ false) (bare : Each IsBare (live log)) (d : StopsRunning n x y l links r) where
  abbrev ev : Event
  ev = asked moment seed (act.Stop by_start n)

  abbrev e : Entry
  e = effect configs log ev

  abbrev after : List Entry
  after = log ++ e ∷ []

  -- ---- the links

  abbrev from_messages : List LinkEnd
  from_messages = ends_handed (messages_handed n l d.called.spawning.names d.called.spawning.mailbox.items)

  abbrev from_arrivals : List LinkEnd
  from_arrivals = ends_handed (arrivals_handed d.spawned.listening)

  abbrev from_attempts : List LinkEnd
  from_attempts = ends_held (map (attempt_holder n) d.told.dialing.attempts)

  abbrev from_handshakes : List LinkEnd
  from_handshakes = ends_held (map (handshake_holder n) d.tried.listening.handshakes)

  abbrev from_connections : List LinkEnd
  from_connections = ends_held (map (connection_holder n d.shaken_links) d.shaken.connections.spawned)

  abbrev dropped : List LinkEnd
  dropped = from_messages ++ (from_arrivals ++ (from_attempts ++ (from_handshakes ++ from_connections)))

  links_are : links ≡ all_dropped dropped l
  links_are =
      d.connections_links
      ∙ (ap (all_dropped from_connections) (d.handshakes_links ∙ ap (all_dropped from_handshakes) (d.attempts_links ∙ ap (all_dropped from_attempts) (d.arrivals_links ∙ ap (all_dropped from_arrivals) d.messages_links)))
      ∙ sym (dropped-append from_messages (from_arrivals ++ (from_attempts ++ (from_handshakes ++ from_connections))) l
      ∙ (dropped-append from_arrivals (from_attempts ++ (from_handshakes ++ from_connections)) (all_dropped from_messages l)
      ∙ (dropped-append from_attempts (from_handshakes ++ from_connections) (all_dropped from_arrivals (all_dropped from_messages l))
      ∙ dropped-append from_handshakes from_connections (all_dropped from_attempts (all_dropped from_arrivals (all_dropped from_messages l)))))))

  listened : ListenerStands configs log n x.listening
  listened = s.each place.listener

  spawned : SpawnerStands configs log n x.spawning
  spawned = s.each place.spawner

  -- the ends are those that the log says
  messages_are : from_messages ≡ flat_map (λ (z : Envelope). all_of (half_end (half_to_be (told log) n z.item))) (line log (queue.Spawner n))
  messages_are =
      ap (λ (w : Spawning). ends_handed (messages_handed n l w.names w.mailbox.items)) (node.called_spawning configs log moment seed by_start n x y l links r s t lasts bare d)
      ∙ (ap (λ names. ends_handed (messages_handed n l names x.spawning.mailbox.items)) spawned.names
      ∙ messages_drop configs log n l t (line log (queue.Spawner n)) x.spawning.mailbox.items spawned.messages)

  arrivals_are : from_arrivals ≡ flat_map (λ (z : Envelope). all_of (arrival_end (z.item ∷ []))) (line log (queue.Arrivals n))
  arrivals_are =
      ap (λ w. ends_handed (arrivals_handed w)) (node.spawned_listening configs log moment seed by_start n x y l links r s t lasts bare d)
      ∙ (ap ends_handed (arrivals_listed configs log n x.listening listened) ∙ arrivals_drop (line log (queue.Arrivals n)))

  attempts_are : from_attempts ≡ flat_map (λ k. all_of (dialing_end log n k)) (attempts_in (told log) n)
  attempts_are =
      ap (λ (w : Dialing). ends_held (map (attempt_holder n) w.attempts)) (step.told_dialing configs log n x y l links r s t lasts bare d)
      ∙ attempt_ends configs log n x.dialing (s.each place.dialer) (step.attempts_sorted configs log n x y l links r s t lasts bare d)

  handshakes_are : from_handshakes ≡ flat_map (λ h. all_of (listening_end (came_over log h))) (handshakes_of log n)
  handshakes_are =
      ap (λ hs. ends_held (map (handshake_holder n) hs)) (step.tried_handshakes configs log n x y l links r s t lasts bare d)
      ∙ handshake_ends configs log n x.listening listened (step.handshakes_sorted configs log n x y l links r s t lasts bare d)

  connections_are : from_connections ≡ flat_map (λ conn. all_of (half_end (half_at log n conn))) (connections_in (told log) n)
  connections_are =
      ap ends_held (step.holders_are configs log n x y l links r s t lasts bare d)
      ∙ connection_ends configs log n x.connections l (s.each place.connections) t (step.connections_sorted configs log n x y l links r s t lasts bare d)

  dropped_are : dropped ≡ drops_of log e
  dropped_are =
      ap (λ es. es ++ (from_arrivals ++ (from_attempts ++ (from_handshakes ++ from_connections)))) messages_are
      ∙ (ap (λ es. flat_map (λ (z : Envelope). all_of (half_end (half_to_be (told log) n z.item))) (line log (queue.Spawner n)) ++ es)
      (ap (λ es. es ++ (from_attempts ++ (from_handshakes ++ from_connections))) arrivals_are
      ∙ ap (λ es. flat_map (λ (z : Envelope). all_of (arrival_end (z.item ∷ []))) (line log (queue.Arrivals n)) ++ es)
      (ap (λ es. es ++ (from_handshakes ++ from_connections)) attempts_are
      ∙ ap (λ es. flat_map (λ k. all_of (dialing_end log n k)) (attempts_in (told log) n) ++ es)
      (ap (λ es. es ++ from_connections) handshakes_are
      ∙ ap (λ es. flat_map (λ h. all_of (listening_end (came_over log h))) (handshakes_of log n) ++ es) connections_are)))
      ∙ sym (drops_stopped log e n (node.stop configs log moment seed by_start n x y l links r s t lasts bare d)))

  opens : OpensNone log e
  opens = openings_stopped log e n by_start (node.acts configs log moment seed by_start n x y l links r s t lasts bare d)

  linked : LinksStand configs after links
  linked =
      links_stopped configs log e l links t
      (ap (λ (k : Links). k.dialers) links_are ∙ all_dropped-dialers l dropped)
      (ap (λ (k : Links). k.openings) links_are ∙ all_dropped-openings l dropped)
      (ap (λ (k : Links). k.cut) links_are ∙ all_dropped-cut l dropped)
      (node.holds configs log moment seed by_start n x y l links r s t lasts bare d).links
      (λ link w.
      ap (λ k. is_dropped_at k w link) links_are
      ∙ all_dropped-are configs log e l dropped t (λ k v. ap (list_any (is_end_at k v)) dropped_are) link w)
      (dialer_of-kept log e (dials_less log e opens))
      (openings_of-kept log e (exchanges_less log e opens))
      (is_cut-kept log e (cuts_less log e opens))

  -- ---- all of it

  pub stopped_performs : Performs configs log ev n y links r
  stopped_performs = record {
    row_is = node.row_same configs log moment seed by_start n x y l links r s t lasts bare d;
    node = record { own = node.own configs log moment seed by_start n x y l links r s t lasts bare d; life = node.life configs log moment seed by_start n x y l links r s t lasts bare d; each = node.part_stands configs log moment seed by_start n x y l links r s t lasts bare d };
    linked = linked;
  }

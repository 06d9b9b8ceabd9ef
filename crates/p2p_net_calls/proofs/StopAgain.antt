-- A node that had stopped is told to stop: nothing comes of it.
use Rattle.std.proofs.Common.{◌≡◌, ℕ, Bool, true, false, cond, List, [], ◌∷◌, ◌++◌, refl, ap, sym, subst, ◌∙◌, append-nil, Some, None}
use Rattle.std.specs.Prelude.{◌&&◌, ◌||◌, not}
use Rattle.std.specs.List.{list_any}
use Rattle.p2p_log.specs.declared.config.Config.{Config}
use Rattle.p2p_log.specs.declared.entry.Entry.{Entry}
use Rattle.p2p_log.specs.declared.entry.Reply.TheVariants as reply
use Rattle.p2p_log.specs.declared.event.Event.{Event}
use Rattle.p2p_log.specs.declared.event.Act.TheVariants as act
use Rattle.p2p_log.specs.declared.queue.Queue.{Queue}
use Rattle.p2p_log.specs.declared.queue.Queue.TheVariants as queue
use Rattle.p2p_log.specs.declared.end.Cause.TheVariants as cause
use Rattle.p2p_log.specs.Drained.{drained_with, all_end}
use Rattle.p2p_log.specs.Lines.{live, line}
use Rattle.p2p_log_rules.specs.declared.row.Row.{Row}
use Rattle.p2p_log_rules.specs.Attempting.{attempts_of, attempt_in, dial_rules_at}
use Rattle.p2p_log_rules.specs.Connections.{is_over, ends_connection}
use Rattle.p2p_log_rules.specs.Dropping.{drops_in}
use Rattle.p2p_log_rules.specs.Effect.{effect, row}
use Rattle.p2p_log_rules.specs.Facts.{is_stopped, is_started, is_up, registers_at, taken, stops_node}
use Rattle.p2p_log_rules.specs.Rows.{only}
use Rattle.p2p_log_rules.specs.Stopping.{brought_by, queues_at}
use Rattle.p2p_log_rules.specs.Told.{told, tells}
use Rattle.p2p_log_rules.proofs.Ignoring.{reads_some}
use Rattle.p2p_log_rules.specs.Dialing.{dials_of}
use Rattle.p2p_log_rules.specs.Links.{has_listening}
use Rattle.p2p_log_rules.proofs.Tellings.{told-append}
use Rattle.p2p_log_rules.proofs.Channels.{tells_again, is_stopped-append}
use Rattle.p2p_log_rules.proofs.Connections.{begins_act, live_connection-kept}
use Rattle.p2p_log_rules.proofs.Closing.{reader_kinds, is_closed-apart}
use Rattle.p2p_log_rules.proofs.Families.{kinds_of, are_apart}
use Rattle.p2p_log_rules.proofs.Handshakes.{handshakes_of-kept, of_handshakes}
use Rattle.p2p_log_rules.proofs.Links.{listening_ends_of-kept}
use Rattle.p2p_log_rules.proofs.Listening.{known_of-untaken}
use Rattle.p2p_log_rules.proofs.Routing.{route_kinds}
use Rattle.p2p_log_rules.proofs.Spawning.{connections_of-untaken}
use Rattle.p2p_log_rules.proofs.Steps.{steps_tracker}
use Rattle.p2p_log_rules.proofs.Answers.{takes_answer}
use Rattle.p2p_net_queues.specs.Tables as table
use Rattle.p2p_net_router.specs.Stands.{RoutesNothing}
use Rattle.p2p_net_router.proofs.Resting.{rests_kept}
use Rattle.p2p_net_router.proofs.Unrouted.{unrouted_apart}
use Rattle.p2p_net_channels.proofs.Changes.{channels_frame}
use Rattle.p2p_net_tracker.specs.Stands.{asks_of}
use Rattle.p2p_net_tracker.proofs.Changes.{tracker_frame}
use Rattle.p2p_net_gates.specs.DialerStands.{DialerStands, AttemptStands, gates_at, actor_of}
use Rattle.p2p_net_gates.proofs.Handshakes.{nothing_tells}
use Rattle.p2p_net_gates.proofs.ListenerChanges.{listener_frame}
use Rattle.p2p_net_connections.proofs.Changes.{connections_frame}
use Rattle.p2p_net_connections.proofs.SpawnerChanges.{spawner_kept}
use Rattle.p2p_net_links.specs.Stands.{LinksStand}
use Rattle.p2p_net_links.specs.declared.links.Links.{Links}
use Rattle.p2p_net_links.proofs.Changes.{links_frame}
use Rattle.p2p_net_links.proofs.Left.{openings_stopped}
use Rattle.p2p_net_node.specs.Places as place
use Rattle.p2p_net_node.specs.Stands.{NodeStands, PartStands, RouterLives}
use Rattle.p2p_net_node.specs.declared.node.Node.{Node}
use Rattle.p2p_net_node.proofs.Frames.{effect-act, rests_on}
use Rattle.p2p_net_node.proofs.Performing.{asked, Performs, IsStill, effect-still, line-still, taken-none}
use Rattle.p2p_net_node.proofs.Receivers.{receives_nothing, admits_nothing, sends_apart}

module _ (configs : List Config) (log : List Entry) (moment seed : ℕ) (by_start : Bool) (n : ℕ) (x : Node) (s : NodeStands configs log n x) (over : is_stopped log n ≡ true) where
  abbrev ev : Event
  ev = asked moment seed (act.Stop by_start n)

  abbrev e : Entry
  e = effect configs log ev

  abbrev after : List Entry
  after = log ++ e ∷ []

  acts : e.event.act ≡ act.Stop by_start n
  acts = effect-act configs log ev

  gone : row configs log ev.at ev.seed ev.act ≡ only reply.Gone
  unfolding row
  gone = ap (λ b. cond b (only reply.Gone) (record { reply = reply.Ok; takes = []; puts = []; ends = all_end cause.NodeStopped (drained_with (brought_by log) (live log) (queues_at log n)) })) over

  still : IsStill e reply.Gone
  still = effect-still configs log ev reply.Gone gone

  tells_nothing : tells (told log) log e ≡ []
  tells_nothing = tells_again log e n by_start acts over

  none_taken : taken log e ≡ []
  none_taken = taken-none log e still.takes

  stays : (q : Queue) → line after q ≡ line log q
  stays q = line-still log e reply.Gone q still

  ends_none : (conn : ℕ) → ends_connection n conn log e ≡ false
  ends_none conn = ap (list_any (is_over n conn)) tells_nothing

  over_after : is_stopped after n ≡ true
  over_after = is_stopped-append log e n ∙ (ap (λ us. is_stopped log n || list_any (stops_node n) us) tells_nothing ∙ ap (λ b. b || false) over)

  down : (l : List Entry) → is_stopped l n ≡ true → is_up l n ≡ false
  unfolding is_up
  down l is = ap (λ b. is_started l n && not b) is ∙ by (is_started l n)
    where
      by : (b : Bool) → (b && false) ≡ false
      by true = refl
      by false = refl

  routed : RoutesNothing log e n
  routed = unrouted_apart log e n (ap (λ b. are_apart (kinds_of b) route_kinds) acts)

  same_attempts : (k : ℕ) → attempts_of configs after n k ≡ attempts_of configs log n k
  unfolding attempts_of
  same_attempts k = ap (attempt_in n k (dial_rules_at configs n)) (told-append log e ∙ (ap (λ us. told log ++ us) tells_nothing ∙ append-nil (told log)))

  dialer_rests : DialerStands configs after n x.dialing
  dialer_rests =
      let d : DialerStands configs log n x.dialing = s.each place.dialer in
      record {
        actor = d.actor
            ∙ (ap (λ b. cond b (Some (actor_of (gates_at configs n) (dials_of configs log n))) None) (down log over)
            ∙ sym (ap (λ b. cond b (Some (actor_of (gates_at configs n) (dials_of configs after n))) None) (down after over_after)));
        attempts = λ k.
            subst (λ o. AttemptStands (gates_at configs n) k (table.at x.dialing.attempts k) o (line after (queue.Attempt n k))) (sym (same_attempts k))
            (subst (AttemptStands (gates_at configs n) k (table.at x.dialing.attempts k) (attempts_of configs log n k)) (sym (stays (queue.Attempt n k))) (d.attempts k));
      }

  router_rests : RouterLives configs after n x.router
  router_rests =
      let lives : RouterLives configs log n x.router = s.each place.router in
      rests_on configs after n x.router over_after
      (rests_kept configs log e n x.router (lives.rests over) (λ c. stays (queue.Peers n c)) routed.routes_stay routed.subscribers_stay)

  part_rests : (p : place.Part) → PartStands p configs after n x
  part_rests place.router = router_rests
  part_rests place.channels =
      channels_frame configs log e n x.channels (s.each place.channels)
      (record {
        registers = ap (registers_at configs n) acts;
        lines = λ c. stays (queue.Channel n c);
        admits = admits_nothing configs log e n none_taken;
        sends = sends_apart log e n (act.Stop by_start n) acts (refl, refl);
        closes = record { readers = λ c. is_closed-apart log e n c (ap (λ b. are_apart (kinds_of b) reader_kinds) acts); goes_on = over_after ∙ sym over };
      })
  part_rests place.connections =
      connections_frame configs log e n x.connections (s.each place.connections)
      (record {
        spawns = λ conn. live_connection-kept log e n conn (ends_none conn) (connections_of-untaken log e n none_taken conn);
        begins = λ conn. begins_act log e n conn (act.Stop by_start n) acts;
        receives = receives_nothing configs log e n none_taken (λ conn. stays (queue.Held n conn));
        lines = λ conn. stays (queue.RouterAnswer n conn);
      })
  part_rests place.tracker =
      tracker_frame configs log e n x.tracker (s.each place.tracker)
      (record {
        no_step = ap (steps_tracker n) acts;
        no_end = ends_none;
        no_question = ap (asks_of n) acts;
        goes_on = over_after ∙ sym over;
        no_answer = λ d asks. ap (λ b. takes_answer d b e.reply) acts;
        no_late_answer = λ d past. ap (λ b. takes_answer d b e.reply) acts;
        mailbox = stays (queue.Tracker n);
        told = λ p own. stays p;
        handshakes = handshakes_of-kept log e n (ap (list_any (of_handshakes n)) tells_nothing);
      })
  part_rests place.dialer = dialer_rests
  part_rests place.listener =
      listener_frame configs log e n x.listening (s.each place.listener)
      (record {
        tells = λ k. nothing_tells log e n k none_taken;
        ends = λ k. listening_ends_of-kept log e n k (ap (list_any (reads_some (has_listening n k))) tells_nothing);
        known = known_of-untaken configs log e n none_taken;
        handshakes = handshakes_of-kept log e n (ap (list_any (of_handshakes n)) tells_nothing);
        arrivals = stays (queue.Arrivals n);
      })
  part_rests place.spawner = spawner_kept configs log e n x.spawning (s.each place.spawner) (stays (queue.Spawner n))

  pub again_performs : (y : Node) (l links : Links) (r : Row) → LinksStand configs log l → y ≡ x → links ≡ l → r ≡ only reply.Gone → Performs configs log ev n y links r
  again_performs y l links r t same kept is = record {
    row_is = is ∙ sym gone;
    node = subst (NodeStands configs after n) (sym same) (record { own = s.own; life = s.life ∙ (over ∙ sym over_after); each = part_rests });
    linked = subst (LinksStand configs after) (sym kept) (links_frame configs log e l t (λ w link. stays (queue.Link link w)) (openings_stopped log e n by_start acts) (ap drops_in tells_nothing));
  }

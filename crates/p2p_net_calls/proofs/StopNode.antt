-- A node that stopped stands for the log with the stop, each part of it.
use Rattle.std.proofs.Common.{◌≡◌, ℕ, Bool, true, false, cond, List, [], ◌∷◌, ◌++◌, length, inl, inr, refl, ap, sym, subst, ◌∙◌, append-nil, arith, ◌+◌, eqb-true, Some}
use Rattle.std.specs.Prelude.{◌==◌, ◌||◌, ◌*◌, map, filter, flat_map, slice_get}
use Rattle.std.specs.List.{AllByRecursion as Each}
use Rattle.std.specs.Map.{keys_of}
use Rattle.std.proofs.lemmas.Bool.{false≢true}
use Rattle.p2p_log.specs.declared.config.Config.{Config}
use Rattle.p2p_log.specs.declared.entry.Entry.{Entry}
use Rattle.p2p_log.specs.declared.entry.Reply.TheVariants as reply
use Rattle.p2p_log.specs.declared.event.Event.{Event}
use Rattle.p2p_log.specs.declared.event.Act.TheVariants as act
use Rattle.p2p_log.specs.declared.queue.Queue.{Queue}
use Rattle.p2p_log.specs.declared.queue.Queue.TheVariants as queue
use Rattle.p2p_log.specs.declared.item.Envelope.{Envelope}
use Rattle.p2p_log.specs.declared.end.Cause.TheVariants as cause
use Rattle.p2p_log.specs.Lines.{name_of, ended_item, stays, stands_in, live, line}
use Rattle.p2p_log.specs.QueueCode.{same_queue}
use Rattle.p2p_log.specs.Drained.{drained_with, all_end}
use Rattle.p2p_log.proofs.Filters.{filter-swap}
use Rattle.p2p_log.proofs.Each.{Has, Has-after, Has-first, Has-flat_map}
use Rattle.p2p_log.proofs.Lines.{live-append}
use Rattle.p2p_log_rules.specs.declared.row.Row.{Row}
use Rattle.p2p_log_rules.specs.Connections.{is_ended}
use Rattle.p2p_log_rules.specs.Effect.{effect, row, entry_of}
use Rattle.p2p_log_rules.specs.Facts.{is_stopped, registers_at}
use Rattle.p2p_log_rules.specs.Handshakes.{handshakes_of, is_handshaking}
use Rattle.p2p_log_rules.specs.Connections.{half_at}
use Rattle.p2p_log_rules.specs.Rows.{only}
use Rattle.p2p_log_rules.specs.Stopping.{brought_by, queues_at, with_attempt, with_handshake, with_half, emptied_at}
use Rattle.p2p_log_rules.specs.Told.{told, connections_in, attempts_in}
use Rattle.p2p_log_rules.proofs.Channels.{IsStopOf, is_stopped-stops}
use Rattle.p2p_log_rules.proofs.Emptied.{OfKinds, each_emptied}
use Rattle.p2p_log_rules.proofs.Closing.{reader_kinds, is_closed-apart}
use Rattle.p2p_log_rules.proofs.Families.{kinds_of, are_apart}
use Rattle.p2p_log_rules.proofs.Handshakes.{is_among}
use Rattle.p2p_log_rules.proofs.Moves.{all_end-gone}
use Rattle.p2p_log_rules.proofs.Stopping.{attempts_of-stopped}
use Rattle.p2p_log_laws.proofs.StopLeaves.{stop_empties}
use Rattle.p2p_log_laws.proofs.Untouched.{line-untouched}
use Rattle.p2p_net_queues.specs.Tables as table
use Rattle.p2p_net_router.specs.Resting.{RouterRests}
use Rattle.p2p_net_router.specs.Stands.{RoutesNothing}
use Rattle.p2p_net_router.proofs.Resting.{resting_after}
use Rattle.p2p_net_router.proofs.Unrouted.{unrouted_apart}
use Rattle.p2p_log_rules.proofs.Routing.{route_kinds}
use Rattle.p2p_net_channels.specs.Channels.{with_end}
use Rattle.p2p_net_channels.specs.Stands.{ChannelsStand}
use Rattle.p2p_net_channels.specs.declared.channels.Channels.{Channels}
use Rattle.p2p_net_channels.proofs.Changes.{channels_ended}
use Rattle.p2p_net_tracker.specs.Heeding.{is_noted}
use Rattle.p2p_net_tracker.specs.Stands.{TrackerStands}
use Rattle.p2p_net_tracker.specs.Stopping.{TrackerLeft}
use Rattle.p2p_tracker_mailbox.specs.Mailboxes.{closed_mailbox}
use Rattle.p2p_net_tracker.specs.declared.tracker.Tracker.{Tracker}
use Rattle.p2p_net_tracker.proofs.AtDesk.{is_polled, polled_apart}
use Rattle.p2p_net_tracker.proofs.Stopped.{IsEmptied, stop_leaves, none_waits, tracker_left_kept, tracker_stopped}
use Rattle.p2p_net_gates.specs.DialerStands.{DialerStands}
use Rattle.p2p_net_gates.specs.ListenerStands.{ListenerStands}
use Rattle.p2p_net_gates.specs.Stopping.{waiting_names, emptied}
use Rattle.p2p_net_gates.specs.declared.listening.Listening.{Listening}
use Rattle.p2p_net_gates.proofs.Stops.{is_up-stopped, dialer_stopped, listener_stopped, stops_listener, handshakes_held, emptied-all}
use Rattle.p2p_net_connections.specs.SpawnerStands.{SpawnerStands}
use Rattle.p2p_net_connections.specs.Stands.{ConnectionsStand}
use Rattle.p2p_net_connections.specs.declared.connections.Connections.{Connections}
use Rattle.p2p_net_connections.specs.declared.spawner.Spawning.{Spawning}
use Rattle.p2p_net_connections.proofs.Listed.{connections_listed}
use Rattle.p2p_net_connections.proofs.SpawnerStop.{spawner_stopped}
use Rattle.p2p_net_connections.proofs.Stopped.{stops_connections, connections_stopped}
use Rattle.p2p_net_links.specs.Stands.{LinksStand}
use Rattle.p2p_net_links.specs.declared.links.Links.{Links}
use Rattle.p2p_net_node.specs.Places as place
use Rattle.p2p_net_node.specs.Stands.{OwnStands, NodeStands, RouterLives, RouterStands, PartStands}
use Rattle.p2p_net_node.specs.declared.node.Node.{Node}
use Rattle.p2p_net_node.proofs.Frames.{effect-act}
use Rattle.p2p_net_node.proofs.Performing.{asked}
use Rattle.p2p_net_node.proofs.Receivers.{admits_apart, sends_apart}
use Rattle.p2p_net_calls.specs.Stopping.{IsBare, NodeLeft, left, StopsRunning, RouterKeeps}
use Rattle.p2p_net_calls.proofs.StopLeft as step
use Rattle.p2p_net_calls.proofs.Looping.{router_kept}
use Rattle.p2p_net_calls.proofs.StopDrops.{none_named, listing_moved, ended_now, any_none, no_channel}

-- ---- the node that stopped

-- what no step of a stop touches
record Core : Type 0 where
  pub config : Config
  pub retained : ℕ
  pub failed : Bool

abbrev channels_of : Node → Channels
channels_of z = z.channels

abbrev core : Node → Core
core z = record { config = z.config; retained = z.retained; failed = z.failed }

module _ (configs : List Config) (log : List Entry) (moment seed : ℕ) (by_start : Bool) (n : ℕ) (x y : Node) (l links : Links) (r : Row) (s : NodeStands configs log n x) (t : LinksStand configs log l)
    (lasts : is_stopped log n ≡ false) (bare : Each IsBare (live log)) (d : StopsRunning n x y l links r) where
  abbrev pub ev : Event
  ev = asked moment seed (act.Stop by_start n)

  abbrev pub e : Entry
  e = effect configs log ev

  abbrev pub after : List Entry
  after = log ++ e ∷ []

  abbrev pub all : List Envelope
  all = drained_with (brought_by log) (live log) (queues_at log n)

  pub acts : e.event.act ≡ act.Stop by_start n
  acts = effect-act configs log ev

  pub stop : IsStopOf log e n
  stop = record { by_start = by_start; acts = acts; lasted = lasts }

  -- ---- the row

  due : Row
  due = record { reply = reply.Ok; takes = []; puts = []; ends = all_end cause.NodeStopped all }

  row_due : row configs log ev.at ev.seed ev.act ≡ due
  unfolding row due
  row_due = ap (λ b. cond b (only reply.Gone) due) lasts

  pub row_same : r ≡ row configs log ev.at ev.seed ev.act
  unfolding due
  row_same = step.row_adds configs log n x y l links r s t lasts bare d ∙ sym row_due

  -- ---- what is left in the queues

  live_is : live after ≡ left all (live log)
  unfolding effect due
  live_is =
      ap (λ w. live (log ++ entry_of ev w ∷ [])) row_due
      ∙ (live-append log (entry_of ev due)
      ∙ (append-nil (filter (stays (flat_map ended_item (all_end cause.NodeStopped all))) (live log)) ∙ ap (λ gone. filter (stays gone) (live log)) (all_end-gone cause.NodeStopped all)))

  pub holds : NodeLeft n d.left links (live after)
  holds = subst (NodeLeft n d.left links) (sym live_is) (step.holds_left configs log n x y l links r s t lasts bare d)

  -- a queue that is not among them stays as it was
  untouched : (q : Queue) → OfKinds n (λ p. same_queue p q ≡ false) → line after q ≡ line log q
  untouched q kinds = line-untouched configs log ev q refl refl (any_none q (emptied_at log n) (each_emptied log n (λ p. same_queue p q ≡ false) kinds))

  -- none of those that are emptied is one of those
  elsewhere : (q : Queue) → is_polled q ≡ true → OfKinds n (λ p. same_queue p q ≡ false)
  elsewhere q asked = record {
    router = polled_apart (queue.Router n) q asked refl;
    tracker = polled_apart (queue.Tracker n) q asked refl;
    spawner = polled_apart (queue.Spawner n) q asked refl;
    arrivals = polled_apart (queue.Arrivals n) q asked refl;
    update = polled_apart (queue.Addresses n) q asked refl;
    dialer = polled_apart (queue.Dialer n) q asked refl;
    attempt = λ k. polled_apart (queue.Attempt n k) q asked refl;
    handshake = λ h. polled_apart (queue.Handshake n h) q asked refl;
    high = λ k. polled_apart (queue.High n k) q asked refl;
    low = λ k. polled_apart (queue.Low n k) q asked refl;
    held = λ k. polled_apart (queue.Held n k) q asked refl;
    control = λ k. polled_apart (queue.Control n k) q asked refl;
    ready = λ k. polled_apart (queue.RouterAnswer n k) q asked refl;
    link = λ l t. polled_apart (queue.Link l t) q asked refl;
  }

  channel_stays : (c : ℕ) → line after (queue.Channel n c) ≡ line log (queue.Channel n c)
  channel_stays c = untouched (queue.Channel n c) (record {
    router = refl;
    tracker = refl;
    spawner = refl;
    arrivals = refl;
    update = refl;
    dialer = refl;
    attempt = λ k. refl;
    handshake = λ h. refl;
    high = λ k. refl;
    low = λ k. refl;
    held = λ k. refl;
    control = λ k. refl;
    ready = λ k. refl;
    link = no_channel n c;
  })

  -- what waits for those who asked the tracker by its oracle stays
  asked_stays : (q : Queue) → is_polled q ≡ true → line after q ≡ line log q
  asked_stays q asked = untouched q (elsewhere q asked)

  emptied_queue : (q : Queue) → Has (queues_at log n) q → line after q ≡ []
  emptied_queue q has = stop_empties configs log ev n stop q has

  -- where nothing waited, nothing waits
  stays_empty : (q : Queue) → line log q ≡ [] → line after q ≡ []
  unfolding line
  stays_empty q none =
      ap (filter (stands_in q)) live_is
      ∙ (filter-swap (stands_in q) (stays (map name_of all)) (live log) ∙ ap (filter (stays (map name_of all))) none)

  -- ---- what the node is made of

  core_same : core y ≡ core x
  core_same =
      ap core d.closed.rest
      ∙ (ap core d.connections_rest.rest
      ∙ (ap core d.handshakes_rest.rest
      ∙ (ap core d.attempts_rest ∙ (ap core d.told_rest ∙ (ap core d.arrivals ∙ (ap core d.messages.rest ∙ ap core d.mailboxes_ended.rest))))))

  pub own : OwnStands configs n y
  own = record {
    config = subst (λ (c : Core). slice_get configs n ≡ Some c.config) (sym core_same) s.own.config;
    retained = subst (λ (c : Core). c.retained ≡ c.config.max_peers_per_set * c.config.tracked_peer_sets) (sym core_same) s.own.retained;
    works = subst (λ (c : Core). c.failed ≡ false) (sym core_same) s.own.works;
  }

  over : is_stopped after n ≡ true
  over = is_stopped-stops log e n by_start acts

  pub life : y.stopped ≡ is_stopped after n
  life = ap (λ (z : Node). z.stopped) d.closed.rest ∙ sym over

  -- ---- its router

  router_same : d.shaken.router ≡ d.called.router
  router_same =
      ap (λ (z : Node). z.router) d.handshakes_rest.rest
      ∙ (ap (λ (z : Node). z.router) d.attempts_rest
      ∙ (ap (λ (z : Node). z.router) d.told_rest ∙ (ap (λ (z : Node). z.router) d.arrivals ∙ ap (λ (z : Node). z.router) d.messages.rest)))

  router_keeps : RouterKeeps x.router y.router
  router_keeps =
      router_kept x.router d.left.router y.router
      (router_kept x.router d.shaken.router d.left.router (subst (RouterKeeps x.router) (sym router_same) d.mailboxes_ended.router) d.connections_rest.router)
      d.closed.router

  ran : RouterStands configs log n x.router
  ran = (s.each place.router).runs lasts

  routed : RoutesNothing log e n
  routed = unrouted_apart log e n (ap (λ b. are_apart (kinds_of b) route_kinds) acts)

  rests : RouterRests configs after n y.router
  rests =
      resting_after configs log e n x.router y.router ran.stands ran.number (router_keeps.number ∙ ran.number) d.closed.closed
      (listing_moved d.left.router y.router (live after) d.closed.router.number d.closed.router.channels d.closed.router.numbers d.closed.lists d.closed.names holds.router.listing)
      router_keeps.taken router_keeps.routes router_keeps.channels router_keeps.numbers routed.routes_stay routed.subscribers_stay

  router_lives : RouterLives configs after n y.router
  router_lives = record {
    number = router_keeps.number ∙ ran.number;
    runs = λ now. absurd (false≢true (sym now ∙ over));
    rests = λ now. rests;
  }

  -- ---- its channels

  channels_were : d.left.channels ≡ x.channels
  channels_were =
      ap channels_of d.connections_rest.rest
      ∙ (ap channels_of d.handshakes_rest.rest
      ∙ (ap channels_of d.attempts_rest ∙ (ap channels_of d.told_rest ∙ (ap channels_of d.arrivals ∙ (ap channels_of d.messages.rest ∙ ap channels_of d.mailboxes_ended.rest)))))

  channels_stand : ChannelsStand configs after n y.channels
  channels_stand =
      subst (ChannelsStand configs after n) (sym (ap channels_of d.closed.rest ∙ ap with_end channels_were))
      (channels_ended configs log e n x.channels (s.each place.channels) over (ap (registers_at configs n) acts) (admits_apart configs log e n (act.Stop by_start n) acts (λ conn. refl))
      (sends_apart log e n (act.Stop by_start n) acts (refl, refl)) (λ c. is_closed-apart log e n c (ap (λ b. are_apart (kinds_of b) reader_kinds) acts)) channel_stays)

  -- ---- its connections

  connections_same : y.connections ≡ d.left.connections
  connections_same = ap (λ (z : Node). z.connections) d.closed.rest

  were : d.shaken.connections ≡ x.connections
  were = step.shaken_connections configs log n x y l links r s t lasts bare d

  connections_stand : ConnectionsStand configs after n y.connections
  connections_stand =
      subst (ConnectionsStand configs after n) (sym connections_same)
      (connections_stopped configs log e n x.connections d.left.connections (s.each place.connections) d.connections_rest.none
      (d.connections_rest.connections.stages ∙ ap (λ (c : Connections). c.stages) were)
      holds.connections (stops_connections configs log e n stop))

  -- ---- its tracker

  -- without what it told, and which connections ended
  abbrev plain : Tracker → Tracker
  plain w = record w { told = x.tracker.told; ended = x.tracker.ended }

  abbrev without_mail : Tracker → Tracker
  without_mail w = record w { mailbox = closed_mailbox w.mailbox }

  tracker_left_same : plain d.left.tracker ≡ plain d.called.tracker
  tracker_left_same =
      ap (λ (z : Node). plain z.tracker) d.connections_rest.rest
      ∙ (ap (λ (z : Node). plain z.tracker) d.handshakes_rest.rest
      ∙ (ap (λ (z : Node). plain z.tracker) d.attempts_rest
      ∙ (ap (λ (z : Node). plain z.tracker) d.told_rest ∙ (ap (λ (z : Node). plain z.tracker) d.arrivals ∙ ap (λ (z : Node). plain z.tracker) d.messages.rest))))

  tracker_is : plain y.tracker ≡ record x.tracker { mailbox = closed_mailbox x.tracker.mailbox; names = [] }
  tracker_is =
      ap (λ (z : Node). plain z.tracker) d.closed.rest
      ∙ (ap without_mail tracker_left_same ∙ ap (λ (z : Node). without_mail (plain z.tracker)) d.mailboxes_ended.rest)

  tracker_emptied : IsEmptied x.tracker y.tracker
  tracker_emptied = record {
    actor = ap (λ (w : Tracker). w.actor) tracker_is;
    mailbox = ap (λ (w : Tracker). w.mailbox) tracker_is;
    oracle = ap (λ (w : Tracker). w.oracle) tracker_is;
    names = ap (λ (w : Tracker). w.names) tracker_is;
    tickets = ap (λ (w : Tracker). w.tickets) tracker_is;
    questions = ap (λ (w : Tracker). w.questions) tracker_is;
    answered = ap (λ (w : Tracker). w.answered) tracker_is;
  }

  tracker_left : TrackerLeft n y.tracker (live after)
  tracker_left =
      tracker_left_kept n d.left.tracker y.tracker (live after) (ap (λ (z : Node). z.tracker.names) d.closed.rest) (ap (λ (z : Node). z.tracker.told) d.closed.rest) holds.tracker

  in_order : (h : ℕ) → is_handshaking log n h ≡ true → Has (queues_at log n) (queue.Handshake n h)
  in_order h among =
      let attempts : List Queue = flat_map (with_attempt log n) (attempts_in (told log) n) in
      let handshakes : List Queue = flat_map (with_handshake log n) (handshakes_of log n) in
      let halves : List Queue = flat_map (λ conn. with_half n conn (half_at log n conn)) (connections_in (told log) n) in
      inr (inr (inr (inr (inr (inr
      (Has-after attempts (handshakes ++ halves) (queue.Handshake n h)
      (Has-first handshakes halves (queue.Handshake n h) (Has-flat_map (with_handshake log n) (handshakes_of log n) h (queue.Handshake n h) (found (handshakes_of log n) among) (inl refl)))))))))
    where
      found : (hs : List ℕ) → is_among h hs ≡ true → Has hs h
      found [] none = absurd (false≢true none)
      found (k ∷ ks) more = here (h == k) refl more (found ks)
        where
          here : (b : Bool) → (h == k) ≡ b → (b || is_among h ks) ≡ true → (is_among h ks ≡ true → Has ks h) → Has (k ∷ ks) h
          here true same more later = inl (sym (eqb-true h k same))
          here false other more later = inr (later more)

  no_handshake_waits : (h : ℕ) → line after (queue.Handshake n h) ≡ []
  no_handshake_waits h = by (is_handshaking log n h) refl
    where
      by : (b : Bool) → is_handshaking log n h ≡ b → line after (queue.Handshake n h) ≡ []
      by true runs = emptied_queue (queue.Handshake n h) (in_order h runs)
      by false rests = stays_empty (queue.Handshake n h) (none_waits configs log n h x.tracker (s.each place.tracker) rests)

  ended_before : d.shaken.tracker.ended ≡ x.tracker.ended
  ended_before =
      ap (λ (z : Node). z.tracker.ended) d.handshakes_rest.rest
      ∙ (ap (λ (z : Node). z.tracker.ended) d.attempts_rest
      ∙ (ap (λ (z : Node). z.tracker.ended) d.told_rest
      ∙ (ap (λ (z : Node). z.tracker.ended) d.arrivals ∙ (ap (λ (z : Node). z.tracker.ended) d.messages.rest ∙ ap (λ (z : Node). z.tracker.ended) d.mailboxes_ended.rest))))

  keys_are : keys_of d.shaken.connections.spawned ≡ connections_in (told log) n
  keys_are =
      ap (λ (c : Connections). keys_of c.spawned) were
      ∙ connections_listed configs log n x.connections (s.each place.connections) (step.connections_sorted configs log n x y l links r s t lasts bare d)

  ended : (conn : ℕ) → is_noted y.tracker.ended conn ≡ is_ended after n conn
  ended conn =
      ap (λ (z : Node). is_noted z.tracker.ended conn) d.closed.rest
      ∙ (d.connections_rest.ended conn
      ∙ ended_now log e n conn (keys_of d.shaken.connections.spawned) (is_noted d.shaken.tracker.ended conn) stop keys_are (ap (λ m. is_noted m conn) ended_before ∙ (s.each place.tracker).ended conn))

  tracker_stands : TrackerStands configs after n y.tracker
  tracker_stands =
      tracker_stopped configs log e n x.tracker y.tracker (s.each place.tracker) tracker_emptied tracker_left
      (stop_leaves configs log e n stop (emptied_queue (queue.Tracker n) (inr (inl refl))) (emptied_queue (queue.Addresses n) (inr (inr (inr (inr (inl refl))))))
      (emptied_queue (queue.Dialer n) (inr (inr (inr (inr (inr (inl refl))))))) no_handshake_waits asked_stays)
      ended

  -- ---- its dialer

  attempts_gone : d.left.dialing.attempts ≡ []
  attempts_gone =
      ap (λ (z : Node). z.dialing.attempts) d.connections_rest.rest
      ∙ (ap (λ (z : Node). z.dialing.attempts) d.handshakes_rest.rest ∙ ap (λ (z : Node). z.dialing.attempts) d.attempts_rest)

  dialer_stands : DialerStands configs after n y.dialing
  unfolding line
  dialer_stands =
      dialer_stopped configs log e n y.dialing (ap (λ (z : Node). z.dialing.actor) d.closed.rest) (ap (λ (z : Node). z.dialing.attempts) d.closed.rest ∙ attempts_gone)
      (is_up-stopped log e n stop) (attempts_of-stopped configs log e n stop)
      (λ k. none_named (filter (stands_in (queue.Attempt n k)) (live after)) (sym (ap (λ m. waiting_names (table.at m k)) attempts_gone) ∙ holds.dialer.names k))

  -- ---- its listener

  told_listening : d.told.listening ≡ d.heard.listening
  told_listening = ap (λ (z : Node). z.listening) d.told_rest

  tried_listening : d.tried.listening ≡ d.heard.listening
  tried_listening = ap (λ (z : Node). z.listening) d.attempts_rest ∙ told_listening

  pub spawned_listening : d.spawned.listening ≡ x.listening
  spawned_listening = ap (λ (z : Node). z.listening) d.messages.rest ∙ ap (λ (z : Node). z.listening) d.mailboxes_ended.rest

  heard_listening : d.tried.listening ≡ record x.listening { names = []; actor = record x.listening.actor { arrivals = [] } }
  heard_listening =
      tried_listening ∙ (ap (λ (z : Node). z.listening) d.arrivals ∙ ap (λ (w : Listening). record w { names = []; actor = record w.actor { arrivals = [] } }) spawned_listening)

  shaken_listening : y.listening ≡ record d.shaken.listening { ends = [] }
  shaken_listening =
      ap (λ (z : Node). z.listening) d.closed.rest ∙ ap (λ (z : Node). record z.listening { ends = [] }) d.connections_rest.rest

  actor_is : d.shaken.listening.actor ≡ record x.listening.actor { arrivals = []; places = d.shaken.listening.actor.places }
  actor_is = d.handshakes_rest.actor ∙ ap (λ (w : Listening). record w.actor { places = d.shaken.listening.actor.places }) heard_listening

  none_held : (held more before : ℕ) → held + more ≡ before → more ≡ before → held ≡ 0
  none_held held more before all same = omega (arith, all, same)

  places_free : d.shaken.listening.actor.places.held ≡ 0
  places_free =
      none_held d.shaken.listening.actor.places.held (length d.tried.listening.handshakes) d.tried.listening.actor.places.held d.handshakes_rest.held
      (ap (λ hs. length hs) (step.tried_handshakes configs log n x y l links r s t lasts bare d)
      ∙ (handshakes_held configs log n x.listening (s.each place.listener) (step.handshakes_sorted configs log n x y l links r s t lasts bare d)
      ∙ sym (ap (λ (w : Listening). w.actor.places.held) heard_listening)))

  most_same : d.shaken.listening.actor.places.max ≡ x.listening.actor.places.max
  most_same = d.handshakes_rest.most ∙ ap (λ (w : Listening). w.actor.places.max) heard_listening

  emptied_same : emptied d.shaken.listening ≡ emptied x.listening
  emptied_same =
      ap (λ a. emptied (record d.shaken.listening { actor = a })) actor_is
      ∙ ap (λ m. emptied (record d.shaken.listening { actor = record x.listening.actor { arrivals = []; places = record d.shaken.listening.actor.places { max = m } } })) most_same

  listener_is : y.listening ≡ emptied x.listening
  listener_is =
      shaken_listening
      ∙ (emptied-all (record d.shaken.listening { ends = [] }) (d.handshakes_rest.names ∙ ap (λ (w : Listening). w.names) heard_listening) (ap (λ a. a.arrivals) actor_is) places_free d.handshakes_rest.none refl
      ∙ emptied_same)

  listener_stands : ListenerStands configs after n y.listening
  listener_stands =
      listener_stopped configs log e n x.listening y.listening (s.each place.listener)
      (stops_listener configs log e n stop (emptied_queue (queue.Arrivals n) (inr (inr (inr (inl refl)))))) listener_is

  -- ---- its spawner

  spawning_same : y.spawning ≡ d.spawned.spawning
  spawning_same =
      ap (λ (z : Node). z.spawning) d.closed.rest
      ∙ (ap (λ (z : Node). z.spawning) d.connections_rest.rest
      ∙ (ap (λ (z : Node). z.spawning) d.handshakes_rest.rest
      ∙ (ap (λ (z : Node). z.spawning) d.attempts_rest ∙ (ap (λ (z : Node). z.spawning) d.told_rest ∙ ap (λ (z : Node). z.spawning) d.arrivals))))

  pub called_spawning : d.called.spawning ≡ x.spawning
  called_spawning = ap (λ (z : Node). z.spawning) d.mailboxes_ended.rest

  all_named : length d.called.spawning.names ≡ length d.called.spawning.mailbox.items
  all_named =
      subst (λ (w : Spawning). length w.names ≡ length w.mailbox.items) (sym called_spawning) (step.named_each configs log n x y l links r s t lasts bare d)

  spawner_stands : SpawnerStands configs after n y.spawning
  spawner_stands =
      subst (SpawnerStands configs after n) (sym spawning_same)
      (spawner_stopped configs log e n x.spawning d.spawned.spawning (s.each place.spawner) (d.messages.names all_named) (d.messages.items all_named)
      (d.messages.capacity ∙ ap (λ (w : Spawning). w.mailbox.capacity) called_spawning)
      (d.messages.closed ∙ ap (λ (w : Spawning). w.mailbox.closed) called_spawning)
      (emptied_queue (queue.Spawner n) (inr (inr (inl refl)))))

  -- ---- each of them

  pub part_stands : (p : place.Part) → PartStands p configs after n y
  part_stands place.router = router_lives
  part_stands place.channels = channels_stand
  part_stands place.connections = connections_stand
  part_stands place.tracker = tracker_stands
  part_stands place.dialer = dialer_stands
  part_stands place.listener = listener_stands
  part_stands place.spawner = spawner_stands

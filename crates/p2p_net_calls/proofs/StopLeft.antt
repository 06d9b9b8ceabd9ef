-- What each step of a stop ends, and what is left after it.
use Rattle.std.proofs.Common.{◌≡◌, ℕ, false, List, [], ◌∷◌, ◌++◌, length, refl, ap, sym, subst, ◌∙◌, Option, Some, None}
use Rattle.std.specs.Prelude.{map, filter}
use Rattle.std.specs.List.{AllByRecursion as Each}
use Rattle.std.specs.List.Sorted.{IsStrictlySortedBy}
use Rattle.std.specs.Map.{keys_of}
use Rattle.std.specs.Ordering.{nat_cmp}
use Rattle.std.proofs.lemmas.List.{length-map}
use Rattle.p2p_log.specs.declared.config.Config.{Config}
use Rattle.p2p_log.specs.declared.entry.Entry.{Entry}
use Rattle.p2p_log.specs.declared.entry.Reply.TheVariants as reply
use Rattle.p2p_log.specs.declared.queue.Queue.{Queue}
use Rattle.p2p_log.specs.declared.queue.Queue.TheVariants as queue
use Rattle.p2p_log.specs.declared.queue.Side.TheVariants as side
use Rattle.p2p_log.specs.declared.item.Envelope.{Envelope}
use Rattle.p2p_log.specs.Drained.{drained, drained_with}
use Rattle.p2p_log.specs.Lines.{name_of, stands_in, live, line}
use Rattle.p2p_log.specs.QueueCode.{same_queue}
use Rattle.p2p_log.proofs.Each.{Each-weaker}
use Rattle.p2p_log.proofs.Names.{AreApart-live_from}
use Rattle.p2p_log.proofs.QueueNames.{Each-in_queue}
use Rattle.p2p_log_rules.specs.declared.row.Row.{Row}
use Rattle.p2p_log_rules.specs.Dropping.{LinkEnd, half_end, arrival_end}
use Rattle.p2p_log_rules.specs.Facts.{is_stopped}
use Rattle.p2p_log_rules.specs.Rows.{only}
use Rattle.p2p_log_rules.specs.Stopping.{towards, brought_to, brought_by, queues_at}
use Rattle.p2p_log_rules.specs.Told.{told, half_to_be}
use Rattle.p2p_log_rules.proofs.Left.{without}
use Rattle.p2p_log_laws.proofs.Draining.{left-append, drained-append, line_through}
use Rattle.p2p_net_queues.proofs.Matching.{Match-long}
use Rattle.p2p_net_queues.specs.Matching.{Match}
use Rattle.p2p_lookup.specs.declared.spawner.message.Message.{Message}
use Rattle.p2p_base.specs.declared.key.Key.{Key}
use Rattle.p2p_net_connections.specs.SpawnerStands.{SpawnerStands, IsSpawn}
use Rattle.p2p_net_connections.specs.declared.spawner.Spawning.{Spawning}
use Rattle.p2p_net_gates.specs.ListenerStands.{ListenerStands}
use Rattle.p2p_gates.specs.Handshaking.{Handshaking}
use Rattle.p2p_net_gates.specs.declared.dialing.Dialing.{Dialing}
use Rattle.p2p_net_gates.specs.declared.listening.Listening.{Listening}
use Rattle.p2p_net_connections.specs.declared.connections.Connections.{Connections}
use Rattle.p2p_net_links.specs.Stands.{LinksStand}
use Rattle.p2p_net_links.specs.declared.links.Links.{Links}
use Rattle.p2p_net_links.proofs.Left.{links_left_of, all_dropped-dialers}
use Rattle.p2p_net_router.proofs.Resting.{left_of}
use Rattle.p2p_net_tracker.proofs.Stopped.{tracker_left_of}
use Rattle.p2p_net_gates.proofs.Stops.{dialer_left_of}
use Rattle.p2p_net_connections.proofs.SpawnerStop.{spawner_left_of}
use Rattle.p2p_net_connections.proofs.Stopped.{connections_left_of}
use Rattle.p2p_net_node.specs.Places as place
use Rattle.p2p_net_node.specs.Stands.{RouterStands, NodeStands}
use Rattle.p2p_net_node.specs.declared.node.Node.{Node}
use Rattle.p2p_net_calls.specs.Stopping.{IsBare, NodeLeft, left, Adds, StopsRunning, ends_handed, messages_handed, arrivals_handed, ends_held, queues_held, attempt_holder, handshake_holder, connection_holder}
use Rattle.p2p_net_calls.proofs.Emptying.{adds_both, without_spawner, without_arrivals}
use Rattle.p2p_net_calls.proofs.StopEnds.{calls, told_queues, last, attempts, handshakes, connections, first, after_first, messages, after_messages, arrivals, after_arrivals, in_parts}
use Rattle.p2p_net_calls.proofs.StopLists.{attempt_queues, handshake_queues, connection_queues}
use Rattle.p2p_net_calls.proofs.Handed.{Hands}
use Rattle.p2p_net_calls.proofs.StopRow.{messages_hand, arrivals_hand, Given, given}

-- what is in flight stands in no other queue
apart_towards : (q : Queue) → ((link : ℕ) → (same_queue q (queue.Link link side.Out) ≡ false) × (same_queue q (queue.Link link side.In) ≡ false)) → (o : Option LinkEnd) → Each (λ p. same_queue q p ≡ false) (towards o)
apart_towards q away None = tt
apart_towards q away (Some (link, side.Out)) = ((away link).1, tt)
apart_towards q away (Some (link, side.In)) = ((away link).0, tt)

module _ (log : List Entry) (n : ℕ) (q : Queue) (away : (link : ℕ) → (same_queue q (queue.Link link side.Out) ≡ false) × (same_queue q (queue.Link link side.In) ≡ false)) where
  -- so none of what messages to the spawner and arrivals bring stands in it
  spawner_brings : (x : Envelope) → x.queue ≡ queue.Spawner n → Each (λ p. same_queue q p ≡ false) (brought_by log x)
  spawner_brings x is = subst (Each (λ p. same_queue q p ≡ false)) (sym (ap (λ p. brought_to log p x.item) is)) (apart_towards q away (half_end (half_to_be (told log) n x.item)))

  arrivals_bring : (x : Envelope) → x.queue ≡ queue.Arrivals n → Each (λ p. same_queue q p ≡ false) (brought_by log x)
  arrivals_bring x is = subst (Each (λ p. same_queue q p ≡ false)) (sym (ap (λ p. brought_to log p x.item) is)) (apart_towards q away (arrival_end (x.item ∷ [])))

  spawner_bring : (items : List Envelope) → Each (λ x. Each (λ p. same_queue q p ≡ false) (brought_by log x)) (filter (stands_in (queue.Spawner n)) items)
  spawner_bring items = Each-weaker (λ (x : Envelope). x.queue ≡ queue.Spawner n) (λ x. Each (λ p. same_queue q p ≡ false) (brought_by log x)) spawner_brings (filter (stands_in (queue.Spawner n)) items) (Each-in_queue (queue.Spawner n) items)

module _ (configs : List Config) (log : List Entry) (n : ℕ) (x y : Node) (l links : Links) (r : Row) (s : NodeStands configs log n x) (t : LinksStand configs log l) (lasts : is_stopped log n ≡ false)
    (bare : Each IsBare (live log)) (d : StopsRunning n x y l links r) where
  rout : RouterStands configs log n x.router
  rout = (s.each place.router).runs lasts

  spawning : SpawnerStands configs log n x.spawning
  spawning = s.each place.spawner

  listening : ListenerStands configs log n x.listening
  listening = s.each place.listener

  abbrev items : List Envelope
  items = live log

  start : NodeLeft n x l items
  unfolding line
  start = record {
    apart = AreApart-live_from 0 log;
    bare = bare;
    number = rout.number;
    router = left_of configs log x.router items rout.stands;
    tracker = tracker_left_of configs log n x.tracker (s.each place.tracker);
    dialer = dialer_left_of configs log n x.dialing (s.each place.dialer);
    arrivals = listening.names;
    spawner = spawner_left_of configs log n x.spawning spawning;
    connections = connections_left_of configs log n x.connections (s.each place.connections);
    links = links_left_of configs log l t;
  }

  -- the mailboxes
  pub called : Adds (first log n items) (only reply.Ok) d.called_row × NodeLeft n d.called l (after_first log n items)
  called = d.mailboxes l items start

  -- ---- the messages to the spawner

  spawner_line : filter (stands_in (queue.Spawner n)) (after_first log n items) ≡ line log (queue.Spawner n)
  unfolding line
  spawner_line = line_through (queue.Spawner n) (calls log n) items (AreApart-live_from 0 log) (refl, (refl, tt))

  same_spawning : d.called.spawning ≡ x.spawning
  same_spawning = ap (λ (z : Node). z.spawning) d.mailboxes_ended.rest

  pub named_each : length x.spawning.names ≡ length x.spawning.mailbox.items
  named_each =
      ap (λ (ns : List (ℕ × ℕ)). length ns) spawning.names
      ∙ (length-map (line log (queue.Spawner n)) name_of ∙ Match-long (λ (e : Envelope) m. IsSpawn log n e.item m) (line log (queue.Spawner n)) x.spawning.mailbox.items spawning.messages)

  abbrev spawned_all : List ((ℕ × ℕ) × Option LinkEnd)
  spawned_all = messages_handed n l d.called.spawning.names d.called.spawning.mailbox.items

  messages_hands : Hands (brought_by log) (filter (stands_in (queue.Spawner n)) (after_first log n items)) spawned_all
  messages_hands =
      subst (λ (sp : Spawning). Hands (brought_by log) (filter (stands_in (queue.Spawner n)) (after_first log n items)) (messages_handed n l sp.names sp.mailbox.items)) (sym same_spawning)
      (messages_hand configs log n l t x.spawning.names x.spawning.mailbox.items (filter (stands_in (queue.Spawner n)) (after_first log n items))
      (spawning.names ∙ ap (map name_of) (sym spawner_line))
      (subst (λ xs. Match (λ (e : Envelope) (m : Message Key). IsSpawn log n e.item m) xs x.spawning.mailbox.items) (sym spawner_line) spawning.messages)
      (Each-in_queue (queue.Spawner n) (after_first log n items)))

  spawned_holds : NodeLeft n d.spawned l (without (queue.Spawner n) (after_first log n items))
  spawned_holds =
      subst (λ (z : Node). NodeLeft n z l (without (queue.Spawner n) (after_first log n items))) (sym d.messages.rest)
      (without_spawner n d.called l d.spawned.spawning (after_first log n items) called.1 (d.messages.names (ap (λ (sp : Spawning). length sp.names) same_spawning ∙ (named_each ∙ sym (ap (λ (sp : Spawning). length sp.mailbox.items) same_spawning)))))

  spawned_given : Given log n (queue.Spawner n) (after_first log n items) d.spawned l spawned_all
  spawned_given =
      given log n (queue.Spawner n) (after_first log n items) d.spawned l spawned_all refl called.1.apart called.1.bare (spawner_brings log n (queue.Spawner n) (λ link. (refl, refl))) spawned_holds messages_hands

  pub spawned : Adds (messages log n items) d.called_row d.spawned_row × NodeLeft n d.spawned d.spawned_links (after_messages log n items)
  spawned = (
    d.messages_row ∙ ap (λ es. record d.called_row { ends = d.called_row.ends ++ es }) spawned_given.ends,
    subst (λ k. NodeLeft n d.spawned k (after_messages log n items)) (sym d.messages_links) spawned_given.holds,
  )

  -- ---- the arrivals

  arrivals_line : filter (stands_in (queue.Arrivals n)) (after_messages log n items) ≡ line log (queue.Arrivals n)
  unfolding line
  arrivals_line =
      spawned_given.lines (queue.Arrivals n) refl (spawner_bring log n (queue.Arrivals n) (λ link. (refl, refl)) (after_first log n items))
      ∙ line_through (queue.Arrivals n) (calls log n) items (AreApart-live_from 0 log) (refl, (refl, tt))

  same_listening : d.spawned.listening ≡ x.listening
  same_listening = ap (λ (z : Node). z.listening) d.messages.rest ∙ ap (λ (z : Node). z.listening) d.mailboxes_ended.rest

  arrivals_hands : Hands (brought_by log) (filter (stands_in (queue.Arrivals n)) (after_messages log n items)) (arrivals_handed d.spawned.listening)
  arrivals_hands =
      subst (λ (li : Listening). Hands (brought_by log) (filter (stands_in (queue.Arrivals n)) (after_messages log n items)) (arrivals_handed li)) (sym same_listening)
      (arrivals_hand log n x.listening.names x.listening.actor.arrivals (filter (stands_in (queue.Arrivals n)) (after_messages log n items))
      (listening.names ∙ ap (map name_of) (sym arrivals_line))
      (ap (map (λ (e : Envelope). e.item)) arrivals_line ∙ listening.items)
      (Each-in_queue (queue.Arrivals n) (after_messages log n items)))

  heard_holds : NodeLeft n d.heard d.spawned_links (without (queue.Arrivals n) (after_messages log n items))
  heard_holds =
      subst (λ (z : Node). NodeLeft n z d.spawned_links (without (queue.Arrivals n) (after_messages log n items))) (sym d.arrivals)
      (without_arrivals n d.spawned d.spawned_links (record d.spawned.listening { names = []; actor = record d.spawned.listening.actor { arrivals = [] } }) (after_messages log n items) spawned.1 refl)

  heard_given : Given log n (queue.Arrivals n) (after_messages log n items) d.heard d.spawned_links (arrivals_handed d.spawned.listening)
  heard_given =
      given log n (queue.Arrivals n) (after_messages log n items) d.heard d.spawned_links (arrivals_handed d.spawned.listening) refl spawned.1.apart spawned.1.bare
      (arrivals_bring log n (queue.Arrivals n) (λ link. (refl, refl))) heard_holds arrivals_hands

  pub heard : Adds (arrivals log n items) d.spawned_row d.heard_row × NodeLeft n d.heard d.heard_links (after_arrivals log n items)
  heard = (
    d.arrivals_row ∙ ap (λ es. record d.spawned_row { ends = d.spawned_row.ends ++ es }) heard_given.ends,
    subst (λ k. NodeLeft n d.heard k (after_arrivals log n items)) (sym d.arrivals_links) heard_given.holds,
  )

  -- ---- what the node holds

  abbrev after_told : List Envelope
  after_told = left (drained (after_arrivals log n items) (told_queues log n)) (after_arrivals log n items)

  told_ended : Adds (drained (after_arrivals log n items) (told_queues log n)) d.heard_row d.told_row × NodeLeft n d.told d.heard_links after_told
  told_ended = d.told_drains d.heard_links (after_arrivals log n items) heard.1

  pub told_dialing : d.told.dialing ≡ x.dialing
  told_dialing =
      ap (λ (z : Node). z.dialing) d.told_rest
      ∙ (ap (λ (z : Node). z.dialing) d.arrivals ∙ (ap (λ (z : Node). z.dialing) d.messages.rest ∙ ap (λ (z : Node). z.dialing) d.mailboxes_ended.rest))

  pub attempts_sorted : IsStrictlySortedBy nat_cmp (keys_of x.dialing.attempts)
  attempts_sorted = subst (λ (w : Dialing). IsStrictlySortedBy nat_cmp (keys_of w.attempts)) told_dialing d.attempts_ordered

  attempts_are : queues_held (map (attempt_holder n) d.told.dialing.attempts) ≡ attempts log n
  attempts_are =
      ap (λ (w : Dialing). queues_held (map (attempt_holder n) w.attempts)) told_dialing
      ∙ attempt_queues configs log n x.dialing (s.each place.dialer) attempts_sorted

  abbrev after_attempts : List Envelope
  after_attempts = left (drained after_told (attempts log n)) after_told

  tried : Adds (drained after_told (attempts log n)) d.told_row d.tried_row × NodeLeft n d.tried d.tried_links after_attempts
  tried = subst (λ qs. Adds (drained after_told qs) d.told_row d.tried_row × NodeLeft n d.tried d.tried_links (left (drained after_told qs) after_told)) attempts_are (d.attempts after_told told_ended.1)

  pub tried_handshakes : d.tried.listening.handshakes ≡ x.listening.handshakes
  tried_handshakes =
      ap (λ (z : Node). z.listening.handshakes) d.attempts_rest
      ∙ (ap (λ (z : Node). z.listening.handshakes) d.told_rest ∙ (ap (λ (z : Node). z.listening.handshakes) d.arrivals ∙ ap (λ (li : Listening). li.handshakes) same_listening))

  pub handshakes_sorted : IsStrictlySortedBy nat_cmp (keys_of x.listening.handshakes)
  handshakes_sorted = subst (λ (hs : List (ℕ × Handshaking Key)). IsStrictlySortedBy nat_cmp (keys_of hs)) tried_handshakes d.handshakes_ordered

  handshakes_are : queues_held (map (handshake_holder n) d.tried.listening.handshakes) ≡ handshakes log n
  handshakes_are =
      ap (λ (hs : List (ℕ × Handshaking Key)). queues_held (map (handshake_holder n) hs)) tried_handshakes
      ∙ handshake_queues configs log n x.listening listening handshakes_sorted

  abbrev after_handshakes : List Envelope
  after_handshakes = left (drained after_attempts (handshakes log n)) after_attempts

  shaken : Adds (drained after_attempts (handshakes log n)) d.tried_row d.shaken_row × NodeLeft n d.shaken d.shaken_links after_handshakes
  shaken = subst (λ qs. Adds (drained after_attempts qs) d.tried_row d.shaken_row × NodeLeft n d.shaken d.shaken_links (left (drained after_attempts qs) after_attempts)) handshakes_are (d.handshakes after_attempts tried.1)

  pub shaken_connections : d.shaken.connections ≡ x.connections
  shaken_connections =
      ap (λ (z : Node). z.connections) d.handshakes_rest.rest
      ∙ (ap (λ (z : Node). z.connections) d.attempts_rest
      ∙ (ap (λ (z : Node). z.connections) d.told_rest
      ∙ (ap (λ (z : Node). z.connections) d.arrivals ∙ (ap (λ (z : Node). z.connections) d.messages.rest ∙ ap (λ (z : Node). z.connections) d.mailboxes_ended.rest))))

  -- the links know who dialed them throughout
  pub shaken_dialers : d.shaken_links.dialers ≡ l.dialers
  shaken_dialers =
      ap (λ (k : Links). k.dialers) d.handshakes_links
      ∙ (all_dropped-dialers d.tried_links (ends_held (map (handshake_holder n) d.tried.listening.handshakes))
      ∙ (ap (λ (k : Links). k.dialers) d.attempts_links
      ∙ (all_dropped-dialers d.heard_links (ends_held (map (attempt_holder n) d.told.dialing.attempts))
      ∙ (ap (λ (k : Links). k.dialers) d.arrivals_links
      ∙ (all_dropped-dialers d.spawned_links (ends_handed (arrivals_handed d.spawned.listening))
      ∙ (ap (λ (k : Links). k.dialers) d.messages_links ∙ all_dropped-dialers l (ends_handed spawned_all)))))))

  pub connections_sorted : IsStrictlySortedBy nat_cmp (keys_of x.connections.spawned)
  connections_sorted = subst (λ (cs : Connections). IsStrictlySortedBy nat_cmp (keys_of cs.spawned)) shaken_connections d.connections_ordered

  pub holders_are : map (connection_holder n d.shaken_links) d.shaken.connections.spawned ≡ map (connection_holder n l) x.connections.spawned
  holders_are =
      ap (λ (cs : Connections). map (connection_holder n d.shaken_links) cs.spawned) shaken_connections
      ∙ ap (λ ds. map (connection_holder n (record l { dialers = ds })) x.connections.spawned) shaken_dialers

  connections_are : queues_held (map (connection_holder n d.shaken_links) d.shaken.connections.spawned) ≡ connections log n
  connections_are = ap queues_held holders_are ∙ connection_queues configs log n x.connections l (s.each place.connections) t connections_sorted

  abbrev after_all : List Envelope
  after_all = left (drained after_handshakes (connections log n)) after_handshakes

  ended : Adds (drained after_handshakes (connections log n)) d.shaken_row r × NodeLeft n d.left links after_all
  ended = subst (λ qs. Adds (drained after_handshakes qs) d.shaken_row r × NodeLeft n d.left links (left (drained after_handshakes qs) after_handshakes)) connections_are (d.connections after_handshakes shaken.1)

  -- ---- all together

  abbrev of_held : List Envelope
  of_held = drained (after_arrivals log n items) (told_queues log n) ++ (drained after_told (attempts log n) ++ (drained after_attempts (handshakes log n) ++ drained after_handshakes (connections log n)))

  held_is : drained (after_arrivals log n items) (last log n) ≡ of_held
  held_is =
      drained-append (after_arrivals log n items) (told_queues log n) (attempts log n ++ (handshakes log n ++ connections log n))
      ∙ ap (λ e. drained (after_arrivals log n items) (told_queues log n) ++ e)
      (drained-append after_told (attempts log n) (handshakes log n ++ connections log n)
      ∙ ap (λ e. drained after_told (attempts log n) ++ e) (drained-append after_attempts (handshakes log n) (connections log n)))

  abbrev all : List Envelope
  all = drained_with (brought_by log) items (queues_at log n)

  all_is : all ≡ first log n items ++ (messages log n items ++ (arrivals log n items ++ of_held))
  all_is = in_parts log n items ∙ ap (λ e. first log n items ++ (messages log n items ++ (arrivals log n items ++ e))) held_is

  -- the row has the ends of all that ends
  pub row_adds : Adds all (only reply.Ok) r
  row_adds =
      subst (λ es. Adds es (only reply.Ok) r) (sym all_is)
      (adds_both (first log n items) (messages log n items ++ (arrivals log n items ++ of_held)) (only reply.Ok) d.called_row r called.0
      (adds_both (messages log n items) (arrivals log n items ++ of_held) d.called_row d.spawned_row r spawned.0
      (adds_both (arrivals log n items) of_held d.spawned_row d.heard_row r heard.0
      (adds_both (drained (after_arrivals log n items) (told_queues log n)) (drained after_told (attempts log n) ++ (drained after_attempts (handshakes log n) ++ drained after_handshakes (connections log n))) d.heard_row d.told_row r told_ended.0
      (adds_both (drained after_told (attempts log n)) (drained after_attempts (handshakes log n) ++ drained after_handshakes (connections log n)) d.told_row d.tried_row r tried.0
      (adds_both (drained after_attempts (handshakes log n)) (drained after_handshakes (connections log n)) d.tried_row d.shaken_row r shaken.0 ended.0))))))

  -- and the node and the links hold what is left
  left_is : after_all ≡ left all items
  left_is =
      left-append (drained after_attempts (handshakes log n)) (drained after_handshakes (connections log n)) after_attempts
      ∙ (left-append (drained after_told (attempts log n)) (drained after_attempts (handshakes log n) ++ drained after_handshakes (connections log n)) after_told
      ∙ (left-append (drained (after_arrivals log n items) (told_queues log n)) (drained after_told (attempts log n) ++ (drained after_attempts (handshakes log n) ++ drained after_handshakes (connections log n))) (after_arrivals log n items)
      ∙ (left-append (arrivals log n items) of_held (after_messages log n items)
      ∙ (left-append (messages log n items) (arrivals log n items ++ of_held) (after_first log n items)
      ∙ (left-append (first log n items) (messages log n items ++ (arrivals log n items ++ of_held)) items ∙ ap (λ es. left es items) (sym all_is))))))

  pub holds_left : NodeLeft n d.left links (left all items)
  holds_left = subst (NodeLeft n d.left links) left_is ended.1

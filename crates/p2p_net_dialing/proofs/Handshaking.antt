-- The acts of the handshakes of a node's listener.
use Rattle.std.proofs.Common.{◌≡◌, ℕ, Bool, true, false, cond, List, [], ◌∷◌, ◌++◌, drop, length, refl, ap, sym, subst, ◌∙◌, eq-eqb, Option, Some, None}
use Rattle.std.specs.Prelude.{filter, ◌==◌, ◌&&◌, ◌||◌, not, nat_le, is_some, if◌then◌else◌}
use Rattle.std.specs.List.{list_any}
use Rattle.std.specs.Option.{option_map}
use Rattle.p2p_base.specs.declared.key.Key.{Key}
use Rattle.p2p_tracker_directory.specs.declared.metadata.Metadata.{Metadata}
use Rattle.p2p_tracker_directory.specs.declared.metadata.Metadata.TheVariants as metadata
use Rattle.p2p_tracker_mailbox.specs.Lines.{line_of, first_of, with_line, ended}
use Rattle.p2p_tracker_mailbox.specs.Mailboxes.{with_message_in}
use Rattle.p2p_tracker_mailbox.specs.declared.answer.HandshakeItem.{HandshakeItem}
use Rattle.p2p_tracker_mailbox.specs.declared.mailbox.Mailbox.{Mailbox}
use Rattle.p2p_tracker_mailbox.specs.declared.message.Message.TheVariants as message
use Rattle.p2p_gates.specs.Handshaking.{Handshaking}
use Rattle.p2p_gates.specs.HandshakeTurns.{without_item, without_handshake, is_due, ends, item_turn, line_turn, handshake_turn}
use Rattle.p2p_gates.specs.Stepping.{Turn, idle_turn, goes_on, asks}
use Rattle.p2p_gates.specs.declared.stepped.Input.TheVariants as input
use Rattle.p2p_gates.specs.declared.stepped.Outcome.{Outcome}
use Rattle.p2p_gates.specs.declared.stepped.Outcome.TheVariants as outcome
use Rattle.p2p_gates.specs.declared.stepped.Put.TheVariants as put
use Rattle.p2p_log.specs.declared.config.Config.{Config}
use Rattle.p2p_log.specs.declared.queue.Queue.{Queue}
use Rattle.p2p_log.specs.declared.queue.Queue.TheVariants as queue
use Rattle.p2p_log.specs.declared.queue.Side.TheVariants as side
use Rattle.p2p_log.specs.declared.item.Item.{Item}
use Rattle.p2p_log.specs.declared.item.Item.TheVariants as item
use Rattle.p2p_log.specs.declared.item.Envelope.{Envelope}
use Rattle.p2p_log.specs.declared.entry.Entry.{Entry}
use Rattle.p2p_log.specs.declared.entry.Reply.{Reply}
use Rattle.p2p_log.specs.declared.entry.Reply.TheVariants as reply
use Rattle.p2p_log.specs.declared.event.Event.{Event}
use Rattle.p2p_log.specs.declared.event.Act.TheVariants as act
use Rattle.p2p_log.specs.QueueCode.{same_queue}
use Rattle.p2p_log.specs.Lines.{name_of, goes, live, line, stays, stands_in}
use Rattle.p2p_log.proofs.QueueNames.{queue_from_same}
use Rattle.p2p_log_rules.proofs.Connections.{ends_untold}
use Rattle.p2p_log_rules.specs.declared.row.Row.{Row}
use Rattle.p2p_log_rules.specs.Facts.{taken, is_stopped}
use Rattle.p2p_log_rules.specs.Dropping.{LinkEnd, listening_end}
use Rattle.p2p_log_rules.specs.Puts.{is_spawn, broke_off}
use Rattle.p2p_log_rules.specs.Effect.{only, entry_of}
use Rattle.p2p_log_rules.specs.Attempting.{left_ends, handed_on_row}
use Rattle.p2p_log_rules.specs.Handshakes.{Handshake, handshake_at, came_over, ends_handshake, is_handshaking, is_finished, source_at}
use Rattle.p2p_log_rules.specs.Handshaking as log_rule
use Rattle.p2p_log_rules.specs.Handshaking.{handshake_deadline, ended_row, exchanged_row}
use Rattle.p2p_log_rules.specs.Rows.{is_spawner_full, taken_row}
use Rattle.p2p_log_laws.proofs.HandedSides.{HandshakeDialed}
use Rattle.p2p_net_queues.specs.Board.{held}
use Rattle.p2p_net_queues.specs.Tables as table
use Rattle.p2p_net_queues.proofs.Going.{first_left}
use Rattle.p2p_net_gates.specs.Handshaking.{ready_over, served_by, ends_left, TurnsHandshake, LeavesHandshakes, StepsHandshake}
use Rattle.p2p_net_gates.specs.Handshaking as listening
use Rattle.p2p_net_gates.specs.ListenerStands.{begun_by, facts_of, IsRunning, HandshakeIs, ListenerStands}
use Rattle.p2p_net_gates.specs.declared.handshake.HandshakeStep.TheVariants as handshake
use Rattle.p2p_net_gates.proofs.ListenerChanges.{listener_same, listener_untouched, handshakes_stepped, listener_after_handshake}
use Rattle.p2p_net_gates.proofs.Handshakes.{facts_after}
use Rattle.p2p_net_connections.specs.Dialing.{IsReservedOver}
use Rattle.p2p_net_connections.specs.Spawner.{refuses}
use Rattle.p2p_net_connections.specs.SpawnerStands.{SpawnerStands}
use Rattle.p2p_net_connections.proofs.SpawnerChanges.{spawner_refuses}
use Rattle.p2p_net_tracker.specs.Dialed.{names_asked}
use Rattle.p2p_net_tracker.specs.GivenBack.{IsGivenBack}
use Rattle.p2p_net_tracker.specs.Handshaking.{handshake_step_row}
use Rattle.p2p_net_queues.specs.Matching.{Match}
use Rattle.p2p_net_tracker.specs.Stands.{IsToldHandshake, HandshakeStands, AreDistinct, TrackerStands}
use Rattle.p2p_net_tracker.specs.declared.tracker.Tracker.{Tracker}
use Rattle.p2p_net_tracker.proofs.Distinct.{distinct-with_line, distinct-ended}
use Rattle.p2p_log_rules.proofs.HandshakeBegun.{source_at-longer}
use Rattle.p2p_net_tracker.proofs.GivenBack.{given_now, handshake_gives}
use Rattle.p2p_net_tracker.proofs.HandshakeSteps.{after_step, left_after, tracker_after_handshake, line_of-dropped, line_of-ended, line_of-dropped_ended}
use Rattle.p2p_net_tracker.proofs.Moved.{asked_desk, IsAsked}
use Rattle.p2p_net_tracker.proofs.StepFacts.{none_taken, first_taken}
use Rattle.p2p_net_dialing.specs.Dialing.{HandshakeStepBy, HandsOn, HandsOnBy, link_over, Shakes}
use Rattle.p2p_net_node.specs.Places as place
use Rattle.p2p_net_node.specs.Stands.{PartStands, NodeStands}
use Rattle.p2p_net_node.specs.declared.node.Node.{Node}
use Rattle.p2p_net_dialing.proofs.DroppedEnds.{ended_with, dropped, goes_by, is_of_link, told_unlinked, unlinked_stay, LeavesLinks, end_by, DidBeside}
use Rattle.p2p_net_node.proofs.EachPart.{AllOf}
use Rattle.p2p_net_dialing.proofs.HandingOn.{Handed, nothing, question, connection, handed_puts, item_in, message_in, spawner_after, IsOnItsSide, asked_on_its_side, none_subscribed, HandedOn, nothing_asked, question_asked, connection_refused, connection_asked}
use Rattle.p2p_net_dialing.proofs.HandingOn.{all_gone, none_gone, line_asked, line_elsewhere, line_told, handed_spawner, tracker_after}
use Rattle.p2p_net_node.proofs.Performing.{asked, is_quiet, IsStill, part_still}
use Rattle.p2p_net_dialing.proofs.Shaken.{left_is, links_left, unmoved, named, no_end, broken_end, firsts, lost_by, Shaken}

module _ (configs : List Config) (log : List Entry) (moment seed name n : ℕ) (x y : Node) (r : Row) (s : NodeStands configs log n x) (steps : Shakes (length log) n name moment x y r) (heard : HandshakeDialed log n name)
    (running_lasts : is_handshaking log n name ≡ true → is_stopped log n ≡ false) where
  abbrev ev : Event
  ev = asked moment seed (act.Handshake name n)

  abbrev lost : Option LinkEnd
  lost = lost_by log n name r

  abbrev Done : Type 0
  Done = Shaken configs log ev n name x y r

  abbrev q : Queue
  q = queue.Handshake n name

  abbrev m : Mailbox Key
  m = x.tracker.mailbox

  -- the node once the step did its part, before anything was handed on
  abbrev mid : Node
  mid = steps.mid

  abbrev deadline : Option ℕ
  deadline = handshake_deadline configs log name n

  abbrev waits : List Envelope
  waits = line log q

  abbrev full : Bool
  full = is_spawner_full configs log n

  abbrev late : Bool
  late = log_rule.is_due deadline moment (is_finished log n name)

  abbrev begun : Option Handshake
  begun = handshake_at log name

  tracked : TrackerStands configs log n x.tracker
  tracked = s.each place.tracker

  listens : ListenerStands configs log n x.listening
  listens = s.each place.listener

  spawns : SpawnerStands configs log n x.spawning
  spawns = s.each place.spawner

  -- the entry of a row, where this end is dropped too
  abbrev e : Row → Entry
  e due = entry_of ev (dropped log lost due)

  row_by : (b : Bool) (xs : List Envelope) → is_handshaking log n name ≡ b → waits ≡ xs
      → log_rule.handshake_row configs log name n moment ≡ cond b (log_rule.handshake_turn n full late name begun xs) (only reply.Gone)
  row_by b xs runs is =
      ap (λ c. cond c (log_rule.handshake_turn n full late name begun waits) (only reply.Gone)) runs
      ∙ ap (λ l. cond b (log_rule.handshake_turn n full late name begun l) (only reply.Gone)) is

  spawning_is : mid.spawning ≡ x.spawning
  spawning_is = ap (λ (z : Node). z.spawning) steps.rest

  refuses_is : refuses mid.spawning ≡ full
  refuses_is = ap refuses spawning_is ∙ spawner_refuses configs log n x.spawning spawns

  -- where the three parts stand for the log with this entry, and the links are left alone
  performs : (z : Node) (due : Row) → log_rule.handshake_row configs log name n moment ≡ due → r ≡ due → z ≡ record x { tracker = z.tracker; listening = z.listening; spawning = z.spawning }
      → TrackerStands configs (log ++ e due ∷ []) n z.tracker → ListenerStands configs (log ++ e due ∷ []) n z.listening → SpawnerStands configs (log ++ e due ∷ []) n z.spawning → LeavesLinks log due
      → DidBeside configs log ev n x z named lost (log_rule.handshake_row configs log name n moment) r
  performs z due row_is r_is rest tracks hears makes leaves = record {
    row_is = r_is ∙ sym row_is;
    rest = rest;
    parts = subst (λ (w : Row). AllOf (λ p. PartStands p configs (log ++ e w ∷ []) n z) named) (sym r_is) (tracks, (hears, (makes, tt)));
    leaves = subst (LeavesLinks log) (sym r_is) leaves;
  }

  -- whether the code keeps the handshake, or makes a connection of it
  abbrev keeps_by : Option (Handshaking Key) → Option (Handshaking Key) → Option LinkEnd
  keeps_by now before = end_by (is_some now || list_any is_spawn r.puts) (link_over before) side.In

  -- ---- nothing is taken, and it goes on

  module _ (rep : Reply) (quiet : is_quiet (act.Handshake name n) rep ≡ true) (lasts : (items : List Item) → ends_handshake rep items ≡ false)
      (row_is : log_rule.handshake_row configs log name n moment ≡ only rep) (r_is : steps.taken ≡ only rep) (hands : (r ≡ steps.taken) × (y ≡ mid)) where
    unbroken : (items : List Item) → broke_off r.reply items r.puts ≡ false
    unbroken items = ap (λ (z : Row). broke_off z.reply items z.puts) (hands.0 ∙ r_is) ∙ ap (λ b. b && not (list_any is_spawn [])) (lasts items)

    none_lost : lost ≡ None
    none_lost = ap (λ b. cond b (listening_end (came_over log name)) None) (unbroken (firsts waits))

    still : mid.tracker ≡ record x.tracker { mailbox = mid.tracker.mailbox } → mid.tracker.mailbox ≡ m
        → (ListenerStands configs (log ++ e (only rep) ∷ []) n x.listening → ListenerStands configs (log ++ e (only rep) ∷ []) n mid.listening)
        → keeps_by (table.at y.listening.handshakes name) (table.at x.listening.handshakes name) ≡ None → Done
    still tracks way hears keeps =
        let due : Row = only rep in
        let moves : IsStill (e due) rep = record { reply = refl; takes = refl; puts = refl; ends = ap (ended_with log) none_lost } in
        let same : mid.tracker ≡ x.tracker = tracks ∙ ap (λ w. record x.tracker { mailbox = w }) way in
        let rest : mid ≡ record x { tracker = mid.tracker; listening = mid.listening; spawning = mid.spawning } =
        steps.rest ∙ ap (λ w. record x { tracker = mid.tracker; listening = mid.listening; spawning = w }) (sym spawning_is) in
        record {
          did = subst (λ (z : Node). DidBeside configs log ev n x z named lost (log_rule.handshake_row configs log name n moment) r) (sym hands.1)
              (performs mid due row_is (hands.0 ∙ r_is) rest
              (subst (TrackerStands configs (log ++ e due ∷ []) n) (sym same) (part_still place.tracker configs log (e due) n x (act.Handshake name n) rep tracked refl quiet moves))
              (hears (part_still place.listener configs log (e due) n x (act.Handshake name n) rep listens refl quiet moves))
              (subst (SpawnerStands configs (log ++ e due ∷ []) n) (sym spawning_is) (part_still place.spawner configs log (e due) n x (act.Handshake name n) rep spawns refl quiet moves))
              (links_left log n name due nothing (λ p. waits) refl (none_gone log q waits refl)));
          took = unbroken (taken log (e r)) ∙ sym (unbroken (firsts waits));
          keeps = keeps ∙ sym none_lost;
        }

  -- none of this name runs
  gone : table.at x.listening.handshakes name ≡ None → is_handshaking log n name ≡ false → Done
  gone there none =
      let d : LeavesHandshakes name x.listening mid.listening m mid.tracker.mailbox steps.step =
      subst (λ o. StepsHandshake o name moment x.listening mid.listening m mid.tracker.mailbox steps.step) there steps.steps in
      let tracks : HandshakeStepBy handshake.Gone n name x.tracker mid.tracker steps.taken = subst (λ w. HandshakeStepBy w n name x.tracker mid.tracker steps.taken) d.did steps.tracks in
      still reply.Gone refl (λ items. refl) (row_by false waits none refl) tracks.0 (subst (λ w. HandsOnBy w (length log) n mid y steps.taken r) d.did steps.hands) tracks.1 d.mailbox
      (λ hears. listener_untouched configs (log ++ e (only reply.Gone) ∷ []) n x.listening mid.listening hears d.rest (λ k. d.others k ∙ unmoved x name None there k))
      (ap (keeps_by (table.at y.listening.handshakes name)) there ∙ no_end (is_some (table.at y.listening.handshakes name) || list_any is_spawn r.puts) side.In)

  -- ---- one runs

  module _ (h : Handshaking Key) (there : table.at x.listening.handshakes name ≡ Some h) (runs : is_handshaking log n name ≡ true) (is : IsRunning (facts_of configs log n name) name h) where
    abbrev turn : Turn (Handshaking Key) Key
    turn = handshake_turn h m moment

    -- what began it
    abbrev peer : Handshake
    peer = begun_by h.arrival is.at

    over_its : came_over log name ≡ Some h.arrival.link
    over_its = ap (option_map (λ (s : Handshake). s.link)) is.began

    -- its row, by what waits for it
    row_of : (xs : List Envelope) → waits ≡ xs → log_rule.handshake_row configs log name n moment ≡ log_rule.handshake_turn n full late name (Some peer) xs
    row_of xs first = row_by true xs runs first ∙ ap (λ o. log_rule.handshake_turn n full late name o xs) is.began

    turn_is : turn ≡ line_turn (first_of (line_of m.handshakes name)) h m moment
    turn_is =
        ap (λ b. cond b (idle_turn h m) (line_turn (first_of (line_of m.handshakes h.name)) h m moment)) is.runs
        ∙ ap (λ k. line_turn (first_of (line_of m.handshakes k)) h m moment) is.name

    turns : (T : Turn (Handshaking Key) Key) → turn ≡ T → TurnsHandshake T name x.listening mid.listening mid.tracker.mailbox steps.step
    turns T so = subst (λ u. TurnsHandshake u name x.listening mid.listening mid.tracker.mailbox steps.step) so (subst (λ o. StepsHandshake o name moment x.listening mid.listening m mid.tracker.mailbox steps.step) there steps.steps)

    -- the handshake of this name, after such a turn
    stands_now : (T : Turn (Handshaking Key) Key) → TurnsHandshake T name x.listening mid.listening mid.tracker.mailbox steps.step
        → table.at mid.listening.handshakes name ≡ cond T.actor.has_ended None (Some T.actor)
    stands_now T d = d.others name ∙ ap (λ b. cond b (cond T.actor.has_ended None (Some T.actor)) (table.at x.listening.handshakes name)) (eq-eqb name name refl)

    -- its deadline has not come
    idle : turn ≡ idle_turn h m → log_rule.handshake_row configs log name n moment ≡ only reply.Idle → Done
    idle so row_is =
        let d = turns (idle_turn h m) so in
        let tracks : HandshakeStepBy handshake.Idle n name x.tracker mid.tracker steps.taken = subst (λ w. HandshakeStepBy w n name x.tracker mid.tracker steps.taken) d.did steps.tracks in
        let hands : (r ≡ steps.taken) × (y ≡ mid) = subst (λ w. HandsOnBy w (length log) n mid y steps.taken r) d.did steps.hands in
        still reply.Idle refl (λ items. refl) row_is tracks.0 hands tracks.1 d.mailbox
        (λ hears. listener_same configs (log ++ e (only reply.Idle) ∷ []) n x.listening mid.listening hears
        (d.rest ∙ ap (λ b. record x.listening { actor = listening.freed_if b x.listening.actor; handshakes = mid.listening.handshakes; ends = mid.listening.ends }) is.runs)
        (λ k. d.others k ∙ (ap (λ b. cond (k == name) (cond b None (Some h)) (table.at x.listening.handshakes k)) is.runs ∙ unmoved x name (Some h) there k))
        (λ k. d.ends k ∙ ap (λ b. ends_left b h.arrival.link (table.at x.listening.ends) k) is.runs))
        (ap (λ o. keeps_by o (table.at x.listening.handshakes name))
        (ap (λ (z : Node). table.at z.listening.handshakes name) hands.1 ∙ (stands_now (idle_turn h m) d ∙ ap (λ b. cond b None (Some h)) is.runs)))

    -- a turn in which it took its oldest item, or ended, and handed something on
    module _ (T : Turn (Handshaking Key) Key) (took ended : Bool) (ask : Option Item) (ready : Option (ℕ × Metadata Key)) (o : Handed) (way : Mailbox Key) (items : List Item) (due : Row) (so : turn ≡ T)
        (served : served_by T.stepped T.actor.arrival.link T.actor.has_ended ≡ handshake.Served took ended ask ready) (over : T.actor.has_ended ≡ ended) (link : T.actor.arrival.link ≡ h.arrival.link)
        (handed : mid.tracker.mailbox ≡ T.way → HandsOn ready (length log) n ask mid y steps.taken r → HandedOn (length log) n o way mid y steps.taken r)
        (row_is : log_rule.handshake_row configs log name n moment ≡ due) (told_row : record (handshake_step_row took ended waits) { puts = handed_puts n o } ≡ due) (moved : cond ended true took ≡ true)
        (took_is : taken log (e due) ≡ items) (front : firsts waits ≡ items) (log_ends : ends_handshake due.reply items ≡ ended) (puts : due.puts ≡ handed_puts n o)
        (way_is : way ≡ record m { desk = asked_desk m.desk (message_in o); handshakes = way.handshakes })
        (waiting : (k : ℕ) → line_of way.handshakes k ≡ cond (k == name) (after_step ended (line_of m.handshakes name)) (line_of m.handshakes k))
        (distinct : AreDistinct way.handshakes) (says : IsAsked x.tracker.tickets (log ++ e due ∷ []) (item_in o) (message_in o)) (right : IsOnItsSide log (e due) n o)
        (stay : (p : Queue) → filter (stands_in p) (filter (stays (goes_by due)) (live log)) ≡ cond (same_queue q p) (left_after ended (line log p)) (line log p))
        (stands : HandshakeIs (facts_after items (facts_of configs log n name)) name (not ended) (cond T.actor.has_ended None (Some T.actor))) where
      -- what stays of a queue that is no link's
      left_in : (p : Queue) → is_of_link p ≡ false → filter (stands_in p) (filter (stays (goes (e due))) (live log)) ≡ cond (same_queue q p) (left_after ended (line log p)) (line log p)
      left_in p away = unlinked_stay log due lost p away ∙ stay p

      -- it is kept unless it ended
      kept_now : is_some (table.at mid.listening.handshakes name) ≡ not ended
      kept_now = ap is_some (stands_now T (turns T so)) ∙ (by T.actor.has_ended ∙ ap not over)
        where
          by : (b : Bool) → is_some (cond b None (Some T.actor)) ≡ not b
          by true = refl
          by false = refl

      -- and it has ended by what was taken
      broken_is : r ≡ due → broke_off r.reply (firsts waits) r.puts ≡ (ended && not (list_any is_spawn r.puts))
      broken_is due_is = ap (λ b. b && not (list_any is_spawn r.puts)) (ap (λ (z : Row). ends_handshake z.reply (firsts waits)) due_is ∙ (ap (ends_handshake due.reply) front ∙ log_ends))

      took_same : r ≡ due → broke_off r.reply (taken log (e r)) r.puts ≡ broke_off r.reply (firsts waits) r.puts
      took_same due_is = ap (λ i. broke_off r.reply i r.puts) (ap (λ (z : Row). taken log (e z)) due_is ∙ (took_is ∙ sym front))

      keeps_same : r ≡ due → table.at y.listening.handshakes name ≡ table.at mid.listening.handshakes name → keeps_by (table.at y.listening.handshakes name) (table.at x.listening.handshakes name) ≡ lost
      keeps_same due_is now =
          ap (λ b. end_by (b || list_any is_spawn r.puts) (link_over (table.at x.listening.handshakes name)) side.In) (ap is_some now ∙ kept_now)
          ∙ (ap (λ o. end_by (not ended || list_any is_spawn r.puts) o side.In) (ap link_over there)
          ∙ (broken_end ended (list_any is_spawn r.puts) h.arrival.link
          ∙ (ap (λ b. cond b (Some (h.arrival.link, side.In)) None) (sym (broken_is due_is)) ∙ ap (λ o. cond (broke_off r.reply (firsts waits) r.puts) (listening_end o) None) (sym over_its))))

      served_performs : Done
      served_performs =
          let d = turns T so in
          let step_is : steps.step ≡ handshake.Served took ended ask ready = d.did ∙ served in
          let tracks : HandshakeStepBy (handshake.Served took ended ask ready) n name x.tracker mid.tracker steps.taken =
          subst (λ w. HandshakeStepBy w n name x.tracker mid.tracker steps.taken) step_is steps.tracks in
          let on : HandedOn (length log) n o way mid y steps.taken r = handed d.mailbox (subst (λ w. HandsOnBy w (length log) n mid y steps.taken r) step_is steps.hands) in
          let same : y.listening ≡ mid.listening = ap (λ (z : Node). z.listening) on.rest in
          let mailbox : y.tracker.mailbox ≡ record m { desk = asked_desk m.desk (message_in o); handshakes = y.tracker.mailbox.handshakes } =
          on.mailbox ∙ (way_is ∙ ap (λ (w : Mailbox Key). record m { desk = asked_desk m.desk (message_in o); handshakes = w.handshakes }) (sym on.mailbox)) in
          let due_is : r ≡ due =
          on.row_is ∙ (ap (λ (w : Row). record w { puts = w.puts ++ handed_puts n o }) (tracks.0 ∙ ap (handshake_step_row took ended) (tracked.told q (eq-eqb n n refl))) ∙ told_row) in
          let did : DidBeside configs log ev n x y named lost (log_rule.handshake_row configs log name n moment) r =
          performs y due row_is due_is
          (on.rest
          ∙ (ap (λ (z : Node). record z { tracker = y.tracker; spawning = y.spawning }) steps.rest ∙ ap (λ w. record x { tracker = y.tracker; listening = w; spawning = y.spawning }) (sym same)))
          (tracker_after_handshake configs log (e due) n name x.tracker y.tracker ended (item_in o) (message_in o) tracked
          (record {
            no_step = refl;
            no_end = λ conn. ends_untold log (e due) n conn (e due).event.act refl refl;
            no_question = refl;
            goes_on = refl;
            lasts = running_lasts runs;
            none_asked = none_subscribed log (e due) n o right;
            no_answer = λ k. refl;
            names = handshakes_stepped log (e due) n name items ended refl took_is log_ends;
            rest = tracker_after x.tracker mid.tracker y.tracker (names_asked (length log) (item_in o)) (record m { desk = asked_desk m.desk (message_in o); handshakes = y.tracker.mailbox.handshakes }) tracks.1.1 on.tracker mailbox;
            waiting = λ k. ap (λ (w : Mailbox Key). line_of w.handshakes k) on.mailbox ∙ waiting k;
            distinct = subst (λ (w : Mailbox Key). AreDistinct w.handshakes) (sym on.mailbox) distinct;
            says = says;
            given = asked_on_its_side log (e due) n o right;
            mailbox = line_asked log (e due) n o puts (left_in (queue.Tracker n) refl);
            lines = λ p own. line_told log (e due) n o puts p (cond (same_queue q p) (left_after ended (line log p)) (line log p)) own (left_in p (told_unlinked n p own));
            told = λ p. ap (λ (w : Tracker). held w.told p) on.tracker ∙ (tracks.1.0 p ∙ ap (λ xs. if same_queue q p then xs else held x.tracker.told p) (left_is took ended moved (held x.tracker.told p)));
          }))
          (subst (ListenerStands configs (log ++ e due ∷ []) n) (sym same)
          (listener_after_handshake configs log (e due) n name x.listening mid.listening items ended (cond T.actor.has_ended None (Some T.actor)) listens
          (record {
            steps = refl;
            took = took_is;
            over = log_ends;
            runs = runs;
            arrivals = line_elsewhere log (e due) n o puts (queue.Arrivals n) (line log (queue.Arrivals n)) refl refl (left_in (queue.Arrivals n) refl);
            rest = d.rest ∙ ap (λ b. record x.listening { actor = listening.freed_if b x.listening.actor; handshakes = mid.listening.handshakes; ends = mid.listening.ends }) over;
            others = d.others;
            stands = stands;
            link = h.arrival.link;
            came = over_its;
            ends = λ k. d.ends k ∙ (ap (λ b. ends_left b T.actor.arrival.link (table.at x.listening.ends) k) over ∙ ap (λ w. ends_left ended w (table.at x.listening.ends) k) link);
          })))
          (subst (SpawnerStands configs (log ++ e due ∷ []) n) (sym (on.spawner ∙ ap (spawner_after (length log) o) spawning_is))
          (handed_spawner log (e due) n o puts configs x.spawning spawns right (left_in (queue.Spawner n) refl)))
          (links_left log n name due o (λ p. left_after ended (line log p)) puts stay)
          in
          record { did = did; took = took_same due_is; keeps = keeps_same due_is (ap (λ (z : Node). table.at z.listening.handshakes name) on.rest) }

    -- its deadline has come
    expired : turn ≡ ends input.Deadline outcome.Ended h m → waits ≡ [] → log_rule.handshake_row configs log name n moment ≡ ended_row [] [] → Done
    expired so none row_is =
        let due : Row = ended_row [] [] in
        let way : Mailbox Key = without_handshake m h.name in
        served_performs (ends input.Deadline outcome.Ended h m) false true None None nothing way [] due so refl refl refl
        (λ same hands. nothing_asked (length log) n way mid y steps.taken r same hands)
        row_is (ap (handshake_step_row false true) none) refl (none_taken log (e due) refl) (ap firsts none) refl refl refl
        (λ k. ap (λ j. line_of (ended m.handshakes j) k) is.name ∙ line_of-ended m.handshakes name k tracked.distinct) (distinct-ended m.handshakes h.name tracked.distinct)
        tt tt (none_gone log q [] none) refl

    -- its oldest item is taken
    module _ (z : Envelope) (zs : List Envelope) (first : waits ≡ z ∷ zs) where
      abbrev way_left : Mailbox Key
      way_left = without_item m h.name

      taken_is : (i : Item) (due : Row) → z.item ≡ i → due.takes ≡ name_of z ∷ [] → taken log (e due) ≡ i ∷ []
      taken_is i due said takes = first_taken log (e due) q z zs first takes ∙ ap (λ j. j ∷ []) said

      front_is : (i : Item) → z.item ≡ i → firsts waits ≡ i ∷ []
      front_is i said = ap firsts first ∙ ap (λ j. j ∷ []) said

      due_is : (i : Item) → z.item ≡ i → log_rule.handshake_row configs log name n moment ≡ log_rule.handshake_took_row n full name peer (name_of z) i zs
      due_is i said = row_of (z ∷ zs) first ∙ ap (λ j. log_rule.handshake_took_row n full name peer (name_of z) j zs) said

      -- what is left where it goes on
      rest_left : (p : Queue) → filter (stands_in p) (filter (stays (name_of z ∷ [])) (live log)) ≡ cond (same_queue q p) (drop 1 (line log p)) (line log p)
      rest_left p = first_left log q z zs first p ∙ dropped (same_queue q p) refl
        where
          dropped : (b : Bool) → same_queue q p ≡ b → cond b zs (line log p) ≡ cond b (drop 1 (line log p)) (line log p)
          dropped true same = sym (ap (drop 1) (ap (line log) (queue_from_same q p same) ∙ first))
          dropped false other = refl

      one_dropped : (k : ℕ) → line_of way_left.handshakes k ≡ cond (k == name) (option_map (drop 1) (line_of m.handshakes name)) (line_of m.handshakes k)
      one_dropped k = ap (λ j. line_of (with_line m.handshakes j (drop 1)) k) is.name ∙ line_of-dropped m.handshakes name k

      distinct_left : AreDistinct way_left.handshakes
      distinct_left = distinct-with_line m.handshakes h.name (drop 1) tracked.distinct

      abbrev ended_left : Mailbox Key
      ended_left = without_handshake way_left h.name

      -- it ends, and hands this on
      abbrev over : Handed → Row
      over o = record { reply = reply.Ok; takes = name_of z ∷ []; puts = handed_puts n o; ends = left_ends zs }

      ends_here : (i : Item) (done : Outcome Key) (o : Handed) → z.item ≡ i → turn ≡ ends input.Item done h way_left → ends_handshake reply.Ok (i ∷ []) ≡ true
          → log_rule.handshake_took_row n full name peer (name_of z) i zs ≡ over o
          → (mid.tracker.mailbox ≡ ended_left → HandsOn (ready_over h.arrival.link done) (length log) n None mid y steps.taken r
          → HandedOn (length log) n o (record ended_left { desk = asked_desk m.desk (message_in o) }) mid y steps.taken r)
          → IsAsked x.tracker.tickets (log ++ e (over o) ∷ []) (item_in o) (message_in o) → IsOnItsSide log (e (over o)) n o → Done
      ends_here i done o said so ending row_is handed says on =
          served_performs (ends input.Item done h way_left) true true None (ready_over h.arrival.link done) o (record ended_left { desk = asked_desk m.desk (message_in o) }) (i ∷ []) (over o) so refl refl refl
          handed (due_is i said ∙ row_is) (ap (λ xs. record (handshake_step_row true true xs) { puts = handed_puts n o }) first) refl (taken_is i (over o) said refl) (front_is i said) ending refl refl
          (λ k. ap (λ j. line_of (ended (with_line m.handshakes j (drop 1)) j) k) is.name ∙ line_of-dropped_ended m.handshakes name k tracked.distinct)
          (distinct-ended way_left.handshakes h.name distinct_left) says on
          (all_gone log q z zs first) refl

      -- without a connection
      refused : (i : Item) → z.item ≡ i → turn ≡ ends input.Item outcome.Ended h way_left → ends_handshake reply.Ok (i ∷ []) ≡ true
          → log_rule.handshake_took_row n full name peer (name_of z) i zs ≡ ended_row (name_of z ∷ []) zs → Done
      refused i said so ending row_is =
          ends_here i outcome.Ended nothing said so ending row_is (λ same hands. nothing_asked (length log) n ended_left mid y steps.taken r same hands) tt tt

      -- with a reservation, by which a connection is made unless the spawner is full
      module _ (key : Key) (said : z.item ≡ item.Listen (Some key)) where
        abbrev reserved : Metadata Key
        reserved = metadata.Listener key

        abbrev back : Handed
        back = question (item.Release key) (message.Release reserved)

        given : IsGivenBack (log ++ e (over back) ∷ []) (length log) (message.Release reserved)
        given =
            given_now log (e (over back)) reserved
            (handshake_gives log (e (over back)) n name refl (ap (ends_handshake reply.Ok) (taken_is (item.Listen (Some key)) (over back) said refl)))

        over_link : IsReservedOver log n h.arrival.link reserved
        over_link = heard peer key z zs runs is.began first said

        by_room : (b : Bool) → full ≡ b → turn ≡ ends input.Item (outcome.Ready reserved) h way_left → Done
        by_room true is_full so =
            ends_here (item.Listen (Some key)) (outcome.Ready reserved) back said so refl
            (ap (λ b. handed_on_row n b key peer.link (name_of z) zs) is_full)
            (λ same hands. connection_refused (length log) n ended_left mid y steps.taken r same h.arrival.link reserved hands (refuses_is ∙ is_full)) (reserved, refl, refl) (given, refl)
        by_room false room so =
            ends_here (item.Listen (Some key)) (outcome.Ready reserved) (connection h.arrival.link reserved) said so refl
            (ap (λ b. handed_on_row n b key peer.link (name_of z) zs) room)
            (λ same hands. connection_asked (length log) n ended_left mid y steps.taken r same h.arrival.link reserved hands (refuses_is ∙ room)) tt over_link

      -- its peer may connect
      accepted : z.item ≡ item.Acceptable true → turn ≡ goes_on input.Item (record h { is_accepted = true }) way_left → Done
      accepted said so =
          let due : Row = taken_row (name_of z) in
          let items : List Item = item.Acceptable true ∷ [] in
          served_performs (goes_on input.Item (record h { is_accepted = true }) way_left) true false None None nothing way_left items due so (ap (λ b. handshake.Served true b None None) is.runs) is.runs refl
          (λ same hands. nothing_asked (length log) n way_left mid y steps.taken r same hands)
          (due_is (item.Acceptable true) said) (ap (handshake_step_row true false) first) refl (taken_is (item.Acceptable true) due said refl) (front_is (item.Acceptable true) said) refl refl refl one_dropped distinct_left tt tt rest_left
          (subst (λ b. HandshakeIs (facts_after items (facts_of configs log n name)) name true (cond b None (Some (record h { is_accepted = true })))) (sym is.runs)
          (refl, record { name = is.name; deadline = is.deadline; accepted = refl; finished = is.finished; at = is.at; began = is.began; runs = is.runs; works = is.works }))

      -- its keys were exchanged, and it asks for its peer
      exchanged : z.item ≡ item.Finished true → turn ≡ asks input.Item (put.Listen h.arrival.key h.arrival.from.ip h.name) (record h { is_finished = true }) way_left → Done
      exchanged said so =
          let due : Row = exchanged_row n h.name h.arrival.key (name_of z) in
          let items : List Item = item.Finished true ∷ [] in
          let asking : Item = item.AskListen h.name h.arrival.key in
          let told = message.Listen h.arrival.key h.arrival.from.ip h.name in
          let way : Mailbox Key = with_message_in way_left told in
          served_performs (asks input.Item (put.Listen h.arrival.key h.arrival.from.ip h.name) (record h { is_finished = true }) way_left) true false (Some asking) None (question asking told) way items due so
          (ap (λ b. handshake.Served true b (Some asking) None) is.runs) is.runs refl
          (λ same hands. question_asked (length log) n way mid y steps.taken r same asking told hands)
          (due_is (item.Finished true) said ∙ ap (λ j. exchanged_row n j peer.key (name_of z)) (sym is.name))
          (ap (λ xs. record (handshake_step_row true false xs) { puts = (queue.Tracker n, asking) ∷ [] }) first) refl (taken_is (item.Finished true) due said refl) (front_is (item.Finished true) said) refl refl refl one_dropped distinct_left
          (h.arrival.from.ip, ap (source_at (log ++ e due ∷ [])) is.name ∙ source_at-longer log (e due ∷ []) name h.arrival.from.ip (ap (option_map (λ (s : Handshake). s.source)) is.began), refl) (tt, refl) rest_left
          (subst (λ b. HandshakeIs (facts_after items (facts_of configs log n name)) name true (cond b None (Some (record h { is_finished = true })))) (sym is.runs)
          (refl, record { name = is.name; deadline = is.deadline; accepted = is.accepted; finished = refl; at = is.at; began = is.began; runs = is.runs; works = is.works }))

      by_item : (i : Item) (a : HandshakeItem Key) → z.item ≡ i → turn ≡ item_turn a h way_left → IsToldHandshake i a → Done
      by_item (item.Acceptable true) a said so told = accepted said (so ∙ ap (λ b. item_turn b h way_left) told)
      by_item (item.Acceptable false) a said so told = refused (item.Acceptable false) said (so ∙ ap (λ b. item_turn b h way_left) told) refl refl
      by_item (item.Finished true) a said so told = exchanged said (so ∙ ap (λ b. item_turn b h way_left) told)
      by_item (item.Finished false) a said so told = refused (item.Finished false) said (so ∙ ap (λ b. item_turn b h way_left) told) refl refl
      by_item (item.Listen (Some key)) a said so told = by_room key said full refl (so ∙ ap (λ b. item_turn b h way_left) told)
      by_item (item.Listen None) a said so told = refused (item.Listen None) said (so ∙ ap (λ b. item_turn b h way_left) told) refl refl
      by_item _ a said so told = absurd told

    -- whether its deadline has come
    late_is : is_due h moment ≡ late
    late_is = ap (λ b. not b && nat_le h.deadline moment) is.finished ∙ ap (λ o. log_rule.is_due o moment (is_finished log n name)) (sym is.deadline)

    by_due : (b : Bool) → late ≡ b → waits ≡ [] → line_of m.handshakes name ≡ Some [] → Done
    by_due true due none lines =
        expired (turn_is ∙ (ap (λ o. line_turn (first_of o) h m moment) lines ∙ ap (λ b. cond b (ends input.Deadline outcome.Ended h m) (idle_turn h m)) (late_is ∙ due))) none
        (row_of [] none ∙ ap (λ b. cond b (ended_row [] []) (only reply.Idle)) due)
    by_due false early none lines =
        idle (turn_is ∙ (ap (λ o. line_turn (first_of o) h m moment) lines ∙ ap (λ b. cond b (ends input.Deadline outcome.Ended h m) (idle_turn h m)) (late_is ∙ early)))
        (row_of [] none ∙ ap (λ b. cond b (ended_row [] []) (only reply.Idle)) early)

    by_line : (xs : List Envelope) (items : List (HandshakeItem Key)) → waits ≡ xs → line_of m.handshakes name ≡ Some items → Match (λ (z : Envelope) i. IsToldHandshake z.item i) xs items → Done
    by_line [] [] none lines h = by_due late refl none lines
    by_line (z ∷ zs) (a ∷ as_left) first lines both = by_item z zs first z.item a refl (turn_is ∙ ap (λ o. line_turn (first_of o) h m moment) lines) both.0
    by_line [] (a ∷ as_left) none lines h = absurd h
    by_line (z ∷ zs) [] first lines h = absurd h

    by_lines : (o : Option (List (HandshakeItem Key))) → line_of m.handshakes name ≡ o → HandshakeStands o (is_handshaking log n name) waits → Done
    by_lines None lines h = let f : true ≡ false = sym runs ∙ h.0 in cc
    by_lines (Some items) lines h = by_line waits items refl lines h.1

  by_handshake : (o : Option (Handshaking Key)) → table.at x.listening.handshakes name ≡ o → HandshakeIs (facts_of configs log n name) name (is_handshaking log n name) o → Done
  by_handshake None there none = gone there none
  by_handshake (Some h) there is = by_lines h there is.0 is.1 (line_of m.handshakes name) refl (tracked.handshakes name)

  pub shaken : Done
  shaken = by_handshake (table.at x.listening.handshakes name) refl (listens.handshakes name)

-- What a step of a node's listener comes to, but for the end of an arrival that it turns away.
use Rattle.p2p_log_rules.proofs.Channels.{up_lasts, is_stopped-kept}
use Rattle.std.proofs.Common.{◌≡◌, ℕ, ◌+◌, Bool, true, false, cond, List, [], ◌∷◌, ◌++◌, map, drop, length, refl, ap, sym, subst, ◌∙◌, arith, append-nil, eq-eqb, length-append, Option, Some, None}
use Rattle.std.specs.Prelude.{◌≤◌, ◌==◌, slice_get}
use Rattle.std.specs.Option.{option_map}
use Rattle.std.proofs.lemmas.Option.{same_Some}
use Rattle.p2p_base.specs.declared.key.Key.{Key}
use Rattle.p2p_base.specs.Queue.{has_room}
use Rattle.p2p_address.specs.declared.ip.IpAddr.{IpAddr}
use Rattle.p2p_runtime.specs.QuotaPlaces.{Places}
use Rattle.p2p_tracker_mailbox.specs.Lines.{begun}
use Rattle.p2p_tracker_mailbox.specs.declared.mailbox.Mailbox.{Mailbox}
use Rattle.p2p_tracker_mailbox.specs.declared.message.Message.TheVariants as message
use Rattle.p2p_tracker_calls.specs.Gates as rule
use Rattle.p2p_tracker_calls.specs.Gates.{GateRules, Known}
use Rattle.p2p_tracker_calls.specs.declared.gates.Reply.{Reply as GatesReply}
use Rattle.p2p_tracker_calls.specs.declared.gates.Reply.TheVariants as gates
use Rattle.p2p_gates.specs.Gates.{has_place, places_after, reply_to}
use Rattle.p2p_gates.specs.Handshaking.{new_handshake}
use Rattle.p2p_gates.specs.Listening.{Listening as Actor, StandsFor}
use Rattle.p2p_gates.specs.ListenerTurns.{ListenerTurn, listener_turn, update_turn, line_turn, arrival_turn}
use Rattle.p2p_gates.specs.declared.arrival.Arrival.{Arrival}
use Rattle.p2p_log.specs.declared.config.Config.{Config}
use Rattle.p2p_log.specs.declared.queue.Queue.{Queue}
use Rattle.p2p_log.specs.declared.queue.Queue.TheVariants as queue
use Rattle.p2p_log.specs.declared.queue.Side.TheVariants as side
use Rattle.p2p_log.specs.declared.item.Item.{Item}
use Rattle.p2p_log.specs.declared.item.Item.TheVariants as item
use Rattle.p2p_log.specs.declared.item.Envelope.{Envelope}
use Rattle.p2p_log.specs.declared.entry.Entry.{Entry}
use Rattle.p2p_log.specs.declared.entry.Reply.TheVariants as reply
use Rattle.p2p_log.specs.declared.event.Event.{Event}
use Rattle.p2p_log.specs.declared.event.Act.TheVariants as act
use Rattle.p2p_log.specs.QueueCode.{same_queue}
use Rattle.p2p_log.specs.Lines.{name_of, line}
use Rattle.p2p_log.proofs.Queues.{same_queue-refl}
use Rattle.p2p_log_rules.proofs.Connections.{ends_untold}
use Rattle.p2p_log_rules.specs.declared.row.ListeningEnd.{ListeningEnd}
use Rattle.p2p_log_rules.specs.declared.row.Row.{Row}
use Rattle.p2p_log_rules.specs.Facts.{is_up, events_of, latest_moment, taken}
use Rattle.p2p_log_rules.proofs.Listening.{took_known, IsJudged, known_of-late}
use Rattle.p2p_log_rules.specs.Dropping.{arrival_end, oldest_end, arriving_end}
use Rattle.p2p_log_rules.specs.Effect.{only, entry_of}
use Rattle.p2p_log_rules.specs.Handshakes.{Handshake, handshakes_of, handshake_at}
use Rattle.p2p_log_rules.specs.Links.{listening_ends_of}
use Rattle.p2p_log_rules.specs.Listening as log_rule
use Rattle.p2p_log_rules.specs.Listening.{gate_rules_at, most_handshakes_at, known_of, gates_puts, arrival_told_row, listener_row}
use Rattle.p2p_log_rules.specs.Puts.{turns_away}
use Rattle.p2p_log_rules.proofs.HandshakeBegun.{handshake_at-begun}
use Rattle.p2p_log_rules.specs.declared.row.ListeningEnd.TheVariants as listening_end
use Rattle.p2p_log_rules.specs.Told.{admitted_as}
use Rattle.p2p_log_rules.proofs.Handshakes.{begun_with, handshakes_of-listened}
use Rattle.p2p_log_rules.proofs.Links.{listening_ends_of-listened, listening_ends_of-taken}
use Rattle.p2p_log_rules.proofs.Standing.{started}
use Rattle.p2p_net_queues.specs.Board.{held}
use Rattle.p2p_net_queues.specs.Tables as table
use Rattle.p2p_net_queues.proofs.Going.{put_in, line-append, first_left}
use Rattle.p2p_net_gates.specs.Listening as listening
use Rattle.p2p_net_gates.specs.ListenerStands.{arrival_item, IsRunning, TellsNothing, ListenerStands, begun_by}
use Rattle.p2p_net_gates.specs.declared.listening.Took.{Took}
use Rattle.p2p_net_gates.specs.declared.listening.Took.TheVariants as takes
use Rattle.p2p_net_gates.proofs.ListenerChanges.{listener_moved}
use Rattle.p2p_net_gates.proofs.LeavingListener.{listener_tells}
use Rattle.p2p_net_gates.proofs.Handshakes.{facts_begun, AreKept, handshakes_kept, handshakes_begun}
use Rattle.p2p_net_tracker.specs.Dialed.{taken_names}
use Rattle.p2p_net_tracker.specs.Stands.{is_told, HeardStands, TrackerStands}
use Rattle.p2p_net_tracker.proofs.Changes.{told_apart, tracker_frame, kept_open}
use Rattle.p2p_net_tracker.proofs.ListenerSteps.{tracker_updated, tracker_asked}
use Rattle.p2p_net_tracker.proofs.StepFacts.{none_taken, first_taken}
use Rattle.p2p_net_node.specs.Places as place
use Rattle.p2p_net_dialing.specs.Dialing.{refused_by, ListenedBy}
use Rattle.p2p_net_node.specs.Stands.{NodeStands}
use Rattle.p2p_net_node.specs.declared.node.Node.{Node}
use Rattle.p2p_net_dialing.proofs.DroppedEnds.{dropped, is_of_link, told_unlinked, unlinked_stay, LeavesLinks, end_by}
use Rattle.p2p_net_dialing.proofs.Heard.{told_no_arrivals, turn_row, only_first, asked_for, refused_for, lost_by, Heard, update_leaves, arrival_leaves, idle_leaves}
use Rattle.p2p_net_node.proofs.Performing.{asked, IsStill, line-still, part_still}

module _ (configs : List Config) (log : List Entry) (moment seed n : ℕ) (x y : Node) (r : Row) (over : Option ℕ) (s : NodeStands configs log n x) (late : latest_moment (events_of log) ≤ moment) (up : is_up log n ≡ true)
    (rest : y ≡ record x { tracker = y.tracker; listening = y.listening }) (what : Option Took) (over_is : over ≡ refused_by what)
    (steps : listening.Steps (length log) moment x.listening y.listening x.tracker.mailbox y.tracker.mailbox what) where
  abbrev ev : Event
  ev = asked moment seed (act.Listener n)

  -- what it comes to, but for the end of a link
  abbrev Done : Type 0
  Done = Heard configs log ev n x y r over

  abbrev k : ℕ
  k = length log

  abbrev m : Mailbox Key
  m = x.tracker.mailbox

  abbrev actor : Actor Key
  actor = x.listening.actor

  abbrev rules : GateRules
  rules = gate_rules_at configs n

  abbrev known : Known
  known = known_of configs log n

  abbrev hs : List ℕ
  hs = handshakes_of log n

  abbrev place_free : Bool
  place_free = log_rule.has_place configs log n

  abbrev updates : List Envelope
  updates = line log (queue.Addresses n)

  abbrev arrivals : List Envelope
  arrivals = line log (queue.Arrivals n)

  tracked : TrackerStands configs log n x.tracker
  tracked = s.each place.tracker

  listens : ListenerStands configs log n x.listening
  listens = s.each place.listener

  abbrev turn : ListenerTurn Key
  turn = listener_turn actor known m k moment

  -- what had the listening ends of the links
  abbrev had : ℕ → Option ListeningEnd
  had = table.at x.listening.ends

  -- the entry of a row, with the end that it drops
  abbrev e : Row → Entry
  e due = entry_of ev (dropped log (lost_by log n due) due)

  -- its step tells no handshake anything
  tells_none : (due : Row) (j : ℕ) → TellsNothing log (e due) n j
  tells_none due = listener_tells log (e due) n refl

  -- it begins the handshake that it admits
  begins : (due : Row) → handshakes_of (log ++ e due ∷ []) n ≡ hs ++ started (begun_with (admitted_as k (e due).reply) (taken log (e due)))
  begins due = handshakes_of-listened log (e due) n refl

  begins_none : (due : Row) → admitted_as k (e due).reply ≡ None → handshakes_of (log ++ e due ∷ []) n ≡ hs
  begins_none due none = begins due ∙ (ap (λ o. hs ++ started (begun_with o (taken log (e due)))) none ∙ append-nil hs)

  places_kept : (due : Row) → admitted_as k (e due).reply ≡ None → actor.places ≡ record { held = length (handshakes_of (log ++ e due ∷ []) n); max = most_handshakes_at configs n }
  places_kept due none = listens.places ∙ ap (λ (names : List ℕ). record { held = length names; max = most_handshakes_at configs n }) (sym (begins_none due none))

  -- where both parts stand for the log with this entry
  performs : (due : Row) → listener_row configs log n moment ≡ due → r ≡ due → TrackerStands configs (log ++ e due ∷ []) n y.tracker → ListenerStands configs (log ++ e due ∷ []) n y.listening
      → LeavesLinks log due → cond (turns_away due.reply) (arrival_end (taken log (e due))) None ≡ lost_by log n due → end_by false over side.In ≡ lost_by log n due → Done
  performs due row_is r_is tracks hears leaves took drops =
      subst (λ (z : Row). Heard configs log ev n x y z over) (sym r_is)
      (record { did = record { row_is = sym row_is; rest = rest; parts = (tracks, (hears, tt)); leaves = leaves }; took = took; drops = drops })

  -- what a turn makes of the listener, which took these
  hears_by : (due : Row) (T : ListenerTurn Key) (items : List Item) → turn ≡ T → taken log (e due) ≡ items → IsJudged rules known moment due.reply items
      → listening.names_after T.stepped x.listening.names ≡ map name_of (line (log ++ e due ∷ []) (queue.Arrivals n))
      → map (λ (z : Envelope). z.item) (line (log ++ e due ∷ []) (queue.Arrivals n)) ≡ map arrival_item T.arrivals
      → T.known ≡ took_known rules moment items known
      → T.places ≡ record { held = length (handshakes_of (log ++ e due ∷ []) n); max = most_handshakes_at configs n }
      → AreKept configs log (e due) n (log ++ e due ∷ []) (listening.handshakes_after T.stepped k x.listening.handshakes)
      → ((j : ℕ) → listening.ends_after T.stepped k had j ≡ listening_ends_of (log ++ e due ∷ []) n j) → ListenerStands configs (log ++ e due ∷ []) n y.listening
  hears_by due T items is took_is judged names waits knows places kept_now has =
      listener_moved configs log (e due) n x.listening y.listening items listens
      (record {
        steps = refl;
        took = took_is;
        judged = judged;
        names = steps.names known listens.known ∙ (ap (λ (u : ListenerTurn Key). listening.names_after u.stepped x.listening.names) is ∙ names);
        waits = waits ∙ sym (ap (map arrival_item) (steps.arrivals known listens.known ∙ ap (λ (u : ListenerTurn Key). u.arrivals) is));
        known = subst (StandsFor y.listening.actor) (ap (λ (u : ListenerTurn Key). u.known) is ∙ knows) (steps.stands known listens.known);
        places = steps.places known listens.known ∙ (ap (λ (u : ListenerTurn Key). u.places) is ∙ places);
        handshakes = subst (AreKept configs log (e due) n (log ++ e due ∷ [])) (sym (steps.handshakes known listens.known ∙ ap (λ (u : ListenerTurn Key). listening.handshakes_after u.stepped k x.listening.handshakes) is)) kept_now;
        ends = λ j. steps.ends known listens.known j ∙ (ap (λ (u : ListenerTurn Key). listening.ends_after u.stepped k had j) is ∙ has j);
        rest = steps.rest;
        rates = steps.rates;
      })

  what_is : (T : ListenerTurn Key) → turn ≡ T → what ≡ listening.took_by T.stepped (slice_get x.listening.names 0)
  what_is T is = steps.took known listens.known ∙ ap (λ (u : ListenerTurn Key). listening.took_by u.stepped (slice_get x.listening.names 0)) is

  way_is : (T : ListenerTurn Key) → turn ≡ T → y.tracker.mailbox ≡ T.way
  way_is T is = steps.mailbox known listens.known ∙ ap (λ (u : ListenerTurn Key). u.way) is

  abbrev Tracks : Option Took → Type 0
  Tracks d = ListenedBy d k n x.tracker y.tracker r

  -- the end that the code drops, by what it took
  drops_by : (d : Option Took) → what ≡ d → end_by false over side.In ≡ end_by false (refused_by d) side.In
  drops_by d is = ap (λ o. end_by false o side.In) (over_is ∙ ap refused_by is)

  -- ---- an update is taken

  module _ (ips : List IpAddr) (z : Envelope) (heard : m.heard ≡ Some ips) (one : updates ≡ z ∷ []) (is : z.item ≡ item.Addresses ips) where
    abbrev due_update : Row
    due_update = record { reply = reply.Ok; takes = name_of z ∷ []; puts = []; ends = [] }

    abbrev T_update : ListenerTurn Key
    T_update = update_turn actor known m k moment (Some ips)

    turn_update : turn ≡ T_update
    turn_update = ap (update_turn actor known m k moment) heard

    line_update : (p : Queue) → line (log ++ e due_update ∷ []) p ≡ cond (same_queue (queue.Addresses n) p) [] (line log p)
    line_update p =
        line-append log (e due_update) p
        ∙ (ap (λ xs. xs ++ []) (first_left log (queue.Addresses n) z [] one p) ∙ append-nil (cond (same_queue (queue.Addresses n) p) [] (line log p)))

    updated : Tracks (Some takes.Update) → Done
    updated tracks =
        let row_is : listener_row configs log n moment ≡ due_update = turn_row configs log n moment up (z ∷ []) arrivals one refl in
        let told : held x.tracker.told (queue.Addresses n) ≡ z ∷ [] = tracked.told (queue.Addresses n) (eq-eqb n n refl) ∙ one in
        let took_is : taken log (e due_update) ≡ item.Addresses ips ∷ [] = first_taken log (e due_update) (queue.Addresses n) z [] one refl ∙ ap (λ i. i ∷ []) is in
        performs due_update row_is (tracks.0 ∙ ap (λ (xs : List Envelope). record { reply = reply.Ok; takes = taken_names true xs; puts = []; ends = [] }) told)
        (tracker_updated configs log (e due_update) n x.tracker y.tracker tracked
        (record {
          no_step = refl;
          no_end = λ conn. ends_untold log (e due_update) n conn (e due_update).event.act refl refl;
          no_question = refl;
          goes_on = refl;
          no_answer = λ d. refl;
          no_admission = begins_none due_update refl;
          rest = tracks.1.1 ∙ ap (λ w. record x.tracker { mailbox = w; told = y.tracker.told }) (way_is T_update turn_update);
          mailbox = line_update (queue.Tracker n);
          lines = λ p own. line_update p ∙ only_first log (queue.Addresses n) z one p (same_queue (queue.Addresses n) p) refl;
          told = tracks.1.0;
        }))
        (hears_by due_update T_update (item.Addresses ips ∷ []) turn_update took_is tt
        (listens.names ∙ ap (map name_of) (sym (line_update (queue.Arrivals n)))) (ap (map (λ (w : Envelope). w.item)) (line_update (queue.Arrivals n)) ∙ listens.items) refl (places_kept due_update refl)
        (handshakes_kept configs log (e due_update) n x.listening.handshakes (begins_none due_update refl) (tells_none due_update) listens.handshakes)
        (λ j. listens.ends j ∙ sym (listening_ends_of-listened log (e due_update) n n (item.Addresses ips ∷ []) refl took_is j)))
        (update_leaves log n z [] reply.Ok one) refl (drops_by (Some takes.Update) (what_is T_update turn_update))

    update_performs : Tracks what → Done
    update_performs tracks = updated (subst Tracks (what_is T_update turn_update) tracks)

  -- ---- no update waits

  module _ (heard : m.heard ≡ None) (quiet : updates ≡ []) where
    turn_received : (o : Option (Arrival Key)) → slice_get actor.arrivals 0 ≡ o → turn ≡ line_turn actor known m k moment o
    turn_received o is = ap (update_turn actor known m k moment) heard ∙ ap (line_turn actor known m k moment) is

    -- nobody has arrived
    idle : arrivals ≡ [] → slice_get actor.arrivals 0 ≡ None → Tracks what → Done
    idle none nobody tracks =
        let T : ListenerTurn Key = line_turn actor known m k moment None in
        let turn_is : turn ≡ T = turn_received None nobody in
        let nothing : Tracks None = subst Tracks (what_is T turn_is) tracks in
        let due : Row = only reply.Idle in
        let same : y.tracker ≡ x.tracker = nothing.1 ∙ ap (λ w. record x.tracker { mailbox = w }) (way_is T turn_is) in
        let still : IsStill (e due) reply.Idle = record { reply = refl; takes = refl; puts = refl; ends = refl } in
        let line_same : line (log ++ e due ∷ []) (queue.Arrivals n) ≡ arrivals = line-still log (e due) reply.Idle (queue.Arrivals n) still in
        performs due (turn_row configs log n moment up [] [] quiet none) nothing.0
        (subst (TrackerStands configs (log ++ e due ∷ []) n) (sym same) (part_still place.tracker configs log (e due) n x (act.Listener n) reply.Idle tracked refl refl still))
        (hears_by due T [] turn_is (none_taken log (e due) refl) tt (listens.names ∙ ap (map name_of) (sym line_same)) (ap (map (λ (w : Envelope). w.item)) line_same ∙ listens.items) refl (places_kept due refl)
        (handshakes_kept configs log (e due) n x.listening.handshakes (begins_none due refl) (tells_none due) listens.handshakes)
        (λ j. listens.ends j ∙ sym (listening_ends_of-listened log (e due) n n [] refl (none_taken log (e due) refl) j)))
        (idle_leaves log n reply.Idle) refl (drops_by None (what_is T turn_is))

    -- the oldest arrival is taken
    module _ (z : Envelope) (zs : List Envelope) (a : Arrival Key) (cs : List (Arrival Key)) (first : arrivals ≡ z ∷ zs) (came : actor.arrivals ≡ a ∷ cs) (is : z.item ≡ arrival_item a)
        (others : map (λ (w : Envelope). w.item) zs ≡ map arrival_item cs) where
      abbrev told_by : GatesReply
      told_by = rule.reply_to rules known place_free a.from.ip moment

      -- what the actor tells is what the log says
      told_is : reply_to actor known a.from.ip moment ≡ told_by
      told_is =
          ap (λ g. rule.reply_to g known (has_place actor.places) a.from.ip moment) listens.rules
          ∙ ap (λ (p : Places). rule.reply_to rules known (has_place p) a.from.ip moment) listens.places

      abbrev due : GatesReply → Row
      due told = arrival_told_row n k (name_of z) a.key told

      row_is : listener_row configs log n moment ≡ due told_by
      row_is = turn_row configs log n moment up [] (z ∷ zs) quiet first ∙ ap (log_rule.arrived_row rules known place_free n k moment (name_of z)) is

      abbrev T_told : GatesReply → ListenerTurn Key
      T_told told = arrival_turn actor known m k moment told a

      turn_is : turn ≡ T_told told_by
      turn_is = turn_received (Some a) (ap (λ xs. slice_get xs 0) came) ∙ ap (λ g. T_told g) told_is

      name_is : slice_get x.listening.names 0 ≡ Some (name_of z)
      name_is = ap (λ xs. slice_get xs 0) listens.names ∙ ap (λ (xs : List Envelope). slice_get (map name_of xs) 0) first

      took_is : (told : GatesReply) → taken log (e (due told)) ≡ item.Arrival a.from a.key a.link ∷ []
      took_is told = first_taken log (e (due told)) (queue.Arrivals n) z zs first refl ∙ ap (λ i. i ∷ []) is

      -- what it asks goes to the tracker alone
      put_away : (told : GatesReply) (p : Queue) → same_queue p (queue.Tracker n) ≡ false → put_in log (e (due told)) p ≡ []
      put_away gates.Admitted p other = ap (λ b. cond b (record { entry = k; place = 0; queue = queue.Tracker n; item = item.AskAcceptable k a.key } ∷ []) []) other
      put_away gates.Private p other = refl
      put_away gates.Unregistered p other = refl
      put_away (gates.Limited i j) p other = refl
      put_away gates.TooMany p other = refl

      line_told : (told : GatesReply) (p : Queue) → is_of_link p ≡ false → line (log ++ e (due told) ∷ []) p ≡ cond (same_queue (queue.Arrivals n) p) zs (line log p) ++ put_in log (e (due told)) p
      line_told told p unlinked =
          line-append log (e (due told)) p
          ∙ ap (λ xs. xs ++ put_in log (e (due told)) p) (unlinked_stay log (due told) (lost_by log n (due told)) p unlinked ∙ first_left log (queue.Arrivals n) z zs first p)

      line_away : (told : GatesReply) (p : Queue) → is_of_link p ≡ false → same_queue p (queue.Tracker n) ≡ false → line (log ++ e (due told) ∷ []) p ≡ cond (same_queue (queue.Arrivals n) p) zs (line log p)
      line_away told p unlinked other =
          line_told told p unlinked ∙ (ap (λ xs. cond (same_queue (queue.Arrivals n) p) zs (line log p) ++ xs) (put_away told p other) ∙ append-nil (cond (same_queue (queue.Arrivals n) p) zs (line log p)))

      arrivals_left : (told : GatesReply) → line (log ++ e (due told) ∷ []) (queue.Arrivals n) ≡ zs
      arrivals_left told = line_away told (queue.Arrivals n) refl refl ∙ ap (λ b. cond b zs arrivals) (same_queue-refl (queue.Arrivals n))

      -- a queue in which the tracker tells something is not the listener's
      not_arrivals : (p : Queue) → is_told n p ≡ true → same_queue (queue.Arrivals n) p ≡ false
      not_arrivals p own = told_no_arrivals n n p own

      told_lines : (told : GatesReply) (p : Queue) → is_told n p ≡ true → line (log ++ e (due told) ∷ []) p ≡ line log p
      told_lines told p own = line_away told p (told_unlinked n p own) (told_apart n n p own) ∙ ap (λ b. cond b zs (line log p)) (not_arrivals p own)

      -- where it is admitted a handshake begins with it
      begins_one : handshakes_of (log ++ e (due gates.Admitted) ∷ []) n ≡ hs ++ k ∷ []
      begins_one = begins (due gates.Admitted) ∙ ap (λ items. hs ++ started (begun_with (Some k) items)) (took_is gates.Admitted)

      -- the places of handshakes
      places_told : (told : GatesReply) → places_after told actor.places ≡ record { held = length (handshakes_of (log ++ e (due told) ∷ []) n); max = most_handshakes_at configs n }
      places_told gates.Admitted =
          ap (λ (p : Places). record { held = p.held + 1; max = p.max }) listens.places ∙ ap (λ c. record { held = c; max = most_handshakes_at configs n }) (sym (ap length begins_one ∙ length-append hs (k ∷ [])))
      places_told gates.Private = places_kept (due gates.Private) refl
      places_told gates.Unregistered = places_kept (due gates.Unregistered) refl
      places_told (gates.Limited i j) = places_kept (due (gates.Limited i j)) refl
      places_told gates.TooMany = places_kept (due gates.TooMany) refl

      -- the arrival's name is taken, whatever it is told
      names_told : (told : GatesReply) → listening.names_after (T_told told).stepped x.listening.names ≡ drop 1 x.listening.names
      names_told gates.Admitted = refl
      names_told gates.Private = refl
      names_told gates.Unregistered = refl
      names_told (gates.Limited i j) = refl
      names_told gates.TooMany = refl

      took_told : (told : GatesReply) (name : Option (ℕ × ℕ)) → name ≡ Some (name_of z) → listening.took_by (T_told told).stepped name ≡ Some (takes.Arrival (name_of z) told (refused_for a.link told) (asked_for k a.key told))
      took_told gates.Admitted name there = ap (listening.took_by (T_told gates.Admitted).stepped) there
      took_told gates.Private name there = ap (listening.took_by (T_told gates.Private).stepped) there
      took_told gates.Unregistered name there = ap (listening.took_by (T_told gates.Unregistered).stepped) there
      took_told (gates.Limited i j) name there = ap (listening.took_by (T_told (gates.Limited i j)).stepped) there
      took_told gates.TooMany name there = ap (listening.took_by (T_told gates.TooMany).stepped) there

      began : handshake_at (log ++ e (due gates.Admitted) ∷ []) k ≡ Some (begun_by a moment)
      began = handshake_at-begun log (e (due gates.Admitted)) n a.from a.key a.link [] refl refl (took_is gates.Admitted)

      -- by what the log tells of it
      running : IsRunning (facts_begun configs n (begun_by a moment)) k (new_handshake k a actor.handshake_timeout moment)
      running = record {
        name = refl;
        deadline = ap (λ t. Some (moment + t)) (sym listens.timeout);
        accepted = refl;
        finished = refl;
        at = moment;
        began = refl;
        runs = refl;
        works = refl;
      }

      kept_told : (told : GatesReply) → AreKept configs log (e (due told)) n (log ++ e (due told) ∷ []) (listening.handshakes_after (T_told told).stepped k x.listening.handshakes)
      kept_told gates.Admitted =
          handshakes_begun configs log (e (due gates.Admitted)) n x.listening.handshakes (new_handshake k a actor.handshake_timeout moment) (begun_by a moment) begins_one began
          (tells_none (due gates.Admitted)) (listens.untold k (omega arith)) running listens.handshakes
      kept_told gates.Private = handshakes_kept configs log (e (due gates.Private)) n x.listening.handshakes (begins_none (due gates.Private) refl) (tells_none (due gates.Private)) listens.handshakes
      kept_told gates.Unregistered = handshakes_kept configs log (e (due gates.Unregistered)) n x.listening.handshakes (begins_none (due gates.Unregistered) refl) (tells_none (due gates.Unregistered)) listens.handshakes
      kept_told (gates.Limited i j) = handshakes_kept configs log (e (due (gates.Limited i j))) n x.listening.handshakes (begins_none (due (gates.Limited i j)) refl) (tells_none (due (gates.Limited i j))) listens.handshakes
      kept_told gates.TooMany = handshakes_kept configs log (e (due gates.TooMany)) n x.listening.handshakes (begins_none (due gates.TooMany) refl) (tells_none (due gates.TooMany)) listens.handshakes

      -- what has the link's listening end
      ends_told : (told : GatesReply) (j : ℕ) → listening.ends_after (T_told told).stepped k had j ≡ listening_ends_of (log ++ e (due told) ∷ []) n j
      ends_told told j = changed told ∙ (ap (λ o. cond (j == a.link) (option_map listening_end.Handshake (admitted_as k (reply.Gates told))) o) (listens.ends j) ∙ sym (listening_ends_of-taken log (e (due told)) n a.from a.key a.link [] refl (took_is told) j))
        where
          changed : (told : GatesReply) → listening.ends_after (T_told told).stepped k had j ≡ cond (j == a.link) (option_map listening_end.Handshake (admitted_as k (reply.Gates told))) (had j)
          changed gates.Admitted = refl
          changed gates.Private = refl
          changed gates.Unregistered = refl
          changed (gates.Limited i m) = refl
          changed gates.TooMany = refl

      early : known.latest ≤ moment
      early = let now : known.latest ≤ latest_moment (events_of log) = known_of-late n configs log in omega (arith, now, late)

      hears : (told : GatesReply) → turn ≡ T_told told → told_by ≡ told → ListenerStands configs (log ++ e (due told) ∷ []) n y.listening
      hears told so by =
          hears_by (due told) (T_told told) (item.Arrival a.from a.key a.link ∷ []) so (took_is told) (early, (place_free, ap (λ g. reply.Gates g) (sym by)))
          (names_told told ∙ (ap (drop 1) (listens.names ∙ ap (map name_of) first) ∙ ap (map name_of) (sym (arrivals_left told))))
          (ap (map (λ (w : Envelope). w.item)) (arrivals_left told) ∙ (others ∙ sym (ap (λ xs. map arrival_item (drop 1 xs)) came)))
          (ap (λ g. rule.known_after g known a.from.ip moment) listens.rules) (places_told told) (kept_told told) (ends_told told)

      -- what was taken
      abbrev took_told_by : GatesReply → Option Took
      took_told_by told = Some (takes.Arrival (name_of z) told (refused_for a.link told) (asked_for k a.key told))

      what_told : (told : GatesReply) → turn ≡ T_told told → what ≡ took_told_by told
      what_told told so = what_is (T_told told) so ∙ took_told told (slice_get x.listening.names 0) name_is

      -- the end of an arrival that is turned away
      came_over : arriving_end log n ≡ Some (a.link, side.In)
      came_over = ap oldest_end first ∙ ap (λ i. arrival_end (i ∷ [])) is

      lost_told : (told : GatesReply) → end_by false (refused_for a.link told) side.In ≡ lost_by log n (due told)
      lost_told gates.Admitted = refl
      lost_told gates.Private = sym came_over
      lost_told gates.Unregistered = sym came_over
      lost_told (gates.Limited i j) = sym came_over
      lost_told gates.TooMany = sym came_over

      took_over : (told : GatesReply) → cond (turns_away (reply.Gates told)) (arrival_end (taken log (e (due told)))) None ≡ lost_by log n (due told)
      took_over told = ap (λ o. cond (turns_away (reply.Gates told)) o None) (ap arrival_end (took_is told) ∙ sym came_over)

      -- both parts stand, and the end is dropped where it is turned away
      done : (told : GatesReply) → turn ≡ T_told told → told_by ≡ told → r ≡ due told → TrackerStands configs (log ++ e (due told) ∷ []) n y.tracker → Done
      done told so by r_is tracks =
          performs (due told) (row_is ∙ ap due by) r_is tracks (hears told so by) (arrival_leaves log n z zs (reply.Gates told) a.key told first) (took_over told)
          (drops_by (took_told_by told) (what_told told so) ∙ lost_told told)

      tracks_told : (told : GatesReply) → turn ≡ T_told told → Tracks what → Tracks (took_told_by told)
      tracks_told told so tracks = subst Tracks (what_told told so) tracks

      -- one that a gate refuses: the tracker isn't asked
      refused : (told : GatesReply) → turn ≡ T_told told → told_by ≡ told → (T_told told).way ≡ m → asked_for k a.key told ≡ None → gates_puts n k a.key told ≡ [] → admitted_as k (reply.Gates told) ≡ None
          → Tracks what → Done
      refused told so by way nothing none nobody tracks =
          let it : Tracks (Some (takes.Arrival (name_of z) told (refused_for a.link told) None)) =
          subst (λ o. Tracks (Some (takes.Arrival (name_of z) told (refused_for a.link told) o))) nothing (tracks_told told so tracks) in
          let same : y.tracker ≡ x.tracker =
          it.1
          ∙ (ap (λ w. record x.tracker { mailbox = w; names = x.tracker.names ++ [] }) (way_is (T_told told) so ∙ way) ∙ ap (λ w. record x.tracker { names = w }) (append-nil x.tracker.names)) in
          let alone : put_in log (e (due told)) (queue.Tracker n) ≡ [] = ap (λ ps. put_in log (e (record (due told) { puts = ps })) (queue.Tracker n)) none in
          done told so by (it.0 ∙ ap (λ ps. record { reply = reply.Gates told; takes = name_of z ∷ []; puts = ps; ends = [] }) (sym none))
          (subst (TrackerStands configs (log ++ e (due told) ∷ []) n) (sym same)
          (tracker_frame configs log (e (due told)) n x.tracker tracked
          (record {
            no_step = refl;
            no_end = λ conn. ends_untold log (e (due told)) n conn (e (due told)).event.act refl refl;
            no_question = refl;
            goes_on = is_stopped-kept log (e (due told)) n refl;
            no_answer = λ d is_asked. refl;
            no_late_answer = λ d past. refl;
            mailbox = line_told told (queue.Tracker n) refl ∙ (ap (λ xs. line log (queue.Tracker n) ++ xs) alone ∙ append-nil (line log (queue.Tracker n)));
            told = told_lines told;
            handshakes = begins_none (due told) nobody;
          })))

      -- one that is admitted
      admitted : turn ≡ T_told gates.Admitted → told_by ≡ gates.Admitted → Tracks what → Done
      admitted so by tracks =
          let it : Tracks (Some (takes.Arrival (name_of z) gates.Admitted None (Some (item.AskAcceptable k a.key)))) = tracks_told gates.Admitted so tracks in
          let w : y.tracker.mailbox ≡ (T_told gates.Admitted).way = way_is (T_told gates.Admitted) so in
          let asked_envelope : Envelope = record { entry = k; place = 0; queue = queue.Tracker n; item = item.AskAcceptable k a.key } in
          let d : Row = due gates.Admitted in
          done gates.Admitted so by it.0
          (tracker_asked configs log (e d) n x.tracker y.tracker a.key a.from.ip tracked
          (record {
            no_step = refl;
            no_end = λ conn. ends_untold log (e d) n conn (e d).event.act refl refl;
            no_question = refl;
            goes_on = refl;
            no_answer = λ q. refl;
            admits = begins_one;
            source_is = ap (option_map (λ (h : Handshake). h.source)) began;
            rest = it.1 ∙ ap (λ (u : Mailbox Key). record x.tracker { mailbox = u; names = x.tracker.names ++ (k, 0) ∷ [] }) (w ∙ sym (mailbox_now w));
            items = ap (λ (u : Mailbox Key). u.desk.messages.items) w ∙ kept_open m.desk.messages.closed (has_room m.desk.messages) m.desk.messages.items (message.Acceptable a.key a.from.ip k) (tracked.closed ∙ up_lasts log n up);
            closed = ap (λ (u : Mailbox Key). u.desk.messages.closed) w;
            capacity = ap (λ (u : Mailbox Key). u.desk.messages.capacity) w;
            questions = ap (λ (u : Mailbox Key). u.desk.questions) w;
            updates = ap (λ (u : Mailbox Key). u.desk.updates) w;
            sets = ap (λ (u : Mailbox Key). u.desk.sets) w;
            waits = line_told gates.Admitted (queue.Tracker n) refl ∙ ap (λ b. line log (queue.Tracker n) ++ cond b (asked_envelope ∷ []) []) (same_queue-refl (queue.Tracker n));
            lines = told_lines gates.Admitted;
          }))
        where
          mailbox_now : y.tracker.mailbox ≡ (T_told gates.Admitted).way → record m { desk = y.tracker.mailbox.desk; handshakes = begun m.handshakes k } ≡ (T_told gates.Admitted).way
          mailbox_now w = ap (λ (u : Mailbox Key). record m { desk = u.desk; handshakes = begun m.handshakes k }) w

      by_told : (told : GatesReply) → turn ≡ T_told told → told_by ≡ told → Tracks what → Done
      by_told gates.Admitted so by tracks = admitted so by tracks
      by_told gates.Private so by tracks = refused gates.Private so by refl refl refl refl tracks
      by_told gates.Unregistered so by tracks = refused gates.Unregistered so by refl refl refl refl tracks
      by_told (gates.Limited i j) so by tracks = refused (gates.Limited i j) so by refl refl refl refl tracks
      by_told gates.TooMany so by tracks = refused gates.TooMany so by refl refl refl refl tracks

      arrival_performs : Tracks what → Done
      arrival_performs tracks = by_told told_by turn_is refl tracks

    by_line : (zs : List Envelope) (cs : List (Arrival Key)) → arrivals ≡ zs → actor.arrivals ≡ cs → map (λ (w : Envelope). w.item) zs ≡ map arrival_item cs → Tracks what → Done
    by_line [] [] none nobody same tracks = idle none (ap (λ xs. slice_get xs 0) nobody) tracks
    by_line (z ∷ zs) (a ∷ cs) first came same tracks = arrival_performs z zs a cs first came (same_Some z.item (arrival_item a) (ap (λ xs. slice_get xs 0) same)) (ap (drop 1) same) tracks
    by_line [] (a ∷ cs) none came same tracks = cc
    by_line (z ∷ zs) [] first nobody same tracks = cc

  by_heard : (o : Option (List IpAddr)) → m.heard ≡ o → HeardStands o updates → Tracks what → Done
  by_heard None heard quiet tracks = by_line heard quiet arrivals actor.arrivals refl refl listens.items tracks
  by_heard (Some ips) heard one tracks = update_performs ips one.0 heard one.1 one.2 tracks

  pub heard : Tracks what → Done
  heard tracks = by_heard m.heard refl tracked.heard tracks

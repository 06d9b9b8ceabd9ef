-- The steps of the attempts of a node's dialer.
use Rattle.std.proofs.Common.{◌≡◌, ℕ, ◌+◌, Bool, true, false, cond, List, [], ◌∷◌, ◌++◌, map, length, refl, ap, sym, subst, ◌∙◌, Option, Some, None}
use Rattle.std.specs.Prelude.{min, nat_le, not, filter, is_some}
use Rattle.std.specs.Option.{option_map}
use Rattle.p2p_base.specs.declared.key.Key.{Key}
use Rattle.p2p_address.specs.declared.ip.SocketAddr.{SocketAddr}
use Rattle.p2p_tracker_directory.specs.Reserved.{peer_of}
use Rattle.p2p_tracker_directory.specs.declared.metadata.Metadata.{Metadata}
use Rattle.p2p_tracker_directory.specs.declared.metadata.Metadata.TheVariants as metadata
use Rattle.p2p_tracker_mailbox.specs.Mailboxes.{with_message_in}
use Rattle.p2p_tracker_mailbox.specs.declared.mailbox.Mailbox.{Mailbox}
use Rattle.p2p_tracker_mailbox.specs.declared.message.Message.TheVariants as message
use Rattle.p2p_gates.specs.AttemptTurns as turns
use Rattle.p2p_gates.specs.Attempting.{Attempting}
use Rattle.p2p_gates.specs.Stepping.{Turn}
use Rattle.p2p_gates.specs.declared.config.Config.{Config as Gates}
use Rattle.p2p_gates.specs.declared.stepped.Input.TheVariants as input
use Rattle.p2p_gates.specs.declared.stepped.Stepped.TheVariants as stepped
use Rattle.p2p_log.specs.declared.config.Config.{Config}
use Rattle.p2p_log.specs.declared.queue.Queue.{Queue}
use Rattle.p2p_log.specs.declared.queue.Queue.TheVariants as queue
use Rattle.p2p_log.specs.declared.queue.Side.{Side}
use Rattle.p2p_log.specs.declared.queue.Side.TheVariants as side
use Rattle.p2p_log.specs.declared.item.Item.{Item}
use Rattle.p2p_log.specs.declared.item.Item.TheVariants as item
use Rattle.p2p_log.specs.declared.item.Envelope.{Envelope}
use Rattle.p2p_log.specs.declared.end.End.TheVariants as end
use Rattle.p2p_log.specs.declared.entry.Entry.{Entry}
use Rattle.p2p_log.specs.declared.entry.Reply.{Reply}
use Rattle.p2p_log.specs.declared.entry.Reply.TheVariants as reply
use Rattle.p2p_log.specs.declared.event.Event.{Event}
use Rattle.p2p_log.specs.declared.event.Act.TheVariants as act
use Rattle.p2p_log.specs.QueueCode.{same_queue}
use Rattle.p2p_log.specs.Lines.{name_of, goes, stays, stands_in, live, line}
use Rattle.p2p_log.proofs.Queues.{same_queue-refl}
use Rattle.p2p_log_rules.proofs.Connections.{ends_untold}
use Rattle.p2p_log_rules.specs.declared.row.Row.{Row}
use Rattle.p2p_log_rules.specs.Attempting.{Attempt, DialRules, dial_rules_at, drawn_address, dialing, resolved, attempts_of, left_ends, given_up_row, resolved_row, handed_on_row, linked_row, attempt_took_row, attempt_turn, attempt_by, attempt_row}
use Rattle.p2p_log_rules.specs.Tellings.{or_new}
use Rattle.p2p_log_rules.specs.Told.{took_tells}
use Rattle.p2p_log_rules.proofs.Attempts.{attempt_told}
use Rattle.p2p_log_rules.proofs.AttemptTellings.{none_tried, attempts_of-others, resolved_told, linked_told, attempts_of-stepped}
use Rattle.p2p_log_rules.proofs.Dialing.{dials_of-kept}
use Rattle.p2p_log_rules.proofs.Dropping.{drops_of-attempt}
use Rattle.p2p_log_rules.specs.Dialed.{dialer_of}
use Rattle.p2p_log_rules.specs.Dropping.{LinkEnd, dialing_end, attempt_drops, attempt_step_row}
use Rattle.p2p_log_rules.specs.Puts.{gave_up, ends_attempt}
use Rattle.p2p_log_rules.specs.Effect.{only, row, entry_of}
use Rattle.p2p_log_rules.specs.Facts.{taken, is_stopped}
use Rattle.p2p_log_rules.specs.Rows.{is_spawner_full, taken_row}
use Rattle.p2p_log_rules.proofs.Handshakes.{handshakes_of-apart}
use Rattle.p2p_log_laws.proofs.HandedSides.{AttemptDialed}
use Rattle.p2p_net_queues.specs.Board.{held}
use Rattle.p2p_net_queues.specs.Rows.{item_ends}
use Rattle.p2p_net_queues.specs.Tables as table
use Rattle.p2p_net_queues.proofs.Going.{first_left}
use Rattle.p2p_net_queues.specs.Tables.{AreBut}
use Rattle.p2p_net_gates.specs.Attempts.{link_at, tried, after_turn, way_after, unless_ended, Tries}
use Rattle.p2p_net_gates.specs.DialerStands.{gates_at, told_item, attempt_of, AttemptStands, DialerStands}
use Rattle.p2p_net_gates.specs.declared.attempt.RunningAttempt.{RunningAttempt}
use Rattle.p2p_net_gates.specs.declared.attempt.Tried.{Tried}
use Rattle.p2p_net_gates.proofs.Attempting.{attempt_changed}
use Rattle.p2p_net_gates.proofs.DialerChanges.{private_is, handshake_timeout_is}
use Rattle.p2p_net_gates.proofs.AttemptEnds.{attempt_end}
use Rattle.p2p_net_links.specs.Stands.{LinksStand}
use Rattle.p2p_net_links.specs.declared.links.Links.{Links}
use Rattle.p2p_net_connections.specs.Dialing.{IsReservedOver}
use Rattle.p2p_net_connections.specs.Spawner.{refuses}
use Rattle.p2p_net_connections.specs.SpawnerStands.{SpawnerStands}
use Rattle.p2p_net_connections.proofs.SpawnerChanges.{spawner_refuses}
use Rattle.p2p_net_tracker.specs.Dialed.{names_asked}
use Rattle.p2p_net_tracker.specs.GivenBack.{side_freed_by, IsOfSide}
use Rattle.p2p_net_tracker.specs.Stands.{is_told, TrackerStands}
use Rattle.p2p_net_tracker.specs.declared.tracker.Tracker.{Tracker}
use Rattle.p2p_net_tracker.proofs.DialerSteps.{tracker_dialed}
use Rattle.p2p_net_tracker.proofs.GivenBack.{given_now, attempt_gives}
use Rattle.p2p_net_tracker.proofs.Moved.{asked_line, names_are, asked_messages, asked_desk, IsAsked, asked_match, asked_back, desk_grows}
use Rattle.p2p_net_tracker.proofs.StepFacts.{none_taken, first_taken}
use Rattle.p2p_net_dialing.specs.Dialing.{HandsOn, TriesAttempt, AttemptSteps}
use Rattle.p2p_net_node.specs.Places as place
use Rattle.p2p_net_dialing.specs.Spawning.{release_item}
use Rattle.p2p_net_node.specs.Stands.{PartStands, NodeStands}
use Rattle.p2p_net_node.specs.declared.node.Node.{Node}
use Rattle.p2p_net_dialing.proofs.Attempting.{other_named, other_attempt}
use Rattle.p2p_net_dialing.proofs.DroppedEnds.{dropped, goes_by, is_of_link, told_unlinked, unlinked_stay, LeavesLinks, end_by, DidBeside, performs_beside}
use Rattle.p2p_net_node.proofs.EachPart.{AllOf, not_among-links}
use Rattle.p2p_net_dialing.proofs.HandingOn.{Handed, nothing, question, connection, handed_puts, item_in, message_in, spawner_after, IsOnItsSide, asked_on_its_side, none_subscribed, HandedOn, nothing_asked, question_asked, connection_refused, connection_asked}
use Rattle.p2p_net_dialing.proofs.HandingOn.{all_gone, none_gone, handed_unlinked, line_asked, line_elsewhere, line_told, handed_spawner, tracker_after}
use Rattle.p2p_net_node.proofs.Performing.{asked, Performs}

-- what waits for an attempt is not what a tracker tells
told_elsewhere : (n name : ℕ) (p : Queue) → is_told n p ≡ true → same_queue (queue.Attempt n name) p ≡ false
told_elsewhere n name (queue.Addresses k) h = refl
told_elsewhere n name (queue.Dialer k) h = refl
told_elsewhere n name (queue.Control k e) h = refl
told_elsewhere n name (queue.PeerSet k e) h = refl
told_elsewhere n name (queue.PeerSetUpdates k e) h = refl
told_elsewhere n name (queue.Blocked k e) h = refl
told_elsewhere n name _ h = cc

-- the ends of items by their names
ends_are : (xs : List Envelope) → item_ends (map name_of xs) ≡ left_ends xs
ends_are [] = refl
ends_are (x ∷ xs) = ap (λ l. end.Item x.entry x.place ∷ l) (ends_are xs)

-- nor does it wait in a link
linked_elsewhere : (n name : ℕ) (s : Side) (j : ℕ) → same_queue (queue.Attempt n name) (queue.Link j s) ≡ false
linked_elsewhere n name side.Out j = refl
linked_elsewhere n name side.In j = refl

-- the parts that a step of an attempt changes
abbrev named : List place.Part
named = place.tracker ∷ place.dialer ∷ place.spawner ∷ []

module _ (configs : List Config) (log : List Entry) (moment seed name n : ℕ) (x y : Node) (r : Row) (s : NodeStands configs log n x) (steps : TriesAttempt (length log) n name moment seed x y r) (dials : AttemptDialed configs log n name)
    (running_lasts : (b : Attempt) → attempts_of configs log n name ≡ Some b → is_stopped log n ≡ false) (lost : Option LinkEnd) where
  abbrev ev : Event
  ev = asked moment seed (act.Attempt name n)

  -- the row is that of the attempt, and the node stands for the log with its entry, by which this end is dropped too
  abbrev Done : Type 0
  Done = DidBeside configs log ev n x y named lost (attempt_row configs log name n moment seed) r

  abbrev g : Gates
  g = gates_at configs n

  abbrev rules : DialRules
  rules = dial_rules_at configs n

  abbrev private : Bool
  private = (dial_rules_at configs n).private

  abbrev q : Queue
  q = queue.Attempt n name

  abbrev m : Mailbox Key
  m = x.tracker.mailbox

  abbrev attempts : ℕ → Option Attempt
  attempts = attempts_of configs log n

  -- its node once it did that, before anything was handed on
  abbrev mid : Node
  mid = steps.mid

  -- whether no more connections may be asked for
  abbrev full : Bool
  full = is_spawner_full configs log n

  tracked : TrackerStands configs log n x.tracker
  tracked = s.each place.tracker

  stood : DialerStands configs log n x.dialing
  stood = s.each place.dialer

  spawns : SpawnerStands configs log n x.spawning
  spawns = s.each place.spawner

  same_spawner : mid.spawning ≡ x.spawning
  same_spawner = ap (λ (z : Node). z.spawning) steps.rest

  refuses_is : refuses mid.spawning ≡ full
  refuses_is = ap refuses same_spawner ∙ spawner_refuses configs log n x.spawning spawns

  -- the entry of a row, where this end is dropped too
  abbrev e : Row → Entry
  e due = entry_of ev (dropped log lost due)

  row_by : (b : Option Attempt) → attempts name ≡ b → attempt_row configs log name n moment seed ≡ attempt_by b n moment seed full private (line log q)
  row_by b is = ap (λ o. attempt_by o n moment seed full private (line log q)) is

  -- what is told of it of what it took
  abbrev took : List Item → Option Attempt → Option Attempt
  took items o = attempt_told rules n name (took_tells n name moment seed items) o

  -- a turn that put nothing of its own, and handed this on: these are left in the line of the attempt, which is this then
  module _ (base : Row) (o : Handed) (way : Mailbox Key) (left : List Envelope) (now : Option RunningAttempt) (next : Option Attempt) (none : base.puts ≡ []) (on : HandedOn (length log) n o way mid y base r)
      (row_is : attempt_row configs log name n moment seed ≡ record base { puts = handed_puts n o })
      (way_is : way ≡ record m { desk = asked_desk m.desk (message_in o) }) (says : IsAsked x.tracker.tickets log (item_in o) (message_in o))
      (right : IsOnItsSide log (e (record base { puts = handed_puts n o })) n o) (node_lasts : is_some (message_in o) ≡ true → is_stopped log n ≡ false)
      (but : AreBut name now x.dialing.attempts mid.dialing.attempts)
      (becomes : cond (ends_attempt (handed_puts n o)) None (took (taken log (e (record base { puts = handed_puts n o }))) (attempts name)) ≡ next)
      (stay : (p : Queue) → filter (stands_in p) (filter (stays (goes_by (record base { puts = handed_puts n o }))) (live log)) ≡ cond (same_queue q p) left (line log p))
      (stands : AttemptStands g name now next left) where
    abbrev due : Row
    due = record base { puts = handed_puts n o }

    -- what stays of a queue that is no link's
    left_in : (p : Queue) → is_of_link p ≡ false → filter (stands_in p) (filter (stays (goes (e due))) (live log)) ≡ cond (same_queue q p) left (line log p)
    left_in p away = unlinked_stay log due lost p away ∙ stay p

    same_dialer : y.dialing ≡ mid.dialing
    same_dialer = ap (λ (z : Node). z.dialing) on.rest

    parts : y ≡ record x { tracker = y.tracker; dialing = y.dialing; spawning = y.spawning }
    parts =
        on.rest
        ∙ (ap (λ (z : Node). record z { tracker = y.tracker; spawning = y.spawning }) steps.rest
        ∙ ap (λ w. record x { tracker = y.tracker; dialing = w; spawning = y.spawning }) (sym same_dialer))

    tracker_is : TrackerStands configs (log ++ e due ∷ []) n y.tracker
    tracker_is =
        let first : mid.tracker ≡ record x.tracker { mailbox = mid.tracker.mailbox; told = mid.tracker.told } =
        steps.tracker ∙ ap (λ w. record x.tracker { mailbox = mid.tracker.mailbox; told = w }) (sym (ap (λ (w : Tracker). w.told) steps.tracker)) in
        let mailbox : Mailbox Key = record m { desk = asked_desk m.desk (message_in o) } in
        let after : Tracker = record x.tracker { mailbox = mailbox; names = x.tracker.names ++ names_asked (length log) (item_in o); told = y.tracker.told } in
        let grows = desk_grows m.desk (message_in o) (λ some. tracked.closed ∙ node_lasts some) in
        subst (TrackerStands configs (log ++ e due ∷ []) n) (sym (tracker_after x.tracker mid.tracker y.tracker (names_asked (length log) (item_in o)) mailbox first on.tracker (on.mailbox ∙ way_is)))
        (tracker_dialed configs log (e due) n x.tracker after false (asked_line n (length log) (item_in o)) (asked_messages (message_in o)) tracked
        (record {
          no_step = refl;
          no_end = λ conn. ends_untold log (e due) n conn (e due).event.act refl refl;
          no_question = refl;
          goes_on = refl;
          no_answer = λ d. refl;
          no_admission = handshakes_of-apart log (e due) n refl;
          rest = ap (λ l. record after { names = x.tracker.names ++ l }) (sym (names_are n (length log) (item_in o)));
          items = grows.items;
          closed = grows.closed;
          capacity = grows.capacity;
          questions = grows.questions;
          updates = grows.updates;
          sets = grows.sets;
          none_asked = none_subscribed log (e due) n o right;
          each = asked_match x.tracker.tickets log n (length log) (item_in o) (message_in o) says;
          given = asked_back x.tracker.tickets log (log ++ e due ∷ []) n (length log) (item_in o) (message_in o) says (asked_on_its_side log (e due) n o right);
          waits = line_asked log (e due) n o refl (left_in (queue.Tracker n) refl);
          lines = λ p own. line_told log (e due) n o refl p (line log p) own (left_in p (told_unlinked n p own) ∙ ap (λ c. cond c left (line log p)) (told_elsewhere n name p own));
          answered = refl;
          told = λ p. ap (λ (w : Tracker). held w.told p) on.tracker ∙ ap (λ (w : Tracker). held w.told p) steps.tracker;
        }))

    dialer_is : DialerStands configs (log ++ e due ∷ []) n mid.dialing
    dialer_is =
        attempt_changed configs log (e due) n name x.dialing mid.dialing now next stood
        (record {
          no_turn = refl;
          dials = dials_of-kept configs log (e due) n refl;
          actor = steps.actor;
          others = but;
          tried = attempts_of-stepped configs log (e due) n name refl ∙ becomes;
          untried = λ j other. attempts_of-others configs log (e due) n j (act.Attempt name n) refl (none_tried n j n name moment (other_named n name j other));
          lines = λ j other.
              line_elsewhere log (e due) n o refl (queue.Attempt n j) (line log (queue.Attempt n j)) refl refl
              (left_in (queue.Attempt n j) refl ∙ ap (λ c. cond c left (line log (queue.Attempt n j))) (other_attempt n name j other));
          stands = subst (AttemptStands g name now next) (sym (line_elsewhere log (e due) n o refl q left refl refl (left_in q refl ∙ ap (λ c. cond c left (line log q)) (same_queue-refl q)))) stands;
        })

    spawner_is : SpawnerStands configs (log ++ e due ∷ []) n y.spawning
    spawner_is =
        subst (SpawnerStands configs (log ++ e due ∷ []) n) (sym (on.spawner ∙ ap (spawner_after (length log) o) same_spawner))
        (handed_spawner log (e due) n o refl configs x.spawning spawns right (left_in (queue.Spawner n) refl))

    turned : Done
    turned =
        let is : r ≡ due = on.row_is ∙ ap (λ l. record base { puts = l ++ handed_puts n o }) none in
        record {
          row_is = is ∙ sym row_is;
          rest = parts;
          parts =
              subst (λ (z : Row). AllOf (λ p. PartStands p configs (log ++ e z ∷ []) n y) named) (sym is)
              (tracker_is, (subst (DialerStands configs (log ++ e due ∷ []) n) (sym same_dialer) dialer_is, (spawner_is, tt)));
          leaves =
              subst (LeavesLinks log) (sym is)
              (record {
                kept = λ t j. stay (queue.Link j t) ∙ ap (λ c. cond c left (line log (queue.Link j t))) (linked_elsewhere n name t j);
                unput = λ t j. handed_unlinked n (length log) o t j;
              });
        }

  -- ---- what it handed on

  hands_of : (w : Tried) → steps.tried ≡ w → HandsOn w.ready (length log) n (release_item w.released) mid y w.row r
  hands_of w is = subst (λ (v : Tried). HandsOn v.ready (length log) n (release_item v.released) mid y v.row r) is steps.hands

  asked_nothing : (base : Row) → steps.tried ≡ record { row = base; released = None; ready = None } → mid.tracker.mailbox ≡ m → HandedOn (length log) n nothing m mid y base r
  asked_nothing base is same = nothing_asked (length log) n m mid y base r same (hands_of (record { row = base; released = None; ready = None }) is)

  -- a reservation is given back
  abbrev release : Metadata Key → Handed
  release reserved = question (item.Release (peer_of reserved)) (message.Release reserved)

  gave_back : (base : Row) (reserved : Metadata Key) → steps.tried ≡ record { row = base; released = Some (peer_of reserved); ready = None } → mid.tracker.mailbox ≡ with_message_in m (message.Release reserved)
      → HandedOn (length log) n (release reserved) (with_message_in m (message.Release reserved)) mid y base r
  gave_back base reserved is same =
      question_asked (length log) n (with_message_in m (message.Release reserved)) mid y base r same (item.Release (peer_of reserved)) (message.Release reserved)
      (hands_of (record { row = base; released = Some (peer_of reserved); ready = None }) is)

  -- ---- nothing is taken, and it goes on

  still : (rep : Reply) (o : Option RunningAttempt) (b : Option Attempt) → table.at x.dialing.attempts name ≡ o → attempts name ≡ b → attempt_row configs log name n moment seed ≡ only rep
      → steps.tried ≡ record { row = only rep; released = None; ready = None } → AreBut name o x.dialing.attempts mid.dialing.attempts → mid.tracker.mailbox ≡ m → Done
  still rep o b there is row_is tried_is but same =
      turned (only rep) nothing m (line log q) o b refl (asked_nothing (only rep) tried_is same) row_is refl tt tt (λ some. cc) but
      (ap (λ i. took i (attempts name)) (none_taken log (e (only rep)) refl) ∙ is)
      (none_gone log q (line log q) refl) (subst (λ w. AttemptStands g name w b (line log q)) there (subst (λ w. AttemptStands g name (table.at x.dialing.attempts name) w (line log q)) is (stood.attempts name)))

  -- ---- by the turn of the attempt

  -- what a turn makes of it
  abbrev TurnsTo : Turn (Attempting Key) Key → RunningAttempt → Type 0
  TurnsTo turn w = (steps.tried ≡ tried turn w.answer w.names) × (AreBut name (unless_ended (after_turn turn w)) x.dialing.attempts mid.dialing.attempts × (mid.tracker.mailbox ≡ way_after turn w.answer))

  module _ (b : Attempt) (reserved : Metadata Key) (dialed : reserved ≡ metadata.Dialer b.key) (there : table.at x.dialing.attempts name ≡ Some (attempt_of g name reserved b (line log q))) (is : attempts name ≡ Some b) where
    abbrev w : RunningAttempt
    w = attempt_of g name reserved b (line log q)

    peer : peer_of reserved ≡ b.key
    peer = ap peer_of dialed

    -- it is given back by an attempt
    back : (due : Row) → due.puts ≡ (queue.Tracker n, item.Release (peer_of reserved)) ∷ [] → IsOnItsSide log (e due) n (release reserved)
    back due puts = (given_now log (e due) reserved (subst (IsOfSide (side_freed_by log (e due))) (sym dialed) (attempt_gives log (e due) n name (queue.Tracker n) (peer_of reserved) refl puts)), refl)

    due_row : (xs : List Envelope) → line log q ≡ xs → attempt_row configs log name n moment seed ≡ attempt_turn n moment seed full private b xs
    due_row xs first = row_by (Some b) is ∙ ap (attempt_turn n moment seed full private b) first

    -- its deadline has come, or has not
    by_deadline : (c : Bool) → nat_le b.deadline moment ≡ c → line log q ≡ []
        → TurnsTo (cond c (turns.gives_up (Some reserved) input.Deadline (attempt_of g name reserved b []).actor m) (record { stepped = stepped.Idle; actor = (attempt_of g name reserved b []).actor; way = m })) (attempt_of g name reserved b [])
        → Done
    by_deadline true come none h =
        let base : Row = record { reply = reply.Ok; takes = []; puts = []; ends = [] } in
        turned base (release reserved) (with_message_in m (message.Release reserved)) [] None None refl (gave_back base reserved h.0 h.1.1)
        (due_row [] none ∙ (ap (λ c. cond c (given_up_row n b.key [] []) (only reply.Idle)) come ∙ ap (λ key. given_up_row n key [] []) (sym peer))) refl (reserved, refl, refl)
        (back (given_up_row n (peer_of reserved) [] []) refl) (λ some. running_lasts b is) h.1.0
        refl
        (none_gone log q [] none) refl
    by_deadline false come none h =
        still reply.Idle (Some w) (Some b) there is (due_row [] none ∙ ap (λ c. cond c (given_up_row n b.key [] []) (only reply.Idle)) come) h.0
        (subst (λ (xs : List Envelope). AreBut name (Some (attempt_of g name reserved b xs)) x.dialing.attempts mid.dialing.attempts) (sym none) h.1.0) h.1.1

    -- an item is taken
    module _ (z : Envelope) (zs : List Envelope) (first : line log q ≡ z ∷ zs) where
      abbrev left : Attempting Key
      left = (attempt_of g name reserved b zs).actor

      abbrev before : RunningAttempt
      before = attempt_of g name reserved b (z ∷ zs)

      becoming : (due : Row) (next : Option Attempt) → due.takes ≡ name_of z ∷ [] → took (z.item ∷ []) (Some b) ≡ next → took (taken log (e due)) (attempts name) ≡ next
      becoming due next takes becomes = ap (λ i. took i (attempts name)) (first_taken log (e due) q z zs first takes) ∙ (ap (took (z.item ∷ [])) is ∙ becomes)

      -- what it did where it ended, before anything was handed on
      abbrev ended_row : Row
      ended_row = record { reply = reply.Ok; takes = name_of z ∷ []; puts = []; ends = left_ends zs }

      gives_up : HandedOn (length log) n (release reserved) (with_message_in m (message.Release reserved)) mid y ended_row r → attempt_row configs log name n moment seed ≡ given_up_row n b.key (name_of z ∷ []) zs
          → AreBut name None x.dialing.attempts mid.dialing.attempts → Done
      gives_up on row_is but =
          turned ended_row (release reserved) (with_message_in m (message.Release reserved)) [] None None refl on (row_is ∙ ap (λ key. given_up_row n key (name_of z ∷ []) zs) (sym peer)) refl (reserved, refl, refl)
          (back (given_up_row n (peer_of reserved) (name_of z ∷ []) zs) refl) (λ some. running_lasts b is) but
          refl (all_gone log q z zs first) refl

      ends : attempt_row configs log name n moment seed ≡ given_up_row n b.key (name_of z ∷ []) zs
          → TurnsTo (turns.gives_up (Some reserved) input.Item left m) before → Done
      ends row_is h =
          gives_up
          (gave_back ended_row reserved (h.0 ∙ ap (λ c. record { row = record { reply = reply.Ok; takes = name_of z ∷ []; puts = []; ends = c }; released = Some (peer_of reserved); ready = None }) (ends_are zs)) h.1.1)
          row_is h.1.0

      -- it ends with its reservation
      is_ready : (link : ℕ) (c : Bool) → full ≡ c → dialer_of log link ≡ Some n → attempt_row configs log name n moment seed ≡ handed_on_row n c b.key link (name_of z) zs
          → HandsOn (Some (link, reserved)) (length log) n None mid y ended_row r → AreBut name None x.dialing.attempts mid.dialing.attempts → mid.tracker.mailbox ≡ m → Done
      is_ready link true is_full dial row_is hands but same =
          gives_up (connection_refused (length log) n m mid y ended_row r same link reserved hands (refuses_is ∙ is_full)) row_is but
      is_ready link false room dial row_is hands but same =
          turned ended_row (connection link reserved) m [] None None refl (connection_asked (length log) n m mid y ended_row r same link reserved hands (refuses_is ∙ room))
          (row_is ∙ ap (λ key. handed_on_row n false key link (name_of z) zs) (sym peer)) refl tt (subst (IsReservedOver log n link) (sym dialed) dial) (λ some. cc) but
          refl (all_gone log q z zs first) refl

      -- it goes on
      lasts : (next : Attempt) → next.key ≡ b.key → attempt_row configs log name n moment seed ≡ taken_row (name_of z) → took (z.item ∷ []) (Some b) ≡ Some next
          → steps.tried ≡ record { row = taken_row (name_of z); released = None; ready = None }
          → AreBut name (Some (attempt_of g name reserved next zs)) x.dialing.attempts mid.dialing.attempts → mid.tracker.mailbox ≡ m → Done
      lasts next key row_is becomes tried_is but same =
          turned (taken_row (name_of z)) nothing m zs (Some (attempt_of g name reserved next zs)) (Some next) refl (asked_nothing (taken_row (name_of z)) tried_is same) row_is refl tt tt (λ some. cc) but
          (becoming (taken_row (name_of z)) (Some next) refl becomes) (first_left log q z zs first) (reserved, dialed ∙ ap metadata.Dialer (sym key), refl)

      module _ (addresses : List SocketAddr) (item_is : z.item ≡ item.Resolved addresses) where
        -- the address that it has, or the one that was drawn
        resolves : took (z.item ∷ []) (Some b) ≡ Some (record b { address = or_new (drawn_address private addresses seed) b.address })
        resolves = ap (λ i. took (i ∷ []) (Some b)) item_is ∙ resolved_told rules n name moment seed addresses [] b

        -- it dials the address that was drawn, if there is one
        by_drawn : b.address ≡ None → (to : Option SocketAddr) → drawn_address private addresses seed ≡ to → attempt_row configs log name n moment seed ≡ resolved_row (dialing to b) n b.key (name_of z) zs
            → TurnsTo (turns.dials to left m) before → Done
        by_drawn none None drawn row_is h = ends row_is h
        by_drawn none (Some to) drawn row_is h =
            lasts (record b { address = Some to }) refl row_is (resolves ∙ ap (λ w. Some (record b { address = w })) (ap (or_new (drawn_address private addresses seed)) none ∙ ap (λ d. or_new d None) drawn)) h.0 h.1.0 h.1.1

        -- and keeps the one that it has
        by_address : (at : Option SocketAddr) → b.address ≡ at → attempt_row configs log name n moment seed ≡ resolved_row (resolved at private addresses seed b) n b.key (name_of z) zs
            → TurnsTo (turns.resolves at addresses left m seed) before → Done
        by_address (Some to) at_is row_is h =
            lasts b refl row_is (resolves ∙ ap (λ w. Some (record b { address = w })) (ap (or_new (drawn_address private addresses seed)) at_is ∙ (keeps (drawn_address private addresses seed) ∙ sym at_is))) h.0 h.1.0 h.1.1
          where
            keeps : (d : Option SocketAddr) → or_new d (Some to) ≡ Some to
            keeps None = refl
            keeps (Some s) = refl
        by_address None at_is row_is h =
            by_drawn at_is (drawn_address private addresses seed) refl row_is (subst (λ c. TurnsTo (turns.dials (turns.chosen (turns.may_be_dialed c addresses) seed) left m) before) (private_is configs n) h)

      -- its keys were exchanged, over the link that answered its dial
      abbrev exchanged : Turn (Attempting Key) Key
      exchanged = turns.item_turn (told_item (item.Finished true)) left m moment seed

      abbrev Hands : Option ℕ → Type 0
      Hands answer = (steps.tried ≡ tried exchanged answer before.names) × (AreBut name (unless_ended (after_turn exchanged before)) x.dialing.attempts mid.dialing.attempts × (mid.tracker.mailbox ≡ way_after exchanged answer))

      by_answer : z.item ≡ item.Finished true → (answer : Option ℕ) → b.answer ≡ answer → attempt_row configs log name n moment seed ≡ linked_row n full b.key answer (name_of z) zs → Hands answer → Done
      by_answer item_is None answered row_is h =
          gives_up
          (gave_back ended_row reserved (h.0 ∙ ap (λ c. record { row = record { reply = reply.Ok; takes = name_of z ∷ []; puts = []; ends = c }; released = Some (peer_of reserved); ready = None }) (ends_are zs)) h.1.1)
          row_is h.1.0
      by_answer item_is (Some link) answered row_is h =
          is_ready link full refl (dials b link z zs is answered first item_is) row_is
          (hands_of (record { row = ended_row; released = None; ready = Some (link, reserved) })
          (h.0 ∙ ap (λ c. record { row = record { reply = reply.Ok; takes = name_of z ∷ []; puts = []; ends = c }; released = None; ready = Some (link, reserved) }) (ends_are zs)))
          h.1.0 h.1.1

      by_item : (i : Item) → z.item ≡ i → attempt_row configs log name n moment seed ≡ attempt_took_row n full private seed b (name_of z) i zs → TurnsTo (turns.item_turn (told_item i) left m moment seed) before → Done
      by_item (item.Resolved addresses) item_is row_is h = by_address addresses item_is b.address refl row_is h
      by_item item.Linked item_is row_is h =
          lasts (until rules.handshake_timeout) refl row_is (ap (λ i. took (i ∷ []) (Some b)) item_is ∙ linked_told rules n name moment seed [] b) h.0
          (subst (λ t. AreBut name (Some (attempt_of g name reserved (until t) zs)) x.dialing.attempts mid.dialing.attempts) (handshake_timeout_is configs n) h.1.0) h.1.1
        where
          -- once it is linked, it waits no longer than for the keys to be exchanged
          until : ℕ → Attempt
          until t = record b { deadline = min b.deadline (moment + t) }
      by_item (item.Finished true) item_is row_is h = by_answer item_is b.answer refl row_is h
      by_item (item.Finished false) item_is row_is h = ends row_is h
      by_item _ item_is row_is h = ends row_is h

    by_line : (xs : List Envelope) → line log q ≡ xs → TurnsTo (turns.attempt_turn (attempt_of g name reserved b xs).actor m moment seed) (attempt_of g name reserved b xs) → Done
    by_line [] none h = by_deadline (nat_le b.deadline moment) refl none h
    by_line (z ∷ zs) first h = by_item z zs first z.item refl (due_row (z ∷ zs) first) h

  by_attempt : (o : Option RunningAttempt) (b : Option Attempt) → table.at x.dialing.attempts name ≡ o → attempts name ≡ b → AttemptStands g name o b (line log q)
      → Tries o name moment seed x.dialing.attempts mid.dialing.attempts m mid.tracker.mailbox steps.tried → Done
  by_attempt None None there is stands h = still reply.Gone None None there is (row_by None is) h.0 h.1.0 h.1.1
  by_attempt (Some w) (Some b) there is stands h =
      let same : w ≡ attempt_of g name stands.0 b (line log q) = stands.2 in
      by_line b stands.0 stands.1 (there ∙ ap (λ z. Some z) same) is (line log q) refl (subst (λ (z : RunningAttempt). TurnsTo (turns.attempt_turn z.actor m moment seed) z) same h)
  by_attempt None (Some b) there is stands h = absurd stands
  by_attempt (Some w) None there is stands h = absurd stands

-- ---- the end of its link

-- it is dropped where the reservation was given back
dropped_end : (b : Bool) (o : Option ℕ) (one : Option LinkEnd) → option_map (λ link. (link, side.Out)) o ≡ one → end_by (not b) o side.Out ≡ cond b one None
dropped_end true o one is = is
dropped_end false o one is = refl

step_row : (configs : List Config) (log : List Entry) (moment seed name n : ℕ) → row configs log moment seed (act.Attempt name n) ≡ attempt_step_row configs log name n moment seed
unfolding row
step_row configs log moment seed name n = refl

pub attempt_performs : (configs : List Config) (log : List Entry) (moment seed name n : ℕ) (x y : Node) (l ls : Links) (r : Row) → NodeStands configs log n x → LinksStand configs log l
    → AttemptDialed configs log n name → ((b : Attempt) → attempts_of configs log n name ≡ Some b → is_stopped log n ≡ false) → AttemptSteps (length log) n name moment seed x y l ls r → Performs configs log (asked moment seed (act.Attempt name n)) n y ls r
attempt_performs configs log moment seed name n x y l ls r s t dials running_lasts d =
    let stood : DialerStands configs log n x.dialing = s.each place.dialer in
    let o = table.at x.dialing.attempts name in
    let b = attempts_of configs log n name in
    let lost : Option LinkEnd = cond (gave_up d.row.puts) (dialing_end log n name) None in
    let did : DidBeside configs log (asked moment seed (act.Attempt name n)) n x y named lost (attempt_row configs log name n moment seed) d.row =
    by_attempt configs log moment seed name n x y d.row s d.steps dials running_lasts lost o b refl refl (stood.attempts name) d.steps.tries
    in
    performs_beside configs log (asked moment seed (act.Attempt name n)) n x y l ls named lost (attempt_row configs log name n moment seed) d.row r (not (gave_up d.row.puts)) (link_at o) side.Out s t refl refl refl
    (λ p out. not_among-links named p n out) did d.drops
    (dropped_end (gave_up d.row.puts) (link_at o) (dialing_end log n name) (attempt_end configs log n x.dialing stood name))
    (drops_of-attempt log (entry_of (asked moment seed (act.Attempt name n)) (dropped log lost d.row)) name n refl)
    (step_row configs log moment seed name n ∙ ap (attempt_drops log name n) (sym did.row_is))
